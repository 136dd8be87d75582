use Rattle.lx_annot_laws.proofs.PrototypeSayable.{sayable}
use Rattle.lx_annot_laws.proofs.sayable_prototype_laws.Goals as goal

pub returns : goal.returns
returns c = sayable
