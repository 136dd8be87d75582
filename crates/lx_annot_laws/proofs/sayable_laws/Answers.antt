use Rattle.lx_annot_laws.proofs.Sayable.{sayable}
use Rattle.lx_annot_laws.proofs.sayable_laws.Goals as goal

pub returns : goal.returns
returns c = sayable
