use Rattle.lx_annot_laws.proofs.PrototypeTexts.{stands_nowhere}
use Rattle.lx_annot_laws.proofs.refused_prototype_laws.Goals as goal

pub returns : goal.returns
returns c = stands_nowhere c.prototype_laws.ensures.apart
