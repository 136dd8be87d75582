use Rattle.lx_annot_laws.proofs.Texts.{stands_nowhere}
use Rattle.lx_annot_laws.proofs.refused_laws.Goals as goal

pub returns : goal.returns
returns c = stands_nowhere c.interface_laws.ensures.apart
