use Rattle.lx_annot_laws.proofs.PrototypeLawful.{lawful}
use Rattle.lx_annot_laws.proofs.lawful_prototype_laws.Goals as goal

pub returns : goal.returns
returns c text i short says = lawful text i short (c.prototype_laws.ensures.found text i says)
