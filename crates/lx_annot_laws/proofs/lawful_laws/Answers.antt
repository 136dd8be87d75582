use Rattle.lx_annot_laws.proofs.Lawful.{lawful}
use Rattle.lx_annot_laws.proofs.lawful_laws.Goals as goal

pub returns : goal.returns
returns c text i short says = lawful text i short (c.interface_laws.ensures.found text i says)
