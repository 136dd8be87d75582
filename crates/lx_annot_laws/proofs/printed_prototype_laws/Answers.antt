use Rattle.lx_annot_laws.proofs.PrototypeSayable.{sayable}
use Rattle.lx_annot_laws.proofs.printed_prototype_laws.Goals as goal

pub returns : goal.returns
returns c text i (short, says) few = c.printed_interface_laws.ensures.sayable i (sayable text i short (c.prototype_laws.ensures.found text i says)) few
