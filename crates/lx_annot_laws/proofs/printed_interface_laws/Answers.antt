use Rattle.lx_annot_laws.proofs.Sayable.{sayable}
use Rattle.lx_annot_laws.proofs.Again.{sayable_again}
use Rattle.lx_annot_laws.proofs.printed_interface_laws.Goals as goal

pub returns-clause-sayable : goal.returns-clause-sayable
returns-clause-sayable c i s short = let laws = c.interface_laws.ensures in sayable_again laws.read laws.found laws.one laws.apart c.number_texts.ensures i s short

pub returns-clause-printed : goal.returns-clause-printed
returns-clause-printed c text i says short =
    let laws = c.interface_laws.ensures in
    sayable_again laws.read laws.found laws.one laws.apart c.number_texts.ensures i (sayable text i (laws.found text i says)) short
