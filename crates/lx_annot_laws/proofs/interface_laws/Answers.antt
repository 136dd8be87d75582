use Rattle.lx_words.specs.declared.token.TokenRule.TheVariants as rules
use Rattle.lx_annot_laws.proofs.TextLaws.{interface_read, interface_found, one_interface, one_fault, not_both}
use Rattle.lx_annot_laws.proofs.interface_laws.Goals as goal

pub returns-clause-read : goal.returns-clause-read
returns-clause-read c = interface_read

pub returns-clause-found : goal.returns-clause-found
returns-clause-found c = interface_found

pub returns-clause-one : goal.returns-clause-one
returns-clause-one c text i j p q = one_interface text (c.one_way.ensures rules.Interface text) i j (interface_read text i p) (interface_read text j q)

pub returns-clause-fault : goal.returns-clause-fault
returns-clause-fault c text e f p q = one_fault text (c.one_way.ensures rules.Interface text) e f p q

pub returns-clause-apart : goal.returns-clause-apart
returns-clause-apart c text i f p q = not_both text (c.one_way.ensures rules.Interface text) i f (interface_read text i p) q
