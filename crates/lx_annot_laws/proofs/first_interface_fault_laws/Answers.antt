use Rattle.lx_words.specs.declared.token.TokenRule.TheVariants as rules
use Rattle.lx_annot_read.specs.Texts.{FirstInterfaceFault}
use Rattle.lx_cproto.specs.Texts.{FirstPrototypeFault}
use Rattle.lx_annot_laws.specs.Statements.{IsInterface}
use Rattle.lx_annot_laws.specs.Declarations.{ArePrototypes}
use Rattle.lx_annot_laws.proofs.FirstFaults.{is_told}
use Rattle.lx_annot_laws.proofs.first_interface_fault_laws.Goals as goal

pub returns-clause-statements : goal.returns-clause-statements
returns-clause-statements c = is_told rules.Interface FirstInterfaceFault IsInterface c.interface_laws.ensures.apart c.refused_laws.ensures

pub returns-clause-prototypes : goal.returns-clause-prototypes
returns-clause-prototypes c = is_told rules.Prototype FirstPrototypeFault ArePrototypes c.prototype_laws.ensures.apart c.refused_prototype_laws.ensures
