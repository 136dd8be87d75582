use Rattle.lx_ir_lawful.proofs.NamesOnce.{names_once}
use Rattle.lx_ir_lawful.proofs.NamedThings.{names_grow}
use Rattle.lx_ir_lawful.proofs.TokenNames.{tokens_are_named}
use Rattle.lx_ir_lawful.proofs.FewNames.{names_are_few}
use Rattle.lx_ir_lawful.proofs.lawful_name_laws.Goals as goal

pub returns-clause-grow : goal.returns-clause-grow
returns-clause-grow c = names_grow

pub returns-clause-once : goal.returns-clause-once
returns-clause-once c = names_once

pub returns-clause-named : goal.returns-clause-named
returns-clause-named c = tokens_are_named

pub returns-clause-few : goal.returns-clause-few
returns-clause-few c = names_are_few
