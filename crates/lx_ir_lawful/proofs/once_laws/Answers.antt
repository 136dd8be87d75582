use Rattle.lx_ir_lawful.proofs.Once.{types_are_once}
use Rattle.lx_ir_lawful.proofs.SymbolsOnce.{symbols_are_once}
use Rattle.lx_ir_lawful.proofs.Imports.{imports_are_first}
use Rattle.lx_ir_lawful.proofs.once_laws.Goals as goal

pub returns-clause-types : goal.returns-clause-types
returns-clause-types c = types_are_once

pub returns-clause-symbols : goal.returns-clause-symbols
returns-clause-symbols c = symbols_are_once

pub returns-clause-imports : goal.returns-clause-imports
returns-clause-imports c = imports_are_first
