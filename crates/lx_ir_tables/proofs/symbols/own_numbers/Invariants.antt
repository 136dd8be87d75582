use Rattle.std.proofs.Common.{◌≡◌}
use Rattle.lx_ir_tables.specs.Numbering.{own_numbers}
use Rattle.lx_ir_tables.proofs.symbols.own_numbers.Given as goal

abbrev pub invariant-loop-name : goal.invariant-loop-name
invariant-loop-name l = l.own ≡ own_numbers 0 l.name
