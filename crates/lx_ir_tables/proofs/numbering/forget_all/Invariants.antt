use Rattle.std.proofs.Common.{◌≡◌, ◌<◌, length}
use Rattle.lx_ir_tables.specs.Numbering.{numbers_from}
use Rattle.lx_ir_tables.proofs.numbering.forget_all.Given as goal

abbrev pub invariant-loop-name : goal.invariant-loop-name
invariant-loop-name l = record { table : l.table.items ≡ numbers_from 0 (length l.fn.table.items) l.things.items; few : length l.things.items < 4294967296 }

abbrev pub decreases-loop-name : goal.decreases-loop-name
decreases-loop-name l = length l.things.items
