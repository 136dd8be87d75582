use Rattle.std.proofs.Common.{◌≡◌, drop}
use Rattle.std.specs.Prelude.{fold}
use Rattle.lx_ir_read.specs.Tables.{with_type, types_of}
use Rattle.lx_ir_read.proofs.tables.types_of.Given as goal

abbrev pub invariant-loop-f : goal.invariant-loop-f
invariant-loop-f l = fold (λ t f. with_type t f.statement) l.types (drop l.f-index l.found) ≡ types_of l.count l.found
