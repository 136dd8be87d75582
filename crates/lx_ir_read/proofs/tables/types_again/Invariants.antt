use Rattle.std.proofs.Common.{◌≡◌, [], drop}
use Rattle.std.specs.Prelude.{fold}
use Rattle.lx_ir_read.specs.Tables.{with_type_again}
use Rattle.lx_ir_read.proofs.tables.types_again.Given as goal

abbrev pub invariant-loop-f : goal.invariant-loop-f
invariant-loop-f l = fold (with_type_again l.context l.form l.places l.toks) l.named (drop l.f-index l.found) ≡ fold (with_type_again l.context l.form l.places l.toks) [] l.found
