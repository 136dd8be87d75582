use Rattle.std.proofs.Common.{◌≡◌, drop}
use Rattle.std.specs.Prelude.{fold}
use Rattle.lx_ir_read.specs.Tables.{with_global, globals_of}
use Rattle.lx_ir_read.proofs.tables.globals_of.Given as goal

abbrev pub invariant-loop-f : goal.invariant-loop-f
invariant-loop-f l = fold (λ t f. with_global t f.statement) l.globals (drop l.f-index l.found) ≡ globals_of l.count l.found
