use Rattle.std.proofs.Common.{◌≡◌, drop}
use Rattle.std.specs.Prelude.{fold}
use Rattle.lx_ir_read.specs.Tables.{with_import}
use Rattle.lx_ir_read.proofs.tables.add_imports.Given as goal

abbrev pub invariant-loop-f : goal.invariant-loop-f
invariant-loop-f l = fold (λ t f. with_import l.context t f.statement) l.functions (drop l.f-index l.found) ≡ fold (λ t f. with_import l.context t f.statement) l.fn.functions l.found
