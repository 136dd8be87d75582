use Rattle.lx_ir_walks.specs.Givers.{AreGivers}
use Rattle.lx_ir_walks.proofs.givers.givers.Given as goal

abbrev pub invariant-loop-block : goal.invariant-loop-block
invariant-loop-block l = AreGivers l.f l.table.items
