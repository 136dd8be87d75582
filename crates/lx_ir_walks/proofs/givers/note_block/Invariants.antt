use Rattle.lx_ir_walks.specs.Givers.{AreGivers}
use Rattle.lx_ir_walks.proofs.givers.note_block.Given as goal

abbrev pub invariant-loop-place : goal.invariant-loop-place
invariant-loop-place l = AreGivers l.f l.initial.table.items → AreGivers l.f l.table.items
