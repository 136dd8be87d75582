use Rattle.std.proofs.Common.{◌≡◌, take}
use Rattle.lx_ir_offsets.proofs.shape.are_same.Given as goal

abbrev pub invariant-loop-k : goal.invariant-loop-k
invariant-loop-k l = take l.k l.shapes ≡ take l.k l.others
