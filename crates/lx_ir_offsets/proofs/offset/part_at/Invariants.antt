use Rattle.std.proofs.Common.{◌≡◌, drop}
use Rattle.lx_ir_offsets.specs.Offsets.{part_at}
use Rattle.lx_ir_offsets.proofs.offset.part_at.Given as goal

abbrev pub invariant-loop-i : goal.invariant-loop-i
invariant-loop-i l = part_at l.named l.part (drop l.i-index l.indices) ≡ part_at l.named l.t l.indices
