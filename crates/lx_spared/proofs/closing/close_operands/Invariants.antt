use Rattle.std.proofs.Common.{◌≡◌, ℕ, drop, cond}
use Rattle.lx_image_texts.specs.Spared.{reads}
use Rattle.lx_spared.specs.Rooms.{room_at}
use Rattle.lx_spared.proofs.closing.close_operands.Given as goal

abbrev pub invariant-loop-operand : goal.invariant-loop-operand
invariant-loop-operand l = (r : ℕ) → cond (reads r (drop l.operand-index l.operands)) 0 (room_at l.rooms.entries r) ≡ cond (reads r l.operands) 0 (room_at l.initial.rooms.entries r)
