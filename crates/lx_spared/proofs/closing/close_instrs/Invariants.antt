use Rattle.std.proofs.Common.{◌≡◌, ℕ, drop}
use Rattle.lx_spared.specs.Stack.{kept_room}
use Rattle.lx_spared.specs.Rooms.{room_at}
use Rattle.lx_spared.proofs.closing.close_instrs.Given as goal

abbrev pub invariant-loop-instr : goal.invariant-loop-instr
invariant-loop-instr l = (r : ℕ) → kept_room r (drop l.instr-index l.instrs) (room_at l.rooms.entries r) ≡ kept_room r l.instrs (room_at l.initial.rooms.entries r)
