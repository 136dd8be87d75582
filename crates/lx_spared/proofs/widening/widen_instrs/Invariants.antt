use Rattle.std.proofs.Common.{◌≡◌, ℕ, drop}
use Rattle.lx_spared.specs.Stack.{widest}
use Rattle.lx_spared.specs.Rooms.{room_at}
use Rattle.lx_spared.proofs.widening.widen_instrs.Given as goal

abbrev pub invariant-loop-instr : goal.invariant-loop-instr
invariant-loop-instr l = (r : ℕ) → widest l.m.types r (room_at l.rooms.entries r) (drop l.instr-index l.instrs) ≡ widest l.m.types r (room_at l.initial.rooms.entries r) l.instrs
