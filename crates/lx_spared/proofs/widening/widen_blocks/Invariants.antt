use Rattle.std.proofs.Common.{◌≡◌, ℕ, drop}
use Rattle.std.specs.Prelude.{flat_map}
use Rattle.lx_spared.specs.Stack.{widest}
use Rattle.lx_spared.specs.Rooms.{room_at}
use Rattle.lx_spared.proofs.widening.widen_blocks.Given as goal

abbrev pub invariant-loop-block : goal.invariant-loop-block
invariant-loop-block l = (r : ℕ) → widest l.m.types r (room_at l.rooms.entries r) (flat_map (λ b. b.instrs) (drop l.block-index l.blocks)) ≡ widest l.m.types r (room_at l.initial.rooms.entries r) (flat_map (λ b. b.instrs) l.blocks)
