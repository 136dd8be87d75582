use Rattle.std.proofs.Common.{◌≡◌, ◌≤◌, length, reverse, take}
use Rattle.lx_frames.specs.Frames.{high_in}
use Rattle.lx_frames.proofs.callers.Callers.high.Given as goal

-- the frames behind the place run no function
abbrev pub invariant-loop-left : goal.invariant-loop-left
invariant-loop-left l =
    (l.left ≤ length l.self-inside.frames.items) × (high_in (reverse (take l.left l.self-inside.frames.items)) ≡ high_in (reverse l.self-inside.frames.items))

abbrev pub decreases-loop-left : goal.decreases-loop-left
decreases-loop-left l = l.left
