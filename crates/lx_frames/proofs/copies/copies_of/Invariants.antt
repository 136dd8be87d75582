use Rattle.std.proofs.Common.{◌≡◌, take}
use Rattle.lx_frames.proofs.copies.copies_of.Given as goal

abbrev pub invariant-loop-call : goal.invariant-loop-call
invariant-loop-call l = l.copies ≡ take l.call-index l.calls
