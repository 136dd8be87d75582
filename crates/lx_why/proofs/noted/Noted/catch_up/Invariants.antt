use Rattle.std.proofs.Common.{◌≡◌, ◌≤◌, length}
use Rattle.lx_why.specs.Noted.{HasNoted}
use Rattle.lx_why.proofs.noted.Noted.catch_up.Given as goal

abbrev pub invariant-loop-place : goal.invariant-loop-place
invariant-loop-place l = (HasNoted l.fn.self l.acts → HasNoted l.self l.acts) × (l.self.seen ≡ l.place) × (l.fn.self.seen ≤ length l.acts → l.self.seen ≤ length l.acts)
