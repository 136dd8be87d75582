use Rattle.std.proofs.Common.{◌≡◌, ◌++◌, drop, map}
use Rattle.lx_image_check.proofs.places.push_wrappers.Given as goal

abbrev pub invariant-loop-f : goal.invariant-loop-f
invariant-loop-f l = l.names ++ map (λ w. w.name) (drop l.f-index l.wrappers) ≡ l.initial.names ++ map (λ w. w.name) l.wrappers
