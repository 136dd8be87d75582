use Rattle.std.proofs.Common.{◌≡◌, drop, map}
use Rattle.lx_image_texts.specs.ImageFaults.{same_names}
use Rattle.lx_image_check.proofs.heads.have_same_names.Given as goal

abbrev pub invariant-loop-i : goal.invariant-loop-i
invariant-loop-i l = same_names (map (λ c. c.name) l.a) (map (λ c. c.name) l.b) ≡ same_names (map (λ c. c.name) (drop l.i l.a)) (map (λ c. c.name) (drop l.i l.b))
