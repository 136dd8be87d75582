use Rattle.std.proofs.Common.{◌≡◌, drop, length, nat_eq}
use Rattle.std.specs.Prelude.{flat_map}
use Rattle.lx_image_check.proofs.heads.have_instrs.Given as goal

abbrev pub invariant-loop-block : goal.invariant-loop-block
invariant-loop-block l = nat_eq l.count (length (flat_map (λ c. c.instrs) l.blocks)) ≡ nat_eq l.left (length (flat_map (λ c. c.instrs) (drop l.block-index l.blocks)))
