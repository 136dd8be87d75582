use Rattle.std.proofs.Common.{◌≡◌, drop}
use Rattle.std.specs.Prelude.{flat_map}
use Rattle.lx_image_check.specs.Compared.{lines_fault}
use Rattle.lx_image_check.proofs.lines.check_lines.Given as goal

abbrev pub invariant-loop-block : goal.invariant-loop-block
invariant-loop-block l =
    lines_fault l.name 0 l.wanted (flat_map (λ c. c.instrs) l.blocks) ≡ lines_fault l.name l.place (drop l.place l.wanted) (flat_map (λ c. c.instrs) (drop l.block-index l.blocks))
