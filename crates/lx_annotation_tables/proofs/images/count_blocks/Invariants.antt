use Rattle.std.proofs.Common.{◌≡◌, take, count_by}
use Rattle.std.specs.List.{flat_map}
use Rattle.lx_annotation_tables.specs.Images.{is_behind}
use Rattle.lx_annotation_tables.proofs.images.count_blocks.Given as goal

abbrev pub invariant-loop-block : goal.invariant-loop-block
invariant-loop-block l = l.total ≡ count_by (is_behind l.what) (flat_map (λ b. b.instrs) (take l.block-index l.blocks))
