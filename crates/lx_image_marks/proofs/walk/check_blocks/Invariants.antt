use Rattle.std.proofs.Common.{◌≡◌, drop}
use Rattle.lx_image_texts.specs.ImageFaults.{fault_in_blocks}
use Rattle.lx_image_marks.proofs.walk.check_blocks.Given as goal

abbrev pub invariant-loop-block : goal.invariant-loop-block
invariant-loop-block g l = fault_in_blocks l.body.text.now l.body.function.now 0 l.blocks ≡ fault_in_blocks l.body.text.now l.body.function.now l.place (drop l.block-index l.blocks)
