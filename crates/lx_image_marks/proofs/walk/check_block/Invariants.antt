use Rattle.std.proofs.Common.{◌≡◌, None, drop}
use Rattle.std.specs.Prelude.{option_copied}
use Rattle.lx_image_texts.specs.ImageFaults.{fault_in_block}
use Rattle.lx_image_marks.proofs.walk.check_block.Given as goal

abbrev pub invariant-loop-k : goal.invariant-loop-k
invariant-loop-k g l =
    fault_in_block l.body.text.now l.body.function.now l.first None l.instrs ≡ fault_in_block l.body.text.now l.body.function.now l.place (option_copied l.before) (drop l.k l.instrs)
