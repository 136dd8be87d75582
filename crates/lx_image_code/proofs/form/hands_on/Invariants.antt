use Rattle.std.proofs.Common.{◌≡◌, drop}
use Rattle.lx_images.specs.WrapperForm.{hands_on}
use Rattle.lx_image_code.proofs.form.hands_on.Given as goal

abbrev pub invariant-loop-place : goal.invariant-loop-place
invariant-loop-place l = hands_on l.place (drop l.place l.args) ≡ hands_on 0 l.args
