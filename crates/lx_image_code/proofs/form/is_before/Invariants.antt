use Rattle.std.proofs.Common.{◌≡◌, drop}
use Rattle.lx_images.specs.WrapperForm.{is_before}
use Rattle.lx_image_code.specs.Form.{ops_of}
use Rattle.lx_image_code.proofs.form.is_before.Given as goal

abbrev pub invariant-loop-place : goal.invariant-loop-place
invariant-loop-place l = is_before l.number l.parameters (ops_of (drop l.place l.lines)) ≡ is_before l.number l.parameters (ops_of l.lines)
