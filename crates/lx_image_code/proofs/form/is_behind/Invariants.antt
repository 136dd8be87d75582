use Rattle.std.proofs.Common.{◌≡◌, drop}
use Rattle.lx_images.specs.WrapperForm.{is_behind}
use Rattle.lx_image_code.specs.Form.{ops_of}
use Rattle.lx_image_code.proofs.form.is_behind.Given as goal

abbrev pub invariant-loop-place : goal.invariant-loop-place
invariant-loop-place l = is_behind l.number l.to (ops_of (drop l.place l.lines)) ≡ is_behind l.number l.to (ops_of l.lines)
