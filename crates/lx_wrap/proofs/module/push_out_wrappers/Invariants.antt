use Rattle.std.proofs.Common.{◌≡◌, ◌++◌, drop}
use Rattle.lx_image_texts.specs.WrapperText.{out_wrappers}
use Rattle.lx_wrap.proofs.module.push_out_wrappers.Given as goal

abbrev pub invariant-loop-place : goal.invariant-loop-place
invariant-loop-place l = l.list.items ++ out_wrappers l.i l.place (drop l.place l.functions) ≡ l.fn.list.items ++ out_wrappers l.i 0 l.functions
