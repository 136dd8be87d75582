use Rattle.std.proofs.Common.{◌≡◌, ◌++◌, take}
use Rattle.std.specs.Prelude.{filter_map}
use Rattle.lx_image_texts.specs.WrapperText.{in_wrapper}
use Rattle.lx_wrap.proofs.module.push_in_wrappers.Given as goal

abbrev pub invariant-loop-marked : goal.invariant-loop-marked
invariant-loop-marked l = l.list.items ≡ l.fn.list.items ++ filter_map (in_wrapper l.i l.m) (take l.marked-index l.annotated)
