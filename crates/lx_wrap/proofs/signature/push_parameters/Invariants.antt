use Rattle.std.proofs.Common.{◌≡◌, ◌++◌, drop}
use Rattle.lx_image_texts.specs.WrapperText.{wrapper_params}
use Rattle.lx_wrap.proofs.signature.push_parameters.Given as goal

abbrev pub invariant-loop-place : goal.invariant-loop-place
invariant-loop-place l = l.list ++ wrapper_params l.place (drop l.place l.parameters) ≡ l.initial.list ++ wrapper_params 0 l.parameters
