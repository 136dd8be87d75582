use Rattle.std.proofs.Common.{◌≡◌, ◌++◌, drop}
use Rattle.lx_image_texts.specs.WrapperText.{wrapper_args}
use Rattle.lx_wrap.proofs.signature.wrapper_args.Given as goal

abbrev pub invariant-loop-place : goal.invariant-loop-place
invariant-loop-place l = l.list ++ wrapper_args l.place (drop l.place l.parameters) ≡ wrapper_args 0 l.parameters
