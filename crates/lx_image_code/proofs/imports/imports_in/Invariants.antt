use Rattle.std.proofs.Common.{◌≡◌, map, take}
use Rattle.lx_image_code.specs.Imports.{wrapped_by}
use Rattle.lx_image_code.proofs.imports.imports_in.Given as goal

abbrev pub invariant-loop-function : goal.invariant-loop-function
invariant-loop-function l = l.imports ≡ map (wrapped_by l.names) (take l.function-index l.image.functions)
