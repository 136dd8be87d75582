use Rattle.std.proofs.Common.{◌≡◌, map, take}
use Rattle.lx_image_code.specs.Imports.{imports_in}
use Rattle.lx_image_code.proofs.imports.imports_by.Given as goal

abbrev pub invariant-loop-image : goal.invariant-loop-image
invariant-loop-image l = l.tables ≡ map (imports_in l.names) (take l.image-index l.images)
