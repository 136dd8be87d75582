-- Which images a machine runs: those whose types lie within the limits.
use Rattle.std.specs.Prelude.{◌≡◌, ℕ, Bool, IsTrue, Some, List, slice_get}
use Rattle.std.specs.List.{list_all}
use Rattle.lx_ir.specs.declared.module.Module.{Module}
use Rattle.lx_ir.specs.declared.types.NamedType.{NamedType}
use Rattle.lx_model.specs.declared.program.Program.{Program}
use Rattle.lx_model.specs.Program.{home_or_kernel, module_of}
use Rattle.lx_images.specs.Image.{Code}
use Rattle.lx_code.specs.Reach.{are_sized, is_sized_function}
use Rattle.lx_image_code.specs.Jumps.{image_blocks}

-- with these named types each type whose layout an instruction of the image asks for is within the limits
abbrev pub is_sized_image : List NamedType → Module → Bool
is_sized_image types image = list_all (is_sized_function types) image.functions

-- so it is of each image with the types of its module's text, since the machine lays types out by the text
abbrev pub AreWithinReach : Program → List Module → Type 0
AreWithinReach p images = (m : ℕ) → (image : Module) → slice_get images m ≡ Some image → IsTrue (is_sized_image (module_of p (Some m)).types image)

-- and so it is of the blocks that run of each function, with the types of its text
abbrev pub AreSized : Code → Type 0
AreSized c = (n : ℕ) → IsTrue (are_sized (module_of c.program (home_or_kernel c.program n)).types (image_blocks c n))
