-- The types of code within reach are within the limits, whatever function runs.
use Rattle.std.proofs.Common.{◌≡◌, refl, ℕ, true, Option, Some, None, List}
use Rattle.std.specs.Prelude.{slice_get, option_and_then}
use Rattle.lx_words.proofs.Lists.{all_at}
use Rattle.lx_ir.specs.declared.module.Function.{Function}
use Rattle.lx_ir.specs.declared.module.Module.{Module}
use Rattle.lx_model.specs.declared.program.Program.{Program}
use Rattle.lx_model.specs.declared.program.ProgramFunction.{ProgramFunction}
use Rattle.lx_model.specs.declared.program.ProgramFunction.TheVariants.{Native, Of}
use Rattle.lx_model.specs.Program.{module_of}
use Rattle.lx_images.specs.Image.{Code, image_of_entry}
use Rattle.lx_code.specs.Reach.{IsWithinReach, are_sized, is_sized_function}
use Rattle.lx_image_code.specs.Jumps.{blocks_or_none, text_of_entry}
use Rattle.lx_image_code.specs.Reach.{AreSized, AreWithinReach}

in_image : (p : Program) (images : List Module) (m f : ℕ) (found : Option Module) (g : Function) → AreWithinReach p images → slice_get images m ≡ found
    → option_and_then (λ i. slice_get i.functions f) found ≡ Some g → is_sized_function (module_of p (Some m)).types g ≡ true
in_image p images m f None g sized at is = absurd (cc)
in_image p images m f (Some i) g sized at is = all_at (is_sized_function (module_of p (Some m)).types) i.functions f g (sized m i at) is

in_entry : (c : Code) (e : Option ProgramFunction) (g : Function) → IsWithinReach c.program → AreWithinReach c.program c.images → image_of_entry c e ≡ Some g
    → is_sized_function (text_of_entry c.program e).types g ≡ true
in_entry c None g reach sized is = absurd (cc)
in_entry c (Some (Native k)) g reach sized is = absurd (cc)
in_entry c (Some (Of None f)) g reach sized is = all_at (is_sized_function c.program.kernel.types) c.program.kernel.functions f g reach.kernel is
in_entry c (Some (Of (Some m) f)) g reach sized is = in_image c.program c.images m f (slice_get c.images m) g sized refl is

in_blocks : (c : Code) (e : Option ProgramFunction) (found : Option Function) → IsWithinReach c.program → AreWithinReach c.program c.images → image_of_entry c e ≡ found
    → are_sized (text_of_entry c.program e).types (blocks_or_none found) ≡ true
in_blocks c e None reach sized is = refl
in_blocks c e (Some g) reach sized is = in_entry c e g reach sized is

-- those of the blocks that run of an entry
pub sized_entry : (c : Code) (e : Option ProgramFunction) → IsWithinReach c.program → AreWithinReach c.program c.images
    → are_sized (text_of_entry c.program e).types (blocks_or_none (image_of_entry c e)) ≡ true
sized_entry c e reach sized = in_blocks c e (image_of_entry c e) reach sized refl

pub sized_code : (c : Code) → IsWithinReach c.program → AreWithinReach c.program c.images → AreSized c
sized_code c reach sized n = sized_entry c (slice_get c.program.functions n) reach sized
