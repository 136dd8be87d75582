-- The wrappers of images have the form of wrappers, so that a code of images that are accepted can be made; and in each code that has it
-- a wrapper begins with its enter.
use Rattle.std.specs.Prelude.{◌≡◌, true, None, List, length}
use Rattle.lx_ir.specs.declared.module.Module.{Module}
use Rattle.lx_annot.specs.declared.interface.Interface.{Interface}
use Rattle.lx_image_texts.specs.Guards.{Guards}
use Rattle.lx_model.specs.declared.program.Program.{Program}
use Rattle.lx_images.specs.Code.{Code}
use Rattle.lx_images.specs.Lines.{EnterFirst}
use Rattle.lx_images.specs.WrapperForm.{has_formed_wrappers, have_formed_wrappers, first_unformed}
use Rattle.lx_simulation.specs.Images.{AreImages}

pub record FormingLaws : Type 0 where
  -- in the image of a module each function that is named as a wrapper has the form of one
  pub image : (i : Interface) (m x : Module) → Guards i m x → has_formed_wrappers x ≡ true
  -- so it is in the images of a program, where there are no others
  pub images : (p : Program) (images : List Module) → AreImages p images → length images ≡ length p.modules → have_formed_wrappers images ≡ true
  -- and then no function has not the form
  pub unformed : (images : List Module) → have_formed_wrappers images ≡ true → first_unformed images ≡ None
  -- a wrapper that is called begins with its enter
  pub enters : (c : Code) → have_formed_wrappers c.images ≡ true → EnterFirst c
