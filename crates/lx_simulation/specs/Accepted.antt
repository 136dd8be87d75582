-- Images that the checker accepts, and images of a program's texts.
use Rattle.std.specs.Prelude.{◌≡◌, ℕ, ◌<◌, All, Some, None, List, length, slice_get}
use Rattle.lx_ir.specs.declared.module.Module.{Module}
use Rattle.lx_ir.specs.Verified.{IsVerified}
use Rattle.lx_annot.specs.declared.interface.Interface.{Interface}
use Rattle.lx_image_texts.specs.ImageFaults.{first_image_fault}
use Rattle.lx_image_texts.specs.Programs.{program_of}
use Rattle.lx_same_texts.specs.SameText.{SameText}
use Rattle.lx_model.specs.declared.program.Program.{Program}
use Rattle.lx_model.specs.Program.{module_of}

-- an image in which the checker finds no fault, by this interface
pub record IsAcceptedBy (i : Interface) (x : Module) : Type 0 where
  pub verified : IsVerified x
  pub no_fault : first_image_fault i x ≡ None

-- each image is accepted by the program's interface
abbrev pub AreAccepted : Program → List Module → Type 0
AreAccepted p images = All (IsAcceptedBy p.interface) images

-- the program of an image is this module, line numbers apart
abbrev pub IsImageOfText : Module → Module → Type 0
IsImageOfText m x = SameText (program_of x) m

-- the image with this number is there, and is one of the text of the module with this number
abbrev pub HasImageAt : Program → List Module → ℕ → Type 0
HasImageAt p images m = (x : Module) × (slice_get images m ≡ Some x) × IsImageOfText (module_of p (Some m)) x

-- each module's image is an image of its text
abbrev pub AreOfTexts : Program → List Module → Type 0
AreOfTexts p images = (m : ℕ) → m < length p.modules → HasImageAt p images m
