-- What is known of programs by their images, and of images by their programs.
use Rattle.std.specs.Prelude.{◌≡◌, ℕ, ◌+◌, ◌<◌, true, Some, None, length, slice_get, nat_lt}
use Rattle.std.specs.List.{list_all}
use Rattle.lx_ir.specs.declared.module.Function.{Function}
use Rattle.lx_ir.specs.declared.module.Module.{Module}
use Rattle.lx_ir.specs.Lawful.{IsPlain, is_lawful_function}
use Rattle.lx_ir.specs.Operands.{register_count}
use Rattle.lx_ir.specs.Faults.{FunctionFault, FirstFault, first_some}
use Rattle.lx_ir.specs.Verified.{IsVerified}
use Rattle.lx_annot.specs.declared.interface.Interface.{Interface}
use Rattle.lx_propagate.specs.Slots.{conflict_of}
use Rattle.lx_image_texts.specs.WrapperText.{wrappers_of}
use Rattle.lx_image_texts.specs.Guards.{Guards}
use Rattle.lx_image_texts.specs.ImageFaults.{ImageFault, fault_in_function, first_image_fault}
use Rattle.lx_image_texts.specs.Instrumented.{Leaves, leaves_none, leaves_spared, GuardsBut}
use Rattle.lx_image_texts.specs.Programs.{program_of}
use Rattle.lx_image_texts.specs.Laws.{IsProgramOf}
use Rattle.lx_image_texts.specs.Watched.{AllWatched, IsFirst, IsSameText}

-- a function of the module is lawful, and none of the five faults stands in it
pub record IsWell (m : Module) (f : Function) : Type 0 where
  pub lawful : is_lawful_function m f ≡ true
  pub no_fault : FunctionFault m f None

-- a module that has room for its wrappers
pub record HasRoom (i : Interface) (m : Module) : Type 0 where
  -- a `u32` numbers the functions of the image, and the registers of each wrapper
  pub few_functions : length m.functions + length (wrappers_of i m) < 4294967295
  pub few_registers : list_all (λ w. nat_lt (register_count w) 4294967295) (wrappers_of i m) ≡ true

pub record ImageProgramLaws : Type 0 where
  -- in a text without a fault no store, block write or call by a register stands without its guard or check, but spared stores
  pub watched : (i : Interface) (x : Module) → first_image_fault i x ≡ None → AllWatched x
  -- the fault of an instruction is the first
  pub first : (x : Module) (e : ImageFault) → first_some (fault_in_function x) x.functions ≡ Some e → IsFirst x e
  -- a module has one image with all guards, and one without just those of spared stores, whatever their lines
  pub one : (leaves : Leaves) (i : Interface) (m x y : Module) → GuardsBut leaves i m x → GuardsBut leaves i m y → IsSameText x y
  -- the program of a lawful, verified image is lawful and verified, if its text names nothing but its own
  pub programs : (i : Interface) (m x : Module) → IsVerified x → IsProgramOf i m x → IsVerified m
  -- so where a lawful, verified text has no fault as an image, the program that erasing gives is lawful and verified
  pub erased : (i : Interface) (x : Module) → IsVerified x → first_image_fault i x ≡ None → IsVerified (program_of x)
  -- and in an image of a lawful, verified module each function of the module is lawful and without fault
  pub functions : (i : Interface) (m x : Module) → IsVerified m → Guards i m x → (k : ℕ) (f : Function) → k < length m.functions → slice_get x.functions k ≡ Some f → IsWell x f
  -- the whole image has no fault
  pub faultless : (i : Interface) (m x : Module) → IsVerified m → Guards i m x → FirstFault x None
  -- and it is lawful, if there is room for its wrappers
  pub images : (i : Interface) (m x : Module) → IsVerified m → HasRoom i m → Guards i m x → IsVerified x
  -- and only then
  pub room : (i : Interface) (m x : Module) → IsVerified x → Guards i m x → HasRoom i m
  -- so the images that an instrumenter is to make are lawful and verified, with all guards and without those of spared stores
  pub full : (i : Interface) (m x : Module) → IsVerified m → IsPlain m → conflict_of i m ≡ None → HasRoom i m → GuardsBut leaves_none i m x → IsVerified x
  pub spared : (i : Interface) (m x : Module) → IsVerified m → IsPlain m → conflict_of i m ≡ None → HasRoom i m → GuardsBut (leaves_spared m) i m x → IsVerified x
