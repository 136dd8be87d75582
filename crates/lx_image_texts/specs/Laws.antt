-- What the definitions of images say.
use Rattle.std.specs.Prelude.{◌≡◌, ℕ, true, Some, None, map, slice_get, ◌⊎◌}
use Rattle.lx_ir.specs.declared.module.Function.{Function}
use Rattle.lx_ir.specs.declared.module.Module.{Module}
use Rattle.lx_ir.specs.declared.instr.Op.{Op}
use Rattle.lx_ir.specs.Lawful.{IsLawful, IsPlain}
use Rattle.lx_ir.specs.Faults.{FirstFault}
use Rattle.lx_annot.specs.declared.interface.Interface.{Interface}
use Rattle.lx_propagate.specs.Slots.{annotated_of, conflict_of}
use Rattle.lx_image_texts.specs.ImageFaults.{ImageFault, without_wrappers, first_image_fault}
use Rattle.lx_image_texts.specs.Named.{IsNamed}
use Rattle.lx_image_texts.specs.WrapperFaults.{IsWrapperFault}
use Rattle.lx_image_texts.specs.Programs.{program_of, IsClosed}
use Rattle.lx_image_texts.specs.Spared.{is_spared}
use Rattle.lx_image_texts.specs.SparedStores.{IsToOwnStack}
use Rattle.lx_image_texts.specs.Guards.{function_text, Guards}
use Rattle.lx_image_texts.specs.Erased.{erased_functions}
use Rattle.lx_image_texts.specs.Instrumented.{leaves_none, leaves_spared, GuardsBut}

-- the program has this image, and its text names nothing but its own
pub record IsProgramOf (i : Interface) (m x : Module) : Type 0 where
  pub image : Guards i m x
  pub closed : IsClosed m

-- The checker's yes is exact: no fault exactly where some program has this image, and that program is what erasing gives.
pub record IsExact (i : Interface) (x : Module) : Type 0 where
  -- where there is no fault, the program that erasing gives has this image
  pub yes : first_image_fault i x ≡ None → IsProgramOf i (program_of x) x × (map function_text (program_of x).functions ≡ erased_functions x)
  -- where some program has this image, there is no fault, and that program is what erasing gives
  pub only : (m : Module) → IsProgramOf i m x → (first_image_fault i x ≡ None) × (map function_text m.functions ≡ erased_functions x)

pub record ImageLaws : Type 0 where
  -- for every image that can be read, and that verifies
  pub exact : (i : Interface) (x : Module) → IsLawful x → FirstFault x None → IsExact i x
  -- a fault that is named is really there, and it is the first: at the instruction that it names, or else of the whole text
  pub named : (i : Interface) (x : Module) (e : ImageFault) → first_image_fault i x ≡ Some e → IsNamed x e ⊎ IsWrapperFault i x e
  -- a lawful module names nothing but its own
  pub closed : (m : Module) → IsLawful m → IsClosed m
  -- with all guards, and without those of spared stores, it is an image of the module
  pub full : (i : Interface) (m x : Module) → IsPlain m → conflict_of i m ≡ None → GuardsBut leaves_none i m x → Guards i m x
  pub spared : (i : Interface) (m x : Module) → IsPlain m → conflict_of i m ≡ None → GuardsBut (leaves_spared m) i m x → Guards i m x
  -- what is left of an image of a lawful module is that module's functions
  pub erased : (i : Interface) (m x : Module) → IsLawful m → Guards i m x → erased_functions x ≡ map function_text m.functions
  -- without the bodies of its wrappers an image has the slot types of its module, and no conflict
  pub annotated : (i : Interface) (m x : Module) → Guards i m x → annotated_of i (without_wrappers x) ≡ annotated_of i m
  pub agrees : (i : Interface) (m x : Module) → Guards i m x → conflict_of i (without_wrappers x) ≡ None
  -- a store is spared in an image exactly where it is in its module
  pub alike : (i : Interface) (m x : Module) (k : ℕ) (f g : Function) (o : Op) → Guards i m x → slice_get m.functions k ≡ Some f → slice_get x.functions k ≡ Some g → is_spared x g o ≡ is_spared m f o
  -- a store is spared just where it goes to bytes of its function's own stack whose address the function lets go nowhere
  pub keeps : (m : Module) (f : Function) (o : Op) → is_spared m f o ≡ true → IsToOwnStack m f o
  pub spares : (m : Module) (f : Function) (o : Op) → IsToOwnStack m f o → is_spared m f o ≡ true
