-- What the checker answers.
use Rattle.std.specs.Prelude.{◌≡◌, Option, None, List, filter, option_map, Result, MatchResult, ⊤}
use Rattle.std.specs.Option.{option_or}
use Rattle.lx_ir.specs.declared.module.Function.{Function}
use Rattle.lx_ir.specs.declared.module.Module.{Module}
use Rattle.lx_ir.specs.Faults.{first_some}
use Rattle.lx_ir.specs.Lookup.{is_defined}
use Rattle.lx_ir.specs.Verified.{IsVerified}
use Rattle.lx_annot.specs.declared.interface.Interface.{Interface}
use Rattle.lx_propagate.specs.Slots.{conflict_of}
use Rattle.lx_image_texts.specs.ImageFaults.{ImageFault, conflict_fault, first_image_fault, missing_fault, misplaced, not_own}
use Rattle.lx_image_texts.specs.WrapperText.{wrappers_of}
use Rattle.lx_image_texts.specs.Programs.{program_of}
use Rattle.lx_image_texts.specs.Laws.{IsProgramOf}
use Rattle.lx_image_marks.specs.Told.{IsAnswer}
use Rattle.lx_image_marks.specs.declared.fault.Refusal.{Refusal}
use Rattle.lx_image_marks.specs.declared.fault.Refusal.TheVariants as refusal
use Rattle.lx_image_check.specs.Expected.{expected}

-- the faults of a text beside the wrappers that it ought to have, and those of its annotations, by the text without its wrappers' bodies
abbrev pub beside_fault : Interface → Module → List Function → Module → Option ImageFault
beside_fault i x ws y =
    option_or (first_some (missing_fault x) ws) (option_or (misplaced (expected x.functions ws) (filter is_defined x.functions)) (option_map conflict_fault (conflict_of i y)))

abbrev pub stripped_fault : Interface → Module → Module → Option ImageFault
stripped_fault i x y = beside_fault i x (filter not_own (wrappers_of i y)) y

-- a verified text that is an image by some interface
pub record IsAccepted (x : Module) : Type 0 where
  pub verified : IsVerified x
  pub interface : Interface
  pub no_fault : first_image_fault interface x ≡ None

-- The text comes back exactly where it has no fault, and else it is refused for its first fault.
abbrev pub Checks : Interface → Module → Result Module Refusal → Type 0
Checks i x r = MatchResult r (λ y. (y ≡ x) × (first_image_fault i x ≡ None)) (IsAnswer (first_image_fault i x))

-- What an answer means: a text that comes back is the image of the program that erasing gives, and one that is refused for a fault is
-- the image of no program.

abbrev pub IsOfNone : Interface → Module → Refusal → Type 0
IsOfNone i x (refusal.Fault f) = (m : Module) → IsProgramOf i m x → ⊥
IsOfNone i x refusal.Memory = ⊤

abbrev pub IsExactAnswer : Interface → Module → Result Module Refusal → Type 0
IsExactAnswer i x r = MatchResult r (λ y. IsProgramOf i (program_of y) y) (IsOfNone i x)
