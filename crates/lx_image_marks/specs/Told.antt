-- Faults as they are answered, and those of the definitions.
use Rattle.std.specs.Prelude.{◌≡◌, ℕ, Option, Some, None, Result, MatchResult, ⊤}
use Rattle.lx_image_texts.specs.ImageFaults.{Kind, BareStore, GuardDiffers, BareIndirect, WrapperDiffers, BodyReached, StrayGuard, ImageFault}
use Rattle.lx_image_marks.specs.declared.fault.FaultKind.{FaultKind}
use Rattle.lx_image_marks.specs.declared.fault.FaultKind.TheVariants as kind
use Rattle.lx_image_marks.specs.declared.fault.ImageFault.{ImageFault as Told}
use Rattle.lx_image_marks.specs.declared.fault.Refusal.{Refusal}
use Rattle.lx_image_marks.specs.declared.fault.Refusal.TheVariants as refusal

abbrev pub kind_of : FaultKind → Kind
kind_of kind.BareStore = BareStore
kind_of kind.GuardDiffers = GuardDiffers
kind_of kind.BareIndirect = BareIndirect
kind_of kind.WrapperDiffers = WrapperDiffers
kind_of kind.BodyReached = BodyReached
kind_of kind.StrayGuard = StrayGuard

-- the kinds have the numbers 1 to 6
abbrev pub kind_number : Kind → ℕ
kind_number BareStore = 1
kind_number GuardDiffers = 2
kind_number BareIndirect = 3
kind_number WrapperDiffers = 4
kind_number BodyReached = 5
kind_number StrayGuard = 6

-- what an answered fault says
abbrev pub told : Told → ImageFault
told f = record { kind = kind_of f.kind; line = f.line; function = f.function; place = f.place }

-- the refusal tells this fault; want of memory may come in the place of any answer
abbrev pub IsAnswer : Option ImageFault → Refusal → Type 0
IsAnswer x (refusal.Fault f) = x ≡ Some (told f)
IsAnswer x refusal.Memory = ⊤

-- a pass goes on exactly where there is no fault, and refuses for the fault that there is
abbrev pub Gives : {T : Type 0} → Option ImageFault → Result T Refusal → Type 0
Gives x r = MatchResult r (λ _. x ≡ None) (IsAnswer x)

-- The same, where want of memory has this reason.

abbrev pub IsAnswerOr : Type 0 → Option ImageFault → Refusal → Type 0
IsAnswerOr want x (refusal.Fault f) = IsAnswer x (refusal.Fault f)
IsAnswerOr want x refusal.Memory = want

abbrev pub GivesOr : {T : Type 0} → Type 0 → Option ImageFault → Result T Refusal → Type 0
GivesOr want x r = MatchResult r (λ _. x ≡ None) (IsAnswerOr want x)
