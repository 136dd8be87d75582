-- Decisions, one test after the other.
use Rattle.std.proofs.Common.{◌≡◌, ◌⊎◌, inl, inr, Bool, true, false, not, ◌&&◌, ◌||◌, Option, Some, None, refl}
use Rattle.std.proofs.lemmas.Option.{same_Some}
use Rattle.lx_model.specs.declared.request.Outcome.{Outcome}
use Rattle.lx_model.specs.declared.request.Outcome.TheVariants.{Refused, Trapped}
use Rattle.lx_model.specs.declared.request.Refusal.{Refusal}
use Rattle.lx_model.specs.declared.request.Trap.{Trap}
use Rattle.lx_model.specs.Act.{or_else, unless}

-- what is not decided

pub both_none : (first more : Option Outcome) → first ≡ None → more ≡ None → or_else first more ≡ None
both_none None more e none = none
both_none (Some o) more e none = absurd (cc)

pub passes : (b : Bool) (o : Outcome) → b ≡ true → unless b o ≡ None
passes true o e = refl
passes false o e = absurd (cc)

-- what is decided

pub same_refusal : (x y : Refusal) → Refused x ≡ Refused y → x ≡ y
same_refusal x y e = cc

pub failed : (b : Bool) (o x : Outcome) → unless b o ≡ Some x → (b ≡ false) × (o ≡ x)
failed true o x e = absurd (cc)
failed false o x e = (refl, same_Some o x e)

-- a refusal is decided by the first part, or the first part decides nothing
pub either : (first more : Option Outcome) (x : Outcome) → or_else first more ≡ Some x → (first ≡ Some x) ⊎ ((first ≡ None) × (more ≡ Some x))
either None more x e = inr (refl, e)
either (Some o) more x e = inl e

-- or by a test that fails
pub either_test : (b : Bool) (o x : Outcome) (more : Option Outcome) → or_else (unless b o) more ≡ Some x
    → ((b ≡ false) × (o ≡ x)) ⊎ ((b ≡ true) × (more ≡ Some x))
either_test true o x more e = inr (refl, e)
either_test false o x more e = inl (refl, same_Some o x e)

-- a trap is no refusal
pub no_trap : (b : Bool) (trap : Trap) (x : Refusal) → unless b (Trapped trap) ≡ Some (Refused x) → ⊥
no_trap true trap x e = cc
no_trap false trap x e = cc

pub past_trap : (b : Bool) (trap : Trap) (x : Refusal) (more : Option Outcome) → or_else (unless b (Trapped trap)) more ≡ Some (Refused x)
    → (b ≡ true) × (more ≡ Some (Refused x))
past_trap true trap x more e = (refl, e)
past_trap false trap x more e = absurd (cc)

-- to decide

pub at_test : (b : Bool) (o : Outcome) → b ≡ false → unless b o ≡ Some o
at_test true o e = absurd (cc)
at_test false o e = refl

pub at_first : (first more : Option Outcome) (x : Outcome) → first ≡ Some x → or_else first more ≡ Some x
at_first None more x e = absurd (cc)
at_first (Some o) more x e = e

pub at_second : (first more : Option Outcome) (x : Outcome) → first ≡ None → more ≡ Some x → or_else first more ≡ Some x
at_second None more x e is = is
at_second (Some o) more x e is = absurd (cc)

pub at_first_test : (b : Bool) (o : Outcome) (more : Option Outcome) → b ≡ false → or_else (unless b o) more ≡ Some o
at_first_test true o more e = absurd (cc)
at_first_test false o more e = refl

-- tests

pub not_both : (a b : Bool) → not (a && b) ≡ false → (a ≡ true) × (b ≡ true)
not_both true true h = (refl, refl)
not_both true false h = absurd (cc)
not_both false b h = absurd (cc)

pub neither : (a b : Bool) → (not a || b) ≡ false → (a ≡ true) × (b ≡ false)
neither true b h = (refl, h)
neither false b h = absurd (cc)

pub both_fail : (a b : Bool) → a ≡ true → b ≡ true → not (a && b) ≡ false
both_fail true true h k = refl
both_fail true false h k = absurd (cc)
both_fail false b h k = absurd (cc)

pub neither_holds : (a b : Bool) → a ≡ true → b ≡ false → (not a || b) ≡ false
neither_holds true b h k = k
neither_holds false b h k = absurd (cc)
