-- A decision in parts that comes to nothing.
use Rattle.std.proofs.Common.{Bool, None, false, refl, true, ◌≡◌, Option, Some, ap, not, ℕ}
use Rattle.std.proofs.lemmas.Option.{same_Some}
use Rattle.std.specs.Prelude.{if◌then◌else◌}
use Rattle.lx_caps.specs.declared.Principal.{Principal}
use Rattle.lx_model.specs.Act.{unless, or_else}
use Rattle.lx_model.specs.declared.request.Outcome.{Outcome}
use Rattle.lx_model.specs.declared.request.Outcome.TheVariants.{Refused}
use Rattle.lx_model.specs.declared.request.Refusal.TheVariants as refusal

pub passed : (b : Bool) (o : Outcome) → unless b o ≡ None → b ≡ true
passed true o e = refl
passed false o e = cc

pub neither : (a b : Option Outcome) → or_else a b ≡ None → (a ≡ None) × (b ≡ None)
neither None b e = (refl, e)
neither (Some o) b e = cc

pub rest_none : (d more : Option Outcome) → or_else d more ≡ None → more ≡ None
rest_none None more e = e
rest_none (Some o) more e = cc

pub first_none : (first more : Option Outcome) → or_else first more ≡ None → first ≡ None
first_none None more e = refl
first_none (Some o) more e = cc

pub first_row : (b : Bool) (v w : Principal) (a slot : ℕ) (rest : Option Principal) (more : Option Outcome) → (if not b then Some v else rest) ≡ Some w
    → (rest ≡ Some w → more ≡ Some (Refused (refusal.Writer w a slot))) → or_else (unless b (Refused (refusal.Writer v a slot))) more ≡ Some (Refused (refusal.Writer w a slot))
first_row true v w a slot rest more is go = go is
first_row false v w a slot rest more is go = ap (λ (u : Principal). Some (Refused (refusal.Writer u a slot))) (same_Some v w is)

pub passed_on : (b : Bool) (o x : Outcome) (more : Option Outcome) → b ≡ true → more ≡ Some x → or_else (unless b o) more ≡ Some x
passed_on true o x more is e = e
passed_on false o x more is e = absurd (cc)
