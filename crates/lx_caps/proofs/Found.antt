-- The calls and references that are found act by act are those that are owned.
use Rattle.std.proofs.Common.{◌≡◌, inl, inr, refl, sym, ap, ◌∙◌, subst, Bool, true, false, ◌&&◌, ◌||◌, List, [], ◌∷◌, Option, Some, None, if◌then◌else◌}
use Rattle.std.proofs.lemmas.Bool.{or_cases, or_left, or_right}
use Rattle.lx_words.proofs.Tests.{same_tests}
use Rattle.lx_caps.specs.declared.Principal.{Principal}
use Rattle.lx_caps.specs.declared.Atom.{Atom}
use Rattle.lx_caps.specs.declared.Act.{Act}
use Rattle.lx_caps.specs.History.{History, owns}
use Rattle.lx_caps.specs.Order.{is_call_or_ref, stands_in}
use Rattle.lx_caps.specs.Once.{is_atom}
use Rattle.lx_caps.specs.Starts.{kept_by, start_of}
use Rattle.lx_caps.proofs.Begins.{StartsIn, starts_alone}
use Rattle.lx_caps.proofs.InOrder.{same_from, same_itself}

-- those are found that pass the test and at which one of the acts starts
pub record IsFound (p : Atom → Bool) (h : History) (found : List Atom) : Type 0 where
  pub only : (x : Atom) → stands_in x found ≡ true → p x ≡ true
  pub all : (x : Atom) → p x ≡ true → StartsIn h x → stands_in x found ≡ true

pub found_none : (p : Atom → Bool) (found : List Atom) → found ≡ [] → IsFound p [] found
found_none p found is = record { only = λ x «in». absurd (let no : stands_in x found ≡ false = ap (stands_in x) is in cc); all = λ x passes starts. absurd starts }

kept_passes : (p : Atom → Bool) (o : Option Atom) (x : Atom) → is_atom (kept_by p o) x ≡ true → p x ≡ true
kept_passes p None x is = absurd (cc)
kept_passes p (Some y) x is = by (p y) refl is
  where
    by : (b : Bool) → p y ≡ b → is_atom (if b then Some y else None) x ≡ true → p x ≡ true
    by true e f = ap p (sym (same_from y x f)) ∙ e
    by false e f = absurd (cc)

passes_kept : (p : Atom → Bool) (o : Option Atom) (x : Atom) → o ≡ Some x → p x ≡ true → is_atom (kept_by p o) x ≡ true
passes_kept p o x is passes = ap (λ q. is_atom (kept_by p q) x) is ∙ (ap (λ (b : Bool). is_atom (if b then Some x else None) x) passes ∙ same_itself x)

-- one more act
pub found_more : (p : Atom → Bool) (h more : History) (act : Act) (old new : List Atom) → more ≡ act ∷ h → IsFound p h old
    → ((x : Atom) → stands_in x new ≡ (stands_in x old || is_atom (kept_by p (start_of act)) x)) → IsFound p more new
found_more p h more act old new is was put = record {
  only = λ x «in».
      (elim (or_cases (stands_in x old) (is_atom (kept_by p (start_of act)) x) (sym (put x) ∙ «in»)) [ inl before ↦ was.only x before | inr now ↦ kept_passes p (start_of act) x now ]);
  all = λ x passes starts.
      put x
      ∙ (elim (subst (λ hs. StartsIn hs x) is starts) [
        | inl here ↦ or_right (stands_in x old) (is_atom (kept_by p (start_of act)) x) (passes_kept p (start_of act) x here passes)
        | inr before ↦ or_left (stands_in x old) (is_atom (kept_by p (start_of act)) x) (was.all x passes before)
      ]);
}

-- all acts
pub found_all : (h : History) (who : Principal) (found : List Atom) → IsFound (λ x. is_call_or_ref x && owns h who x) h found → (x : Atom) → stands_in x found ≡ (is_call_or_ref x && owns h who x)
found_all h who found is x =
    same_tests (stands_in x found) (is_call_or_ref x && owns h who x) (is.only x) (λ passes. is.all x passes (starts_alone h who x passes))
