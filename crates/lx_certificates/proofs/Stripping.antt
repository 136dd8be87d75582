-- The newest strip of an atom has it, and no strip behind it does.
use Rattle.std.proofs.Common.{◌≡◌, refl, ap, ℕ, Bool, true, false, Some, None, [], ◌∷◌, length, if◌then◌else◌}
use Rattle.lx_caps.specs.declared.Atom.{Atom}
use Rattle.lx_caps.specs.declared.Act.{Act}
use Rattle.lx_caps.specs.declared.Act.TheVariants.{Grant, Strip, Zero, Loan, Lend, Shut, ShutAll}
use Rattle.lx_caps.specs.declared.Cap.{Cap}
use Rattle.lx_caps.specs.History.{History, has}
use Rattle.lx_caps.specs.OwnerLaws.{NoStrip}
use Rattle.lx_certificates.specs.Givers.{newest_strip}
use Rattle.lx_certificates.specs.Standing.{IsStripped}

-- one act more behind it
behind : (h : History) (new : Act) (x : Atom) (n : ℕ) → ((later : History) → NoStrip x later → NoStrip x (new ∷ later)) → IsStripped h x n → IsStripped (new ∷ h) x n
behind h new x n none s =
    record {
      later = new ∷ s.later;
      cap = s.cap;
      earlier = s.earlier;
      place = ap (λ (l : History). new ∷ l) s.place;
      is_numbered = s.is_numbered;
      taken = s.taken;
      kept = none s.later s.kept;
    }

-- a strip more, which has the atom or not
at_strip : (c : Cap) (h : History) (x : Atom) (n : ℕ) (b : Bool) → has c x ≡ b → (if b then Some (length h) else newest_strip h x) ≡ Some n → (newest_strip h x ≡ Some n → IsStripped h x n) → IsStripped (Strip c ∷ h) x n
at_strip c h x n true has_it is before = record { later = []; cap = c; earlier = h; place = refl; is_numbered = cc; taken = has_it; kept = tt }
at_strip c h x n false not_it is before = behind h (Strip c) x n (λ l none. (not_it, none)) (before is)

pub strip_newest : (h : History) (x : Atom) (n : ℕ) → newest_strip h x ≡ Some n → IsStripped h x n
strip_newest [] x n is = absurd cc
strip_newest (Grant q c ∷ h) x n is = behind h (Grant q c) x n (λ l none. none) (strip_newest h x n is)
strip_newest (Strip c ∷ h) x n is = at_strip c h x n (has c x) refl is (strip_newest h x n)
strip_newest (Zero at size ∷ h) x n is = behind h (Zero at size) x n (λ l none. none) (strip_newest h x n is)
strip_newest (Loan t ∷ h) x n is = behind h (Loan t) x n (λ l none. none) (strip_newest h x n is)
strip_newest (Lend t q c ∷ h) x n is = behind h (Lend t q c) x n (λ l none. none) (strip_newest h x n is)
strip_newest (Shut t m ∷ h) x n is = behind h (Shut t m) x n (λ l none. none) (strip_newest h x n is)
strip_newest (ShutAll t ∷ h) x n is = behind h (ShutAll t) x n (λ l none. none) (strip_newest h x n is)

no_strip : (c : Cap) (h : History) (x : Atom) (b : Bool) → has c x ≡ b → (if b then Some (length h) else newest_strip h x) ≡ None → (newest_strip h x ≡ None → NoStrip x h) → NoStrip x (Strip c ∷ h)
no_strip c h x true has_it is before = absurd cc
no_strip c h x false not_it is before = (not_it, before is)

pub strip_none : (h : History) (x : Atom) → newest_strip h x ≡ None → NoStrip x h
strip_none [] x is = tt
strip_none (Grant q c ∷ h) x is = strip_none h x is
strip_none (Strip c ∷ h) x is = no_strip c h x (has c x) refl is (strip_none h x)
strip_none (Zero at size ∷ h) x is = strip_none h x is
strip_none (Loan t ∷ h) x is = strip_none h x is
strip_none (Lend t q c ∷ h) x is = strip_none h x is
strip_none (Shut t m ∷ h) x is = strip_none h x is
strip_none (ShutAll t ∷ h) x is = strip_none h x is
