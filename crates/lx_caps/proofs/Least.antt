-- The first atom with a property, found one candidate after another.
use Rattle.std.proofs.Common.{◌≡◌, ◌⊎◌, inl, inr, refl, Bool, true, false, Option, Some, None, if◌then◌else◌}
use Rattle.lx_caps.specs.declared.Atom.{Atom}
use Rattle.lx_caps.specs.Order.{is_before}
use Rattle.lx_caps.specs.Starts.{kept_by, lesser}
use Rattle.lx_caps.proofs.Orders.{not_before_itself, at_most-trans, before-at_most}

-- the atom has the property and none with it comes before; or none has it
abbrev pub IsLeast : (Atom → Type 0) → Option Atom → Type 0
IsLeast P None = (x : Atom) → P x → ⊥
IsLeast P (Some x) = P x × ((y : Atom) → P y → is_before y x ≡ false)

chosen : (P Q : Atom → Type 0) (x y : Atom) → IsLeast P (Some x) → IsLeast Q (Some y) → (b : Bool) → is_before y x ≡ b
    → IsLeast (λ z. P z ⊎ Q z) (if b then Some y else Some x)
chosen P Q x y p q true is = (
  inr q.0,
  λ z. elim [ inl here ↦ at_most-trans y x z (before-at_most y x is) (p.1 z here) | inr here ↦ q.1 z here ],
)
chosen P Q x y p q false is = (
  inl p.0,
  λ z. elim [ inl here ↦ p.1 z here | inr here ↦ at_most-trans x y z is (q.1 z here) ],
)

-- the lesser of two firsts is the first of all
pub IsLeast-lesser : (P Q : Atom → Type 0) (a b : Option Atom) → IsLeast P a → IsLeast Q b → IsLeast (λ x. P x ⊎ Q x) (lesser a b)
IsLeast-lesser P Q None None p q = λ x. elim [ inl here ↦ p x here | inr here ↦ q x here ]
IsLeast-lesser P Q None (Some y) p q = (inr q.0, λ z. elim [ inl here ↦ absurd (p z here) | inr here ↦ q.1 z here ])
IsLeast-lesser P Q (Some x) None p q = (inl p.0, λ z. elim [ inl here ↦ p.1 z here | inr here ↦ absurd (q z here) ])
IsLeast-lesser P Q (Some x) (Some y) p q = chosen P Q x y p q (is_before y x) refl

-- one property for another that says the same
pub IsLeast-same : (P Q : Atom → Type 0) → ((x : Atom) → P x → Q x) → ((x : Atom) → Q x → P x) → (a : Option Atom) → IsLeast P a → IsLeast Q a
IsLeast-same P Q to from None none = λ x is. none x (from x is)
IsLeast-same P Q to from (Some y) first = (to y first.0, λ x is. first.1 x (from x is))

kept : (p : Atom → Bool) (x : Atom) (b : Bool) → p x ≡ b → IsLeast (λ y. (p y ≡ true) × (Some x ≡ Some y)) (if b then Some x else None)
kept p x true is = ((is, refl), λ y here. at_itself x y here.1)
  where
    at_itself : (x y : Atom) → Some x ≡ Some y → is_before y x ≡ false
    at_itself x y same = let e : x ≡ y = cc in rw e (not_before_itself y)
kept p x false is = λ y here. absurd cc

-- a lone candidate
pub IsLeast-kept : (p : Atom → Bool) (place : Option Atom) → IsLeast (λ y. (p y ≡ true) × (place ≡ Some y)) (kept_by p place)
IsLeast-kept p None = λ x is. absurd cc
IsLeast-kept p (Some x) = kept p x (p x) refl
