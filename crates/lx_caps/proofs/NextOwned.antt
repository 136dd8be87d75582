-- The next owned atom is the first of the places that pass.
use Rattle.std.proofs.Common.{◌≡◌, ◌⊎◌, inl, inr, subst, sym, ℕ, ◌+◌, Bool, true, false, ◌&&◌, nat_lt, [], ◌∷◌, Option, Some, None, if◌then◌else◌, arith}
use Rattle.std.proofs.lemmas.Bool.{both_ways, false_from_ne_true, and_left}
use Rattle.std.proofs.lemmas.Bool.Decides.{nat_tests}
use Rattle.lx_caps.specs.declared.Principal.{Principal}
use Rattle.lx_caps.specs.declared.Atom.{Atom}
use Rattle.lx_caps.specs.declared.Atom.TheVariants.{Byte, Call, Ref}
use Rattle.lx_caps.specs.declared.Act.{Act}
use Rattle.lx_caps.specs.History.{History, owns}
use Rattle.lx_caps.specs.Order.{is_before, is_behind, IsNextOwned}
use Rattle.lx_caps.specs.Placed.{AllPlaced}
use Rattle.lx_caps.specs.Starts.{start_of, start_behind, kept_by, lesser}
use Rattle.lx_caps.proofs.Orders.{at_most-trans}
use Rattle.lx_caps.proofs.Least.{IsLeast, IsLeast-kept, IsLeast-lesser, IsLeast-same}
use Rattle.lx_caps.proofs.Begins.{Place, begins_at}

-- the places of one more act
pub one_more : (p : Atom → Bool) (after : Option Atom) (h more : History) (act : Act) → more ≡ act ∷ h → (a : Option Atom)
    → IsLeast (λ x. (p x ≡ true) × Place h after x) a → IsLeast (λ x. (p x ≡ true) × Place more after x) (lesser a (kept_by p (start_of act)))
one_more p after h more act is a first =
    rw is
    (IsLeast-same (λ x. ((p x ≡ true) × Place h after x) ⊎ ((p x ≡ true) × (start_of act ≡ Some x))) (λ x. (p x ≡ true) × Place (act ∷ h) after x)
    (λ x. elim [
      | inl was ↦ (was.0, elim was.1 [ inl behind ↦ inl behind | inr starts ↦ inr (inr starts) ])
      | inr now ↦ (now.0, inr (inl now.1))
    ])
    (λ x w. elim w.1 [
      | inl behind ↦ inl (w.0, inl behind)
      | inr starts ↦ elim starts [ inl now ↦ inr (w.0, now) | inr was ↦ inl (w.0, inr was) ]
    ])
    (lesser a (kept_by p (start_of act)))
    (IsLeast-lesser (λ x. (p x ≡ true) × Place h after x) (λ x. (p x ≡ true) × (start_of act ≡ Some x)) a (kept_by p (start_of act)) first
    (IsLeast-kept p (start_of act))))

-- all places
pub next_owned : (h : History) (who : Principal) (after : Option Atom) → AllPlaced h → (a : Option Atom)
    → IsLeast (λ x. ((is_behind after x && owns h who x) ≡ true) × Place h after x) a → IsNextOwned h who after a
next_owned h who after placed None none = λ y.
    false_from_ne_true (is_behind after y && owns h who y)
    (λ is. let (x, passes, place, most) = begins_at h who after placed y is in none x (passes, place))
next_owned h who after placed (Some f) first = (
  first.0.0,
  λ y before. false_from_ne_true (is_behind after y && owns h who y)
      (λ is.
      let (x, passes, place, most) = begins_at h who after placed y is in
      both_ways (is_before y f) (at_most-trans f x y (first.1 x (passes, place)) most) before),
)

between_if : (t : Bool) (b : ℕ) (f y : Atom) → (if t then Some (Byte (b + 1)) else None) ≡ Some f → is_before y f ≡ true → is_behind (Some (Byte b)) y ≡ false
between_if true b f (Byte c) is before =
    let e : Byte (b + 1) ≡ f = cc in
    let low : nat_lt c (b + 1) ≡ true = subst (λ (x : Atom). is_before (Byte c) x ≡ true) (sym e) before in
    grind (arith, nat_tests, low)
between_if true b f (Call c) is before =
    let e : Byte (b + 1) ≡ f = cc in
    let low : is_before (Call c) (Byte (b + 1)) ≡ true = subst (λ (x : Atom). is_before (Call c) x ≡ true) (sym e) before in
    absurd cc
between_if true b f (Ref t c) is before =
    let e : Byte (b + 1) ≡ f = cc in
    let low : is_before (Ref t c) (Byte (b + 1)) ≡ true = subst (λ (x : Atom). is_before (Ref t c) x ≡ true) (sym e) before in
    absurd cc
between_if false b f y is before = absurd cc

-- nothing comes between an atom and the byte behind it
none_between : (after : Option Atom) (f y : Atom) → start_behind after ≡ Some f → is_before y f ≡ true → is_behind after y ≡ false
none_between None f y is before = absurd cc
none_between (Some (Byte b)) f y is before = between_if (nat_lt b 0xFFFFFFFFFFFFFFFF) b f y is before
none_between (Some (Call c)) f y is before = absurd cc
none_between (Some (Ref t c)) f y is before = absurd cc

first_at : (h : History) (who : Principal) (after a : Option Atom) (f : Atom) → a ≡ Some f
    → IsLeast (λ x. ((is_behind after x && owns h who x) ≡ true) × (start_behind after ≡ Some x)) a → IsNextOwned h who after (Some f)
first_at h who after a f is first =
    let least = subst (λ (o : Option Atom). IsLeast (λ x. ((is_behind after x && owns h who x) ≡ true) × (start_behind after ≡ Some x)) o) is first in
    (least.0.0, λ y before. and_left (is_behind after y) (owns h who y) (none_between after f y least.0.1 before))

-- what goes on behind the given atom comes next
pub goes_on_next : (h : History) (who : Principal) (after a : Option Atom) (f : Atom) → a ≡ kept_by (λ x. is_behind after x && owns h who x) (start_behind after) → a ≡ Some f → IsNextOwned h who after (Some f)
goes_on_next h who after a f kept is =
    first_at h who after a f is
    (subst (λ (o : Option Atom). IsLeast (λ x. ((is_behind after x && owns h who x) ≡ true) × (start_behind after ≡ Some x)) o) (sym kept)
    (IsLeast-kept (λ x. is_behind after x && owns h who x) (start_behind after)))
