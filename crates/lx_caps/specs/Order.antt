-- Atoms in order: bytes, then calls, then references.
use Rattle.std.specs.Prelude.{◌≡◌, Bool, true, false, ◌&&◌, ◌||◌, nat_eq, nat_lt, Option, Some, None, List, [], ◌∷◌}
use Rattle.std.specs.List.{list_any}
use Rattle.lx_caps.specs.declared.Principal.{Principal}
use Rattle.lx_caps.specs.declared.Atom.{Atom}
use Rattle.lx_caps.specs.declared.Atom.TheVariants.{Byte, Call, Ref}
use Rattle.lx_caps.specs.History.{History, owns}

-- the first atom comes before the second one
abbrev pub is_before : Atom → Atom → Bool
is_before (Byte a) (Byte b) = nat_lt a b
is_before (Byte a) (Call b) = true
is_before (Byte a) (Ref u b) = true
is_before (Call a) (Call b) = nat_lt a b
is_before (Call a) (Ref u b) = true
is_before (Ref t a) (Ref u b) = nat_lt t u || (nat_eq t u && nat_lt a b)
is_before _ _ = false

-- the atom comes behind the given one, if one is given
abbrev pub is_behind : Option Atom → Atom → Bool
is_behind None x = true
is_behind (Some y) x = is_before y x

-- the first atom that passes the test: it passes, and none before it does; or none passes at all
abbrev pub IsFirst : (Atom → Bool) → Option Atom → Type 0
IsFirst p None = (x : Atom) → p x ≡ false
IsFirst p (Some x) = (p x ≡ true) × ((y : Atom) → is_before y x ≡ true → p y ≡ false)

-- the next atom that the principal owns behind the given one, if there is one
abbrev pub IsNextOwned : History → Principal → Option Atom → Option Atom → Type 0
IsNextOwned h who after next = IsFirst (λ x. is_behind after x && owns h who x) next

abbrev pub same_atom : Atom → Atom → Bool
same_atom (Byte a) (Byte b) = nat_eq a b
same_atom (Call a) (Call b) = nat_eq a b
same_atom (Ref t a) (Ref u b) = nat_eq t u && nat_eq a b
same_atom _ _ = false

-- the atom stands in the list
abbrev pub stands_in : Atom → List Atom → Bool
stands_in x xs = list_any (λ y. same_atom y x) xs

abbrev pub is_call_or_ref : Atom → Bool
is_call_or_ref (Byte b) = false
is_call_or_ref (Call a) = true
is_call_or_ref (Ref t a) = true

-- these are, in order, all atoms behind the given one that pass the test
abbrev pub AreAllBehind : (Atom → Bool) → Option Atom → List Atom → Type 0
AreAllBehind p after [] = IsFirst (λ y. is_behind after y && p y) None
AreAllBehind p after (x ∷ xs) = IsFirst (λ y. is_behind after y && p y) (Some x) × AreAllBehind p (Some x) xs

-- these are, in order, all calls and references that the principal owns
abbrev pub AreCallsAndRefs : History → Principal → List Atom → Type 0
AreCallsAndRefs h who xs = AreAllBehind (λ x. is_call_or_ref x && owns h who x) None xs
