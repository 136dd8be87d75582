-- The bounds on what a strip and the end of loans look at.
use Rattle.std.specs.Prelude.{ℕ, zero, suc, ◌+◌, ◌-◌, ◌*◌, ◌/◌, Bool, false, min, nat_eq, ◌&&◌, ◌||◌, List, [], ◌∷◌, if◌then◌else◌}
use Rattle.lx_caps.specs.declared.Cap.{Cap}
use Rattle.lx_caps.specs.declared.Cap.TheVariants as cap
use Rattle.lx_caps.specs.declared.Atom.{Atom}
use Rattle.lx_caps.specs.declared.Atom.TheVariants as atom
use Rattle.lx_caps.specs.declared.Act.TheVariants.{Grant, Strip, Zero, Loan, Lend, Shut, ShutAll}
use Rattle.lx_caps.specs.History.{History}
use Rattle.lx_cap_lists.specs.declared.entry.Spot.{Spot}
use Rattle.lx_cap_lists.specs.declared.entry.Spot.TheVariants as spot
use Rattle.lx_cap_lists.specs.declared.holder.Holder.{Holder}
use Rattle.lx_cap_lists.specs.declared.holder.Holder.TheVariants.{Keeper, Borrower}
use Rattle.lx_cap_lists.specs.Lists.{some_below}
use Rattle.lx_cap_lists.specs.Loans.{is_on}
use Rattle.lx_cap_lists.specs.Holders.{had, open_count, same_holder}

module _ {P : Type 0} where
  abbrev pub is_among : (P → P → Bool) → P → List P → Bool
  is_among same q [] = false
  is_among same q (p ∷ ps) = same q p || is_among same q ps

  -- these, and one more if it is not among them
  abbrev pub and_one : (P → P → Bool) → P → List P → List P
  and_one same q others = if is_among same q others then others else q ∷ others

  -- how many of these pass
  abbrev pub count_of : (P → Bool) → List P → ℕ
  count_of p [] = 0
  count_of p (q ∷ qs) = if p q then suc (count_of p qs) else count_of p qs

-- who was granted something, and who was lent something on which loan, each once
abbrev pub holders : History → List Holder
holders [] = []
holders (Grant q c ∷ h) = and_one same_holder (Keeper q) (holders h)
holders (Strip c ∷ h) = holders h
holders (Zero at size ∷ h) = holders h
holders (Loan t ∷ h) = holders h
holders (Lend t q c ∷ h) = and_one same_holder (Borrower t (open_count h t - 1) q) (holders h)
holders (Shut t n ∷ h) = holders h
holders (ShutAll t ∷ h) = holders h

-- the holder has the atom: a principal keeps it, or has it on the loan
abbrev pub has_now : History → Atom → Holder → Bool
has_now h x s = had (same_holder s) h x

-- the holder has a byte of the part
abbrev pub has_in_part : History → ℕ → Holder → Bool
has_in_part h part s = some_below 64 (λ k. has_now h (atom.Byte (part * 64 + k)) s)

-- so many parts from one on, and the pairs of a holder and one of these parts where the holder has a byte of the part
abbrev pub parts_and_pairs : History → ℕ → ℕ → ℕ
parts_and_pairs h part zero = 0
parts_and_pairs h part (suc n) = 1 + count_of (has_in_part h part) (holders h) + parts_and_pairs h (part + 1) n

-- the number of touched parts and of pairs of a holder and a touched part; or one, and the holders of the atom
unfoldable pub strip_bound : History → Cap → ℕ
strip_bound h (cap.Write at zero) = 0
strip_bound h (cap.Write at (suc n)) = parts_and_pairs h (at / 64) ((at + n) / 64 + 1 - at / 64)
strip_bound h (cap.Call a) = 1 + count_of (has_now h (atom.Call a)) (holders h)
strip_bound h (cap.Ref t a) = 1 + count_of (has_now h (atom.Ref t a)) (holders h)

abbrev pub same_spot : Spot → Spot → Bool
same_spot (spot.Part p) (spot.Part q) = nat_eq p q
same_spot (spot.Call a) (spot.Call b) = nat_eq a b
same_spot (spot.Ref t a) (spot.Ref u b) = nat_eq t u && nat_eq a b
same_spot _ _ = false

abbrev pub parts_from : ℕ → ℕ → List Spot
parts_from p zero = []
parts_from p (suc n) = spot.Part p ∷ parts_from (p + 1) n

-- the parts that a range touches, or the call or the reference
abbrev pub spots_of : Cap → List Spot
spots_of (cap.Write at zero) = []
spots_of (cap.Write at (suc n)) = parts_from (at / 64) ((at + n) / 64 + 1 - at / 64)
spots_of (cap.Call a) = spot.Call a ∷ []
spots_of (cap.Ref t a) = spot.Ref t a ∷ []

-- a spot, and who has something there on which loan
abbrev pub Pair : Type 0
Pair = Spot × Holder

abbrev pub same_pair : Pair → Pair → Bool
same_pair x y = same_spot x.0 y.0 && same_holder x.1 y.1

-- these pairs, and one more for each of the spots
abbrev pub and_each : List Spot → Holder → List Pair → List Pair
and_each [] s others = others
and_each (p ∷ ps) s others = and_one same_pair (p, s) (and_each ps s others)

-- what was lent to whom on which loan, by spots, each pair once
abbrev pub lent_pairs : History → List Pair
lent_pairs [] = []
lent_pairs (Grant q c ∷ h) = lent_pairs h
lent_pairs (Strip c ∷ h) = lent_pairs h
lent_pairs (Zero at size ∷ h) = lent_pairs h
lent_pairs (Loan t ∷ h) = lent_pairs h
lent_pairs (Lend t q c ∷ h) = and_each (spots_of c) (Borrower t (open_count h t - 1) q) (lent_pairs h)
lent_pairs (Shut t n ∷ h) = lent_pairs h
lent_pairs (ShutAll t ∷ h) = lent_pairs h

-- the holder has something at the spot
abbrev pub has_at : History → Spot → Holder → Bool
has_at h (spot.Part p) s = has_in_part h p s
has_at h (spot.Call a) s = has_now h (atom.Call a) s
has_at h (spot.Ref t a) s = has_now h (atom.Ref t a) s

-- someone has something at the spot on the loan of the thread that has so many older ones
abbrev pub is_lent : History → ℕ → ℕ → Pair → Bool
is_lent h t older x = is_on t older (older + 1) x.1 && has_at h x.0 x.1

-- so many loans of the thread, and the pairs of a borrower and a spot where something is on one of these loans
abbrev pub loans_and_pairs : History → ℕ → ℕ → ℕ → ℕ
loans_and_pairs h t older zero = 0
loans_and_pairs h t older (suc n) = 1 + count_of (is_lent h t older) (lent_pairs h) + loans_and_pairs h t (older + 1) n

-- the number of loans that end, and of triples of such a loan, a borrower, and a part, a call or a reference that was on the loan
unfoldable pub shut_bound : History → ℕ → ℕ → ℕ
shut_bound h t n = loans_and_pairs h t (open_count h t - n) (min n (open_count h t))
