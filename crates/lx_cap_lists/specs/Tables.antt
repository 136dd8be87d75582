-- What the lists of a pool say of atoms.
use Rattle.std.specs.Prelude.{◌≡◌, ℕ, zero, suc, ◌+◌, ◌-◌, ◌/◌, ◌%◌, ◌≤◌, Bool, true, false, nat_eq, ◌&&◌, List, [], ◌∷◌, ◌++◌, length, Option, Some, None, if◌then◌else◌}
use Rattle.std.specs.List.{position_from}
use Rattle.lx_caps.specs.declared.Principal.{Principal}
use Rattle.lx_caps.specs.declared.Atom.{Atom}
use Rattle.lx_caps.specs.declared.Cap.{Cap}
use Rattle.lx_caps.specs.declared.Cap.TheVariants as cap
use Rattle.lx_caps.specs.declared.Atom.TheVariants as atom
use Rattle.lx_caps.specs.History.{History, each_byte}
use Rattle.lx_caps.specs.Regions.{covers}
use Rattle.lx_caps.specs.Precedence.{module_rank, rank_in_module}
use Rattle.lx_cap_nodes.specs.declared.pool.ListName.{ListName}
use Rattle.lx_cap_nodes.specs.declared.pool.ListName.TheVariants as name
use Rattle.lx_cap_nodes.specs.Words.{nodes_at}
use Rattle.lx_cap_lists.specs.declared.entry.Entry.{Entry}
use Rattle.lx_cap_lists.specs.declared.entry.Spot.{Spot}
use Rattle.lx_cap_lists.specs.declared.entry.Spot.TheVariants as spot
use Rattle.lx_cap_lists.specs.declared.holder.Holder.{Holder}
use Rattle.lx_cap_lists.specs.declared.holder.Holder.TheVariants.{Keeper, Borrower}
use Rattle.lx_cap_lists.specs.Entries.{bit_among}
use Rattle.lx_cap_lists.specs.Holders.{had}
use Rattle.lx_cap_lists.specs.Loans.{is_open}
use Rattle.lx_cap_nodes.specs.Pieces.{part_list}

abbrev pub Key : Type 0
Key = ℕ × ℕ

abbrev pub same_key : Key → Key → Bool
same_key x y = nat_eq x.0 y.0 && nat_eq x.1 y.1

-- the keys of loans are those of which the first number is a thread's; threads are below 16
abbrev pub loan_key : ℕ → ℕ → Key
loan_key t older = (t, older)

abbrev pub owner_key : Principal → Key
owner_key p = (module_rank p + 16, rank_in_module p)

-- what a keeper has stands in a list of its own, and what is on a loan in the loan's
abbrev pub holder_key : Holder → Key
holder_key (Keeper q) = owner_key q
holder_key (Borrower t d q) = loan_key t d

abbrev pub call_key : ℕ → Key
call_key a = (0, a)

abbrev pub ref_key : ℕ → ℕ → Key
ref_key t a = (t + 1, a)

-- the place of a key
abbrev pub place_in : List Key → Key → Option ℕ
place_in keys k = position_from (same_key k) 0 keys

-- the list of a call or a reference stands behind those of the parts
abbrev pub behind_parts : Option ℕ → Option ℕ
behind_parts None = None
behind_parts (Some i) = Some (0xc000 + i)

abbrev pub place_of : List Key → Atom → Option ℕ
place_of atoms (atom.Byte b) = part_list (b / 64)
place_of atoms (atom.Call a) = behind_parts (place_in atoms (call_key a))
place_of atoms (atom.Ref t a) = behind_parts (place_in atoms (ref_key t a))

abbrev pub bit_of : Atom → ℕ
bit_of (atom.Byte b) = b % 64
bit_of (atom.Call a) = 0
bit_of (atom.Ref t a) = 0

-- some of these holders has a bit at a place, if there is one
abbrev pub shown_at : List (List (ℕ × Entry)) → Option ℕ → (Holder → Bool) → ℕ → Bool
shown_at places None among k = false
shown_at places (Some l) among k = bit_among among (nodes_at places l) k

-- the lists show exactly who has what, and on what ground
abbrev pub Shows : List (List (ℕ × Entry)) → List Key → History → Type 0
Shows places atoms h = (among : Holder → Bool) (x : Atom) → had among h x ≡ shown_at places (place_of atoms x) among (bit_of x)

-- the place is this one
abbrev pub is_place : Option ℕ → ℕ → Bool
is_place None l = false
is_place (Some k) l = nat_eq k l

abbrev pub place_of_spot : List Key → Spot → Option ℕ
place_of_spot atoms (spot.Part p) = part_list p
place_of_spot atoms (spot.Call a) = behind_parts (place_in atoms (call_key a))
place_of_spot atoms (spot.Ref t a) = behind_parts (place_in atoms (ref_key t a))

-- the entry stands where it belongs, and its loan has not ended
abbrev pub is_in_order : List Key → List Key → List ℕ → ListName → Entry → Bool
is_in_order owners atoms loans (name.Place l) e = is_open loans e.holder && is_place (place_of_spot atoms e.spot) l
is_in_order owners atoms loans (name.Owner o) e = is_open loans e.holder && is_place (place_in owners (holder_key e.holder)) o

-- how many nodes a part has
abbrev pub count_in : List (List (ℕ × Entry)) → Option ℕ → ℕ
count_in places None = 0
count_in places (Some l) = length (nodes_at places l)

-- what it takes to look at so many parts
abbrev pub work_in : List (List (ℕ × Entry)) → ℕ → ℕ → ℕ
work_in places part zero = 0
work_in places part (suc n) = 1 + count_in places (part_list part) + work_in places (part + 1) n

-- what it takes to end so many loans of a thread
abbrev pub loans_work : List (List (ℕ × Entry)) → List Key → ℕ → ℕ → ℕ → ℕ
loans_work lists owners t older zero = 0
loans_work lists owners t older (suc n) = 1 + count_in lists (place_in owners (loan_key t older)) + loans_work lists owners t (older + 1) n

-- the keys with this one
abbrev pub or_with : Option ℕ → List Key → Key → List Key
or_with None keys k = keys ++ k ∷ []
or_with (Some i) keys k = keys

abbrev pub with_key : List Key → Key → List Key
with_key keys k = or_with (place_in keys k) keys k

-- the lists behind those that are in use are empty
abbrev pub AreEmpty : List (List (ℕ × Entry)) → List Key → Type 0
AreEmpty places atoms = (l : ℕ) → 0xc000 + length atoms ≤ l → nodes_at places l ≡ []

-- what it takes to strip a capability
abbrev pub cap_work : List (List (ℕ × Entry)) → List Key → Cap → ℕ
cap_work places atoms (cap.Write at size) = if nat_eq size 0 then 0 else work_in places (at / 64) ((at + size + 63) / 64 - at / 64)
cap_work places atoms (cap.Call a) = 1 + count_in places (behind_parts (place_in atoms (call_key a)))
cap_work places atoms (cap.Ref t a) = 1 + count_in places (behind_parts (place_in atoms (ref_key t a)))

-- whether the test holds of each byte of the range in the part
abbrev pub HoldsPart : (ℕ → Bool) → ℕ → ℕ → ℕ → Bool → Type 0
HoldsPart p at size part true = (b : ℕ) → covers at size b ≡ true → nat_eq part (b / 64) ≡ true → p b ≡ true
HoldsPart p at size part false = (b : ℕ) × (covers at size b ≡ true) × (p b ≡ false)

-- some of these holders has each atom of the capability
abbrev pub shown_cap : List (List (ℕ × Entry)) → List Key → (Holder → Bool) → Cap → Bool
shown_cap places atoms among (cap.Write at size) = each_byte (λ b. shown_at places (part_list (b / 64)) among (b % 64)) at size
shown_cap places atoms among (cap.Call a) = shown_at places (behind_parts (place_in atoms (call_key a))) among 0
shown_cap places atoms among (cap.Ref t a) = shown_at places (behind_parts (place_in atoms (ref_key t a))) among 0
