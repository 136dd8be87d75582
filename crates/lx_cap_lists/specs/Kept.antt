-- What holds of every node of a pool.
use Rattle.std.specs.Prelude.{◌≡◌, ℕ, ◌<◌, ◌≤◌, nat_lt, Bool, true, false, not, ◌&&◌, List, [], ◌∷◌, Some, if◌then◌else◌}
use Rattle.std.specs.Int.{bit_at}
use Rattle.lx_cap_nodes.specs.declared.pool.ListName.{ListName}
use Rattle.lx_cap_nodes.specs.declared.pool.ListName.TheVariants.{Place, Owner}
use Rattle.lx_cap_nodes.specs.Pool.{Pool}
use Rattle.lx_cap_nodes.specs.Words.{nodes_of, nodes_at}
use Rattle.lx_cap_lists.specs.declared.holder.Holder.{Holder}
use Rattle.lx_cap_nodes.specs.Bits.{is_set}
use Rattle.lx_cap_lists.specs.declared.entry.Entry.{Entry}
use Rattle.lx_cap_lists.specs.declared.entry.Spot.{Spot}
use Rattle.lx_cap_lists.specs.declared.entry.Spot.TheVariants.{Part}
use Rattle.lx_cap_lists.specs.Entries.{bit_among, with_mask, is_holder}
use Rattle.lx_cap_lists.specs.Loans.{is_on}
use Rattle.lx_cap_lists.specs.Tables.{Key, place_of_spot}
use Rattle.lx_cap_nodes.specs.Pieces.{part_list}

-- the test holds of each node's entry
abbrev pub all_nodes : (Entry → Bool) → List (ℕ × Entry) → Bool
all_nodes p [] = true
all_nodes p (e ∷ es) = p e.1 && all_nodes p es

-- the test holds of each node of each list
unfoldable pub AreAll : (ListName → Entry → Bool) → Pool Entry → Type 0
AreAll p pool = (list : ListName) → all_nodes (p list) (nodes_of list pool) ≡ true

-- the test does not look at masks
unfoldable pub Respects : (ListName → Entry → Bool) → Type 0
Respects p = (list : ListName) (e : Entry) (m : ℕ) → p list (with_mask e m) ≡ p list e

-- the test holds of an entry in both its lists
abbrev pub Fits : (ListName → Entry → Bool) → ℕ → ℕ → Entry → Type 0
Fits p place owner e = (p (Place place) e ≡ true) × (p (Owner owner) e ≡ true)

-- the test holds of what an owner is given at parts
unfoldable pub FitsParts : (ListName → Entry → Bool) → Holder → ℕ → Type 0
FitsParts p to owner = (part l m : ℕ) → part_list part ≡ Some l → Fits p l owner (record { holder = to; spot = Part part; mask = m })

-- the test holds of what an owner is given at spots
unfoldable pub FitsSpots : (ListName → Entry → Bool) → List Key → Holder → ℕ → Type 0
FitsSpots p atoms to owner = (s : Spot) (l m : ℕ) → place_of_spot atoms s ≡ Some l → Fits p l owner (record { holder = to; spot = s; mask = m })

-- how many bits an entry of the list has: a byte each in a part's list, and one in the list of a call or a reference
abbrev pub width_of : ℕ → ℕ
width_of l = if nat_lt l 0xc000 then 64 else 1

-- the mask has a bit below the width, and none from it on
pub record IsMask (width mask : ℕ) : Type 0 where
  pub bit : ℕ
  pub within : bit < width
  pub set : is_set mask bit ≡ true
  pub none : (k : ℕ) → width ≤ k → bit_at mask k ≡ 0

-- the nodes are of different holders, and each has a mask of the width
abbrev pub AreNodes : ℕ → List (ℕ × Entry) → Type 0
AreNodes width [] = Unit {0}
AreNodes width (e ∷ es) = (is_holder e.1.holder es ≡ false) × IsMask width e.1.mask × AreNodes width es

unfoldable pub AllNodes : List (List (ℕ × Entry)) → Type 0
AllNodes lists = (l : ℕ) → AreNodes (width_of l) (nodes_at lists l)

-- no node is of a holder on these loans
unfoldable pub AreEnded : ℕ → ℕ → ℕ → Pool Entry → Type 0
AreEnded t first end pool = AreAll (λ list e. not (is_on t first end e.holder)) pool

-- each list shows what it did of holders that are not on these loans
unfoldable pub StayBut : ℕ → ℕ → ℕ → List (List (ℕ × Entry)) → List (List (ℕ × Entry)) → Type 0
StayBut t first end old new = (among : Holder → Bool) → ((s : Holder) → is_on t first end s ≡ true → among s ≡ false) → (l k : ℕ) → bit_among among (nodes_at new l) k ≡ bit_among among (nodes_at old l) k
