-- What holds of the nodes of each list.
use Rattle.std.specs.Prelude.{◌≡◌, ℕ, ◌<◌, ◌≤◌, min, Bool, true, false, ◌&&◌, ◌||◌, nat_eq, List, [], ◌∷◌, length, if◌then◌else◌}
use Rattle.std.specs.List.{list_any}
use Rattle.lx_caps.specs.declared.Principal.{Principal}
use Rattle.lx_caps.specs.History.{same_principal}
use Rattle.lx_cap_nodes.specs.Pool.{Pool}
use Rattle.lx_cap_nodes.specs.Words.{nodes_at}
use Rattle.lx_writer_sets.specs.Bits.{is_marked}
use Rattle.lx_cap_nodes.specs.Bits.{is_set}
use Rattle.lx_writer_sets.specs.Index.{Key, AreIndexed}
use Rattle.lx_writer_sets.specs.declared.entry.Entry.{Entry}

-- some node is of the writer
abbrev pub has_writer : Principal → List (ℕ × Entry) → Bool
has_writer q es = list_any (λ e. same_principal q e.1.writer) es

abbrev pub with_mask : Entry → ℕ → Entry
with_mask e m = record { writer = e.writer; mask = m }

-- a node with another mask before others; with none, the others alone
abbrev pub put_node : ℕ → ℕ × Entry → List (ℕ × Entry) → List (ℕ × Entry)
put_node mask e es = if nat_eq mask 0 then es else ((e.0, with_mask e.1 mask) ∷ es)

-- some bit of the mask is set
pub record HasBit (mask : ℕ) : Type 0 where
  pub bit : ℕ
  pub within : bit < 64
  pub set : is_set mask bit ≡ true

-- the nodes are of different writers, and each has a byte
abbrev pub AreNodes : List (ℕ × Entry) → Type 0
AreNodes [] = Unit {0}
AreNodes (e ∷ es) = (has_writer e.1.writer es ≡ false) × HasBit e.1.mask × AreNodes es

unfoldable pub AllNodes : List (List (ℕ × Entry)) → Type 0
AllNodes lists = (l : ℕ) → AreNodes (nodes_at lists l)

abbrev pub has_nodes : List (ℕ × Entry) → Bool
has_nodes [] = false
has_nodes (e ∷ es) = true

-- the bit of a list is set exactly where the list has a node
unfoldable pub AreMarked : List ℕ → List (List (ℕ × Entry)) → Type 0
AreMarked words lists = (l : ℕ) → is_marked words l ≡ has_nodes (nodes_at lists l)

-- what contracts see of the lists of parts
pub record Parts : Type 0 where
  pub lists : List (List (ℕ × Entry))
  -- how many words of bits there are
  pub words : ℕ
  -- how many more nodes there is room for, each with its key in the table
  pub spare : ℕ

-- each part of memory has its list and its bit
abbrev pub is_ready : Parts → Bool
is_ready p = nat_eq (length p.lists) 0xc000 && nat_eq p.words 768

-- where room was promised, each part of memory has its list and its bit
abbrev pub is_made : ℕ → Parts → Bool
is_made promised p = nat_eq promised 0 || is_ready p

abbrev pub shown : Pool Entry → List ℕ → ℕ → Parts
shown pool words keys = record { lists = pool.places; words = length words; spare = min pool.spare keys }

pub record IsSound (pool : Pool Entry) (words : List ℕ) (count : ℕ) (entries : List (Key × ℕ)) : Type 0 where
  pub counted : length pool.places ≡ count
  pub few : count ≤ 0xc000
  pub few_words : length words ≤ 768
  pub owned : 0 < count → 0 < length pool.owners
  pub marked : AreMarked words pool.places
  pub nodes : AllNodes pool.places
  pub indexed : AreIndexed entries pool.places
