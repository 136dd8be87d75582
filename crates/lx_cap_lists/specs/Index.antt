-- The table of nodes, by the place and the holder of what stands in them.
use Rattle.std.specs.Prelude.{◌≡◌, ℕ, ◌+◌, Bool, ◌&&◌, false, nat_eq, min, List, [], ◌∷◌, Option, Some, None, if◌then◌else◌}
use Rattle.std.specs.Map.{lookup}
use Rattle.lx_cap_nodes.specs.Pool.{Pool}
use Rattle.lx_cap_nodes.specs.Words.{nodes_at}
use Rattle.lx_cap_lists.specs.declared.entry.Entry.{Entry}
use Rattle.lx_cap_lists.specs.declared.holder.Holder.{Holder}
use Rattle.lx_cap_lists.specs.declared.holder.Holder.TheVariants.{Keeper, Borrower}
use Rattle.lx_cap_lists.specs.Entries.{is_holder}
use Rattle.lx_cap_lists.specs.Holders.{principal_of, same_holder}
use Rattle.lx_cap_lists.specs.Tables.{Key, owner_key, same_key}

-- the number of a place, the ground on which something is had there, and the principal that has it
abbrev pub HolderKey : Type 0
HolderKey = ℕ × (Key × Key)

-- 0 for what is kept, and one more than the thread's number for what is on a loan, beside the loan
abbrev pub ground_of : Holder → Key
ground_of (Keeper q) = (0, 0)
ground_of (Borrower t d q) = (t + 1, d)

abbrev pub key_at : ℕ → Holder → HolderKey
key_at place s = (place, (ground_of s, owner_key (principal_of s)))

abbrev pub same_holder_key : HolderKey → HolderKey → Bool
same_holder_key x y = nat_eq x.0 y.0 && (same_key x.1.0 y.1.0 && same_key x.1.1 y.1.1)

-- the node that the table has at the key
abbrev pub node_at : List (HolderKey × ℕ) → HolderKey → Option ℕ
node_at entries key = lookup (same_holder_key key) entries

-- the same once the key's node is this one, or none
abbrev pub node_once : HolderKey → Option ℕ → List (HolderKey × ℕ) → HolderKey → Option ℕ
node_once key node entries other = if same_holder_key key other then node else node_at entries other

-- the node of the holder in a place's list
abbrev pub node_in : Holder → List (ℕ × Entry) → Option ℕ
node_in q [] = None
node_in q (e ∷ es) = if same_holder q e.1.holder then Some e.0 else node_in q es

-- the nodes are of different holders
abbrev pub AreOfDifferent : List (ℕ × Entry) → Type 0
AreOfDifferent [] = Unit {0}
AreOfDifferent (e ∷ es) = (is_holder e.1.holder es ≡ false) × AreOfDifferent es

-- for each place and each holder the table has the node of the holder in the place's list, and it has no other keys
pub record IsIndexed (places : List (List (ℕ × Entry))) (entries : List (HolderKey × ℕ)) : Type 0 where
  pub finds : (l : ℕ) (q : Holder) → node_at entries (key_at l q) ≡ node_in q (nodes_at places l)
  pub different : (l : ℕ) → AreOfDifferent (nodes_at places l)
  pub only : (key : HolderKey) (n : ℕ) → node_at entries key ≡ Some n → (l : ℕ) × (q : Holder) × (key ≡ key_at l q)

-- what a pool of nodes shows beside a table with so much room
abbrev pub shown : Pool Entry → ℕ → Pool Entry
shown nodes room = record { places = nodes.places; owners = nodes.owners; spare = min nodes.spare room }
