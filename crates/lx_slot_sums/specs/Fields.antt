-- The sums of the fields that an interface types.
use Rattle.std.specs.Prelude.{◌≡◌, ◌<◌, ◌≤◌, length, slice_index_or, ℕ, Bool, ◌&&◌, Option, Some, List, bytes_eq, nat_eq, position}
use Rattle.std.specs.List.{list_any}
use Rattle.std.specs.Borrow.{Bor}
use Rattle.std.specs.Map.{lookup}
use Rattle.lx_annot.specs.declared.interface.Field.{Field}
use Rattle.lx_annot.specs.declared.interface.Interface.{Interface}
use Rattle.lx_slot_sums.specs.declared.sums.SlotSum.{SlotSum}
use Rattle.lx_slot_sums.specs.Classes.{at_text}
use Rattle.lx_slot_sums.specs.Sums.{sum_by, sum_or_none}

-- the number of a struct's name: the place of the first statement with it
abbrev pub number_among : List Field → List ℕ → Option ℕ
number_among fields name = position (λ f. bytes_eq f.name name) fields

-- the map has the number of each name
unfoldable pub HasNames : List Field → List (Bor (List ℕ) × ℕ) → Type 0
HasNames fields numbers = (name : List ℕ) → at_text numbers name ≡ number_among fields name

-- sums by the number of a struct's name and the number of a field there
abbrev pub Table : Type 0
Table = List ((ℕ × ℕ) × SlotSum)

abbrev pub at_field : Table → ℕ → ℕ → Option SlotSum
at_field table n k = lookup (λ key. nat_eq n key.0 && nat_eq k key.1) table

abbrev pub sum_at : Table → ℕ → ℕ → SlotSum
sum_at table n k = sum_or_none (at_field table n k)

-- these are the numbers of the field
abbrev pub is_key : ℕ → ℕ → ℕ → ℕ → Bool
is_key name index n k = nat_eq name n && nat_eq index k

-- some statement types the field with this slot type
abbrev pub typed_by : List Field → List ℕ → ℕ → ℕ → Bool
typed_by fields name k s = list_any (λ f. bytes_eq name f.name && (nat_eq f.index k && nat_eq f.slot s)) fields

-- the table has the sum of each field of a struct whose name has a number
unfoldable pub HasFields : Interface → Table → Type 0
HasFields i table = (name : List ℕ) → (n k : ℕ) → number_among i.fields name ≡ Some n → sum_at table n k ≡ sum_by i (typed_by i.fields name k)

-- no struct's name has more bytes
unfoldable pub AreShort : List Field → ℕ → Type 0
AreShort fields n = (k : ℕ) → (d : Field) → k < length fields → length (slice_index_or fields k d).name ≤ n
