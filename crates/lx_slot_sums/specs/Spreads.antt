-- Spreads of types: where fields begin in a type, by their sums.
use Rattle.std.specs.Prelude.{◌≡◌, ◌<◌, ◌≤◌, ◌-◌, ◌++◌, [], ◌/◌, ◌%◌, ℕ, Bool, true, false, ◌&&◌, Option, Some, None, List, nat_eq, nat_le, nat_lt, slice_get, take, if◌then◌else◌}
use Rattle.lx_slot_types.specs.Sites.{FieldName, field_here}
use Rattle.lx_slot_sums.specs.declared.rows.Edge.{Edge}
use Rattle.lx_slot_sums.specs.declared.making.Laid.{Laid}
use Rattle.lx_slot_sums.specs.declared.spread.Repeated.{Repeated}
use Rattle.lx_slot_sums.specs.declared.spread.Said.{Said}
use Rattle.lx_slot_sums.specs.declared.spread.Said.TheVariants.{Sum, Inside}
use Rattle.lx_slot_sums.specs.declared.spread.Spread.{Spread}
use Rattle.lx_slot_sums.specs.declared.spread.Spread.TheVariants.{Row, Repeat}
use Rattle.lx_slot_sums.specs.declared.sums.SlotSum.{SlotSum}
use Rattle.lx_slot_sums.specs.Rows.{AreRising, Edges, edge_at, whole}
use Rattle.lx_slot_sums.specs.Sums.{Typing, no_sum, sum_in}

abbrev pub SumRow : Type 0
SumRow = SlotSum

-- what a struct says of an offset: at an edge its sum, and behind it what the field there says
abbrev pub said_behind : Option Edge → ℕ → Said
said_behind None o = Sum no_sum
said_behind (Some e) o = if nat_eq e.offset o then Sum e.sum else Inside e.inside (o - e.offset)

abbrev pub said_in_row : List Edge → ℕ → Said
said_in_row es o = said_behind (edge_at es o) o

-- the sum where an element begins, or ends, or both
abbrev pub touching : Repeated → Bool → Bool → SlotSum
touching r true true = r.between
touching r true false = r.begin
touching r false true = r.end
touching r false false = no_sum

-- an element of so many bytes ends at an offset
abbrev pub ends_element : ℕ → ℕ → ℕ → Bool
ends_element size n o = nat_lt 0 o && (nat_eq (o % size) 0 && nat_le (o / size) n)

-- what an array says of an offset
abbrev pub said_in_repeat : Repeated → ℕ → Said
said_in_repeat r o =
    if nat_eq (o % r.size) 0
    then Sum (touching r (nat_lt (o / r.size) r.count) (ends_element r.size r.count o))
    else (if nat_lt (o / r.size) r.count then Inside r.inside (o % r.size) else Sum no_sum)

abbrev pub said : Spread → ℕ → Said
said (Row es) o = said_in_row es.items o
said (Repeat r) o = said_in_repeat r o

-- edges stand in order, and elements have bytes
abbrev pub IsOrdered : Spread → Type 0
IsOrdered (Row es) = AreRising es.items
IsOrdered (Repeat r) = 0 < r.size

-- the spreads give the sum for an offset of a type's spread; no spread stands for a type where no fields begin
pub data Answers : List Spread → Option ℕ → ℕ → SlotSum → Type 0 where
  nothing : (xs : List Spread) (o : ℕ) → Answers xs None o no_sum
  told : (xs : List Spread) (k o : ℕ) (x : Spread) (s : SlotSum) → slice_get xs k ≡ Some x → IsOrdered x → said x o ≡ Sum s → Answers xs (Some k) o s
  inside : (xs : List Spread) (k o : ℕ) (x : Spread) (inner : Option ℕ) (rest : ℕ) (s : SlotSum) → slice_get xs k ≡ Some x → IsOrdered x → said x o ≡ Inside inner rest → Answers (take k xs) inner rest s → Answers xs (Some k) o s

-- they give some sum
pub record HasAnswer (xs : List Spread) (spread : Option ℕ) (o : ℕ) : Type 0 where
  pub sum : SlotSum
  pub is : Answers xs spread o sum

-- at each offset they give the sum of the fields that begin there
unfoldable pub IsSpread : Typing → List Spread → Option ℕ → (ℕ → List FieldName) → Type 0
IsSpread t xs spread fields = (o : ℕ) → Answers xs spread o (sum_in t (fields o))

-- what the first spreads give, the second ones do too
unfoldable pub Keeps : List Spread → List Spread → Type 0
Keeps xs ys = (spread : Option ℕ) → (o : ℕ) → (s : SlotSum) → Answers xs spread o s → Answers ys spread o s

-- what is said of an offset comes to this sum: at once, or by the spread of a part
abbrev pub Follows : List Spread → Said → SlotSum → Type 0
Follows xs (Sum r) s = r ≡ s
Follows xs (Inside inner rest) s = Answers xs inner rest s

-- the edges so far say where fields begin
pub record IsRow (t : Typing) (xs : List Spread) (r : Edges) (fields : ℕ → List FieldName) : Type 0 where
  pub rising : AreRising (whole r)
  pub unspread : r.last.inside ≡ None
  pub before : (o : ℕ) → o < r.last.offset → Follows xs (said_in_row r.done o) (sum_in t (fields o))
  pub here : r.last.sum ≡ sum_in t (fields r.last.offset)
  pub past : (o : ℕ) → r.last.offset < o → no_sum ≡ sum_in t (fields o)

-- the fields, with a field that begins at `start`
abbrev pub with_field : (ℕ → List FieldName) → List FieldName → (ℕ → List FieldName) → ℕ → ℕ → ℕ → List FieldName
with_field fields names within start size o = (fields o ++ (if nat_eq o start then names else [])) ++ field_here [] within start size o

-- a field with this spread, between these offsets
abbrev pub laid : ℕ → ℕ → Option ℕ → Laid
laid start end spread = record { start = start; end = end; inside = spread }

-- the edges so far say where fields begin, and none is past this offset
pub record PutRow (t : Typing) (xs : List Spread) (r : Edges) (end : ℕ) (fields : ℕ → List FieldName) : Type 0 where
  pub row : IsRow t xs r fields
  pub reach : r.last.offset ≤ end

-- a field is put behind the others
unfoldable pub Puts : Typing → List Spread → Edges → Edges → SlotSum → Laid → Type 0
Puts t xs old new named field =
    (fields within : ℕ → List FieldName) → (names : List FieldName) → IsRow t xs old fields → IsSpread t xs field.inside within → named ≡ sum_in t names → old.last.offset ≤ field.start
    → PutRow t xs new field.end (with_field fields names within field.start (field.end - field.start))

-- a spread says of each offset where its fields begin
pub record Says (t : Typing) (xs : List Spread) (x : Spread) (fields : ℕ → List FieldName) : Type 0 where
  pub ordered : IsOrdered x
  pub right : (o : ℕ) → Follows xs (said x o) (sum_in t (fields o))

-- edges say of each offset where the fields begin
pub record SaysRow (t : Typing) (xs : List Spread) (es : List Edge) (fields : ℕ → List FieldName) : Type 0 where
  pub rising : AreRising es
  pub right : (o : ℕ) → Follows xs (said_in_row es o) (sum_in t (fields o))

-- what is kept of an array: its elements, and the sums where they begin and end
pub record IsRepeated (t : Typing) (r : Repeated) (fields : ℕ → List FieldName) (size count : ℕ) (inside : Option ℕ) : Type 0 where
  pub size_is : r.size ≡ size
  pub count_is : r.count ≡ count
  pub inside_is : r.inside ≡ inside
  pub begin_is : r.begin ≡ sum_in t (fields 0)
  pub end_is : r.end ≡ sum_in t (fields size)
  pub between_is : r.between ≡ sum_in t (fields 0 ++ fields size)
