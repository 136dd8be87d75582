-- The lines of all places.
use Rattle.std.specs.Prelude.{◌≡◌, ◌≢◌, ℕ, ◌+◌, ◌/◌, ◌%◌, ◌^◌, ◌<◌, ◌≤◌, Bool, true, false, nat_eq, Option, Some, None, List, [], length, ◌⊎◌, slice_index_or}
use Rattle.lx_caps.specs.declared.Atom.{Atom}
use Rattle.lx_caps.specs.Loans.{none_end}
use Rattle.lx_caps.specs.Regions.{covers}
use Rattle.lx_cap_nodes.specs.Bits.{is_set}
use Rattle.lx_cap_lists.specs.Tables.{Key, same_key, behind_parts, place_in, place_of}
use Rattle.lx_cap_nodes.specs.Pieces.{part_list}
use Rattle.lx_act_index.specs.declared.lines.Entry.{Entry}
use Rattle.lx_act_index.specs.declared.table.Saying.{Saying}
use Rattle.lx_act_index.specs.declared.table.Range.{Range}
use Rattle.lx_act_index.specs.declared.table.Table.{Table}
use Rattle.lx_act_index.specs.declared.threads.Thread.{Thread}
use Rattle.lx_act_index.specs.Lines.{line_with}
use Rattle.lx_act_index.specs.Threads.{is_open}

-- the line with this number
abbrev pub line_at : List (List Entry) → ℕ → List Entry
line_at lines l = slice_index_or lines l []

-- the line of a place, if there is one
abbrev pub shown : List (List Entry) → Option ℕ → List Entry
shown lines None = []
shown lines (Some l) = line_at lines l

-- the line of an atom
abbrev pub line_of : Table → Atom → List Entry
line_of t x = shown t.lines.items (place_of t.atoms.keys x)

-- a line for each part, and for each call and reference that has a key
abbrev pub IsTable : Table → Type 0
IsTable t = length t.lines.items ≡ 0xc000 + length t.atoms.keys

-- an entry of what the act says
abbrev pub entry_of : Saying → ℕ → Entry
entry_of s mask = record { said = s.said; act = s.act; mask = mask }

-- what an act says of an atom, which it touches or not, is noted in the atom's line
abbrev pub IsNoted : List Thread → Saying → Bool → ℕ → List Entry → List Entry → Type 0
IsNoted threads s touched k old new =
    ((touched ≡ false) × (new ≡ old))
    ⊎ ((mask : ℕ) × (mask < 2 ^ 64) × (is_set mask k ≡ touched) × (new ≡ line_with (is_open none_end threads) (entry_of s mask) old))

-- the line is that of the part with an entry more, which has the bits of the range
abbrev pub IsFresh : List Thread → Saying → Range → List (List Entry) → ℕ → List Entry → Type 0
IsFresh threads s r lines part line =
    (l : ℕ) → part_list part ≡ Some l
    → (mask : ℕ) × (mask < 2 ^ 64) × ((b : ℕ) → nat_eq part (b / 64) ≡ true → is_set mask (b % 64) ≡ covers r.at r.size b) × (line ≡ line_with (is_open none_end threads) (entry_of s mask) (line_at lines l))

-- the lines are those of the parts of the range before this one
pub record AreFresh (threads : List Thread) (s : Saying) (r : Range) (lines fresh : List (List Entry)) (end : ℕ) : Type 0 where
  pub count : r.at / 64 + length fresh ≡ end
  pub each : (j : ℕ) → j < length fresh → IsFresh threads s r lines (r.at / 64 + j) (line_at fresh j)

-- of the lines, those from a number on stand in the places of the parts that begin with the first
pub record ArePut (first from : ℕ) (fresh old new : List (List Entry)) : Type 0 where
  pub put : (j l : ℕ) → from ≤ j → j < length fresh → part_list (first + j) ≡ Some l → line_at new l ≡ line_at fresh j
  pub others : (l : ℕ) → ((j : ℕ) → from ≤ j → j < length fresh → part_list (first + j) ≢ Some l) → line_at new l ≡ line_at old l
  pub count : length new ≡ length old

-- the line of a key
abbrev pub key_line : Table → Key → List Entry
key_line t k = shown t.lines.items (behind_parts (place_in t.atoms.keys k))

-- a table may have got an empty line
pub record HasGrown (old new : Table) : Type 0 where
  pub table : IsTable new
  pub bytes : (p : ℕ) → shown new.lines.items (part_list p) ≡ shown old.lines.items (part_list p)
  pub keys : (k : Key) → key_line new k ≡ key_line old k

-- what an act says is noted in the line of a key alone
pub record NotedFrom (threads : List Thread) (s : Saying) (k : Key) (old new : Table) : Type 0 where
  pub bytes : (p : ℕ) → shown new.lines.items (part_list p) ≡ shown old.lines.items (part_list p)
  pub here : key_line new k ≡ line_with (is_open none_end threads) (entry_of s 1) (key_line old k)
  pub others : (j : Key) → same_key k j ≡ false → key_line new j ≡ key_line old j
