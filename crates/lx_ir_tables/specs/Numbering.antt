-- Things with names, numbered in order. A name is its number in a table of names.
use Rattle.std.specs.Prelude.{ℕ, zero, suc, Bool, true, false, ◌&&◌, Option, Some, None, List, [], ◌∷◌, ◌++◌, length, nat_eq, nat_lt, is_none, slice_get, slice_set, if◌then◌else◌}
use Rattle.lx_ir.specs.declared.module.Symbol.{Symbol}
use Rattle.lx_ir.specs.declared.module.Symbol.TheVariants.{Function, Global}

-- the things in order, each by its name, if that is in the table of names, and how many names there are
pub record Numbering : Type 0 where
  pub count : ℕ
  pub things : List (Option ℕ)

abbrev pub numbering : ℕ → List (Option ℕ) → Numbering
numbering count things = record { count = count; things = things }

abbrev pub has_name : ℕ → Option ℕ → Bool
has_name n None = false
has_name n (Some m) = nat_eq m n

-- the number of the first thing with this name, where the things are numbered from k on
abbrev pub number_from : ℕ → List (Option ℕ) → ℕ → Option ℕ
number_from k [] n = None
number_from k (x ∷ xs) n = if has_name n x then Some k else number_from (suc k) xs n

-- the number of the thing with this name
abbrev pub number_named : List (Option ℕ) → ℕ → Option ℕ
number_named things n = number_from 0 things n

-- the numbers that so many names have, from one name on
abbrev pub numbers_from : ℕ → ℕ → List (Option ℕ) → List (Option ℕ)
numbers_from n zero things = []
numbers_from n (suc count) things = number_named things n ∷ numbers_from (suc n) count things

-- for each name the number of the thing that it names
abbrev pub table_of : Numbering → List (Option ℕ)
table_of t = numbers_from 0 t.count t.things

-- a thing more
abbrev pub with_thing : Numbering → Option ℕ → Numbering
with_thing t name = numbering t.count (t.things ++ name ∷ [])

-- a name of the table that names nothing yet
abbrev pub is_new : Numbering → ℕ → Bool
is_new t n = nat_lt n t.count && is_none (number_named t.things n)

-- The steps on a table.

-- an entry that names nothing
abbrev pub is_free : Option (Option ℕ) → Bool
is_free (Some None) = true
is_free _ = false

abbrev pub set_none : Option (Option ℕ) → List (Option ℕ) → ℕ → ℕ → List (Option ℕ)
set_none (Some None) table n k = slice_set table n (Some k)
set_none _ table n k = table

-- a table with the number of a thing more, where its name names nothing yet
abbrev pub noted : List (Option ℕ) → Option ℕ → ℕ → List (Option ℕ)
noted table None k = table
noted table (Some n) k = set_none (slice_get table n) table n k

abbrev pub clear_same : Option (Option ℕ) → List (Option ℕ) → ℕ → ℕ → List (Option ℕ)
clear_same (Some (Some j)) table n k = if nat_eq j k then slice_set table n None else table
clear_same _ table n k = table

-- a table without the number of the last thing
abbrev pub forgotten : List (Option ℕ) → Option ℕ → ℕ → List (Option ℕ)
forgotten table None k = table
forgotten table (Some n) k = clear_same (slice_get table n) table n k

-- Functions and globals.

abbrev pub symbol_by : Option ℕ → Option ℕ → Option Symbol
symbol_by (Some k) f = Some (Global k)
symbol_by None (Some k) = Some (Function k)
symbol_by None None = None

-- what each name names, by the tables of the globals and of the functions
abbrev pub symbols_by : List (Option ℕ) → List (Option ℕ) → List (Option Symbol)
symbols_by (g ∷ gs) (f ∷ fs) = symbol_by g f ∷ symbols_by gs fs
symbols_by _ _ = []

-- the table in which each name stands for its own number
abbrev pub own_numbers : ℕ → ℕ → List (Option ℕ)
own_numbers n zero = []
own_numbers n (suc count) = Some n ∷ own_numbers (suc n) count
