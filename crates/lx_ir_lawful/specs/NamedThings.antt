-- Things with names, in order.
use Rattle.std.specs.Prelude.{◌≡◌, ℕ, Bool, Option, Some, None, List, [], ◌∷◌, length, map, slice_get, is_some}
use Rattle.std.specs.List.{list_all}
use Rattle.lx_ir_tokens.specs.Names.{number_of}
use Rattle.lx_ir_tables.specs.Numbering.{Numbering, numbering}

-- the numbers that there are
abbrev pub somes : List (Option ℕ) → List ℕ
somes [] = []
somes (None ∷ xs) = somes xs
somes (Some n ∷ xs) = n ∷ somes xs

-- the numbers of names, where they have any
abbrev pub numbers_of : List (List ℕ) → List (List ℕ) → List ℕ
numbers_of names said = somes (map (number_of names) said)

-- the names are in the table
abbrev pub has_numbers : List (List ℕ) → List (List ℕ) → Bool
has_numbers names said = list_all (λ v. is_some (number_of names v)) said

-- things with these names
abbrev pub named_things : List (List ℕ) → List (List ℕ) → Numbering
named_things names said = numbering (length names) (map (number_of names) said)

-- a name stands at one place of the table
abbrev pub AreOnce : List (List ℕ) → Type 0
AreOnce names = (i j : ℕ) (name : List ℕ) → slice_get names i ≡ Some name → slice_get names j ≡ Some name → i ≡ j
