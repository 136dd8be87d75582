-- Lists of numbers of names, each once.
use Rattle.std.specs.Prelude.{ℕ, Bool, false, Option, Some, None, List, [], ◌∷◌, ◌++◌, nat_eq, if◌then◌else◌}
use Rattle.std.specs.List.{list_any}

-- a number stands in the list
abbrev pub has_number : List ℕ → ℕ → Bool
has_number numbers n = list_any (nat_eq n) numbers

-- a number that the list lacks goes to its end
abbrev pub with_number : List ℕ → ℕ → List ℕ
with_number numbers n = if has_number numbers n then numbers else numbers ++ n ∷ []

-- there is a number, and it stands in the list
abbrev pub has_some : List ℕ → Option ℕ → Bool
has_some numbers None = false
has_some numbers (Some n) = has_number numbers n

-- the list with a number, where there is one
abbrev pub with_some : List ℕ → Option ℕ → List ℕ
with_some numbers None = numbers
with_some numbers (Some n) = with_number numbers n
