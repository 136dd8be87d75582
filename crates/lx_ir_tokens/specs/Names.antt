-- Tables of names. The number of a name is its place.
use Rattle.std.specs.Prelude.{ℕ, List, [], ◌∷◌, ◌++◌, Option, position, bytes_eq, is_some, if◌then◌else◌}

-- the number that a name has in a table
abbrev pub number_of : List (List ℕ) → List ℕ → Option ℕ
number_of names name = position (bytes_eq name) names

-- a name that the table lacks goes to its end
abbrev pub with_name : List (List ℕ) → List ℕ → List (List ℕ)
with_name names name = if is_some (number_of names name) then names else names ++ name ∷ []
