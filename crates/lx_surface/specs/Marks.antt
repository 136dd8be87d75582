-- What was given whole.
use Rattle.std.specs.Prelude.{ℕ, Bool, ◌&&◌, Option, List, [], ◌∷◌, ◌++◌, nat_eq, if◌then◌else◌}
use Rattle.std.specs.List.{list_any}
use Rattle.std.specs.Option.{option_eq}

-- the module, from whom it comes, and the iterator, or none for every defined function
abbrev pub Mark : Type 0
Mark = ℕ × Option ℕ × Option ℕ

abbrev pub is_mark : ℕ → Option ℕ → Option ℕ → Mark → Bool
is_mark m from l y = nat_eq m y.0 && option_eq nat_eq from y.1 && option_eq nat_eq l y.2

abbrev pub has_mark : List Mark → ℕ → Option ℕ → Option ℕ → Bool
has_mark xs m from l = list_any (is_mark m from l) xs

-- these, and the mark, which goes last where it is new
abbrev pub with_mark : List Mark → ℕ → Option ℕ → Option ℕ → List Mark
with_mark xs m from l = if has_mark xs m from l then xs else xs ++ (m, from, l) ∷ []
