-- What is kept of the names of instances.
use Rattle.std.specs.Prelude.{◌≡◌, ℕ, ◌<◌, Bool, ◌&&◌, nat_eq, List, map, length, reverse, slice_index}
use Rattle.std.specs.List.{IsDistinct}
use Rattle.std.specs.Map.{keys_of, lookup}
use Rattle.lx_caps.specs.declared.Naming.{Naming}
use Rattle.lx_caps.specs.Names.{Namings, instance_count, first_name}
use Rattle.lx_caps.specs.NameLaws.{IsNumbered}

-- a module and a value or a number, and what is kept of them
abbrev pub Entry : Type 0
Entry = (ℕ × ℕ) × ℕ

abbrev pub same_pair : ℕ × ℕ → ℕ × ℕ → Bool
same_pair x y = nat_eq x.0 y.0 && nat_eq x.1 y.1

-- the act that gave the module's value to an instance
abbrev pub naming : Entry → Naming
naming e = record { «module» = e.0.0; value = e.0.1; instance = e.1 }

-- the acts that gave these names, the oldest of which comes first here
abbrev pub namings : List Entry → Namings
namings es = reverse (map naming es)

-- a table of the names in the order in which they were given, each once; a table of first names; and how many
-- instances each module has; a number of 32 bits counts the modules
pub record IsKept (names firsts : List Entry) (counts : List ℕ) : Type 0 where
  pub few : length counts < 0x100000000
  pub distinct : IsDistinct same_pair (keys_of names)
  pub numbered : IsNumbered (namings names)
  pub counted : (m : ℕ) → m < length counts → slice_index counts m ≡ instance_count (namings names) m
  pub first : (m k : ℕ) → lookup (same_pair (m, k)) firsts ≡ first_name (namings names) m k
