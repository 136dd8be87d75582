-- The names of instances, as they are looked up and given.
use Rattle.std.specs.Prelude.{ℕ, Option, Some, None, ◌∷◌, unwrap_or}
use Rattle.lx_caps.specs.Names.{Namings, named, instance_count, new_instance}

-- how many modules there are, and the names of their instances
pub record Instances : Type 0 where
  pub modules : ℕ
  pub names : Namings

-- the number of the instance with this name, or else of the module's next one
abbrev pub number_named : Namings → ℕ → ℕ → ℕ
number_named names m v = unwrap_or (named names m v) (instance_count names m)

-- the names with those of a new instance, where the value names nobody
abbrev pub with_name : Namings → ℕ → ℕ → Option ℕ → Namings
with_name names m v (Some k) = names
with_name names m v None = new_instance names m v ∷ names

abbrev pub with_instance : Namings → ℕ → ℕ → Namings
with_instance names m v = with_name names m v (named names m v)
