-- The first names of instances, by module and instance.
use Rattle.std.specs.Prelude.{◌≡◌, ℕ, Bool, ◌&&◌, Option, List, nat_eq, find, option_map}
use Rattle.std.specs.Map.{lookup}
use Rattle.lx_model.specs.declared.account.InstanceName.{InstanceName}

abbrev pub Key : Type 0
Key = ℕ × ℕ

abbrev pub same_key : Key → Key → Bool
same_key x y = nat_eq x.0 y.0 && nat_eq x.1 y.1

-- what a map has for an instance of a module
abbrev pub at_key : List (Key × ℕ) → ℕ → ℕ → Option ℕ
at_key table m k = lookup (same_key (m, k)) table

-- it is a name of the module's instance
abbrev pub is_of : ℕ → ℕ → InstanceName → Bool
is_of m k n = nat_eq n.module m && nat_eq n.instance k

-- the map has the value of the first name of each instance
abbrev pub HasGivenNames : List InstanceName → List (Key × ℕ) → Type 0
HasGivenNames names table = (m : ℕ) → (k : ℕ) → at_key table m k ≡ option_map (λ n. n.value) (find (is_of m k) names)
