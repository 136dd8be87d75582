-- The family of a list, and numbers below a bound.
use Rattle.std.specs.Prelude.{ℕ, zero, suc, Bool, false, ◌||◌}
use Rattle.lx_cap_nodes.specs.declared.pool.Family.{Family}
use Rattle.lx_cap_nodes.specs.declared.pool.Family.TheVariants as family
use Rattle.lx_cap_nodes.specs.declared.pool.ListName.{ListName}
use Rattle.lx_cap_nodes.specs.declared.pool.ListName.TheVariants as name

abbrev pub family_of : ListName → Family
family_of (name.Place l) = family.Place
family_of (name.Owner l) = family.Owner

-- the test holds of some number below the bound
unfoldable pub some_below : ℕ → (ℕ → Bool) → Bool
some_below zero p = false
some_below (suc n) p = p n || some_below n p
