-- Principals in order: the kernel, then for each module its shared principal, its global one, and its instances by number.
use Rattle.std.specs.Prelude.{◌≡◌, ℕ, ◌+◌, Bool, true, false, ◌&&◌, ◌||◌, nat_eq, nat_lt, Option, Some, None}
use Rattle.lx_caps.specs.declared.Principal.{Principal}
use Rattle.lx_caps.specs.declared.Principal.TheVariants.{Kernel, Shared, Global, Inst}
use Rattle.lx_caps.specs.declared.Atom.{Atom}
use Rattle.lx_caps.specs.History.{History, owns, same_principal}

-- 0 for the kernel, and one more than the module's number for a module's principal
abbrev pub module_rank : Principal → ℕ
module_rank Kernel = 0
module_rank (Shared m) = m + 1
module_rank (Global m) = m + 1
module_rank (Inst m k) = m + 1

-- the place among a module's principals
abbrev pub rank_in_module : Principal → ℕ
rank_in_module Kernel = 0
rank_in_module (Shared m) = 0
rank_in_module (Global m) = 1
rank_in_module (Inst m k) = k + 2

-- the first principal comes before the second one
abbrev pub precedes : Principal → Principal → Bool
precedes p q =
    nat_lt (module_rank p) (module_rank q) || (nat_eq (module_rank p) (module_rank q) && nat_lt (rank_in_module p) (rank_in_module q))

-- the principal comes behind the given one, if one is given
abbrev pub follows : Option Principal → Principal → Bool
follows None q = true
follows (Some p) q = precedes p q

-- the principal is the one found, if one is found
abbrev pub is_found : Option Principal → Principal → Bool
is_found None q = false
is_found (Some w) q = same_principal q w

-- the first principal that passes the test: it passes, and none before it does; or none passes at all
abbrev pub IsFirstPrincipal : (Principal → Bool) → Option Principal → Type 0
IsFirstPrincipal p None = (q : Principal) → p q ≡ false
IsFirstPrincipal p (Some w) = (p w ≡ true) × ((q : Principal) → precedes q w ≡ true → p q ≡ false)

-- the next owner of the atom behind the given principal, if there is one
abbrev pub IsNextOwner : History → Atom → Option Principal → Option Principal → Type 0
IsNextOwner h x after next = IsFirstPrincipal (λ q. follows after q && owns h q x) next
