-- Who waits for whom to hold what.
use Rattle.std.specs.Prelude.{ℕ, Bool, ◌&&◌, List, [], ◌∷◌, ◌++◌, nat_eq, if◌then◌else◌}
use Rattle.std.specs.List.{list_any}
use Rattle.lx_surface.specs.declared.Thing.{Thing}
use Rattle.lx_surface.specs.declared.Thing.TheVariants.{RefType, Function}
use Rattle.lx_surface.specs.declared.waits.Waits.{Waits}

-- a module, the one that it waits for, and a number
abbrev pub Triple : Type 0
Triple = ℕ × ℕ × ℕ

abbrev pub is_triple : ℕ → ℕ → ℕ → Triple → Bool
is_triple m k n y = nat_eq m y.0 && nat_eq k y.1 && nat_eq n y.2

abbrev pub has_triple : List Triple → ℕ → ℕ → ℕ → Bool
has_triple xs m k n = list_any (is_triple m k n) xs

-- these, and the triple, which goes last where it is new
abbrev pub with_triple : List Triple → ℕ → ℕ → ℕ → List Triple
with_triple xs m k n = if has_triple xs m k n then xs else xs ++ (m, k, n) ∷ []

abbrev pub has_number : List ℕ → ℕ → Bool
has_number xs m = list_any (nat_eq m) xs

abbrev pub with_number : List ℕ → ℕ → List ℕ
with_number xs m = if has_number xs m then xs else xs ++ m ∷ []

-- the module is given the thing as soon as the other one holds it
abbrev pub waits : Waits → ℕ → ℕ → Thing → Bool
waits w m k (RefType t) = has_triple w.references m k t
waits w m k (Function g) = has_triple w.functions m k g

abbrev pub with_wait : Waits → ℕ → ℕ → Thing → Waits
with_wait w m k (RefType t) = record w { references = with_triple w.references m k t; receivers = with_number w.receivers m }
with_wait w m k (Function g) = record w { functions = with_triple w.functions m k g; receivers = with_number w.receivers m }
