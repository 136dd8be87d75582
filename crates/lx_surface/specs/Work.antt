-- The bound while it is made.
use Rattle.std.specs.Prelude.{◌≡◌, ℕ, Bool, true, Option, Some, None, List, [], ◌++◌, slice_get, if◌then◌else◌}
use Rattle.lx_surface.specs.declared.Thing.{Thing}
use Rattle.lx_surface.specs.declared.limits.Bound.{Bound}
use Rattle.lx_surface.specs.declared.work.Work.{Work}
use Rattle.lx_surface.specs.Bound.{allows, with_thing}
use Rattle.lx_surface.specs.Pairs.{Pair}
use Rattle.lx_surface.specs.Waits.{waits, with_wait}

-- nothing is held, nobody waits, and nothing was given
pub record IsEmpty (w : Work) : Type 0 where
  pub references : w.bound.references ≡ []
  pub functions : w.bound.functions ≡ []
  pub waiting_references : w.waits.references ≡ []
  pub waiting_functions : w.waits.functions ≡ []
  pub marks : w.marks ≡ []

-- the module holds what comes from nobody of whom it is asked, and waits for what comes from a module
abbrev pub is_given : Work → ℕ → Option ℕ → Thing → Bool
is_given w m None x = allows w.bound m x
is_given w m (Some k) x = waits w.waits m k x

-- the module waits for the other one to hold the thing, and has it where that one does
abbrev pub given_from : Work → ℕ → ℕ → Thing → Work
given_from w m k x = record w {
  bound = if allows w.bound k x then with_thing w.bound m x else w.bound;
  waits = with_wait w.waits m k x;
}

abbrev pub given : Work → ℕ → Option ℕ → Thing → Work
given w m None x = record w { bound = with_thing w.bound m x }
given w m (Some k) x = given_from w m k x

-- the pairs came behind those that were there
abbrev pub IsLonger : List Pair → List Pair → Type 0
IsLonger old new = (more : List Pair) × (new ≡ old ++ more)

pub record Extends (old new : Bound) : Type 0 where
  pub references : IsLonger old.references new.references
  pub functions : IsLonger old.functions new.functions

-- whoever held a thing holds it, and whoever waited waits
pub record Grows (old new : Work) : Type 0 where
  pub bound : Extends old.bound new.bound
  pub waiting : (m k : ℕ) (x : Thing) → waits old.waits m k x ≡ true → waits new.waits m k x ≡ true
