-- What is so of the bound at each turn while it is made.
use Rattle.std.specs.Prelude.{◌≡◌, ℕ, ◌<◌, ◌≤◌, Bool, true, Option, Some, None, length, slice_get, ⊤}
use Rattle.lx_model.specs.declared.program.Program.{Program}
use Rattle.lx_surface.specs.declared.Thing.{Thing}
use Rattle.lx_surface.specs.declared.Thing.TheVariants.{RefType, Function}
use Rattle.lx_surface.specs.Reach.{Can}
use Rattle.lx_surface.specs.declared.limits.Bound.{Bound}
use Rattle.lx_surface.specs.declared.work.Work.{Work}
use Rattle.lx_surface.specs.Bound.{allows}
use Rattle.lx_surface.specs.Marks.{has_mark}
use Rattle.lx_surface.specs.Naming.{whole_names}
use Rattle.lx_surface.specs.Waits.{has_number, waits}
use Rattle.lx_surface.specs.Work.{is_given}

-- modules can come to hold all that is allowed
abbrev pub IsSound : Program → Bound → Type 0
IsSound p b = (m : ℕ) (x : Thing) → allows b m x ≡ true → Can p m x

-- the pair has had its turn: it stands among the first `i` of the functions, or the first `j` of the references
abbrev pub IsDone : ℕ → ℕ → Bound → ℕ → Thing → Type 0
IsDone i j b k (Function g) = (n : ℕ) × (n < i) × (slice_get b.functions n ≡ Some (k, g))
IsDone i j b k (RefType t) = (n : ℕ) × (n < j) × (slice_get b.references n ≡ Some (k, t))

pub record IsRight (p : Program) (i j : ℕ) (w : Work) : Type 0 where
  -- so many pairs there are
  pub functions_within : i ≤ length w.bound.functions
  pub references_within : j ≤ length w.bound.references
  pub sound : IsSound p w.bound
  -- who waits for a thing can come to hold it where the other one can
  pub waits_soundly : (m k : ℕ) (x : Thing) → waits w.waits m k x ≡ true → Can p k x → Can p m x
  -- who waits is known
  pub known : (m k : ℕ) (x : Thing) → waits w.waits m k x ≡ true → has_number w.waits.receivers m ≡ true
  -- what was given whole is given
  pub whole : (m : ℕ) (from l : Option ℕ) (x : Thing) → has_mark w.marks m from l ≡ true → whole_names p l x ≡ true → is_given w m from x ≡ true
  -- what had its turn went to all who wait for it
  pub passed_on : (k : ℕ) (x : Thing) (m : ℕ) → IsDone i j w.bound k x → waits w.waits m k x ≡ true → allows w.bound m x ≡ true

-- from nobody everything can come
abbrev pub CanFrom : Program → Option ℕ → Thing → Type 0
CanFrom p None x = ⊤
CanFrom p (Some k) x = Can p k x

-- the module can come to hold what is named and can come from there
abbrev pub May : Program → ℕ → Option ℕ → (Thing → Bool) → Type 0
May p m from names = (x : Thing) → names x ≡ true → CanFrom p from x → Can p m x
