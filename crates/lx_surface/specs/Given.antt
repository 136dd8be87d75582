-- What a module is given of things that are named.
use Rattle.std.specs.Prelude.{◌≡◌, ℕ, Bool, true, false, Option, Some, None, length}
use Rattle.lx_model.specs.declared.program.Program.{Program}
use Rattle.lx_model.specs.Program.{Home, home_of}
use Rattle.lx_surface.specs.declared.Thing.{Thing}
use Rattle.lx_surface.specs.declared.Thing.TheVariants.{RefType, Function}
use Rattle.lx_surface.specs.Names.{gives_behind}
use Rattle.lx_surface.specs.Reach.{Can}
use Rattle.lx_surface.specs.declared.limits.Bound.{Bound}
use Rattle.lx_surface.specs.declared.work.Work.{Work}
use Rattle.lx_surface.specs.Bound.{allows}
use Rattle.lx_surface.specs.Right.{IsRight, IsSound, May}
use Rattle.lx_surface.specs.Waits.{has_number, waits}
use Rattle.lx_surface.specs.Work.{Grows, is_given}

-- a module was given the things that are named, from there
pub record Gave (p : Program) (old new : Work) (m : ℕ) (from : Option ℕ) (names : Thing → Bool) : Type 0 where
  pub grows : Grows old new
  pub right : (i j : ℕ) → IsRight p i j old → May p m from names → IsRight p i j new
  pub has : (i j : ℕ) → IsRight p i j old → May p m from names → (x : Thing) → names x ≡ true → is_given new m from x ≡ true

-- the module was given what the function gives behind its body, if it is of a text
abbrev pub IsFollowed : Program → Work → ℕ → ℕ → Type 0
IsFollowed p w m f = (from : Home) (x : Thing) → home_of p f ≡ Some from → gives_behind p f x ≡ true → is_given w m from x ≡ true

-- so was a module that can call the function
pub record Followed (p : Program) (old new : Work) (m f : ℕ) : Type 0 where
  pub grows : Grows old new
  pub right : (i j : ℕ) → IsRight p i j old → Can p m (Function f) → IsRight p i j new
  pub has : (i j : ℕ) → IsRight p i j old → Can p m (Function f) → IsFollowed p new m f

-- what a module can hold went to this module, if it waits for it
pub record PassedTo (p : Program) (old new : Work) (k : ℕ) (x : Thing) (m : ℕ) : Type 0 where
  pub grows : Grows old new
  pub right : (i j : ℕ) → IsRight p i j old → allows old.bound k x ≡ true → IsRight p i j new
  pub has : waits old.waits m k x ≡ true → allows new.bound m x ≡ true
  -- nobody waits for more
  pub waiting : new.waits ≡ old.waits
  -- a reference brings no function
  pub functions : (t : ℕ) → x ≡ RefType t → new.bound.functions ≡ old.bound.functions

-- what a module can hold went to all who wait for it
pub record Passed (p : Program) (old new : Work) (k : ℕ) (x : Thing) : Type 0 where
  pub grows : Grows old new
  pub right : (i j : ℕ) → IsRight p i j old → allows old.bound k x ≡ true → IsRight p i j new
  pub has : (m : ℕ) → waits new.waits m k x ≡ true → has_number new.waits.receivers m ≡ true → allows new.bound m x ≡ true
  -- a reference brings no function
  pub functions : (t : ℕ) → x ≡ RefType t → new.bound.functions ≡ old.bound.functions

-- each function that a module can call had its turn
pub record FollowedAll (p : Program) (old new : Work) : Type 0 where
  pub grows : Grows old new
  pub right : IsRight p 0 0 old → IsRight p (length new.bound.functions) 0 new
  pub followed : IsRight p 0 0 old → (m f : ℕ) → allows new.bound m (Function f) ≡ true → IsFollowed p new m f

-- each reference had its turn
pub record PassedAll (p : Program) (old new : Work) : Type 0 where
  pub grows : Grows old new
  pub functions : new.bound.functions ≡ old.bound.functions
  pub right : (i : ℕ) → IsRight p i 0 old → IsRight p i (length new.bound.references) new

-- from whom a function gives behind its body, if it is of a text: of the kernel everything comes, and of a module what it can hold
abbrev pub comes_of : Bound → Option Home → Thing → Bool
comes_of b None x = false
comes_of b (Some None) x = true
comes_of b (Some (Some k)) x = allows b k x

-- nothing more follows
abbrev pub IsClosed : Program → Bound → Type 0
IsClosed p b = (m f : ℕ) (x : Thing) → allows b m (Function f) ≡ true → gives_behind p f x ≡ true → comes_of b (home_of p f) x ≡ true → allows b m x ≡ true

-- all that follows was put
pub record Closes (p : Program) (old new : Work) : Type 0 where
  pub grows : Grows old new
  pub sound : IsRight p 0 0 old → IsSound p new.bound
  pub closed : IsRight p 0 0 old → IsClosed p new.bound
