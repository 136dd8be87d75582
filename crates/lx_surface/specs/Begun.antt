-- What modules can call at the beginning.
use Rattle.std.specs.Prelude.{◌≡◌, ℕ, Bool, true, Option, Some, None, List, bytes_eq, codes, slice_get, if◌then◌else◌}
use Rattle.lx_ir.specs.declared.module.Function.{Function as TextFunction}
use Rattle.lx_ir.specs.Lookup.{is_defined}
use Rattle.lx_model.specs.declared.program.Program.{Program}
use Rattle.lx_model.specs.Program.{ToImport, home_of, kernel_function, target}
use Rattle.lx_surface.specs.declared.Thing.{Thing}
use Rattle.lx_surface.specs.declared.Thing.TheVariants.{Function}
use Rattle.lx_surface.specs.Names.{gives_before}
use Rattle.lx_surface.specs.Reach.{Can}
use Rattle.lx_surface.specs.declared.work.Work.{Work}
use Rattle.lx_surface.specs.Bound.{allows}
use Rattle.lx_surface.specs.Right.{IsRight}
use Rattle.lx_surface.specs.Work.{Grows}

-- the module can call the function with this number, which is its own, and hold what it is given before its body
abbrev pub HasOwn : Program → Work → ℕ → Type 0
HasOwn p w n = (m : ℕ) → home_of p n ≡ Some (Some m) → (allows w.bound m (Function n) ≡ true) × ((x : Thing) → gives_before p n x ≡ true → allows w.bound m x ≡ true)

-- the function of the kernel that a module's text declares so
abbrev pub declared_in : Program → TextFunction → Option ℕ
declared_in p f = if is_defined f then None else (if bytes_eq f.name (codes "lxfi_princ_alias") then None else kernel_function p f.name)

-- the function with this number was put for its module, with what it is given before its body
pub record Opens (p : Program) (old new : Work) (n : ℕ) : Type 0 where
  pub grows : Grows old new
  pub right : IsRight p 0 0 old → IsRight p 0 0 new
  pub has : IsRight p 0 0 old → HasOwn p new n

-- so was each function
pub record OpensAll (p : Program) (old new : Work) : Type 0 where
  pub grows : Grows old new
  pub right : IsRight p 0 0 old → IsRight p 0 0 new
  pub has : IsRight p 0 0 old → (n : ℕ) → HasOwn p new n

-- what a module's text declares so was put
pub record Declares (p : Program) (old new : Work) (m : ℕ) (f : TextFunction) : Type 0 where
  pub grows : Grows old new
  pub right : ((g : ℕ) → declared_in p f ≡ Some g → Can p m (Function g)) → IsRight p 0 0 old → IsRight p 0 0 new
  pub has : (g : ℕ) → declared_in p f ≡ Some g → allows new.bound m (Function g) ≡ true

-- so was all that these functions declare
pub record DeclaresFrom (p : Program) (old new : Work) (m : ℕ) (fs : List TextFunction) : Type 0 where
  pub grows : Grows old new
  pub right : ((j : ℕ) (f : TextFunction) (g : ℕ) → slice_get fs j ≡ Some f → declared_in p f ≡ Some g → Can p m (Function g)) → IsRight p 0 0 old → IsRight p 0 0 new
  pub has : (j : ℕ) (f : TextFunction) (g : ℕ) → slice_get fs j ≡ Some f → declared_in p f ≡ Some g → allows new.bound m (Function g) ≡ true

-- each module can call the kernel's functions that it declares
pub record DeclaresAll (p : Program) (old new : Work) : Type 0 where
  pub grows : Grows old new
  pub right : IsRight p 0 0 old → IsRight p 0 0 new
  pub has : (m f g : ℕ) → target p (Some m) f ≡ ToImport g → allows new.bound m (Function g) ≡ true
