-- What a module can come to hold, derived by rules from the texts of a program.
use Rattle.std.specs.Prelude.{◌≡◌, ℕ, true, Some, None}
use Rattle.lx_model.specs.declared.program.Program.{Program}
use Rattle.lx_model.specs.Program.{ToImport, home_of, target}
use Rattle.lx_surface.specs.declared.Thing.{Thing}
use Rattle.lx_surface.specs.declared.Thing.TheVariants.{Function}
use Rattle.lx_surface.specs.Names.{gives_before, gives_behind}

-- the module can come to hold the thing
pub data Can (p : Program) : ℕ → Thing → Type 0 where
  -- the module defines the function
  defines : (m g : ℕ) → home_of p g ≡ Some (Some m) → Can p m (Function g)
  -- it declares the function, which is the kernel's
  declares : (m f g : ℕ) → target p (Some m) f ≡ ToImport g → Can p m (Function g)
  -- a function of its own is given the thing before its body
  into_own : (m f : ℕ) (x : Thing) → home_of p f ≡ Some (Some m) → gives_before p f x ≡ true → Can p m x
  -- a function of the kernel that it can call gives the thing behind its body
  from_kernel : (m f : ℕ) (x : Thing) → home_of p f ≡ Some None → Can p m (Function f) → gives_behind p f x ≡ true → Can p m x
  -- a function of another module that it can call gives the thing behind its body, and that module can hold it. (Of the module itself
  -- the rule tells nothing new.)
  from_other : (m k f : ℕ) (x : Thing) → home_of p f ≡ Some (Some k) → Can p m (Function f) → gives_behind p f x ≡ true → Can p k x → Can p m x
