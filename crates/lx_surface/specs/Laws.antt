-- No run passes the bound.
use Rattle.std.specs.Prelude.{◌≡◌, ℕ, true, Some, List}
use Rattle.lx_caps.specs.declared.Atom.TheVariants as atom
use Rattle.lx_caps.specs.declared.Principal.{Principal}
use Rattle.lx_caps.specs.History.{is_of, owns}
use Rattle.lx_model.specs.declared.program.Program.{Program}
use Rattle.lx_model.specs.declared.program.ScriptCall.{ScriptCall}
use Rattle.lx_model.specs.Program.{function_at}
use Rattle.lx_model.specs.World.{World, opening, run}
use Rattle.lx_surface.specs.declared.Thing.TheVariants.{RefType, Function}
use Rattle.lx_surface.specs.Reach.{Can}

-- what a module's principals own in a world, each module can come to hold
pub record IsBounded (p : Program) (w : World) : Type 0 where
  -- a reference of a type
  pub refs : (m ty a : ℕ) (q : Principal) → is_of m q ≡ true → owns w.state.history q (atom.Ref ty a) ≡ true → Can p m (RefType ty)
  -- the call of a defined function
  pub calls : (m a g : ℕ) (q : Principal) → is_of m q ≡ true → function_at p a ≡ Some g → owns w.state.history q (atom.Call a) ≡ true → Can p m (Function g)

pub record ReachLaws : Type 0 where
  -- so it is in each world of each run
  pub bounded : (p : Program) (script : List (List ScriptCall)) (schedule : List ℕ) → IsBounded p (run p schedule (opening p script))
