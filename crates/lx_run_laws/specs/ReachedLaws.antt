-- What holds of every world that a run reaches.
use Rattle.std.specs.Prelude.{◌≡◌, ℕ, true, List}
use Rattle.lx_caps.specs.declared.Principal.{Principal}
use Rattle.lx_caps.specs.Names.{Namings}
use Rattle.lx_model.specs.declared.program.Program.{Program}
use Rattle.lx_model.specs.declared.program.ScriptCall.{ScriptCall}
use Rattle.lx_model.specs.World.{World, opening, run}
use Rattle.lx_run_laws.specs.Listed.{has_homes, is_listed, is_there, ListsPrincipals, NumbersInstances, WritersHold}
use Rattle.lx_run_laws.specs.Opened.{FirstOwned}
use Rattle.lx_run_laws.specs.Stopped.{StopsCleanly}
use Rattle.lx_run_laws.specs.Texts.{AllRunAsTexts, AsksByText}

pub record ReachedLaws : Type 0 where
  -- an event that ends a call, in whatever world, leaves its outcome, the end of its stack and its loans, and nothing else
  pub stopped : (p : Program) (t : ℕ) (w : World) → StopsCleanly p t w
  -- a module's functions run as principals of the module, and the kernel's as the kernel
  pub texts : (p : Program) (script : List (List ScriptCall)) (schedule : List ℕ) → AllRunAsTexts p (run p schedule (opening p script))
  -- and so they ask for what they do
  pub asked : (p : Program) (script : List (List ScriptCall)) (schedule : List ℕ) (t : ℕ) → AsksByText p t (run p schedule (opening p script))
  -- a principal is listed exactly where its module is one of the program's and has such an instance
  pub exact : (p : Program) (names : Namings) (q : Principal) → is_listed p names q ≡ is_there p names q
  -- where functions are of the kernel and the modules of the program, every principal is listed
  pub listed : (p : Program) (script : List (List ScriptCall)) (schedule : List ℕ) → has_homes p ≡ true → ListsPrincipals p (run p schedule (opening p script))
  -- so whoever is a writer of a slot held each call that entered a function through it
  pub slot_calls : (p : Program) (script : List (List ScriptCall)) (schedule : List ℕ) (t : ℕ) → has_homes p ≡ true → WritersHold p t (run p schedule (opening p script))
  -- instances are named by their numbers, of which there are only more
  pub numbered : (p : Program) (script : List (List ScriptCall)) (schedule : List ℕ) → NumbersInstances p (run p schedule (opening p script))
  -- what is owned before the first call
  pub first : (p : Program) → FirstOwned p
