-- What is known of a linked program's run beside its account.
use Rattle.std.specs.Prelude.{◌≡◌, ℕ, ◌<◌, true, Some, None, List, length}
use Rattle.lx_ir.specs.declared.module.Module.{Module}
use Rattle.lx_annot.specs.declared.interface.Interface.{Interface}
use Rattle.lx_slot_types.specs.Gets.{gets, slot_of}
use Rattle.lx_model.specs.declared.program.Program.{Program}
use Rattle.lx_model.specs.declared.program.ScriptCall.{ScriptCall}
use Rattle.lx_model.specs.Program.{module_of}
use Rattle.lx_model.specs.World.{World, opening, run}
use Rattle.lx_run_laws.specs.Caused.{AreCaused}
use Rattle.lx_run_laws.specs.Explained.{AreExplained}
use Rattle.lx_run_laws.specs.Listed.{ListsPrincipals, NumbersInstances, WritersHold}
use Rattle.lx_run_laws.specs.Opened.{FirstOwned, StandApart}
use Rattle.lx_run_laws.specs.Stopped.{StopsCleanly}
use Rattle.lx_run_laws.specs.Texts.{AllRunAsTexts, AsksByText}
use Rattle.lx_linked.specs.Members.{Exactly}
use Rattle.lx_linked.specs.Typed.{GetsType, IsFirstType}

-- the functions of a module have the slot types of the fields where they stand: by an initialiser, by a store at a constant address,
-- or by a store at the address of a field
pub record HasTypesByFields (i : Interface) (m : Module) : Type 0 where
  -- a function gets those, and no others
  pub got : (f s : ℕ) → Exactly (gets i m f s ≡ true) (GetsType i m f s)
  -- what it is annotated with is the first of them by number
  pub first : (f s : ℕ) → Exactly (slot_of i m f ≡ Some s) (IsFirstType i m f s)
  -- and it is not annotated where it gets none of the interface
  pub none : (f : ℕ) → Exactly (slot_of i m f ≡ None) ((s : ℕ) → s < length i.slots → GetsType i m f s → ⊥)

-- a world that a run reaches
pub record IsReachedWell (p : Program) (w : World) : Type 0 where
  -- whoever owns, was given or lent something, wrote a slot or runs is listed, and the account has all that anybody owns
  pub listed : ListsPrincipals p w
  -- whoever is a writer of a slot held each call that enters a function through it
  pub slot_calls : (t : ℕ) → WritersHold p t w
  -- a name is of an instance that its module has
  pub numbered : NumbersInstances p w
  -- a module's functions run as principals of the module, and the kernel's as the kernel
  pub texts : AllRunAsTexts p w
  -- and so they ask for what they do
  pub asked : (t : ℕ) → AsksByText p t w
  -- a call that is stopped leaves its outcome, the end of its stack and its loans, and nothing else
  pub stopped : (t : ℕ) → StopsCleanly p t w

-- the run of a script under a schedule
pub record IsExplainedRun (p : Program) (script : List (List ScriptCall)) (schedule : List ℕ) : Type 0 where
  -- each refusal has its cause, and one for a need names the need that was not met
  pub caused : AreCaused p schedule (opening p script)
  -- what was performed needed nothing that was not met, and a call that entered a function entered the one that it leads to; what
  -- has a cause to be refused is refused
  pub explained : AreExplained p schedule (opening p script)
  -- before the first call a module's shared principal owns the bytes of its variables, which are no constant's, and the calls of
  -- its functions and imports, and nobody else owns anything
  pub first : FirstOwned p
  pub apart : StandApart p
  -- a module's function is annotated by the fields where it stands
  pub typed : (m : ℕ) → HasTypesByFields p.interface (module_of p (Some m))
  -- each world on the way
  pub reached : (s : List ℕ) → IsReachedWell p (run p s (opening p script))
