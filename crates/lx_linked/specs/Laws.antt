-- What holds of programs that are linked.
use Rattle.std.specs.Prelude.{◌≡◌, ℕ, ◌≤◌, true, ◌&&◌, List, length, nat_lt}
use Rattle.std.specs.List.{list_any}
use Rattle.lx_caps.specs.declared.Atom.TheVariants.{Byte}
use Rattle.lx_caps.specs.declared.Principal.TheVariants.{Shared}
use Rattle.lx_caps.specs.History.{owns}
use Rattle.lx_model.specs.declared.program.Program.{Program}
use Rattle.lx_model.specs.declared.program.ScriptCall.{ScriptCall}
use Rattle.lx_model.specs.Opening.{opening_history}
use Rattle.lx_model.specs.World.{opening, run}
use Rattle.lx_link_texts.specs.declared.sources.Sources.{Sources}
use Rattle.lx_link_texts.specs.Placing.{globals_of, program_of}
use Rattle.lx_link_texts.specs.WellFormed.{IsWellFormed, FitsCalls}
use Rattle.lx_run_laws.specs.Listed.{has_homes, ListsPrincipals, WritersHold}
use Rattle.lx_run_laws.specs.Opened.{gives_byte, StandApart}
use Rattle.lx_linked.specs.Explained.{IsExplainedRun}
use Rattle.lx_linked.specs.Fitting.{IsFittingRun}

pub record LinkedLaws : Type 0 where
  -- each function by number is a native, the kernel's, or of a module of the program
  pub homes : (s : Sources) → has_homes (program_of s) ≡ true
  -- no byte of a variable is a constant's
  pub apart : (s : Sources) → StandApart (program_of s)
  -- so every principal of a world that a run reaches is listed
  pub listed : (s : Sources) (script : List (List ScriptCall)) (schedule : List ℕ) → ListsPrincipals (program_of s) (run (program_of s) schedule (opening (program_of s) script))
  -- whoever is a writer of a slot held each call that entered a function through it
  pub slot_calls : (s : Sources) (script : List (List ScriptCall)) (schedule : List ℕ) (t : ℕ) → WritersHold (program_of s) t (run (program_of s) schedule (opening (program_of s) script))
  -- and before the first call a module's shared principal owns the bytes of its variables, and no others
  pub bytes : (s : Sources) (m b : ℕ) → owns (opening_history (program_of s)) (Shared m) (Byte b) ≡ (nat_lt m (length s.modules) && list_any (gives_byte (program_of s) m b) (globals_of s))
  -- so it is with each well-formed program, and each of its runs is explained,
  pub explained : (p : Program) → IsWellFormed p → (script : List (List ScriptCall)) (schedule : List ℕ) → IsExplainedRun p script schedule
  -- and is one of requests that fit and of registers that are given, where sixteen threads at most make calls that fit
  pub fitting : (p : Program) → IsWellFormed p → (script : List (List ScriptCall)) (schedule : List ℕ) → length script ≤ 16 → FitsCalls p script → IsFittingRun p script schedule
