-- The shared part stands for a state of the monitor.
use Rattle.std.specs.Prelude.{◌≡◌, ℕ, Some, None, Result, Ok, Err, length, map}
use Rattle.std.specs.Arc.{arc_value}
use Rattle.lx_caps.specs.History.{History}
use Rattle.lx_caps.specs.declared.Principal.{Principal}
use Rattle.lx_actions.specs.Shown.{IsShownBy}
use Rattle.lx_principals.specs.Instances.{Instances}
use Rattle.lx_writer_sets.specs.RecordedStands.{StandsRecorded}
use Rattle.lx_model.specs.declared.program.Program.{Program}
use Rattle.lx_model.specs.declared.request.Reply.{Reply}
use Rattle.lx_model.specs.declared.request.What.{What}
use Rattle.lx_model.specs.declared.request.What.TheVariants.{Enter}
use Rattle.lx_model.specs.State.{State}
use Rattle.lx_model.specs.Decide.{decide_what}
use Rattle.lx_model.specs.Enter.{decide_enter, entered_function}
use Rattle.lx_model.specs.Serve.{Served, grant_what}
use Rattle.lx_serve.specs.Blocks.{AreKept}
use Rattle.lx_serve.specs.Sources.{Knows}
use Rattle.lx_serve.specs.Targets.{nobody_at}
use Rattle.lx_serve.specs.Texts.{HasTexts}
use Rattle.lx_serve.specs.declared.halt.Halt.{Halt}
use Rattle.lx_serve.specs.declared.halt.Halt.TheVariants.{Ended, Memory}
use Rattle.lx_serve.specs.declared.monitor.Monitor.{Monitor}
use Rattle.lx_serve.specs.declared.shared.SharedPart.{SharedPart}

-- the names of instances, and how many modules there are
abbrev pub instances : Program → State → Instances
instances p s = record { modules = length p.modules; names = s.names }

-- the monitor keeps what a state has beside its journal
pub record Keeps {C : Type 0} (stands : C → History → Type 0) (p : Program) (m : Monitor C) (s : State) : Type 0 where
  pub memory : IsShownBy m.space s.memory
  pub blocks : AreKept m.heap s.blocks
  pub names : m.names ≡ instances p s
  pub history : StandsRecorded stands m.caps s.history
  pub notes : m.notes.items ≡ s.notes
  pub sources : Knows p m.sources.items
  pub texts : HasTexts p.interface m.texts

-- the monitor answers as it is served, and keeps the state that is left
pub record Gives {C : Type 0} (stands : C → History → Type 0) (p : Program) (m : Monitor C) (answer : Reply) (x : Served) : Type 0 where
  pub reply : answer ≡ x.reply
  pub state : Keeps stands p m x.state

-- no refusal or trap stands
abbrev pub IsUndecided : Program → State → ℕ → Principal → What → Type 0
IsUndecided p s t who w = decide_what p s t who w ≡ None

-- a request is tried: what comes to no outcome is granted; behind an outcome, and behind want of memory, the monitor
-- keeps the state as it was; and memory is wanted only where no outcome stands
abbrev pub Tries : {C : Type 0} → (C → History → Type 0) → Program → Monitor C → State → ℕ → Principal → What → Result Reply Halt → Type 0
Tries stands p m s t who w (Ok answer) = (decide_what p s t who w ≡ None) × Gives stands p m answer (grant_what p s t who w)
Tries stands p m s t who w (Err (Ended o)) = (decide_what p s t who w ≡ Some o) × Keeps stands p m s
Tries stands p m s t who w (Err Memory) = IsUndecided p s t who w × Keeps stands p m s

-- the program whose requests the shared part serves
abbrev pub program_of : {C : Type 0} → SharedPart C → Program
program_of part = arc_value part.linked.program

-- the shared part stands for the state: it keeps what there is beside the journal, and the threads of the journal
pub record StandsForState {C : Type 0} (stands : C → History → Type 0) (p : Program) (part : SharedPart C) (s : State) : Type 0 where
  pub program : program_of part ≡ p
  pub keeps : Keeps stands p part.monitor s
  pub journal : part.journal.items ≡ map (λ e. e.thread) s.journal

-- the shared part replies as it is served, and stands for the state that is left
pub record Serves {C : Type 0} (stands : C → History → Type 0) (p : Program) (part : SharedPart C) (answer : Reply) (x : Served) : Type 0 where
  pub reply : answer ≡ x.reply
  pub state : StandsForState stands p part x.state
