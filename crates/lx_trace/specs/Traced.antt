-- What the tracing program answers, and what it writes.
use Rattle.std.specs.Prelude.{◌≡◌, ℕ, Bool, ◌<◌, ◌&&◌, List, [], ◌∷◌, ◌++◌, codes, length, take, Option, Some, None, option_copied, Result, Ok, Err, if◌then◌else◌}
use Rattle.std.specs.List.{Contains}
use Rattle.lx_input.specs.Files.InputStop.{InputStop}
use Rattle.lx_input.specs.Files.InputStop.TheVariants as stops
use Rattle.lx_input.specs.declared.input.Input.{Input}
use Rattle.lx_runs.specs.Reports.{IsAsked, broken_at}
use Rattle.lx_runs.specs.declared.told.Told.{Told}
use Rattle.lx_model.specs.World.{opening}
use Rattle.lx_cli.specs.Answer.{BrokenBy}
use Rattle.lx_cli.specs.Command.{Command, Replay, Run}
use Rattle.lx_cli.specs.Told.{answer_of}
use Rattle.lx_cli.specs.Words.{is_name}
use Rattle.lx_cli.specs.Rows.{answer_text, status_of}
use Rattle.lx_cli.specs.declared.answer.Answer.{Answer}
use Rattle.lx_cli.specs.declared.answer.Answer.TheVariants as answer
use Rattle.lx_trace.specs.Tells.{TellsTrace}
use Rattle.lx_trace.specs.Trace.{IsTrace}
use Rattle.lx_trace.specs.declared.words.Named.{Named}

-- the command whose run is traced: a case is run, or replayed where a schedule is named

abbrev pub run_of : List ℕ → Option (List ℕ) → Command
run_of case None = Run case
run_of case (Some schedule) = Replay case schedule

abbrev pub traced_by : Named → Command
traced_by n = run_of n.case.now (option_copied n.schedule)

-- what the words ask to be traced: the run of the case that they name, or its replay where they name a schedule too; no name begins with `-`
abbrev pub asked_trace : List (List ℕ) → Option Command
asked_trace (case ∷ []) = if is_name case then Some (Run case) else None
asked_trace (case ∷ schedule ∷ []) = if is_name case && is_name schedule then Some (Replay case schedule) else None
asked_trace _ = None

abbrev pub usage_line : List ℕ
usage_line = codes "usage: lxfi_trace CASE [SCHEDULE]\n"

-- the answer to what ended an input before it is run; none to want of memory
abbrev pub answer_of_stop : InputStop → Option Answer
answer_of_stop (stops.Fault f) = Some (answer.Fault f)
answer_of_stop (stops.Unread file) = Some (answer.Unread file)
answer_of_stop stops.Memory = None

-- an answer to an input: where a schedule is not whole, or the trace of the monitor's run of the program as it is written, under a
-- schedule, and whether every call returned; the schedule is the one that is named, where one is
abbrev pub TellsTraceOf : Input → Answer → Type 0
TellsTraceOf i (answer.Broken entry) = (s : List ℕ) × IsAsked i.besides.schedule s × (broken_at i.program s (opening i.program i.script) ≡ Some entry)
TellsTraceOf i (answer.Report text returned) = (s : List ℕ) × IsAsked i.besides.schedule s × IsTrace i.program i.script s returned text
TellsTraceOf i a = ⊥

-- the answer of a trace of an input under this schedule
abbrev pub TellsUnder : Option (List ℕ) → Input → Answer → Type 0
TellsUnder schedule i a = (t : Told) × (a ≡ answer_of t) × TellsTrace i.program i.script schedule t

-- a schedule that is not whole is the one that is replayed; none arises so in a run
abbrev pub IsReplayed : Command → (Result Input InputStop → Type 0) → Answer → Type 0
IsReplayed c turn (answer.Broken entry) = (i : Input) × turn (Ok i) × BrokenBy (Some c) i entry
IsReplayed c turn a = Unit {0}

-- a schedule that is not whole is this one
abbrev pub IsGiven : List ℕ → (Result Input InputStop → Type 0) → Answer → Type 0
IsGiven s turn (answer.Broken entry) = (i : Input) × turn (Ok i) × (broken_at i.program s (opening i.program i.script) ≡ Some entry)
IsGiven s turn a = Unit {0}

-- an answer to what the files come to: their first fault, a file that was not read, or what is told of the input
abbrev pub TellsTraced : (Result Input InputStop → Type 0) → Answer → Type 0
TellsTraced turn (answer.Fault f) = turn (Err (stops.Fault f))
TellsTraced turn (answer.Unread file) = turn (Err (stops.Unread file))
TellsTraced turn a = (i : Input) × turn (Ok i) × TellsTraceOf i a

-- the whole text of a status, where `turn` says what the files come to: that of the usage where nothing is asked to be traced, and of an
-- answer else
abbrev pub IsTold : Option Command → (Result Input InputStop → Type 0) → ℕ → List ℕ → Type 0
IsTold None turn status text = (status ≡ 2) × (text ≡ usage_line)
IsTold (Some c) turn status text = (a : Answer) × TellsTraced turn a × (status ≡ status_of a) × (text ≡ answer_text a)

-- the sink gained the whole text of the status
pub record HasWritten (asked : Option Command) (turn : Result Input InputStop → Type 0) (told : List ℕ) (new : Option (List ℕ)) (status : ℕ) : Type 0 where
  pub text : List ℕ
  pub is_told : IsTold asked turn status text
  pub gained : new ≡ Some (told ++ text)

-- the sink gained a proper prefix of the text of another status
pub record HasWrittenPart (asked : Option Command) (turn : Result Input InputStop → Type 0) (told : List ℕ) (new : Option (List ℕ)) : Type 0 where
  pub status : ℕ
  pub text : List ℕ
  pub is_told : IsTold asked turn status text
  pub part : (n : ℕ) × (n < length text) × (new ≡ Some (told ++ take n text))

-- no name that is new among the shelf's faults is a file that is asked for
abbrev pub NoNewFault : List (List ℕ) → List (List ℕ) → (Result Input InputStop → Type 0) → Type 0
NoNewFault before now turn = (more : List (List ℕ)) (name : List ℕ) → now ≡ before ++ more → Contains more name → turn (Err (stops.Unread name)) → ⊥

-- what is traced where a schedule is named: the run under that schedule, or which of its entries is the first without work
pub record TraceCommandLaws : Type 0 where
  pub named : (i : Input) (s text : List ℕ) (returned : Bool) → i.besides.schedule ≡ Some s → TellsTraceOf i (answer.Report text returned) → IsTrace i.program i.script s returned text
  pub broken : (i : Input) (s : List ℕ) (entry : ℕ) → i.besides.schedule ≡ Some s → TellsTraceOf i (answer.Broken entry) → broken_at i.program s (opening i.program i.script) ≡ Some entry
