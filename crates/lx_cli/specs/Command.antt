-- What a command reads, and what its files come to.
use Rattle.std.specs.Prelude.{◌≡◌, ℕ, List, Option, Some, None, Result, IfOk}
use Rattle.lx_outside.specs.declared.file_text.FileText.{FileText}
use Rattle.lx_generated_laws.specs.Inputs.{generated_files, generated_name}
use Rattle.lx_input.specs.Files.Asked.{Asked, AreThere, nothing}
use Rattle.lx_input.specs.Files.InputStop.{InputStop}
use Rattle.lx_input.specs.Files.Turns.{HasNoted}
use Rattle.lx_input.specs.declared.input.Input.{Input}
use Rattle.lx_input.specs.Inputs.{InputTurn}
use Rattle.lx_input.specs.Laws.{IsReady}
pub use Rattle.lx_cli.specs.Words.{Command, Run, Replay, Instrument, Check, Generate, Surface, Why, command_of, said, texts}

-- how many calls are generated, where some are
abbrev pub count_asked : Command → Option ℕ
count_asked (Generate count) = Some count
count_asked _ = None

-- the files that a command reads: those that are there, or its own

abbrev pub files_of : List FileText → Command → List FileText
files_of files (Generate count) = generated_files count
files_of files _ = files

abbrev pub files_by : List FileText → Option Command → List FileText
files_by files None = files
files_by files (Some c) = files_of files c

-- the name of its case, and what it asks for besides

abbrev pub case_of : Command → List ℕ
case_of (Run case) = case
case_of (Replay case schedule) = case
case_of (Instrument case part) = case
case_of (Check case part image) = case
case_of (Generate count) = generated_name
case_of (Surface case) = case
case_of (Why case schedule) = case

abbrev pub asked_of : Command → Asked
asked_of (Run case) = nothing
asked_of (Replay case schedule) = record nothing { schedule = Some schedule }
asked_of (Instrument case part) = record nothing { «module» = Some part }
asked_of (Check case part image) = record nothing { «module» = Some part; image = Some image }
asked_of (Generate count) = nothing
asked_of (Surface case) = nothing
asked_of (Why case schedule) = record nothing { schedule = Some schedule }

-- what the files of a command come to
abbrev pub CommandTurn : List FileText → Option Command → Result Input InputStop → Type 0
CommandTurn files None answer = ⊥
CommandTurn files (Some c) answer = InputTurn (files_of files c) (case_of c) (asked_of c) answer

-- what the words and the files come to: a program with its script, a first fault, or a file that is asked for and may not be read
abbrev pub ComesTo : List (List ℕ) → List FileText → Result Input InputStop → Type 0
ComesTo words files answer = CommandTurn files (command_of words) answer

-- what the files of a shelf may come to that does not tell them, where its faults were `before` and are `now`: an input, as it is linked and
-- verified, with what is asked for, or what ended it
pub record MayCome (asked : Asked) (before now : List (List ℕ)) (came : Result Input InputStop) : Type 0 where
  pub noted : HasNoted before now came
  pub ready : IfOk came IsReady
  pub there : IfOk came (λ i. AreThere asked i.besides)

-- so it is of a command's files; those of a case that is generated are known
abbrev pub UntoldBy : Option ℕ → Command → List (List ℕ) → List (List ℕ) → Result Input InputStop → Type 0
UntoldBy None c before now came = MayCome (asked_of c) before now came
UntoldBy (Some count) c before now came = InputTurn (generated_files count) (case_of c) (asked_of c) came

abbrev pub UntoldTurn : Option Command → List (List ℕ) → List (List ℕ) → Result Input InputStop → Type 0
UntoldTurn None before now came = ⊥
UntoldTurn (Some c) before now came = UntoldBy (count_asked c) c before now came

-- the words run a case under a schedule of the program's choice
abbrev pub IsRun : List (List ℕ) → Type 0
IsRun words = (case : List ℕ) × (command_of words ≡ Some (Run case))

-- the words run a case that they generate, whose files are not the shelf's
abbrev pub IsGenerated : List (List ℕ) → Type 0
IsGenerated words = (count : ℕ) × (command_of words ≡ Some (Generate count))
