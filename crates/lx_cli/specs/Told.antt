-- What an answer tells.
use Rattle.std.specs.Prelude.{◌≡◌, ◌⊎◌, ℕ, true, List, Option, Some, None, Result, Ok, Err}
use Rattle.lx_annot.specs.declared.interface.Interface.{Interface}
use Rattle.lx_image_texts.specs.ImageFaults.{ImageFault, first_image_fault}
use Rattle.lx_input.specs.Files.FaultLine.{FaultLine}
use Rattle.lx_input.specs.Files.ImageFile.{ImageFile}
use Rattle.lx_input.specs.Files.InputStop.{InputStop}
use Rattle.lx_input.specs.Files.InputStop.TheVariants as stops
use Rattle.lx_input.specs.declared.input.Input.{Input}
use Rattle.lx_runs.specs.Reports.{TellsRun}
use Rattle.lx_runs.specs.declared.told.Told.{Told}
use Rattle.lx_runs.specs.declared.told.Told.TheVariants as runs
use Rattle.lx_runs.specs.declared.why.Why.{Why as Certified}
use Rattle.lx_runs.specs.declared.why.Why.TheVariants as certified
use Rattle.lx_runs.specs.Whys.{TellsWhy}
use Rattle.lx_cli.specs.Answer.{IsImageText, IsSummary, IsSurface, IsAccepted, IsRefusedBy, HasProgram, image_line, MadeBy, BrokenBy, RefusedBy, accepted_line}
use Rattle.lx_cli.specs.Command.{Command, Run, Replay, Instrument, Check, Generate, Surface, Why}
use Rattle.lx_cli.specs.declared.answer.Answer.{Answer}
use Rattle.lx_cli.specs.declared.answer.Answer.TheVariants as answer

-- the answer of a run
abbrev pub answer_of : Told → Answer
answer_of (runs.Broken entry) = answer.Broken entry
answer_of (runs.Report text returned) = answer.Report text returned

-- of a run of the input, under the schedule that is replayed, where one is
abbrev pub TellsRunOf : Input → Answer → Type 0
TellsRunOf i a = (t : Told) × (a ≡ answer_of t) × TellsRun i.program i.script i.besides.schedule t

-- the answer of a run that is certified
abbrev pub answer_of_why : Certified → Answer
answer_of_why (certified.Broken entry) = answer.Broken entry
answer_of_why (certified.Text text) = answer.Text text

-- of the certificates of a run of the input, under the schedule that is asked for
abbrev pub TellsWhyOf : Input → Answer → Type 0
TellsWhyOf i a = (w : Certified) × (a ≡ answer_of_why w) × TellsWhy i.program i.script i.besides.schedule w

-- of what the files of a command come to
abbrev pub TellsInput : Option Command → (Result Input InputStop → Type 0) → Answer → Type 0
TellsInput c turn (answer.Fault f) = turn (Err (stops.Fault f))
TellsInput c turn (answer.Unread file) = turn (Err (stops.Unread file))
TellsInput c turn (answer.Broken entry) = (i : Input) × turn (Ok i) × BrokenBy c i entry
TellsInput c turn (answer.Report text returned) = (i : Input) × turn (Ok i) × MadeBy c i returned text
TellsInput c turn (answer.Text text) = (i : Input) × turn (Ok i) × MadeBy c i true text
TellsInput c turn answer.Accepted = (i : Input) × turn (Ok i) × MadeBy c i true accepted_line
TellsInput c turn (answer.Refused f) = (i : Input) × turn (Ok i) × RefusedBy c i f

-- of the image in a file
abbrev pub Judges : Interface → ImageFile → Answer → Type 0
Judges i x answer.Accepted = HasProgram i x.text × (first_image_fault i x.text ≡ None)
Judges i x (answer.Refused line) = (f : ImageFault) × (HasProgram i x.text → ⊥) × (first_image_fault i x.text ≡ Some f) × (line ≡ image_line x.file f)
Judges i x a = ⊥

-- of an input that was read, by the command
abbrev pub TellsOf : Command → Input → Answer → Type 0
TellsOf (Run case) i a = TellsRunOf i a
TellsOf (Replay case schedule) i a = TellsRunOf i a
TellsOf (Instrument case part) i a = (text : List ℕ) × (a ≡ answer.Text text) × IsImageText i text
TellsOf (Check case part image) i a = ((a ≡ answer.Accepted) × IsAccepted i) ⊎ ((line : FaultLine) × (a ≡ answer.Refused line) × IsRefusedBy i line)
TellsOf (Generate count) i a = (text : List ℕ) × (a ≡ answer.Text text) × IsSummary count i.program i.script text
TellsOf (Surface case) i a = (text : List ℕ) × (a ≡ answer.Text text) × IsSurface i text
TellsOf (Why case schedule) i a = TellsWhyOf i a
