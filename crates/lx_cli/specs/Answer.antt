-- What the program writes for each status.
use Rattle.std.specs.Prelude.{◌≡◌, ◌⊎◌, ℕ, Bool, true, false, List, ◌++◌, codes, slice_get, length, Option, Some, None, if◌then◌else◌}
use Rattle.std.specs.List.{sum_by}
use Rattle.lx_words.specs.Text.{decimal_text}
use Rattle.lx_ir.specs.declared.module.Module.{Module}
use Rattle.lx_ir.specs.Text.{module_text}
use Rattle.lx_annot.specs.declared.interface.Interface.{Interface}
use Rattle.lx_image_texts.specs.ImageFaults.{ImageFault, first_image_fault}
use Rattle.lx_image_texts.specs.Instrumented.{GuardsBut, leaves_spared}
use Rattle.lx_image_texts.specs.Laws.{IsProgramOf}
use Rattle.lx_image_marks.specs.Told.{kind_number}
use Rattle.lx_model.specs.declared.program.Program.{Program}
use Rattle.lx_model.specs.declared.program.ProgramModule.{ProgramModule}
use Rattle.lx_model.specs.declared.program.ScriptCall.{ScriptCall}
use Rattle.lx_model.specs.declared.account.Account.{Account}
use Rattle.lx_model.specs.declared.account.CallOutcome.{CallOutcome}
use Rattle.lx_model.specs.declared.request.Outcome.{Outcome}
use Rattle.lx_model.specs.declared.request.Outcome.TheVariants.{Returned, Refused}
use Rattle.lx_model.specs.World.{opening, run, is_whole}
use Rattle.lx_model.specs.Account.{account}
use Rattle.lx_files.specs.declared.line.FaultKind.TheVariants as kinds
use Rattle.lx_input.specs.Files.FaultLine.{FaultLine}
use Rattle.lx_files.specs.Faults.{fault_at}
use Rattle.lx_input.specs.Files.ImageFile.{ImageFile}
use Rattle.lx_input.specs.declared.input.Input.{Input}
use Rattle.lx_surface.specs.Laws.{IsBounded}
use Rattle.lx_surface.specs.declared.limits.Bound.{Bound}
use Rattle.lx_surface.specs.Bound.{IsExact}
use Rattle.lx_surface.specs.Text.{bound_text}
use Rattle.lx_cli.specs.Command.{Command, Run, Replay, Instrument, Check, Generate, Surface, Why}
use Rattle.lx_runs.specs.Reports.{IsAsked, IsReport, all_returned, broken_at}
use Rattle.lx_why.specs.Why.{IsWhy}

-- the report of an input: under a schedule of the program's choice, or under the one that is replayed
pub record IsReportOf (i : Input) (returned : Bool) (text : List ℕ) : Type 0 where
  pub report : IsReport i.program i.script returned text
  pub asked : IsAsked i.besides.schedule report.schedule

-- the input was run under a whole schedule, the one that is replayed where one is, and the status says whether every call returned
pub record HasEnded (i : Input) (status : ℕ) : Type 0 where
  pub schedule : List ℕ
  pub asked : IsAsked i.besides.schedule schedule
  pub whole : is_whole i.program schedule (opening i.program i.script) ≡ true
  pub is_status : status ≡ (if all_returned (account i.program (run i.program schedule (opening i.program i.script))).outcomes then 0 else 1)

-- the schedule that is replayed is broken at this entry
abbrev pub IsBroken : Input → ℕ → Type 0
IsBroken i entry = (asked : List ℕ) × (i.besides.schedule ≡ Some asked) × (broken_at i.program asked (opening i.program i.script) ≡ Some entry)

abbrev pub accepted_line : List ℕ
accepted_line = codes "accepted\n"

-- The text is the image of the module with this number: its wrappers, and its guards and checks but those that may be left out.
abbrev pub IsImageOf : Interface → Module → List ℕ → Type 0
IsImageOf i m text = (x : Module) × GuardsBut (leaves_spared m) i m x × (text ≡ module_text x)

abbrev pub IsImageText : Input → List ℕ → Type 0
IsImageText i text =
    (k : ℕ) × (m : ProgramModule) × (i.besides.number ≡ Some k) × (slice_get i.program.modules k ≡ Some m) × IsImageOf i.program.interface m.«module» text

-- some program has the image
abbrev pub HasProgram : Interface → Module → Type 0
HasProgram i x = (m : Module) × IsProgramOf i m x

-- it is so of the image that is checked, in which no fault stands
abbrev pub IsAccepted : Input → Type 0
IsAccepted i =
    (x : ImageFile) × (i.besides.image ≡ Some x) × HasProgram i.program.interface x.text × (first_image_fault i.program.interface x.text ≡ None)

-- `@FUNCTION PLACE`
unfoldable pub place_what : List ℕ → ℕ → List ℕ
place_what function place = codes "@" ++ function ++ codes " " ++ decimal_text place

-- the line about a fault of an image
abbrev pub image_line : List ℕ → ImageFault → FaultLine
image_line file f = fault_at file kinds.Image (kind_number f.kind) f.line (place_what f.function f.place)

-- no program has the image, and the line is about its first fault
abbrev pub IsRefusedBy : Input → FaultLine → Type 0
IsRefusedBy i line =
    (x : ImageFile) × (f : ImageFault) × (i.besides.image ≡ Some x) × (HasProgram i.program.interface x.text → ⊥)
    × (first_image_fault i.program.interface x.text ≡ Some f) × (line ≡ image_line x.file f)

-- what a summary counts of a call: whether it returned, whether it was refused, and the number that it returned

abbrev pub one_returned : Outcome → ℕ
one_returned (Returned v) = 1
one_returned _ = 0

abbrev pub one_refused : Outcome → ℕ
one_refused (Refused r) = 1
one_refused _ = 0

abbrev pub number_returned : Outcome → ℕ
number_returned (Returned (Some v)) = v.bits
number_returned _ = 0

abbrev pub count_returned : List CallOutcome → ℕ
count_returned calls = sum_by (λ c. one_returned c.outcome) calls

abbrev pub count_refused : List CallOutcome → ℕ
count_refused calls = sum_by (λ c. one_refused c.outcome) calls

abbrev pub sum_returned : List CallOutcome → ℕ
sum_returned calls = sum_by (λ c. number_returned c.outcome) calls

-- words, and a number behind them
unfoldable pub counted : List ℕ → ℕ → List ℕ
counted label n = label ++ decimal_text n

-- the summary of n generated calls on four threads

unfoldable pub summary_head : ℕ → List ℕ
summary_head n = counted (codes "generate ") n ++ counted (codes " threads 4 calls ") n

unfoldable pub summary_counts : List CallOutcome → List ℕ
summary_counts calls =
    counted (codes " returned ") (count_returned calls) ++ (counted (codes " refused ") (count_refused calls) ++ counted (codes " sum ") (sum_returned calls))

unfoldable pub summary_end : ℕ → List ℕ
summary_end events = counted (codes " events ") events ++ codes "\n"

abbrev pub summary_text : ℕ → Account → List ℕ
summary_text n a = summary_head n ++ (summary_counts a.outcomes ++ summary_end (length a.schedule))

-- the text is the summary of the monitor's run of a program under a whole schedule
pub record IsSummary (n : ℕ) (p : Program) (script : List (List ScriptCall)) (text : List ℕ) : Type 0 where
  pub schedule : List ℕ
  pub whole : is_whole p schedule (opening p script) ≡ true
  pub summed : text ≡ summary_text n (account p (run p schedule (opening p script)))

-- The text is that of the bound which allows just what modules of the program can come to hold, and which no run of the program passes,
-- whatever its script and its schedule.
pub record IsSurface (i : Input) (text : List ℕ) : Type 0 where
  pub bound : Bound
  pub exact : IsExact i.program bound
  pub written : text ≡ bound_text i.program bound
  pub sound : (script : List (List ScriptCall)) (schedule : List ℕ) → IsBounded i.program (run i.program schedule (opening i.program script))

-- the text is of the acts and of the certificates of the run under the schedule that is asked for, which is whole
abbrev pub IsWhyOf : Input → List ℕ → Type 0
IsWhyOf i text = (schedule : List ℕ) × (i.besides.schedule ≡ Some schedule) × IsWhy i.program i.script schedule text

-- the schedule that is asked for is whole
abbrev pub HasWhole : Input → Type 0
HasWhole i = (schedule : List ℕ) × (i.besides.schedule ≡ Some schedule) × (is_whole i.program schedule (opening i.program i.script) ≡ true)

-- What each command makes of its input: with status 0 (true) or 1 (false),

abbrev pub Makes : Command → Input → Bool → List ℕ → Type 0
Makes (Run case) i well text = IsReportOf i well text
Makes (Replay case schedule) i well text = IsReportOf i well text
Makes (Instrument case part) i true text = IsImageText i text
Makes (Instrument case part) i false text = ⊥
Makes (Check case part image) i true text = IsAccepted i × (text ≡ accepted_line)
Makes (Check case part image) i false text = ⊥
Makes (Generate count) i true text = IsSummary count i.program i.script text
Makes (Generate count) i false text = ⊥
Makes (Surface case) i true text = IsSurface i text
Makes (Surface case) i false text = ⊥
Makes (Why case schedule) i true text = IsWhyOf i text
Makes (Why case schedule) i false text = ⊥

-- with status 7,
abbrev pub Breaks : Command → Input → ℕ → Type 0
Breaks (Replay case schedule) i entry = IsBroken i entry
Breaks (Why case schedule) i entry = IsBroken i entry
Breaks _ i entry = ⊥

-- and with status 8
abbrev pub Refuses : Command → Input → FaultLine → Type 0
Refuses (Check case part image) i line = IsRefusedBy i line
Refuses _ i line = ⊥

-- the statuses with which it can end, where nothing keeps it from its end
abbrev pub EndsWith : Command → Input → ℕ → Type 0
EndsWith (Run case) i status = HasEnded i status
EndsWith (Replay case schedule) i status = HasEnded i status ⊎ ((status ≡ 7) × (entry : ℕ) × IsBroken i entry)
EndsWith (Instrument case part) i status = status ≡ 0
EndsWith (Generate count) i status = status ≡ 0
EndsWith (Surface case) i status = status ≡ 0
EndsWith (Why case schedule) i status = ((status ≡ 0) × HasWhole i) ⊎ ((status ≡ 7) × (entry : ℕ) × IsBroken i entry)
EndsWith (Check case part image) i status = ((status ≡ 0) × IsAccepted i) ⊎ ((status ≡ 8) × (line : FaultLine) × IsRefusedBy i line)

-- the same of words, which may be no command

abbrev pub MadeBy : Option Command → Input → Bool → List ℕ → Type 0
MadeBy None i well text = ⊥
MadeBy (Some c) i well text = Makes c i well text

abbrev pub BrokenBy : Option Command → Input → ℕ → Type 0
BrokenBy None i entry = ⊥
BrokenBy (Some c) i entry = Breaks c i entry

abbrev pub RefusedBy : Option Command → Input → FaultLine → Type 0
RefusedBy None i line = ⊥
RefusedBy (Some c) i line = Refuses c i line

abbrev pub EndedBy : Option Command → Input → ℕ → Type 0
EndedBy None i status = ⊥
EndedBy (Some c) i status = EndsWith c i status

-- the lines of the other statuses

abbrev pub usage_line : List ℕ
usage_line = codes "usage: lxfi_run run CASE | replay CASE SCHEDULE | instrument CASE MODULE | check CASE MODULE IMAGE | generate N | why CASE SCHEDULE | surface CASE\n"

abbrev pub unread_line : List ℕ → List ℕ
unread_line file = codes "lxfi: cannot read " ++ file ++ codes "\n"

unfoldable pub broken_line : ℕ → List ℕ
broken_line entry = codes "lxfi: schedule not whole at entry " ++ decimal_text entry ++ codes "\n"
