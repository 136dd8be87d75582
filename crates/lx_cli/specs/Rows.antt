-- What was written, for each status.
use Rattle.std.specs.Prelude.{◌≡◌, ℕ, zero, suc, ◌<◌, Bool, true, false, List, [], ◌∷◌, ◌++◌, length, take, Option, Some, None, Result, Ok, Err, if◌then◌else◌}
use Rattle.std.specs.List.{Contains}
use Rattle.lx_outside.specs.declared.file_text.FileText.{FileText}
use Rattle.lx_input.specs.Files.FaultLine.{FaultLine}
use Rattle.lx_input.specs.Files.InputStop.{InputStop}
use Rattle.lx_input.specs.Files.InputStop.TheVariants as stops
use Rattle.lx_input.specs.Files.Lines.{fault_text}
use Rattle.lx_input.specs.declared.input.Input.{Input}
use Rattle.lx_cli.specs.Answer.{MadeBy, BrokenBy, RefusedBy, accepted_line, usage_line, unread_line, broken_line}
use Rattle.lx_cli.specs.Command.{command_of, ComesTo}
use Rattle.lx_cli.specs.declared.answer.Answer.{Answer}
use Rattle.lx_cli.specs.declared.answer.Answer.TheVariants as answer

-- the text is what the command makes of its input: a report where every call returned or not, an image, that one is accepted, a summary, or
-- what modules can come to hold
abbrev pub Done : List (List ℕ) → (Result Input InputStop → Type 0) → Bool → List ℕ → Type 0
Done words turn well text = (i : Input) × turn (Ok i) × MadeBy (command_of words) i well text

-- the words are no command
abbrev pub NoCommandText : List (List ℕ) → List ℕ → Type 0
NoCommandText words text = (command_of words ≡ None) × (text ≡ usage_line)

-- the line is about the input's first fault
abbrev pub FaultText : (Result Input InputStop → Type 0) → List ℕ → Type 0
FaultText turn text = (f : FaultLine) × turn (Err (stops.Fault f)) × (text ≡ fault_text f)

-- the shelf's newest fault is at a file of a turn that the input reaches
abbrev pub UnreadText : (Result Input InputStop → Type 0) → List (List ℕ) → List (List ℕ) → List ℕ → Type 0
UnreadText turn before now text =
    (file : List ℕ) × turn (Err (stops.Unread file)) × (now ≡ before ++ file ∷ []) × (text ≡ unread_line file)

-- the schedule that is replayed is not whole
abbrev pub BrokenText : List (List ℕ) → (Result Input InputStop → Type 0) → List ℕ → Type 0
BrokenText words turn text = (i : Input) × (entry : ℕ) × turn (Ok i) × BrokenBy (command_of words) i entry × (text ≡ broken_line entry)

-- no program has the image that is checked
abbrev pub RefusedText : List (List ℕ) → (Result Input InputStop → Type 0) → List ℕ → Type 0
RefusedText words turn text = (i : Input) × (line : FaultLine) × turn (Ok i) × RefusedBy (command_of words) i line × (text ≡ fault_text line)

-- the whole text of a status, where the shelf's faults were `before` and are `now`, and `turn` says what the words and the files come to. The
-- statuses 5 and 6 have none
abbrev pub RowText : List (List ℕ) → (Result Input InputStop → Type 0) → List (List ℕ) → List (List ℕ) → ℕ → List ℕ → Type 0
RowText words turn before now zero text = Done words turn true text
RowText words turn before now (suc zero) text = Done words turn false text
RowText words turn before now (suc (suc zero)) text = NoCommandText words text
RowText words turn before now (suc (suc (suc zero))) text = FaultText turn text
RowText words turn before now (suc (suc (suc (suc zero)))) text = UnreadText turn before now text
RowText words turn before now (suc (suc (suc (suc (suc zero))))) text = ⊥
RowText words turn before now (suc (suc (suc (suc (suc (suc zero)))))) text = ⊥
RowText words turn before now (suc (suc (suc (suc (suc (suc (suc zero))))))) text = BrokenText words turn text
RowText words turn before now (suc (suc (suc (suc (suc (suc (suc (suc zero)))))))) text = RefusedText words turn text
RowText words turn before now (suc (suc (suc (suc (suc (suc (suc (suc (suc n))))))))) text = ⊥

-- the sink gained the whole text of the status
pub record Wrote (words : List (List ℕ)) (turn : Result Input InputStop → Type 0) (before now : List (List ℕ)) (told : List ℕ) (new : Option (List ℕ)) (status : ℕ) : Type 0 where
  pub text : List ℕ
  pub row : RowText words turn before now status text
  pub gained : new ≡ Some (told ++ text)

-- the sink gained a proper prefix of the text of another status
pub record FellShort (words : List (List ℕ)) (turn : Result Input InputStop → Type 0) (before now : List (List ℕ)) (told : List ℕ) (new : Option (List ℕ)) : Type 0 where
  pub status : ℕ
  pub text : List ℕ
  pub row : RowText words turn before now status text
  pub part : (n : ℕ) × (n < length text) × (new ≡ Some (told ++ take n text))

-- The words are a command and its files were read, and the sink gained what the command makes of them. Where it runs or replays a
-- case, this is the report of the monitor's run of the program as it is written, under the schedule that the report itself prints, and
-- the status says whether every call returned
pub record Headline (words : List (List ℕ)) (files : List FileText) (told : List ℕ) (new : Option (List ℕ)) (status : ℕ) : Type 0 where
  pub input : Input
  pub read : ComesTo words files (Ok input)
  pub text : List ℕ
  pub returned : Bool
  pub report : MadeBy (command_of words) input returned text
  pub is_status : status ≡ (if returned then 0 else 1)
  pub gained : new ≡ Some (told ++ text)

-- no name that is new among the faults is a file of a turn that the input reaches
abbrev pub NoNewFault : List (List ℕ) → List (List ℕ) → List (List ℕ) → List FileText → Type 0
NoNewFault before now words files =
    (more : List (List ℕ)) (name : List ℕ) → now ≡ before ++ more → Contains more name → ComesTo words files (Err (stops.Unread name)) → ⊥

-- the answers of the program, before they are written

abbrev pub answer_text : Answer → List ℕ
answer_text (answer.Fault f) = fault_text f
answer_text (answer.Unread file) = unread_line file
answer_text (answer.Broken entry) = broken_line entry
answer_text (answer.Report text returned) = text
answer_text (answer.Text text) = text
answer_text answer.Accepted = accepted_line
answer_text (answer.Refused f) = fault_text f

abbrev pub status_of : Answer → ℕ
status_of (answer.Fault f) = 3
status_of (answer.Unread file) = 4
status_of (answer.Broken entry) = 7
status_of (answer.Report text true) = 0
status_of (answer.Report text false) = 1
status_of (answer.Text text) = 0
status_of answer.Accepted = 0
status_of (answer.Refused f) = 8
