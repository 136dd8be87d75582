-- What the turns come to is settled.
use Rattle.std.specs.Prelude.{◌≡◌, ℕ, List, None, Result, Ok, Err}
use Rattle.lx_outside.specs.declared.file_text.FileText.{FileText}
use Rattle.lx_outside.specs.Files.{file_at}
use Rattle.lx_files.specs.declared.stop.InputStop.{InputStop}
use Rattle.lx_files.specs.declared.stop.InputStop.TheVariants as stops
use Rattle.lx_files.specs.Asked.{Asked}
use Rattle.lx_files.specs.Inputs.{SourcesTurn}

-- an answer that does not depend on memory and the shelf's faults: what was read, or a fault
abbrev pub IsSettled : {A : Type 0} → Result A InputStop → Type 0
IsSettled (Ok x) = Unit {0}
IsSettled (Err (stops.Fault f)) = Unit {0}
IsSettled (Err (stops.Unread file)) = ⊥
IsSettled (Err stops.Memory) = ⊥

-- a turn has at most one such answer
abbrev pub IsOne : {A : Type 0} → (Result A InputStop → Type 0) → Type 0
IsOne {A} turn = (a b : Result A InputStop) → turn a → turn b → IsSettled a → IsSettled b → a ≡ b

-- and none behind a file that is reached and not there
abbrev pub EndsAt : {A : Type 0} → List FileText → (Result A InputStop → Type 0) → Type 0
EndsAt {A} files turn = (file : List ℕ) (a : Result A InputStop) → turn (Err (stops.Unread file)) → file_at files file ≡ None → turn a → IsSettled a → ⊥

-- A text says one thing at most, has one first fault at most, and not both.
pub record IsSure {A E : Type 0} (Says : List ℕ → A → Type 0) (First : List ℕ → E → Type 0) : Type 0 where
  pub value : (text : List ℕ) (a b : A) → Says text a → Says text b → a ≡ b
  pub fault : (text : List ℕ) (e f : E) → First text e → First text f → e ≡ f
  pub apart : (text : List ℕ) (a : A) (f : E) → Says text a → First text f → ⊥

abbrev pub OneInput : Type 0
OneInput = (files : List FileText) (case : List ℕ) (asked : Asked) → IsOne (SourcesTurn files case asked)

abbrev pub MissingFilesEnd : Type 0
MissingFilesEnd = (files : List FileText) (case : List ℕ) (asked : Asked) → EndsAt files (SourcesTurn files case asked)
