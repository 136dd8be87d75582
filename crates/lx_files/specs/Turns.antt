-- Turns: what asking for files and reading them may come to, one after the other. Each is a relation on answers, and any
-- turn may come to want of memory.
use Rattle.std.specs.Prelude.{◌≡◌, ℕ, ◌<◌, ◌≤◌, List, [], ◌∷◌, ◌++◌, length, Option, Some, Result, Ok, Err}
use Rattle.lx_outside.specs.declared.file_text.FileText.{FileText}
use Rattle.lx_outside.specs.Files.{file_at}
use Rattle.lx_files.specs.declared.line.FaultLine.{FaultLine}
use Rattle.lx_files.specs.declared.stop.InputStop.{InputStop}
use Rattle.lx_files.specs.declared.stop.InputStop.TheVariants as stops
use Rattle.lx_files.specs.Faults.{too_long}

-- the bytes that a file may have
abbrev pub most_bytes : ℕ
most_bytes = 1048576

-- A file is asked for: its text, or that it has too many bytes. A shelf may fail at any file, and fails at one that it lacks.
abbrev pub Asks : List FileText → List ℕ → Result (List ℕ) InputStop → Type 0
Asks files name (Ok text) = (file_at files name ≡ Some text) × (length text ≤ most_bytes)
Asks files name (Err (stops.Fault f)) = (text : List ℕ) × (file_at files name ≡ Some text) × (most_bytes < length text) × (f ≡ too_long name)
Asks files name (Err (stops.Unread file)) = file ≡ name
Asks files name (Err stops.Memory) = Unit {0}

-- the same of a file with this text
abbrev pub HasLength : List ℕ → List ℕ → Result (List ℕ) InputStop → Type 0
HasLength name text (Ok given) = (given ≡ text) × (length text ≤ most_bytes)
HasLength name text (Err (stops.Fault f)) = (most_bytes < length text) × (f ≡ too_long name)
HasLength name text (Err (stops.Unread file)) = ⊥
HasLength name text (Err stops.Memory) = Unit {0}

-- A text is read: what it says, or its first fault.
abbrev pub Reads : {A : Type 0} → (List ℕ → A → Type 0) → (List ℕ → FaultLine → Type 0) → List ℕ → Result A InputStop → Type 0
Reads Says Tells text (Ok x) = Says text x
Reads Says Tells text (Err (stops.Fault f)) = Tells text f
Reads Says Tells text (Err (stops.Unread file)) = ⊥
Reads Says Tells text (Err stops.Memory) = Unit {0}

-- a line about the first fault of a text
abbrev pub Tells : {E : Type 0} → (List ℕ → E → Type 0) → (E → Option FaultLine) → List ℕ → FaultLine → Type 0
Tells {E} First line text f = (e : E) × First text e × (line e ≡ Some f)

-- behind what a turn came to, the next one; a stop ends all turns
abbrev pub Goes : {A B : Type 0} → (A → Result B InputStop → Type 0) → Result A InputStop → Result B InputStop → Type 0
Goes next (Ok x) answer = next x answer
Goes next (Err e) answer = answer ≡ Err e

-- a turn, and the next behind it
abbrev pub Then : {A B : Type 0} → (Result A InputStop → Type 0) → (A → Result B InputStop → Type 0) → Result B InputStop → Type 0
Then {A} first next answer = (came : Result A InputStop) × first came × Goes next came answer

-- nothing is asked for
abbrev pub Gives : {A : Type 0} → A → Result A InputStop → Type 0
Gives x answer = answer ≡ Ok x

-- the shelf's faults are more by the file that was not read, and otherwise the same
abbrev pub HasNoted : {A : Type 0} → List (List ℕ) → List (List ℕ) → Result A InputStop → Type 0
HasNoted before now (Ok x) = now ≡ before
HasNoted before now (Err (stops.Unread file)) = now ≡ before ++ file ∷ []
HasNoted before now (Err (stops.Fault f)) = now ≡ before
HasNoted before now (Err stops.Memory) = now ≡ before

-- What a call did to the shelf: where its files are told, the answer is one of the turn; the files stay; and the faults
-- became more by the file that was not read.
pub record Took {A : Type 0} (files_before files_now : Option (List FileText)) (faults_before faults_now : List (List ℕ)) (turn : List FileText → Result A InputStop → Type 0) (answer : Result A InputStop) : Type 0 where
  pub told : (files : List FileText) → files_before ≡ Some files → turn files answer
  pub files_stay : files_now ≡ files_before
  pub noted : HasNoted faults_before faults_now answer
