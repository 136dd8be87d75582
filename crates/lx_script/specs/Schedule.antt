-- What a text says as a schedule, and its first fault.
use Rattle.std.specs.Prelude.{◌≡◌, ℕ, ◌+◌, ◌<◌, ◌≤◌, List, [], ◌∷◌, ◌++◌, length, Bool, true, Ok, Err, replicate, codes, ◌⊎◌}
use Rattle.lx_words.specs.Text.{hex_text}
use Rattle.lx_script.specs.declared.fault.FaultKind.TheVariants.{Lexical, Limit}
use Rattle.lx_script.specs.declared.fault.Fault.{Fault}
use Rattle.lx_script.specs.declared.fault.ReadError.{ReadError}
use Rattle.lx_script.specs.declared.fault.ReadError.TheVariants as errors
use Rattle.lx_script.specs.declared.fault.CaseFault.{CaseFault}
use Rattle.lx_script.specs.declared.fault.CaseFault.TheVariants as faults
use Rattle.lx_script.specs.Faults.{fault_met, answered}
use Rattle.lx_script.specs.Words.{Word, Passes, AreWords}
use Rattle.lx_script.specs.Runs.{Wrong, run_says}

abbrev pub most_entries : ℕ
most_entries = 1052672

abbrev pub schedule_word : List ℕ
schedule_word = codes "schedule"

-- the entries that runs say, one after the other
abbrev pub Says : List Word → List ℕ → Type 0
Says [] entries = entries ≡ []
Says (w ∷ ws) entries = (run : ℕ × ℕ) × (others : List ℕ) × (run_says w.bytes ≡ Ok run) × (entries ≡ replicate run.1 run.0 ++ others) × Says ws others

-- the word `schedule`, or nothing
abbrev pub IsHead : List Word → Type 0
IsHead [] = Unit {0}
IsHead (w ∷ []) = w.bytes ≡ schedule_word
IsHead (w ∷ v ∷ ws) = ⊥

-- The words are a schedule of these entries.
pub record Spells (words : List Word) (entries : List ℕ) : Type 0 where
  pub head : List Word
  pub runs : List Word
  pub whole : words ≡ head ++ runs
  pub is_head : IsHead head
  pub says : Says runs entries
  pub room : length entries ≤ most_entries

-- Behind these words a word is at fault by itself.
pub record IsWrong (before : List Word) (w : Word) (fault : Fault) : Type 0 where
  pub wrong : Wrong
  pub is : run_says w.bytes ≡ Err wrong
  pub no_head : before ≡ [] → w.bytes ≡ schedule_word → ⊥
  pub fault_is : fault ≡ fault_met wrong.0 w.line wrong.1

-- Behind this many entries a word says more than there may be.
pub record IsPast (count : ℕ) (w : Word) (fault : Fault) : Type 0 where
  pub run : ℕ × ℕ
  pub is : run_says w.bytes ≡ Ok run
  pub past : most_entries < count + run.1
  pub fault_is : fault ≡ fault_met Limit w.line (codes "entries")

-- The words before this one are a schedule's, and this one cannot stand behind them.
pub record FailsAtWord (text : List ℕ) (fault : Fault) : Type 0 where
  pub before : List Word
  pub word : Word
  pub entries : List ℕ
  pub rest : List ℕ
  pub line : ℕ
  pub words : Passes text 1 (before ++ word ∷ []) rest line
  pub fine : Spells before entries
  pub fault_at : IsWrong before word fault ⊎ IsPast (length entries) word fault

-- The text is a schedule of these entries.
abbrev pub Reads : List ℕ → List ℕ → Type 0
Reads text entries = (words : List Word) × (line : ℕ) × AreWords text words [] line × Spells words entries

-- The words before a byte that stands in no word are a schedule.
abbrev pub FailsAtByte : List ℕ → Fault → Type 0
FailsAtByte text fault =
    (words : List Word) × (entries : List ℕ) × (byte : ℕ) × (more : List ℕ) × (line : ℕ) × AreWords text words (byte ∷ more) line × Spells words entries × (fault ≡ fault_met Lexical line (hex_text byte))

-- the first thing in a text that cannot stand there
abbrev pub FirstFault : List ℕ → Fault → Type 0
FirstFault text fault = FailsAtWord text fault ⊎ FailsAtByte text fault

-- the same, as it is answered
abbrev pub FirstScheduleFault : List ℕ → CaseFault → Type 0
FirstScheduleFault text fault = (met : Fault) × FirstFault text met × (fault ≡ answered met)

-- A reader may answer so: the first fault, or want of memory.
abbrev pub ScheduleFails : List ℕ → CaseFault → Type 0
ScheduleFails text faults.Memory = Unit {0}
ScheduleFails text fault = FirstScheduleFault text fault

-- A reader may stop so.
abbrev pub Fails : List ℕ → ReadError → Type 0
Fails text errors.Memory = Unit {0}
Fails text (errors.Fault fault) = FirstFault text fault

-- What a word adds: nothing where it is the head, or a run.
abbrev pub Adds : Bool → List ℕ → List ℕ → List ℕ → Type 0
Adds first word old new = ((first ≡ true) × (word ≡ schedule_word) × (new ≡ old)) ⊎ ((run : ℕ × ℕ) × (run_says word ≡ Ok run) × (new ≡ old ++ replicate run.1 run.0) × (length old + run.1 ≤ most_entries))

-- Why a word adds nothing.
abbrev pub RefusesBy : Bool → List ℕ → ℕ → ℕ → Fault → Type 0
RefusesBy first word line count fault = ((wrong : Wrong) × (run_says word ≡ Err wrong) × (first ≡ true → word ≡ schedule_word → ⊥) × (fault ≡ fault_met wrong.0 line wrong.1))
    ⊎ ((run : ℕ × ℕ) × (run_says word ≡ Ok run) × (most_entries < count + run.1) × (fault ≡ fault_met Limit line (codes "entries")))

abbrev pub Refuses : Bool → List ℕ → ℕ → ℕ → ReadError → Type 0
Refuses first word line count errors.Memory = Unit {0}
Refuses first word line count (errors.Fault fault) = RefusesBy first word line count fault
