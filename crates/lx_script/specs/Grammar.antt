-- What a text says as a case: its statements stand one behind the other.
use Rattle.std.specs.Prelude.{◌≡◌, ℕ, ◌+◌, ◌<◌, ◌≤◌, List, [], ◌∷◌, ◌++◌, length, true, None, Ok, Err, codes, bytes_eq, position, ◌⊎◌}
use Rattle.lx_script.specs.declared.case.Origin.{Origin}
use Rattle.lx_script.specs.declared.case.Origin.TheVariants as origins
use Rattle.lx_script.specs.declared.case.CaseArg.{CaseArg}
use Rattle.lx_script.specs.declared.case.CaseCall.{CaseCall}
use Rattle.lx_script.specs.declared.fault.Fault.{Fault}
use Rattle.lx_script.specs.declared.fault.CaseFault.{CaseFault}
use Rattle.lx_script.specs.declared.fault.CaseFault.TheVariants as faults
use Rattle.lx_script.specs.Case.{Case, most_modules, most_threads, most_calls, most_fuel, call_count, fuel_sum}
use Rattle.lx_script.specs.Faults.{answered}
use Rattle.lx_script.specs.Lines.{Statement, statements_of}
use Rattle.lx_script.specs.Reading.{Draft, names_of, is_module_name, symbol_at, argument_at, fuel_at, with_call, case_at}

-- A statement has these words, and nothing cuts it off.
abbrev pub Has : Statement → List (List ℕ) → Type 0
Has s words = (s.words ≡ words) × (s.stop ≡ None)

-- `none`, `builtin` or `file NAME`
abbrev pub origin_words : Origin → List (List ℕ)
origin_words origins.None = codes "none" ∷ []
origin_words origins.Builtin = codes "builtin" ∷ []
origin_words (origins.File name) = codes "file" ∷ name ∷ []

-- `module M FILE`, before any thread: a new module, of which there are not too many.
pub record IsModule (old : Draft) (s : Statement) (new : Draft) : Type 0 where
  pub name : List ℕ
  pub file : List ℕ
  pub has : Has s (codes "module" ∷ name ∷ file ∷ [])
  pub no_thread : old.threads ≡ []
  pub room : length old.modules < most_modules
  pub named : is_module_name name ≡ true
  pub first : position (bytes_eq name) (names_of old.modules) ≡ None
  pub is : new ≡ record { modules = old.modules ++ record { name = name; file = file } ∷ []; threads = old.threads }

-- `thread`: a thread without calls, of which there are not too many.
pub record IsThread (old : Draft) (s : Statement) (new : Draft) : Type 0 where
  pub has : Has s (codes "thread" ∷ [])
  pub room : length old.threads < most_threads
  pub is : new ≡ record { modules = old.modules; threads = old.threads ++ [] ∷ [] }

-- words that say arguments, one each
abbrev pub AreArguments : List (List ℕ) → ℕ → List (List ℕ) → List CaseArg → Type 0
AreArguments names row [] [] = Unit {0}
AreArguments names row [] (a ∷ rest) = ⊥
AreArguments names row (w ∷ ws) [] = ⊥
AreArguments names row (w ∷ ws) (a ∷ rest) = (argument_at names row w ≡ Ok a) × AreArguments names row ws rest

-- `call TARGET ARG .. fuel N`, under a thread: a call of the last thread, where calls and fuel are not too many.
pub record IsCall (old : Draft) (s : Statement) (new : Draft) : Type 0 where
  pub target : List ℕ
  pub arguments : List (List ℕ)
  pub fuel : List ℕ
  pub call : CaseCall
  pub has : Has s (codes "call" ∷ target ∷ (arguments ++ codes "fuel" ∷ fuel ∷ []))
  pub some_thread : 0 < length old.threads
  pub room : call_count old.threads < most_calls
  pub target_is : symbol_at (names_of old.modules) s.row target target ≡ Ok (call.target.«module», call.target.function)
  pub arguments_are : AreArguments (names_of old.modules) s.row arguments call.args
  pub fuel_is : fuel_at s.row fuel ≡ Ok call.fuel
  pub fuel_fits : fuel_sum old.threads + call.fuel ≤ most_fuel
  pub line_is : call.line ≡ s.row
  pub is : new ≡ record { modules = old.modules; threads = with_call call old.threads }

-- A statement stands behind what was said before it.
abbrev pub Stands : Draft → Statement → Draft → Type 0
Stands old s new = IsModule old s new ⊎ IsThread old s new ⊎ IsCall old s new

-- Statements stand, each behind those before it.
abbrev pub StandAll : Draft → List Statement → Draft → Type 0
StandAll old [] new = old ≡ new
StandAll old (s ∷ ss) new = (next : Draft) × Stands old s next × StandAll next ss new

-- The statements are a case: its version, where kernel and interface come from, and modules and threads.
pub record IsCase (statements : List Statement) (case : Case) : Type 0 where
  pub version : Statement
  pub kernel : Statement
  pub interface : Statement
  pub body : List Statement
  pub whole : statements ≡ version ∷ kernel ∷ interface ∷ body
  pub version_has : Has version (codes "lxfi" ∷ codes "case" ∷ codes "1" ∷ [])
  pub kernel_has : Has kernel (codes "kernel" ∷ origin_words case.kernel)
  pub interface_has : Has interface (codes "interface" ∷ origin_words case.interface)
  pub body_stands : StandAll (record { modules = []; threads = [] }) body (record { modules = case.modules; threads = case.threads })

-- The text is this case.
abbrev pub SaysCase : List ℕ → Case → Type 0
SaysCase text case = IsCase (statements_of text) case

-- what is met first in a text, read from left to right, that cannot stand there
abbrev pub FirstCaseFault : List ℕ → CaseFault → Type 0
FirstCaseFault text fault = (met : Fault) × (case_at (statements_of text) ≡ Err met) × (fault ≡ answered met)

-- A reader may answer so: the first fault, or want of memory.
abbrev pub CaseFails : List ℕ → CaseFault → Type 0
CaseFails text faults.Memory = Unit {0}
CaseFails text fault = FirstCaseFault text fault

-- Some case begins with these statements.
abbrev pub BeginsCase : List Statement → Type 0
BeginsCase statements = (more : List Statement) × (case : Case) × IsCase (statements ++ more) case

-- The first statement that cannot stand: some case begins with those before it, and none goes on with this one.
pub record HasWrongStatement (statements : List Statement) : Type 0 where
  pub before : List Statement
  pub wrong : Statement
  pub behind : List Statement
  pub whole : statements ≡ before ++ wrong ∷ behind
  pub begins : BeginsCase before
  pub never : BeginsCase (before ++ wrong ∷ []) → ⊥

-- All statements stand, and they are too few.
pub record HasTooFew (statements : List Statement) : Type 0 where
  pub few : length statements < 3
  pub begins : BeginsCase statements
