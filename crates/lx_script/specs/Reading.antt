-- A case, read from left to right up to the first fault that is met.
use Rattle.std.specs.Prelude.{◌≡◌, ℕ, ℤ, pos, neg_ℤ, ◌+◌, ◌^◌, List, [], ◌∷◌, ◌++◌, length, take, drop, map, Bool, false, not, ◌&&◌, ◌||◌, ◌==◌, nat_lt, nat_le, Option, Some, None, is_some, Result, Ok, Err, if◌then◌else◌, codes, bytes_eq, position}
use Rattle.std.specs.List.{list_all}
use Rattle.lx_words.specs.Lexemes.{is_within, is_digit, is_hex, some_all}
use Rattle.lx_words.specs.Text.{decimal_value, hex_value, hex_text}
use Rattle.lx_script.specs.declared.fault.FaultKind.TheVariants.{Lexical, Statement as BadStatement, Unknown, Twice, Range, Limit}
use Rattle.lx_script.specs.declared.fault.Fault.{Fault}
use Rattle.lx_script.specs.declared.fault.ReadError.{ReadError}
use Rattle.lx_script.specs.declared.fault.ReadError.TheVariants as errors
use Rattle.lx_script.specs.declared.case.Origin.{Origin}
use Rattle.lx_script.specs.declared.case.Origin.TheVariants as origins
use Rattle.lx_script.specs.declared.case.CaseModule.{CaseModule}
use Rattle.lx_script.specs.declared.case.CaseArg.{CaseArg}
use Rattle.lx_script.specs.declared.case.CaseArg.TheVariants as args
use Rattle.lx_script.specs.declared.case.CaseCall.{CaseCall}
use Rattle.lx_script.specs.Case.{Case, most_modules, most_threads, most_calls, most_fuel, call_count, fuel_sum, IsWithinLimits}
use Rattle.lx_script.specs.Faults.{fault_met}
use Rattle.lx_script.specs.Lines.{Statement}

infixl 10 ◌>>=◌
abbrev pub ◌>>=◌ : {A B : Type 0} → Result A Fault → (A → Result B Fault) → Result B Fault
(Ok x) >>= f = f x
(Err e) >>= f = Err e

-- What a function answers, seen by view, is what reading gives, unless memory runs out.
abbrev pub Fails : {Y : Type 0} → ReadError → Result Y Fault → Type 0
Fails errors.Memory read = Unit {0}
Fails (errors.Fault f) read = read ≡ Err f

abbrev pub Gives : {X Y : Type 0} → (X → Y) → Result X ReadError → Result Y Fault → Type 0
Gives view (Ok x) read = read ≡ Ok (view x)
Gives view (Err e) read = Fails e read

-- a statement of which these words are left
abbrev pub left : ℕ → Option ℕ → List (List ℕ) → Statement
left row stop words = record { row = row; words = words; stop = stop }

-- what is met where a line has no word more: its end, or the byte that cuts it off
abbrev pub lack : ℕ → Option ℕ → Fault
lack row None = fault_met BadStatement row (codes "end")
lack row (Some byte) = fault_met Lexical row (hex_text byte)

abbrev pub word_by : ℕ → Option ℕ → List (List ℕ) → Result (List ℕ × Statement) Fault
word_by row stop [] = Err (lack row stop)
word_by row stop (w ∷ ws) = Ok (w, left row stop ws)

-- the next word, and the statement behind it
unfoldable pub word_at : Statement → Result (List ℕ × Statement) Fault
word_at s = word_by s.row s.stop s.words

abbrev pub end_by : ℕ → Option ℕ → List (List ℕ) → Result (Unit {0}) Fault
end_by row None [] = Ok tt
end_by row (Some byte) [] = Err (fault_met Lexical row (hex_text byte))
end_by row stop (w ∷ ws) = Err (fault_met BadStatement row w)

-- the end of the line
unfoldable pub end_at : Statement → Result (Unit {0}) Fault
end_at s = end_by s.row s.stop s.words

-- a word that can only be this one
unfoldable pub fixed_at : List ℕ → Statement → Result Statement Fault
fixed_at text s = do
  w ← word_at s
  if bytes_eq w.0 text then Ok w.1 else Err (fault_met BadStatement s.row w.0)

-- `lxfi case 1`
unfoldable pub version_at : Statement → Result (Unit {0}) Fault
version_at s = do
  name ← fixed_at (codes "lxfi") s
  kind ← fixed_at (codes "case") name
  number ← fixed_at (codes "1") kind
  end_at number

unfoldable pub last_at : Origin → Statement → Result Origin Fault
last_at origin s = do
  e ← end_at s
  Ok origin

unfoldable pub file_at : Statement → Result Origin Fault
file_at s = do
  name ← word_at s
  last_at (origins.File name.0) name.1

-- `none`, `builtin` or `file NAME`
unfoldable pub place_at : ℕ → List ℕ → Statement → Result Origin Fault
place_at row word s =
    if bytes_eq word (codes "none") then last_at origins.None s
    else if bytes_eq word (codes "builtin") then last_at origins.Builtin s
    else if bytes_eq word (codes "file") then file_at s
    else Err (fault_met BadStatement row word)

-- `kernel` or `interface`, and a place
unfoldable pub origin_at : List ℕ → Statement → Result Origin Fault
origin_at keyword s = do
  rest ← fixed_at keyword s
  w ← word_at rest
  place_at s.row w.0 w.1

-- a lower-case letter, and such letters, digits and `_`; not `kernel`
abbrev pub is_name_part : ℕ → Bool
is_name_part b = is_within 97 122 b || is_digit b || b == 95

abbrev pub has_name_form : List ℕ → Bool
has_name_form [] = false
has_name_form (b ∷ bs) = is_within 97 122 b && list_all is_name_part bs

abbrev pub is_module_name : List ℕ → Bool
is_module_name name = has_name_form name && not (bytes_eq name (codes "kernel"))

abbrev pub numbered_module : ℕ → List ℕ → List ℕ → Option ℕ → Result (Option ℕ × List ℕ) Fault
numbered_module row part name None = Err (fault_met Unknown row part)
numbered_module row part name (Some number) = Ok (Some number, name)

-- `kernel:f` or `M:f` in two parts, where `whole` is the word that has them
unfoldable pub symbol_in : List (List ℕ) → ℕ → List ℕ → List ℕ → List ℕ → Result (Option ℕ × List ℕ) Fault
symbol_in names row whole part name =
    if length name == 0 then Err (fault_met BadStatement row whole)
    else if bytes_eq part (codes "kernel") then Ok (None, name)
    else if is_module_name part then numbered_module row part name (position (bytes_eq part) names)
    else Err (fault_met BadStatement row whole)

abbrev pub is_colon : ℕ → Bool
is_colon b = b == 58

abbrev pub symbol_by : List (List ℕ) → ℕ → List ℕ → List ℕ → Option ℕ → Result (Option ℕ × List ℕ) Fault
symbol_by names row whole text None = Err (fault_met BadStatement row whole)
symbol_by names row whole text (Some at) = symbol_in names row whole (take at text) (drop (at + 1) text)

-- a text in two parts at its first colon
unfoldable pub symbol_at : List (List ℕ) → ℕ → List ℕ → List ℕ → Result (Option ℕ × List ℕ) Fault
symbol_at names row whole text = symbol_by names row whole text (position is_colon text)

-- decimal digits, perhaps with `-` before them
abbrev pub is_negative : List ℕ → Bool
is_negative [] = false
is_negative (b ∷ bs) = b == 45

abbrev pub digits_of : List ℕ → List ℕ
digits_of word = if is_negative word then drop 1 word else word

abbrev pub has_decimal_form : List ℕ → Bool
has_decimal_form word = some_all is_digit (digits_of word)

abbrev pub signed : Bool → ℕ → ℤ
signed negative n = if negative then neg_ℤ (pos n) else pos n

-- from -2^63 to 2^64 - 1
abbrev pub is_in_range : Bool → ℕ → Bool
is_in_range negative n = if negative then nat_le n (2 ^ 63) else nat_lt n (2 ^ 64)

abbrev pub number_in : ℕ → List ℕ → Bool → ℕ → Result CaseArg Fault
number_in row word negative n = if is_in_range negative n then Ok (args.Number (signed negative n)) else Err (fault_met Range row word)

-- `0x` and hexadecimal digits
abbrev pub has_hex_mark : List ℕ → Bool
has_hex_mark word = bytes_eq (take 2 word) (codes "0x")

abbrev pub has_hex_form : List ℕ → Bool
has_hex_form word = has_hex_mark word && some_all is_hex (drop 2 word)

-- `&` and a symbol
abbrev pub is_address : List ℕ → Bool
is_address [] = false
is_address (b ∷ bs) = b == 38

unfoldable pub address_at : List (List ℕ) → ℕ → List ℕ → Result CaseArg Fault
address_at names row word = do
  symbol ← symbol_at names row word (drop 1 word)
  Ok (args.Address symbol.0 symbol.1)

-- what a word says as an argument
unfoldable pub argument_at : List (List ℕ) → ℕ → List ℕ → Result CaseArg Fault
argument_at names row word =
    if is_address word then address_at names row word
    else if has_hex_form word then number_in row word false (hex_value (drop 2 word))
    else if has_decimal_form word then number_in row word (is_negative word) (decimal_value (digits_of word))
    else Err (fault_met BadStatement row word)

-- an argument before others
unfoldable pub with_argument : CaseArg → Result (List CaseArg × Statement) Fault → Result (List CaseArg × Statement) Fault
with_argument first read = do
  others ← read
  Ok (first ∷ others.0, others.1)

-- the arguments up to the word `fuel`, and the statement behind it
unfoldable pub arguments_by : List (List ℕ) → ℕ → Option ℕ → List (List ℕ) → Result (List CaseArg × Statement) Fault
arguments_by names row stop [] = Err (lack row stop)
arguments_by names row stop (w ∷ ws) =
    if bytes_eq w (codes "fuel") then Ok ([], left row stop ws)
    else argument_at names row w >>= λ first. with_argument first (arguments_by names row stop ws)

-- the next argument, or none at the word `fuel`
unfoldable pub next_argument_at : List (List ℕ) → Statement → Result (Option CaseArg × Statement) Fault
next_argument_at names s = do
  w ← word_at s
  if bytes_eq w.0 (codes "fuel") then Ok (None, w.1) else argument_at names s.row w.0 >>= λ argument. Ok (Some argument, w.1)

abbrev pub arguments_at : List (List ℕ) → Statement → Result (List CaseArg × Statement) Fault
arguments_at names s = arguments_by names s.row s.stop s.words

-- from 0 to 1,048,576
abbrev pub is_fuel : Bool → ℕ → Bool
is_fuel negative n = if negative then n == 0 else nat_le n most_fuel

abbrev pub fuel_in : ℕ → List ℕ → Bool → ℕ → Result ℕ Fault
fuel_in row word negative n = if is_fuel negative n then Ok n else Err (fault_met Range row word)

-- what a word says as fuel
unfoldable pub fuel_at : ℕ → List ℕ → Result ℕ Fault
fuel_at row word = if has_decimal_form word then fuel_in row word (is_negative word) (decimal_value (digits_of word)) else Err (fault_met BadStatement row word)

-- What the statements so far say: modules, and the calls of each thread.
pub record Draft : Type 0 where
  pub modules : List CaseModule
  pub threads : List (List CaseCall)

-- The counts of calls and fuel are right, and nothing is past its limit.
pub record IsCounted (modules : List CaseModule) (threads : List (List CaseCall)) (calls fuel : ℕ) : Type 0 where
  pub calls_are : calls ≡ call_count threads
  pub fuel_is : fuel ≡ fuel_sum threads
  pub within : IsWithinLimits modules threads

abbrev pub names_of : List CaseModule → List (List ℕ)
names_of modules = map (λ (m : CaseModule). m.name) modules

unfoldable pub file_of_module : Draft → List ℕ → Statement → Result Draft Fault
file_of_module d name s = do
  file ← word_at s
  e ← end_at file.1
  Ok (record { modules = d.modules ++ record { name = name; file = file.0 } ∷ []; threads = d.threads })

unfoldable pub module_named : Draft → ℕ → List ℕ → Statement → Result Draft Fault
module_named d row name s =
    if not (is_module_name name) then Err (fault_met BadStatement row name)
    else if is_some (position (bytes_eq name) (names_of d.modules)) then Err (fault_met Twice row name)
    else file_of_module d name s

-- behind the word `module`: `M FILE`, before any thread
unfoldable pub module_at : Draft → Statement → Result Draft Fault
module_at d s =
    if nat_lt 0 (length d.threads) then Err (fault_met BadStatement s.row (codes "module"))
    else if nat_le most_modules (length d.modules) then Err (fault_met Limit s.row (codes "modules"))
    else word_at s >>= λ name. module_named d s.row name.0 name.1

-- behind the word `thread`: nothing
unfoldable pub thread_at : Draft → Statement → Result Draft Fault
thread_at d s =
    if nat_le most_threads (length d.threads) then Err (fault_met Limit s.row (codes "threads"))
    else end_at s >>= λ e. Ok (record { modules = d.modules; threads = d.threads ++ [] ∷ [] })

-- a call more in the last thread
abbrev pub with_call : CaseCall → List (List CaseCall) → List (List CaseCall)
with_call call [] = []
with_call call (t ∷ []) = (t ++ call ∷ []) ∷ []
with_call call (t ∷ u ∷ ts) = t ∷ with_call call (u ∷ ts)

-- fuel that fits beside the fuel so far
unfoldable pub spent_at : ℕ → ℕ → Statement → Result (ℕ × Statement) Fault
spent_at row spent s = do
  w ← word_at s
  fuel ← fuel_at row w.0
  if nat_lt most_fuel (spent + fuel) then Err (fault_met Limit row (codes "fuel")) else Ok (fuel, w.1)

-- `TARGET ARG .. fuel N`, as a call
unfoldable pub call_in : List (List ℕ) → ℕ → Statement → Result CaseCall Fault
call_in names spent s = do
  w ← word_at s
  target ← symbol_at names s.row w.0 w.0
  arguments ← arguments_at names w.1
  fuel ← spent_at s.row spent arguments.1
  e ← end_at fuel.1
  Ok (record { target = record { «module» = target.0; function = target.1 }; args = arguments.0; fuel = fuel.0; line = s.row })

-- behind the word `call`: a call of the last thread
unfoldable pub call_at : Draft → Statement → Result Draft Fault
call_at d s =
    if length d.threads == 0 then Err (fault_met BadStatement s.row (codes "call"))
    else if nat_le most_calls (call_count d.threads) then Err (fault_met Limit s.row (codes "calls"))
    else call_in (names_of d.modules) (fuel_sum d.threads) s >>= λ call. Ok (record { modules = d.modules; threads = with_call call d.threads })

-- a statement behind the first three, by its first word
unfoldable pub statement_by : Draft → ℕ → List ℕ → Statement → Result Draft Fault
statement_by d row word s =
    if bytes_eq word (codes "module") then module_at d s
    else if bytes_eq word (codes "thread") then thread_at d s
    else if bytes_eq word (codes "call") then call_at d s
    else Err (fault_met BadStatement row word)

unfoldable pub statement_at : Draft → Statement → Result Draft Fault
statement_at d s = do
  w ← word_at s
  statement_by d s.row w.0 w.1

unfoldable pub body_at : Draft → List Statement → Result Draft Fault
body_at d [] = Ok d
body_at d (s ∷ ss) = statement_at d s >>= λ e. body_at e ss

-- The next of the first three statements: where there is none, the end of the text is met in the line before.
unfoldable pub next_at : ℕ → List Statement → Result (Statement × List Statement) Fault
next_at row [] = Err (fault_met BadStatement row (codes "end"))
next_at row (s ∷ ss) = Ok (s, ss)

-- the case that statements say
unfoldable pub case_at : List Statement → Result Case Fault
case_at statements = do
  first ← next_at 1 statements
  version ← version_at first.0
  second ← next_at first.0.row first.1
  kernel ← origin_at (codes "kernel") second.0
  third ← next_at second.0.row second.1
  interface ← origin_at (codes "interface") third.0
  draft ← body_at (record { modules = []; threads = [] }) third.1
  Ok (record { kernel = kernel; interface = interface; modules = draft.modules; threads = draft.threads })
