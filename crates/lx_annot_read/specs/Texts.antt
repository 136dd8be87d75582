-- Reading a whole text, and its first fault.
use Rattle.std.specs.Prelude.{◌≡◌, ℕ, zero, suc, ◌-◌, List, [], ◌∷◌, length, take, drop, Option, Some, None, Result, Ok, Err, slice_get}
use Rattle.lx_words.specs.declared.token.TokenRule.TheVariants as rules
use Rattle.lx_words.specs.declared.token.Token.{Token}
use Rattle.lx_words.specs.declared.token.Stop.{Stop}
use Rattle.lx_words.specs.Cuts.{Scans}
use Rattle.lx_annot.specs.declared.interface.Interface.{Interface}
use Rattle.lx_annot_expressions.specs.declared.fault.Fault.{Fault}
use Rattle.lx_annot_expressions.specs.declared.fault.ReadError.{ReadError}
use Rattle.lx_annot_expressions.specs.declared.fault.ReadError.TheVariants as errors
use Rattle.lx_annot_expressions.specs.Tokens.{Tok, toks_of, most_tokens}
use Rattle.lx_annot_expressions.specs.Reading.{Read}
use Rattle.lx_annot_read.specs.declared.fault.Met.{Met}
use Rattle.lx_annot_read.specs.declared.fault.Failure.{Failure}
use Rattle.lx_annot_read.specs.declared.fault.Failure.TheVariants as failures
use Rattle.lx_annot_read.specs.declared.fault.InterfaceFault.{InterfaceFault}
use Rattle.lx_annot_read.specs.declared.fault.InterfaceFault.TheVariants as faults
use Rattle.lx_annot_read.specs.Faults.{met_at, lexical, answered, IsError}
use Rattle.lx_annot_read.specs.declared.head.Version.{Version}
use Rattle.lx_annot_read.specs.Head.{head_at}
use Rattle.lx_annot_read.specs.Interfaces.{empty, statement_at}

-- A statement is read from the next 1,024 tokens; where it wants one more, that one cannot stand there.
abbrev pub window : List Token → List Token
window tokens = take most_tokens tokens

-- the tokens behind those that were read
abbrev pub rest_behind : List Token → List Tok → List Token
rest_behind tokens left = drop (length (window tokens) - length left) tokens

-- the token of a fault: the first one behind the window, where that ends
abbrev pub place_of : List Token → ℕ → Option Token
place_of tokens left = slice_get tokens (length (window tokens) - left)

abbrev pub fault_in : List ℕ → Option Stop → List Token → Fault → Met
fault_in text stop tokens f = met_at text stop tokens f.kind (place_of tokens f.left)

-- what is met where reading fails so
abbrev pub IsFailed : List ℕ → Option Stop → List Token → ReadError → Failure → Type 0
IsFailed text stop tokens errors.Memory found = found ≡ failures.Memory
IsFailed text stop tokens (errors.Fault f) found = IsError (fault_in text stop tokens f) found

-- what the next 1,024 tokens say, and the tokens behind those that were read
abbrev pub limited : {A : Type 0} → List ℕ → Option Stop → List Token → Read A → Result (A × List Token) Met
limited text stop tokens (Ok x) = Ok (x.0, rest_behind tokens x.1)
limited text stop tokens (Err f) = Err (fault_in text stop tokens f)

-- the tokens of a statement, as the grammar sees them
abbrev pub seen : List ℕ → List Token → List Tok
seen text tokens = toks_of text (window tokens)

-- the version of a text
unfoldable pub first_at : List ℕ → Option Stop → List Token → Result (Version × List Token) Met
first_at text stop tokens = limited text stop tokens (head_at (seen text tokens))

-- a statement in a line, put to those before it
unfoldable pub next_at : List ℕ → Option Stop → Version → ℕ → Interface → List Token → Result (Interface × List Token) Met
next_at text stop version line i tokens = limited text stop tokens (statement_at version line i (seen text tokens))

infixl 10 ◌and_then◌
abbrev pub ◌and_then◌ : {A B : Type 0} → Result A Met → (A → Result B Met) → Result B Met
(Ok x) and_then f = f x
(Err e) and_then f = Err e

-- The statements up to the end; the number is at least that of the tokens. The line of a statement is that of its first token.
unfoldable pub body_at : List ℕ → Option Stop → Version → ℕ → Interface → List Token → Result Interface Met
body_at text stop version zero i tokens = Ok i
body_at text stop version (suc n) i [] = Ok i
body_at text stop version (suc n) i (t ∷ ts) = next_at text stop version t.line i (t ∷ ts) and_then λ j. body_at text stop version n j.0 j.1

-- The tokens before a byte that begins none are read first.
abbrev pub ended : Option Stop → Interface → Result Interface Met
ended None i = Ok i
ended (Some s) i = Err (lexical s)

-- what the tokens of a text say
unfoldable pub interface_at : List ℕ → Option Stop → List Token → Result Interface Met
interface_at text stop tokens =
    first_at text stop tokens and_then λ h. body_at text stop h.0 (length h.1) empty h.1 and_then λ i. ended stop i

-- The text says this interface.
abbrev pub SaysInterface : List ℕ → Interface → Type 0
SaysInterface text i = (tokens : List Token) × (stop : Option Stop) × Scans rules.Interface text tokens stop × (interface_at text stop tokens ≡ Ok i)

-- what is met first in the text that cannot stand there
abbrev pub FirstInterfaceFault : List ℕ → InterfaceFault → Type 0
FirstInterfaceFault text fault =
    (tokens : List Token) × (stop : Option Stop) × (met : Met) × Scans rules.Interface text tokens stop × (interface_at text stop tokens ≡ Err met) × (fault ≡ answered met)

-- The reader may answer so: the first fault, or want of memory.
abbrev pub InterfaceFails : List ℕ → InterfaceFault → Type 0
InterfaceFails text faults.Memory = Unit {0}
InterfaceFails text fault = FirstInterfaceFault text fault
