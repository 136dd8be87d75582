-- The faults of interface texts.
use Rattle.std.specs.Prelude.{◌≡◌, ℕ, ◌-◌, List, length, Option, Some, None, Result, Ok, Err, codes, slice_get}
use Rattle.std.specs.Option.{option_map_or}
use Rattle.lx_words.specs.declared.token.Token.{Token}
use Rattle.lx_words.specs.declared.token.Stop.{Stop}
use Rattle.lx_words.specs.Cuts.{bytes_of}
use Rattle.lx_words.specs.Text.{hex_text}
use Rattle.lx_annot_expressions.specs.declared.fault.FaultKind.{FaultKind}
use Rattle.lx_annot_expressions.specs.declared.fault.FaultKind.TheVariants as parts
use Rattle.lx_annot_read.specs.declared.fault.Kind.{Kind}
use Rattle.lx_annot_read.specs.declared.fault.Kind.TheVariants as kinds
use Rattle.lx_annot_read.specs.declared.fault.Met.{Met}
use Rattle.lx_annot_read.specs.declared.fault.Failure.{Failure}
use Rattle.lx_annot_read.specs.declared.fault.Failure.TheVariants as failures
use Rattle.lx_annot_read.specs.declared.fault.InterfaceFault.{InterfaceFault}
use Rattle.lx_annot_read.specs.declared.fault.InterfaceFault.TheVariants as faults
use Rattle.lx_annot_read.specs.Said.{what_of}

-- the fault of a kind, in a line, with the words that name it
abbrev pub fault_of : Kind → ℕ → List ℕ → InterfaceFault
fault_of kinds.Lexical line what = faults.Lexical line what
fault_of kinds.Statement line what = faults.Statement line what
fault_of kinds.Unknown line what = faults.Unknown line what
fault_of kinds.Twice line what = faults.Twice line what
fault_of kinds.NeedsSize line what = faults.NeedsSize line what

-- a fault as the reader answers it
abbrev pub answered : Met → InterfaceFault
answered met = fault_of met.kind met.line met.what

abbrev pub answer : Failure → InterfaceFault
answer failures.Memory = faults.Memory
answer (failures.Fault met) = answered met

abbrev pub kind_of : FaultKind → Kind
kind_of parts.Statement = kinds.Statement
kind_of parts.Unknown = kinds.Unknown
kind_of parts.Twice = kinds.Twice
kind_of parts.NeedsSize = kinds.NeedsSize

abbrev pub met_as : Kind → ℕ → List ℕ → Met
met_as kind line what = record { kind = kind; line = line; what = what }

-- the line of the last token, or 1 where there is none
abbrev pub last_line : List Token → ℕ
last_line tokens = option_map_or (λ (t : Token). t.line) (slice_get tokens (length tokens - 1)) 1

-- the byte that begins no token
abbrev pub lexical : Stop → Met
lexical s = met_as kinds.Lexical s.line (hex_text s.byte)

-- Where the tokens end, that byte is met, or the end of the text.
abbrev pub met_at_end : List Token → Option Stop → Met
met_at_end tokens None = met_as kinds.Statement (last_line tokens) (codes "end")
met_at_end tokens (Some s) = lexical s

-- a fault of a kind at a token, where there is one
abbrev pub met_at : List ℕ → Option Stop → List Token → FaultKind → Option Token → Met
met_at text stop tokens kind None = met_at_end tokens stop
met_at text stop tokens kind (Some t) = met_as (kind_of kind) t.line (what_of kind t.kind (bytes_of text t))

-- this fault, or want of memory
abbrev pub IsError : Met → Failure → Type 0
IsError met failures.Memory = Unit {0}
IsError met (failures.Fault found) = found ≡ met

-- the error says this fault, or that memory ran out
abbrev pub Fails : {Y : Type 0} → Failure → Result Y Met → Type 0
Fails failures.Memory read = Unit {0}
Fails (failures.Fault met) read = read ≡ Err met

-- An answer, seen by view, is what reading gives, unless memory ran out.
abbrev pub Gives : {X Y : Type 0} → (X → Y) → Result X Failure → Result Y Met → Type 0
Gives view (Ok x) read = read ≡ Ok (view x)
Gives view (Err e) read = Fails e read
