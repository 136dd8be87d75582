-- The faults of case and schedule texts.
use Rattle.std.specs.Prelude.{◌≡◌, ℕ, List}
use Rattle.lx_script.specs.declared.fault.FaultKind.{FaultKind}
use Rattle.lx_script.specs.declared.fault.FaultKind.TheVariants as kinds
use Rattle.lx_script.specs.declared.fault.Fault.{Fault}
use Rattle.lx_script.specs.declared.fault.ReadError.{ReadError}
use Rattle.lx_script.specs.declared.fault.ReadError.TheVariants as errors
use Rattle.lx_script.specs.declared.fault.CaseFault.{CaseFault}
use Rattle.lx_script.specs.declared.fault.CaseFault.TheVariants as faults

-- the fault of a kind, in a line, with the words that name it
abbrev pub fault_of : FaultKind → ℕ → List ℕ → CaseFault
fault_of kinds.Lexical line what = faults.Lexical line what
fault_of kinds.Statement line what = faults.Statement line what
fault_of kinds.Unknown line what = faults.Unknown line what
fault_of kinds.Twice line what = faults.Twice line what
fault_of kinds.Range line what = faults.Range line what
fault_of kinds.Limit line what = faults.Limit line what

-- the fault that is met in a line
abbrev pub fault_met : FaultKind → ℕ → List ℕ → Fault
fault_met kind line what = record { kind = kind; line = line; what = what }

-- this fault, or want of memory
abbrev pub IsError : Fault → ReadError → Type 0
IsError fault errors.Memory = Unit {0}
IsError fault (errors.Fault found) = found ≡ fault

abbrev pub IsMet : FaultKind → ℕ → List ℕ → ReadError → Type 0
IsMet kind line what error = IsError (fault_met kind line what) error

-- a fault as readers answer it
abbrev pub answered : Fault → CaseFault
answered fault = fault_of fault.kind fault.line fault.what

abbrev pub answer : ReadError → CaseFault
answer errors.Memory = faults.Memory
answer (errors.Fault fault) = answered fault
