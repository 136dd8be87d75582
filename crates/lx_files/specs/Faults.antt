-- The faults that readers meet, as lines about a file.
use Rattle.std.specs.Prelude.{◌≡◌, ℕ, List, codes, Option, Some, None}
use Rattle.lx_script.specs.declared.fault.CaseFault.{CaseFault}
use Rattle.lx_script.specs.declared.fault.CaseFault.TheVariants as scripts
use Rattle.lx_ir_read.specs.declared.fault.ReadFault.{ReadFault}
use Rattle.lx_ir_read.specs.declared.fault.ReadFault.TheVariants as modules
use Rattle.lx_annot_read.specs.declared.fault.InterfaceFault.{InterfaceFault}
use Rattle.lx_annot_read.specs.declared.fault.InterfaceFault.TheVariants as interfaces
use Rattle.lx_files.specs.declared.line.FaultKind.{FaultKind}
use Rattle.lx_files.specs.declared.line.FaultKind.TheVariants as kinds
use Rattle.lx_files.specs.declared.line.FaultLine.{FaultLine}
use Rattle.lx_files.specs.declared.stop.InputStop.{InputStop}
use Rattle.lx_files.specs.declared.stop.InputStop.TheVariants as stops

-- the fault of this kind and number that is met in a line of a file
abbrev pub fault_at : List ℕ → FaultKind → ℕ → ℕ → List ℕ → FaultLine
fault_at file kind number line what = record { file = file; line = line; kind = kind; number = number; what = what }

-- a file that has too many bytes
abbrev pub too_long : List ℕ → FaultLine
too_long file = fault_at file kinds.Limit 1 1 (codes "file")

-- The faults of each reader have their numbers in order. Want of memory is no fault of a text.

-- the faults of cases, and of schedules
abbrev pub script_line : FaultKind → List ℕ → CaseFault → Option FaultLine
script_line kind file scripts.Memory = None
script_line kind file (scripts.Lexical line what) = Some (fault_at file kind 1 line what)
script_line kind file (scripts.Statement line what) = Some (fault_at file kind 2 line what)
script_line kind file (scripts.Unknown line what) = Some (fault_at file kind 3 line what)
script_line kind file (scripts.Twice line what) = Some (fault_at file kind 4 line what)
script_line kind file (scripts.Range line what) = Some (fault_at file kind 5 line what)
script_line kind file (scripts.Limit line what) = Some (fault_at file kind 6 line what)

abbrev pub module_line : List ℕ → ReadFault → Option FaultLine
module_line file modules.Memory = None
module_line file (modules.Lexical line what) = Some (fault_at file kinds.Ir 1 line what)
module_line file (modules.Statement line what) = Some (fault_at file kinds.Ir 2 line what)
module_line file (modules.OutOfProfile line what) = Some (fault_at file kinds.Ir 3 line what)
module_line file (modules.Twice line what) = Some (fault_at file kinds.Ir 4 line what)
module_line file (modules.Unknown line what) = Some (fault_at file kinds.Ir 5 line what)

-- the faults of interfaces, in either dialect
abbrev pub interface_line : FaultKind → List ℕ → InterfaceFault → Option FaultLine
interface_line kind file interfaces.Memory = None
interface_line kind file (interfaces.Lexical line what) = Some (fault_at file kind 1 line what)
interface_line kind file (interfaces.Statement line what) = Some (fault_at file kind 2 line what)
interface_line kind file (interfaces.Unknown line what) = Some (fault_at file kind 3 line what)
interface_line kind file (interfaces.Twice line what) = Some (fault_at file kind 4 line what)
interface_line kind file (interfaces.NeedsSize line what) = Some (fault_at file kind 5 line what)

-- the input ends with this fault, or memory ran out
abbrev pub IsTold : Option FaultLine → InputStop → Type 0
IsTold fault stops.Memory = Unit {0}
IsTold fault (stops.Fault f) = fault ≡ Some f
IsTold fault (stops.Unread file) = ⊥
