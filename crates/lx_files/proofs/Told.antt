-- The faults of the readers are told as they are met.
use Rattle.std.proofs.Common.{◌≡◌, ℕ, List, Some, Err}
use Rattle.lx_script.specs.declared.fault.CaseFault.{CaseFault}
use Rattle.lx_script.specs.declared.fault.CaseFault.TheVariants as scripts
use Rattle.lx_script.specs.Grammar.{CaseFails, FirstCaseFault}
use Rattle.lx_script.specs.Schedule.{ScheduleFails, FirstScheduleFault}
use Rattle.lx_ir_calls.specs.declared.intrinsics.TextForm.TheVariants.{Program, Image}
use Rattle.lx_ir_calls.specs.declared.intrinsics.TextForm.{TextForm}
use Rattle.lx_ir_read.specs.declared.fault.ReadFault.{ReadFault}
use Rattle.lx_ir_read.specs.declared.fault.ReadFault.TheVariants as modules
use Rattle.lx_ir_read.specs.Reading.{ModuleFails, FirstFault}
use Rattle.lx_annot_read.specs.declared.fault.InterfaceFault.{InterfaceFault}
use Rattle.lx_annot_read.specs.declared.fault.InterfaceFault.TheVariants as interfaces
use Rattle.lx_annot_read.specs.Texts.{InterfaceFails, FirstInterfaceFault}
use Rattle.lx_cproto.specs.Texts.{PrototypesFail, FirstPrototypeFault}
use Rattle.lx_annot_laws.specs.Statements.{IsInterface}
use Rattle.lx_annot_laws.specs.Declarations.{ArePrototypes}
use Rattle.lx_ir_complete.specs.FaultOfText.{FirstFaultsAreTold}
use Rattle.lx_annot_laws.specs.FaultOfText.{IsFirstInterfaceFault, IsFirstPrototypeFault, InterfaceFaultsAreTold, PrototypeFaultsAreTold}
use Rattle.lx_files.specs.declared.line.FaultKind.{FaultKind}
use Rattle.lx_files.specs.declared.line.FaultKind.TheVariants as kinds
use Rattle.lx_files.specs.declared.line.FaultLine.{FaultLine}
use Rattle.lx_files.specs.declared.stop.InputStop.{InputStop}
use Rattle.lx_files.specs.declared.stop.InputStop.TheVariants as stops
use Rattle.lx_files.specs.Faults.{IsTold, script_line, module_line, interface_line}
use Rattle.lx_files.specs.Turns.{Reads, Tells}
use Rattle.lx_files.specs.Inputs.{ReadsCase, ReadsModule, ReadsImage, ReadsSchedule}

-- a fault that has a line is not want of memory

case_first : (text : List ℕ) (kind : FaultKind) (file : List ℕ) (e : CaseFault) (f : FaultLine) → CaseFails text e → script_line kind file e ≡ Some f → FirstCaseFault text e
case_first text kind file scripts.Memory f fails is = absurd (cc)
case_first text kind file (scripts.Lexical line what) f fails is = fails
case_first text kind file (scripts.Statement line what) f fails is = fails
case_first text kind file (scripts.Unknown line what) f fails is = fails
case_first text kind file (scripts.Twice line what) f fails is = fails
case_first text kind file (scripts.Range line what) f fails is = fails
case_first text kind file (scripts.Limit line what) f fails is = fails

schedule_first : (text : List ℕ) (kind : FaultKind) (file : List ℕ) (e : CaseFault) (f : FaultLine) → ScheduleFails text e → script_line kind file e ≡ Some f → FirstScheduleFault text e
schedule_first text kind file scripts.Memory f fails is = absurd (cc)
schedule_first text kind file (scripts.Lexical line what) f fails is = fails
schedule_first text kind file (scripts.Statement line what) f fails is = fails
schedule_first text kind file (scripts.Unknown line what) f fails is = fails
schedule_first text kind file (scripts.Twice line what) f fails is = fails
schedule_first text kind file (scripts.Range line what) f fails is = fails
schedule_first text kind file (scripts.Limit line what) f fails is = fails

module_first : (form : TextForm) (text file : List ℕ) (e : ReadFault) (f : FaultLine) → ModuleFails form text e → module_line file e ≡ Some f → FirstFault form text e
module_first form text file modules.Memory f fails is = absurd (cc)
module_first form text file (modules.Lexical line what) f fails is = fails
module_first form text file (modules.Statement line what) f fails is = fails
module_first form text file (modules.OutOfProfile line what) f fails is = fails
module_first form text file (modules.Twice line what) f fails is = fails
module_first form text file (modules.Unknown line what) f fails is = fails

interface_first : (text : List ℕ) (kind : FaultKind) (file : List ℕ) (e : InterfaceFault) (f : FaultLine) → InterfaceFails text e → interface_line kind file e ≡ Some f → FirstInterfaceFault text e
interface_first text kind file interfaces.Memory f fails is = absurd (cc)
interface_first text kind file (interfaces.Lexical line what) f fails is = fails
interface_first text kind file (interfaces.Statement line what) f fails is = fails
interface_first text kind file (interfaces.Unknown line what) f fails is = fails
interface_first text kind file (interfaces.Twice line what) f fails is = fails
interface_first text kind file (interfaces.NeedsSize line what) f fails is = fails

prototype_first : (text : List ℕ) (kind : FaultKind) (file : List ℕ) (e : InterfaceFault) (f : FaultLine) → PrototypesFail text e → interface_line kind file e ≡ Some f → FirstPrototypeFault text e
prototype_first text kind file interfaces.Memory f fails is = absurd (cc)
prototype_first text kind file (interfaces.Lexical line what) f fails is = fails
prototype_first text kind file (interfaces.Statement line what) f fails is = fails
prototype_first text kind file (interfaces.Unknown line what) f fails is = fails
prototype_first text kind file (interfaces.Twice line what) f fails is = fails
prototype_first text kind file (interfaces.NeedsSize line what) f fails is = fails

-- what the readers fail with is told

pub case_told : (file text : List ℕ) (e : CaseFault) (s : InputStop) → CaseFails text e → IsTold (script_line kinds.Case file e) s → ReadsCase file text (Err s)
case_told file text e stops.Memory fails told = tt
case_told file text e (stops.Fault f) fails told = (e, case_first text kinds.Case file e f fails told, told)
case_told file text e (stops.Unread name) fails told = absurd told

pub schedule_told : (file text : List ℕ) (e : CaseFault) (s : InputStop) → ScheduleFails text e → IsTold (script_line kinds.Schedule file e) s → ReadsSchedule file text (Err s)
schedule_told file text e stops.Memory fails told = tt
schedule_told file text e (stops.Fault f) fails told = (e, schedule_first text kinds.Schedule file e f fails told, told)
schedule_told file text e (stops.Unread name) fails told = absurd told

pub module_told : FirstFaultsAreTold → (file text : List ℕ) (e : ReadFault) (s : InputStop) → ModuleFails Program text e → IsTold (module_line file e) s → ReadsModule file text (Err s)
module_told law file text e stops.Memory fails told = tt
module_told law file text e (stops.Fault f) fails told = (e, law Program text e (module_first Program text file e f fails told), told)
module_told law file text e (stops.Unread name) fails told = absurd told

pub image_told : FirstFaultsAreTold → (file text : List ℕ) (e : ReadFault) (s : InputStop) → ModuleFails Image text e → IsTold (module_line file e) s → ReadsImage file text (Err s)
image_told law file text e stops.Memory fails told = tt
image_told law file text e (stops.Fault f) fails told = (e, law Image text e (module_first Image text file e f fails told), told)
image_told law file text e (stops.Unread name) fails told = absurd told

pub interface_told : InterfaceFaultsAreTold → (file text : List ℕ) (kind : FaultKind) (e : InterfaceFault) (s : InputStop) → InterfaceFails text e → IsTold (interface_line kind file e) s → Reads IsInterface (Tells IsFirstInterfaceFault (interface_line kind file)) text (Err s)
interface_told law file text kind e stops.Memory fails told = tt
interface_told law file text kind e (stops.Fault f) fails told = (e, law text e (interface_first text kind file e f fails told), told)
interface_told law file text kind e (stops.Unread name) fails told = absurd told

pub prototypes_told : PrototypeFaultsAreTold → (file text : List ℕ) (kind : FaultKind) (e : InterfaceFault) (s : InputStop) → PrototypesFail text e → IsTold (interface_line kind file e) s → Reads ArePrototypes (Tells IsFirstPrototypeFault (interface_line kind file)) text (Err s)
prototypes_told law file text kind e stops.Memory fails told = tt
prototypes_told law file text kind e (stops.Fault f) fails told = (e, law text e (prototype_first text kind file e f fails told), told)
prototypes_told law file text kind e (stops.Unread name) fails told = absurd told
