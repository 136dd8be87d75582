-- What is wrong with texts that are linked: the first fault, in this order of passes.
use Rattle.std.specs.Prelude.{◌≡◌, ℕ, ◌+◌, Bool, true, false, not, ◌&&◌, Option, Some, None, List, [], ◌∷◌, ◌++◌, find, length, map, nat_eq, nat_le, position, slice_get, take, codes, bytes_eq, Result, MatchResult, if◌then◌else◌}
use Rattle.std.specs.List.{list_any, starts_with}
use Rattle.std.specs.Option.{option_or}
use Rattle.lx_ir.specs.declared.module.Function.{Function}
use Rattle.lx_ir.specs.declared.module.Module.{Module}
use Rattle.lx_ir.specs.Faults.{first_some}
use Rattle.lx_ir.specs.Lookup.{is_defined, instrs_of, is_indirect_call}
use Rattle.lx_annot.specs.declared.interface.Slot.{Slot}
use Rattle.lx_annot.specs.declared.interface.Export.{Export}
use Rattle.lx_annot.specs.declared.interface.Interface.{Interface}
use Rattle.lx_slot_types.specs.declared.Marked.{Marked}
use Rattle.lx_propagate.specs.Slots.{annotated_of}
use Rattle.lx_model.specs.declared.program.ProgramModule.{ProgramModule}
use Rattle.lx_model.specs.Program.{has_slot_signature, native_names}
use Rattle.lx_link_texts.specs.declared.fault.FaultKind.{FaultKind}
use Rattle.lx_link_texts.specs.declared.fault.FaultKind.TheVariants.{Missing, Unannotated, SignatureDiffers, TooLarge, KernelIndirect}
use Rattle.lx_link_texts.specs.declared.fault.Source.{Source}
use Rattle.lx_link_texts.specs.declared.fault.Source.TheVariants as source
use Rattle.lx_link_texts.specs.declared.sources.Sources.{Sources}
use Rattle.lx_link_texts.specs.Signatures.{has_export_signature, has_slot_call_signature, has_native_signature, have_same_signature}
use Rattle.lx_link_texts.specs.Placing.{functions_of, globals_end, last_end}

-- a fault: its kind, the text that has it and its line there, and the name of a function or global, or the word for a limit
pub record Fault : Type 0 where
  pub kind : FaultKind
  pub source : Source
  pub line : ℕ
  pub name : List ℕ

abbrev pub fault : FaultKind → Source → ℕ → List ℕ → Fault
fault kind s line name = record { kind = kind; source = s; line = line; name = name }

-- the fault, unless the test passes
abbrev pub fault_unless : Bool → Fault → Option Fault
fault_unless true x = None
fault_unless false x = Some x

-- the fault of a function, at its line
abbrev pub fault_of : FaultKind → Source → Function → Fault
fault_of kind s f = fault kind s f.line f.name

-- a pass goes on exactly where there is no fault, and answers the fault that there is
abbrev pub Gives : {T : Type 0} → Option Fault → Result T Fault → Type 0
Gives x r = MatchResult r (λ _. x ≡ None) (λ f. x ≡ Some f)

-- the function of that name that a text defines
abbrev pub defines : List ℕ → Function → Bool
defines name f = is_defined f && bytes_eq f.name name

abbrev pub defined : Module → List ℕ → Option Function
defined m name = find (defines name) m.functions

-- Indirect calls of the kernel.

abbrev pub calls_indirectly : Function → Bool
calls_indirectly f = list_any (λ i. is_indirect_call i.op) (instrs_of f)

abbrev pub kernel_call_fault : Function → Option Fault
kernel_call_fault f = fault_unless (not (calls_indirectly f)) (fault_of KernelIndirect source.Kernel f)

-- Exports: the kernel defines each, and it has the signature that is declared.

abbrev pub export_fault_by : Export → Option Function → Option Fault
export_fault_by e None = Some (fault Missing source.Interface e.line e.name)
export_fault_by e (Some f) = fault_unless (has_export_signature e f) (fault SignatureDiffers source.Interface e.line e.name)

abbrev pub export_fault : Module → Export → Option Fault
export_fault kernel e = export_fault_by e (defined kernel e.name)

-- Imports of the kernel: natives, and calls through slots.

-- the native of that name that the kernel may call: all but the last
abbrev pub kernel_native : List ℕ → Option ℕ
kernel_native name = position (bytes_eq name) (take 5 native_names)

-- the slot type through which a function of that name calls
abbrev pub slot_called : Interface → List ℕ → Option Slot
slot_called i name = find (λ s. bytes_eq (codes "k.slot." ++ s.name) name) i.slots

abbrev pub kernel_import_fault_by : Function → Option ℕ → Option Slot → Option Fault
kernel_import_fault_by f (Some k) s = fault_unless (has_native_signature k f) (fault_of SignatureDiffers source.Kernel f)
kernel_import_fault_by f None (Some s) = fault_unless (has_slot_call_signature s f) (fault_of SignatureDiffers source.Kernel f)
kernel_import_fault_by f None None = Some (fault_of Missing source.Kernel f)

abbrev pub kernel_import_fault : Interface → Function → Option Fault
kernel_import_fault i f =
    if is_defined f then None else kernel_import_fault_by f (kernel_native f.name) (slot_called i f.name)

-- Imports of a module: exported functions of the kernel, and the alias.

abbrev pub is_alias : List ℕ → Bool
is_alias name = bytes_eq name (codes "lxfi_princ_alias")

-- a name that no module may import
abbrev pub is_kernel_name : List ℕ → Bool
is_kernel_name name = starts_with nat_eq name (codes "k.")

abbrev pub is_exported : Interface → List ℕ → Bool
is_exported i name = list_any (λ e. bytes_eq e.name name) i.exports

abbrev pub import_fault_by : Interface → Source → Function → Option Function → Option Fault
import_fault_by i s f None = Some (fault_of Missing s f)
import_fault_by i s f (Some g) =
    if is_exported i f.name
    then fault_unless (have_same_signature f g) (fault_of SignatureDiffers s f)
    else Some (fault_of Unannotated s f)

abbrev pub import_fault : Module → Interface → Source → Function → Option Fault
import_fault kernel i s f =
    if is_alias f.name then fault_unless (has_native_signature 5 f) (fault_of SignatureDiffers s f)
    else if is_kernel_name f.name then Some (fault_of Missing s f)
    else import_fault_by i s f (defined kernel f.name)

abbrev pub module_import_fault : Module → Interface → Source → Function → Option Fault
module_import_fault kernel i s f = if is_defined f then None else import_fault kernel i s f

abbrev pub imports_fault : Module → Interface → ℕ → Module → Option Fault
imports_fault kernel i k m = first_some (module_import_fault kernel i (source.Module k)) m.functions

-- Annotated functions: each has the signature of its slot type.

-- the annotated functions of each module, with their slot types
abbrev pub all_annotated : Sources → List (List Marked)
all_annotated s = map (λ (m : ProgramModule). annotated_of s.interface m.«module») s.modules

abbrev pub slot_fault_by : Source → Option Slot → Option Function → Option Fault
slot_fault_by s (Some t) (Some f) = fault_unless (has_slot_signature t f) (fault_of SignatureDiffers s f)
slot_fault_by s _ _ = None

abbrev pub slot_fault : Interface → Source → Module → Marked → Option Fault
slot_fault i s m x = slot_fault_by s (slice_get i.slots x.slot) (slice_get m.functions x.function)

abbrev pub slots_fault : Interface → ℕ → Module → Option Fault
slots_fault i k m = first_some (slot_fault i (source.Module k) m) (annotated_of i m)

-- the first answer over modules, from the one with this number on
abbrev pub first_module : {B : Type 0} → (ℕ → Module → Option B) → ℕ → List ProgramModule → Option B
first_module f k [] = None
first_module f k (m ∷ ms) = option_or (f k m.«module») (first_module f (k + 1) ms)

-- the first fault of the texts themselves
abbrev pub text_fault : Sources → Option Fault
text_fault s =
    option_or (first_some kernel_call_fault s.kernel.functions)
    (option_or (first_some (export_fault s.kernel) s.interface.exports)
    (option_or (first_some (kernel_import_fault s.interface) s.kernel.functions)
    (option_or (first_module (imports_fault s.kernel s.interface) 0 s.modules)
    (first_module (slots_fault s.interface) 0 s.modules))))

-- Limits.

abbrev pub most_functions : ℕ
most_functions = 65536

-- the text that is past a limit: the last module, or the kernel where there is none
abbrev pub last_source : List ProgramModule → Source
last_source [] = source.Kernel
last_source (m ∷ ms) = source.Module (length ms)

abbrev pub functions_fault : Sources → Option Fault
functions_fault s = fault_unless (nat_le (length (functions_of s)) most_functions) (fault TooLarge (last_source s.modules) 1 (codes "functions"))

abbrev pub globals_fault : Sources → Option Fault
globals_fault s = fault_unless (nat_le (globals_end s) last_end) (fault TooLarge (last_source s.modules) 1 (codes "globals"))

abbrev pub limit_fault : Sources → Option Fault
limit_fault s = option_or (functions_fault s) (globals_fault s)
