-- Well-formed programs: those that linking gives.
use Rattle.std.specs.Prelude.{◌≡◌, ℕ, zero, suc, ◌+◌, ◌≤◌, Bool, true, false, not, ◌&&◌, ◌||◌, IsTrue, All, Option, Some, None, List, [], ◌∷◌, length, map, slice_get}
use Rattle.std.specs.List.{list_all}
use Rattle.lx_ir.specs.declared.module.Function.{Function}
use Rattle.lx_ir.specs.declared.module.Module.{Module}
use Rattle.lx_ir.specs.Lawful.{IsPlain}
use Rattle.lx_ir.specs.Lookup.{is_defined}
use Rattle.lx_ir.specs.Verified.{IsVerified}
use Rattle.lx_annot.specs.declared.interface.Slot.{Slot}
use Rattle.lx_annot.specs.declared.interface.Export.{Export}
use Rattle.lx_annot.specs.declared.interface.Interface.{Interface}
use Rattle.lx_slot_types.specs.declared.Marked.{Marked}
use Rattle.lx_propagate.specs.Slots.{annotated_of}
use Rattle.lx_model.specs.declared.program.Program.{Program}
use Rattle.lx_model.specs.declared.program.ProgramModule.{ProgramModule}
use Rattle.lx_model.specs.declared.program.ScriptCall.{ScriptCall}
use Rattle.lx_model.specs.Fits.{FitsFunction}
use Rattle.lx_link_texts.specs.declared.sources.Sources.{Sources}
use Rattle.lx_model.specs.Program.{has_slot_signature}
use Rattle.lx_link_texts.specs.Signatures.{has_export_signature, has_slot_call_signature, has_native_signature, have_same_signature}
use Rattle.lx_link_texts.specs.Placing.{functions_of, globals_of, globals_end, last_end}
use Rattle.lx_annot.specs.Lawful.{IsLawfulInterface}
use Rattle.lx_link_texts.specs.Faults.{calls_indirectly, defined, kernel_native, slot_called, is_alias, is_kernel_name, is_exported, most_functions}

-- the function is there, and has the signature of the export
abbrev pub is_export_of : Export → Option Function → Bool
is_export_of e None = false
is_export_of e (Some f) = has_export_signature e f

abbrev pub is_exported_well : Module → Export → Bool
is_exported_well kernel e = is_export_of e (defined kernel e.name)

-- a native of its signature, or a call through a slot of its slot type's
abbrev pub is_kernel_import_by : Function → Option ℕ → Option Slot → Bool
is_kernel_import_by f (Some k) s = has_native_signature k f
is_kernel_import_by f None (Some s) = has_slot_call_signature s f
is_kernel_import_by f None None = false

-- what the kernel declares is such an import
abbrev pub is_kernel_import : Interface → Function → Bool
is_kernel_import i f = is_defined f || is_kernel_import_by f (kernel_native f.name) (slot_called i f.name)

abbrev pub is_import_of : Function → Option Function → Bool
is_import_of f None = false
is_import_of f (Some g) = have_same_signature f g

-- the alias of its signature, or by any other name an exported function of the kernel of that function's
abbrev pub is_module_import : Module → Interface → Function → Bool
is_module_import kernel i f =
    is_defined f
    || (is_alias f.name && has_native_signature 5 f
    || not (is_alias f.name) && (not (is_kernel_name f.name) && (is_exported i f.name && is_import_of f (defined kernel f.name))))

abbrev pub has_slot_of : Option Slot → Option Function → Bool
has_slot_of (Some t) (Some f) = has_slot_signature t f
has_slot_of _ _ = true

abbrev pub is_marked_well : Interface → Module → Marked → Bool
is_marked_well i m x = has_slot_of (slice_get i.slots x.slot) (slice_get m.functions x.function)

-- a module of a program, over the kernel and the interface
pub record IsModuleOf (kernel : Module) (i : Interface) (m : Module) : Type 0 where
  pub verified : IsVerified m
  pub plain : IsPlain m
  pub imports : IsTrue (list_all (is_module_import kernel i) m.functions)
  -- an annotated function has the signature of its slot type
  pub marked : IsTrue (list_all (is_marked_well i m) (annotated_of i m))

-- the texts of a program
abbrev pub texts_of : Program → Sources
texts_of p = record { kernel = p.kernel; interface = p.interface; modules = p.modules }

pub record IsWellFormed (p : Program) : Type 0 where
  pub kernel_verified : IsVerified p.kernel
  pub kernel_plain : IsPlain p.kernel
  -- the kernel calls no function by an address of its own
  pub kernel_calls : IsTrue (list_all (λ f. not (calls_indirectly f)) p.kernel.functions)
  pub kernel_imports : IsTrue (list_all (is_kernel_import p.interface) p.kernel.functions)
  pub interface : IsLawfulInterface p.interface
  pub exports : IsTrue (list_all (is_exported_well p.kernel) p.interface.exports)
  pub modules : All (λ (m : ProgramModule). IsModuleOf p.kernel p.interface m.«module») p.modules
  -- the functions by number and the globals by address are those of the texts, within the limits
  pub functions : p.functions ≡ functions_of (texts_of p)
  pub globals : p.globals ≡ globals_of (texts_of p)
  pub few_functions : length p.functions ≤ most_functions
  pub globals_fit : globals_end (texts_of p) ≤ last_end

-- each call names a defined function, and its arguments are as many and as wide as the parameters
abbrev pub FitsCall : Program → ScriptCall → Type 0
FitsCall p c = FitsFunction p c.function c.args

abbrev pub FitsCalls : Program → List (List ScriptCall) → Type 0
FitsCalls p threads = All (All (FitsCall p)) threads
