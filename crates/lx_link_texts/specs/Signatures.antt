-- Signatures: of functions, of natives, and those that an interface declares. They agree where widths do.
use Rattle.std.specs.Prelude.{ℕ, Bool, true, false, ◌&&◌, Option, Some, None, List, [], ◌∷◌}
use Rattle.lx_words.specs.declared.word.Width.{Width}
use Rattle.lx_words.specs.declared.word.Width.TheVariants.{W32, W64}
use Rattle.lx_words.specs.Width.{same_width}
use Rattle.lx_ir.specs.declared.module.Function.{Function}
use Rattle.lx_annot.specs.declared.interface.Parameter.{Parameter as DeclaredParameter}
use Rattle.lx_annot.specs.declared.interface.Slot.{Slot}
use Rattle.lx_annot.specs.declared.interface.Export.{Export}
use Rattle.lx_model.specs.Program.{NativeCall, Alloc, Free, ZeroBytes, TryLock, NoteValue, AliasPrincipal, native_call, are_declared, declared_width, param_widths, result_width, same_result, same_widths}
use Rattle.lx_model.specs.Fits.{native_widths}

-- the function has the signature that an export declares
abbrev pub has_export_signature : Export → Function → Bool
has_export_signature e f = are_declared e.params (param_widths f) && same_result (declared_width e.ret) (result_width f)

-- a pointer stands before the parameters
abbrev pub are_behind_pointer : List DeclaredParameter → List Width → Bool
are_behind_pointer ds [] = false
are_behind_pointer ds (w ∷ ws) = same_width W64 w && are_declared ds ws

-- the function has the signature of a call through a slot: a pointer to the slot, then the slot type's parameters
abbrev pub has_slot_call_signature : Slot → Function → Bool
has_slot_call_signature s f = are_behind_pointer s.params (param_widths f) && same_result (declared_width s.ret) (result_width f)

-- the width of a native's result
abbrev pub native_result : NativeCall → Option Width
native_result Alloc = Some W64
native_result Free = None
native_result ZeroBytes = None
native_result TryLock = Some W32
native_result NoteValue = None
native_result AliasPrincipal = None

-- the function has the signature of the native with this number
abbrev pub has_native_signature : ℕ → Function → Bool
has_native_signature k f =
    same_widths (native_widths (native_call k)) (param_widths f) && same_result (native_result (native_call k)) (result_width f)

abbrev pub have_same_signature : Function → Function → Bool
have_same_signature f g = same_widths (param_widths f) (param_widths g) && same_result (result_width f) (result_width g)
