-- A field is less deep than its struct.
use Rattle.std.proofs.Common.{◌≡◌, ℕ, ◌<◌, List, [], ◌∷◌, length, get_or, ap, ◌∙◌, ◌≤◌, refl, slice_get, Option, Some, None, sym}
use Rattle.lx_words.specs.Word.{Word}
use Rattle.lx_ir.specs.Fitting.{◌>>?◌}
use Rattle.lx_ir_offsets.specs.Offsets.{field_number, field_type}
use Rattle.lx_ir.specs.IrType.{IrType}
use Rattle.lx_ir.specs.TypeNodes.{types_of_list}
use Rattle.lx_ir.specs.Layout.{list_of_types}
use Rattle.std.proofs.lemmas.Option.{slice_get_past, slice_get_read}
use Rattle.lx_ir.proofs.Layouts.{list_back}

-- a field by its number
pub field_here : (ts : List IrType) (k : ℕ) (x : IrType) → k < length ts → x ≡ get_or ts k x → slice_get (list_of_types (types_of_list ts)) k ≡ Some x
field_here ts k x h e = ap (λ us. slice_get us k) (list_back ts) ∙ slice_get_read ts (length ts) k x refl h e

pub no_field : (ts : List IrType) (k : ℕ) → length ts ≤ k → slice_get (list_of_types (types_of_list ts)) k ≡ None
no_field ts k h = ap (λ us. slice_get us k) (list_back ts) ∙ slice_get_past ts k h

numbered_field : (ts : List IrType) (i : Word) (k : ℕ) (y : Option IrType) (o : Option ℕ) → Some k ≡ o → slice_get (list_of_types (types_of_list ts)) k ≡ y → (o >>? λ j. slice_get (list_of_types (types_of_list ts)) j) ≡ y
numbered_field ts i k y o e h = rw (sym e) h

pub field_is : (ts : List IrType) (i : Word) (k : ℕ) (x : IrType) → Some k ≡ field_number i → k < length ts → x ≡ get_or ts k x → field_type (types_of_list ts) i ≡ Some x
field_is ts i k x e h g = numbered_field ts i k (Some x) (field_number i) e (field_here ts k x h g)

pub field_is_none : (ts : List IrType) (i : Word) (k : ℕ) → Some k ≡ field_number i → length ts ≤ k → field_type (types_of_list ts) i ≡ None
field_is_none ts i k e h = numbered_field ts i k None (field_number i) e (no_field ts k h)
