-- The annotations of what an interface exports, by names.
use Rattle.std.specs.Prelude.{◌≡◌, ℕ, Bool, true, false, Option, List, [], ◌∷◌, bytes_eq, position, find, option_map, slice_get, unwrap_or}
use Rattle.std.specs.Borrow.{Bor}
use Rattle.std.specs.Map.{lookup}
use Rattle.lx_ir.specs.declared.module.Function.{Function}
use Rattle.lx_annot.specs.declared.action.Annotation.{Annotation}
use Rattle.lx_annot.specs.declared.interface.Export.{Export}
use Rattle.lx_annot.specs.declared.interface.Interface.{Interface}
use Rattle.lx_image_texts.specs.WrapperText.{Out, empty_annotation, wrapper_of}

abbrev pub is_named : List ℕ → Export → Bool
is_named name e = bytes_eq e.name name

-- what a map has at a name
abbrev pub at_name : List (Bor (List ℕ) × ℕ) → List ℕ → Option ℕ
at_name table name = lookup (λ k. bytes_eq name k.now) table

-- the map has the place of the first export of each name
abbrev pub HasPlaces : List Export → List (Bor (List ℕ) × ℕ) → Type 0
HasPlaces exports table = (name : List ℕ) → at_name table name ≡ position (is_named name) exports

-- the annotation of the first export of a name
abbrev pub exported : Interface → List ℕ → Option Annotation
exported i name = option_map (λ e. e.annotation) (find (is_named name) i.exports)

-- the annotation of a slot type, where there is one
abbrev pub of_slot : Interface → ℕ → Option Annotation
of_slot i s = option_map (λ t. t.annotation) (slice_get i.slots s)

-- the wrapper of an import by its annotation, where it has a wrapper
abbrev pub out_by : Bool → Option Annotation → ℕ → Function → List Function
out_by true a n f = wrapper_of f n (unwrap_or a empty_annotation) Out ∷ []
out_by false a n f = []
