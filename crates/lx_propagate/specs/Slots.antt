-- The slot types that the functions of a module get, and the first function that gets two which differ.
use Rattle.std.specs.Prelude.{ℕ, suc, ◌&&◌, Option, Some, None, List, [], ◌∷◌, ◌++◌, find, length, slice_get, option_map, option_to_list, if◌then◌else◌}
use Rattle.std.specs.Option.{option_or}
use Rattle.lx_ir.specs.declared.module.Function.{Function}
use Rattle.lx_ir.specs.declared.module.Module.{Module}
use Rattle.lx_ir.specs.Lookup.{is_defined}
use Rattle.lx_annot.specs.declared.interface.Interface.{Interface}
use Rattle.lx_annot.specs.declared.interface.Slot.{Slot}
use Rattle.lx_slot_types.specs.Gets.{below, gets, slot_of}
use Rattle.lx_slot_types.specs.Texts.{differ}
use Rattle.lx_slot_types.specs.declared.Marked.{Marked}

abbrev pub name_of_slot : Option Slot → List ℕ
name_of_slot None = []
name_of_slot (Some s) = s.name

abbrev pub slot_name : Interface → ℕ → List ℕ
slot_name i s = name_of_slot (slice_get i.slots s)

-- the first slot type in interface order that the function gets and that differs from another
abbrev pub other_slot : Interface → Module → ℕ → ℕ → Option ℕ
other_slot i m f s = find (λ t. gets i m f t && differ i s t) (below (length i.slots))

-- a function that gets two slot types that differ: its line and its name, and the names of the two
pub record Conflict : Type 0 where
  pub line : ℕ
  pub function : List ℕ
  pub first : List ℕ
  pub second : List ℕ

abbrev pub conflict : Interface → Function → ℕ → ℕ → Conflict
conflict i f s t = record { line = f.line; function = f.name; first = slot_name i s; second = slot_name i t }

abbrev pub conflict_with : Interface → Module → ℕ → Function → Option ℕ → Option Conflict
conflict_with i m n f None = None
conflict_with i m n f (Some s) = option_map (λ t. conflict i f s t) (other_slot i m n s)

-- the conflict of a function with its number; an import has none
abbrev pub conflict_at : Interface → Module → ℕ → Function → Option Conflict
conflict_at i m n f = if is_defined f then conflict_with i m n f (slot_of i m n) else None

-- the first conflict of functions, which have the numbers from this one on
abbrev pub conflict_from : Interface → Module → ℕ → List Function → Option Conflict
conflict_from i m n [] = None
conflict_from i m n (f ∷ fs) = option_or (conflict_at i m n f) (conflict_from i m (suc n) fs)

-- the first function that gets two slot types that differ
abbrev pub conflict_of : Interface → Module → Option Conflict
conflict_of i m = conflict_from i m 0 m.functions

abbrev pub marked : ℕ → ℕ → Marked
marked f s = record { function = f; slot = s }

-- a function with the first slot type that it gets; an import gets none
abbrev pub mark_at : Interface → Module → ℕ → Function → Option Marked
mark_at i m n f = if is_defined f then option_map (marked n) (slot_of i m n) else None

abbrev pub annotated_from : Interface → Module → ℕ → List Function → List Marked
annotated_from i m n [] = []
annotated_from i m n (f ∷ fs) = option_to_list (mark_at i m n f) ++ annotated_from i m (suc n) fs

-- the defined functions that get a slot type, in order, each with the first that it gets
abbrev pub annotated_of : Interface → Module → List Marked
annotated_of i m = annotated_from i m 0 m.functions
