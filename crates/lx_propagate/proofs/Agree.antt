-- What is reckoned from what the fields of functions come to is what the definitions say.
use Rattle.std.proofs.Common.{◌≡◌, ℕ, suc, Option, Some, None, List, [], ◌∷◌, ◌++◌, if◌then◌else◌, refl, sym, ap, ◌∙◌}
use Rattle.std.specs.Prelude.{option_and_then, option_to_list}
use Rattle.std.specs.Option.{option_or}
use Rattle.lx_ir.specs.declared.module.Function.{Function}
use Rattle.lx_ir.specs.declared.module.Module.{Module}
use Rattle.lx_ir.specs.Lookup.{is_defined}
use Rattle.lx_annot.specs.declared.interface.Interface.{Interface}
use Rattle.lx_slot_types.specs.Sites.{sites_of}
use Rattle.lx_slot_types.specs.Gets.{gets, slot_of, types_field}
use Rattle.lx_slot_sums.specs.declared.sums.SlotSum.{SlotSum}
use Rattle.lx_slot_sums.specs.Sums.{other_by, sum_by, typed_among}
use Rattle.lx_propagate.specs.Slots.{annotated_from, annotated_of, conflict_at, conflict_from, conflict_of, conflict_with}
use Rattle.lx_propagate.specs.Decide.{conflict_among, conflict_in, first_conflict, mark_in, marked_in}
use Rattle.lx_propagate.specs.Names.{names_for}
use Rattle.lx_propagate.specs.Told.{HasSlotTypes, told_sum}
use Rattle.lx_propagate.specs.declared.slots.SlotTypes.{SlotTypes}
use Rattle.lx_propagate.proofs.Names.{any_names}

-- what the fields of a function come to
abbrev sum_for : Interface → Module → ℕ → SlotSum
sum_for i m f = sum_by i (gets i m f)

-- a function gets a slot type exactly where one of its fields is typed with it
gets_is : (i : Interface) (m : Module) (f : ℕ) → gets i m f ≡ typed_among i m (names_for f (sites_of m))
gets_is i m f = λ j s. any_names (λ name. types_field i m name s) f (sites_of m) j

pub told : (i : Interface) (m : Module) (types : SlotTypes) → HasSlotTypes i m types → told_sum types ≡ sum_for i m
unfolding HasSlotTypes
told i m types h = λ j f. (h f ∙ ap (sum_by i) (sym (gets_is i m f))) j

-- the slot type of a function
pub slot_is : (i : Interface) (m : Module) (types : SlotTypes) (f : ℕ) → HasSlotTypes i m types → (told_sum types f).first ≡ slot_of i m f
slot_is i m types f h = λ j. (told i m types h j f).first

with_is : (i : Interface) (m : Module) (n : ℕ) (f : Function) (o : Option ℕ) → conflict_with i m n f o ≡ conflict_among i f o (option_and_then (other_by i (gets i m n)) o)
with_is i m n f None = refl
with_is i m n f (Some s) = refl

at_is : (i : Interface) (m : Module) (n : ℕ) (f : Function) → conflict_at i m n f ≡ conflict_in i f (sum_for i m n)
at_is i m n f = ap (λ c. if is_defined f then c else None) (with_is i m n f (slot_of i m n))

from_is : (i : Interface) (m : Module) (n : ℕ) (fs : List Function) → conflict_from i m n fs ≡ first_conflict i (sum_for i m) n fs
from_is i m n [] = refl
from_is i m n (f ∷ fs) = λ j. option_or (at_is i m n f j) (from_is i m (suc n) fs j)

pub conflict_is : (i : Interface) (m : Module) (types : SlotTypes) → HasSlotTypes i m types → first_conflict i (told_sum types) 0 m.functions ≡ conflict_of i m
conflict_is i m types h = (λ j. first_conflict i (told i m types h j) 0 m.functions) ∙ sym (from_is i m 0 m.functions)

marked_is : (i : Interface) (m : Module) (n : ℕ) (fs : List Function) → annotated_from i m n fs ≡ marked_in (sum_for i m) n fs
marked_is i m n [] = refl
marked_is i m n (f ∷ fs) = ap (λ rest. option_to_list (mark_in n f (sum_for i m n)) ++ rest) (marked_is i m (suc n) fs)

pub annotated_is : (i : Interface) (m : Module) (types : SlotTypes) → HasSlotTypes i m types → marked_in (told_sum types) 0 m.functions ≡ annotated_of i m
annotated_is i m types h = (λ j. marked_in (told i m types h j) 0 m.functions) ∙ sym (marked_is i m 0 m.functions)
