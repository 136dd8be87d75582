-- Conflicts and slot types of functions, reckoned from what their fields come to.
use Rattle.std.specs.Prelude.{ℕ, suc, Option, Some, None, List, [], ◌∷◌, ◌++◌, option_map, option_to_list, if◌then◌else◌}
use Rattle.std.specs.Option.{option_or}
use Rattle.lx_ir.specs.declared.module.Function.{Function}
use Rattle.lx_ir.specs.Lookup.{is_defined}
use Rattle.lx_annot.specs.declared.interface.Interface.{Interface}
use Rattle.lx_slot_types.specs.declared.Marked.{Marked}
use Rattle.lx_slot_sums.specs.declared.sums.SlotSum.{SlotSum}
use Rattle.lx_propagate.specs.Slots.{Conflict, conflict, marked}

abbrev pub conflict_among : Interface → Function → Option ℕ → Option ℕ → Option Conflict
conflict_among i f None other = None
conflict_among i f (Some s) other = option_map (λ t. conflict i f s t) other

-- the conflict of a function whose fields come to this
abbrev pub conflict_in : Interface → Function → SlotSum → Option Conflict
conflict_in i f sum = if is_defined f then conflict_among i f sum.first sum.other else None

-- the first conflict of functions whose fields come to what their numbers have, from this number on
abbrev pub first_conflict : Interface → (ℕ → SlotSum) → ℕ → List Function → Option Conflict
first_conflict i sums n [] = None
first_conflict i sums n (f ∷ fs) = option_or (conflict_in i f (sums n)) (first_conflict i sums (suc n) fs)

abbrev pub mark_in : ℕ → Function → SlotSum → Option Marked
mark_in n f sum = if is_defined f then option_map (marked n) sum.first else None

-- their slot types
abbrev pub marked_in : (ℕ → SlotSum) → ℕ → List Function → List Marked
marked_in sums n [] = []
marked_in sums n (f ∷ fs) = option_to_list (mark_in n f (sums n)) ++ marked_in sums (suc n) fs
