-- Where an interface has no slot types, no function gets one.
use Rattle.std.proofs.Common.{◌≡◌, ℕ, suc, ◌≤◌, Bool, true, false, Option, None, List, [], ◌∷◌, ◌++◌, length, if◌then◌else◌, refl, sym, ap, ◌∙◌, arith}
use Rattle.std.specs.Prelude.{find, option_map, option_to_list}
use Rattle.lx_ir.specs.declared.module.Function.{Function}
use Rattle.lx_ir.specs.declared.module.Module.{Module}
use Rattle.lx_ir.specs.Lookup.{is_defined}
use Rattle.lx_annot.specs.declared.interface.Interface.{Interface}
use Rattle.lx_slot_types.specs.Gets.{below, gets, slot_of}
use Rattle.lx_slot_types.specs.declared.Marked.{Marked}
use Rattle.lx_propagate.specs.Slots.{annotated_from, annotated_of, marked}

unmarked : (n : ℕ) (b : Bool) (o : Option ℕ) → o ≡ None → (if b then option_map (marked n) o else None) ≡ None
unmarked n true o e = ap (option_map (marked n)) e
unmarked n false o e = refl

none_from : (i : Interface) (m : Module) (n : ℕ) (fs : List Function) → length i.slots ≡ 0 → annotated_from i m n fs ≡ []
none_from i m n [] e = refl
none_from i m n (f ∷ fs) e =
    let none : slot_of i m n ≡ None = ap (λ k. find (gets i m n) (below k)) e in
    ap (λ o. option_to_list o ++ annotated_from i m (suc n) fs) (unmarked n (is_defined f) (slot_of i m n) none) ∙ none_from i m (suc n) fs e

pub none_annotated : (i : Interface) (m : Module) (xs : List Marked) → xs ≡ [] → length i.slots ≤ 0 → xs ≡ annotated_of i m
none_annotated i m xs e h = e ∙ sym (none_from i m 0 m.functions (omega (arith, h)))
