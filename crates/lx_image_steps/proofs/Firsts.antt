-- What stands at the first place that passes a test.
use Rattle.std.proofs.Common.{◌≡◌, ◌∙◌, refl, sym, ap, ℕ, Bool, true, false, cond, Option, Some, None, List, length, nat_lt, ltb-false}
use Rattle.std.specs.Prelude.{find, option_map, position, slice_get, unwrap_or}
use Rattle.std.specs.List.{position_or_len}
use Rattle.std.proofs.lemmas.List.Folds.{find_at}
use Rattle.std.proofs.lemmas.Option.{slice_get_past}
use Rattle.lx_ir.specs.declared.instr.SwitchCase.{SwitchCase}
use Rattle.lx_image_steps.specs.Standing.{item_at, label_at}

by_test : {A : Type 0} (xs : List A) (n : ℕ) (b : Bool) → nat_lt n (length xs) ≡ b → item_at xs (cond b (Some n) None) ≡ slice_get xs n
by_test xs n true e = refl
by_test xs n false e = sym (slice_get_past xs n (ltb-false n (length xs) e))

first_item : {A : Type 0} (t : A → Bool) (xs : List A) → item_at xs (position t xs) ≡ find t xs
first_item t xs = by_test xs (position_or_len t xs) (nat_lt (position_or_len t xs) (length xs)) refl ∙ sym (find_at t xs)

pub at_first : {A : Type 0} (t : A → Bool) (xs : List A) (place : Option ℕ) → place ≡ position t xs → item_at xs place ≡ find t xs
at_first t xs place is = ap (item_at xs) is ∙ first_item t xs

-- the label of the first case
pub first_label : (t : SwitchCase → Bool) (cases : List SwitchCase) (place : Option ℕ) (otherwise : List ℕ) → place ≡ position t cases
    → label_at cases place otherwise ≡ unwrap_or (option_map (λ c. c.label) (find t cases)) otherwise
first_label t cases place otherwise is = ap (λ (o : Option SwitchCase). unwrap_or (option_map (λ c. c.label) o) otherwise) (at_first t cases place is)
