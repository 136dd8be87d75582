-- First places in lists.
use Rattle.std.proofs.Common.{◌≡◌, ◌∙◌, refl, ap, ℕ, ◌+◌, Bool, false, true, ◌||◌, cond, Some, List, [], ◌∷◌}
use Rattle.std.specs.Prelude.{is_some, position}
use Rattle.std.specs.List.{list_any, position_from}
use Rattle.std.proofs.lemmas.Iterator.Adapters.{position_from-zero}
use Rattle.lx_ir.specs.declared.module.Module.{Module}
use Rattle.lx_image_texts.specs.Erased.{wrapped_number}
use Rattle.lx_image_texts.specs.ImageFaults.{has_wrapper_named, wraps_import}

any_if : {A : Type 0} (p : A → Bool) (i : ℕ) (b : Bool) (xs : List A) → is_some (position_from p (i + 1) xs) ≡ list_any p xs → is_some (cond b (Some i) (position_from p (i + 1) xs)) ≡ (b || list_any p xs)
any_if p i true xs h = refl
any_if p i false xs h = h

any_from : {A : Type 0} (p : A → Bool) (i : ℕ) (xs : List A) → is_some (position_from p i xs) ≡ list_any p xs
any_from p i [] = refl
any_from p i (x ∷ xs) = any_if p i (p x) xs (any_from p (i + 1) xs)

-- what stands somewhere has a first place
pub wraps : (x : Module) (name : List ℕ) → is_some (wrapped_number x name) ≡ wraps_import x name
wraps x name = ap is_some (position_from-zero (has_wrapper_named name) x.functions) ∙ any_from (has_wrapper_named name) 0 x.functions
