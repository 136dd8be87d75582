-- Lists beside each other, in loops.
use Rattle.std.proofs.Common.{◌≡◌, ◌≢◌, ℕ, suc, ◌+◌, ◌<◌, ◌≤◌, Bool, true, false, ◌&&◌, List, [], ◌∷◌, length, get_or, drop, refl, ◌∙◌, ap}
use Rattle.std.proofs.lemmas.List.{drop_all}
use Rattle.lx_words.proofs.Tests.{and_false}
use Rattle.lx_words.proofs.Lists.{rest_at}
use Rattle.lx_ir.specs.Init.{Init}
use Rattle.lx_ir.specs.InitNodes.{inits_of_list}
use Rattle.lx_same_texts.specs.Same.{same_lists, same_init, same_inits}
pub use Rattle.lx_ir_verify.proofs.SameTypes.{same_step, same_end, other_length}

pub lists_step : {A : Type 0} (same : A → A → Bool) (xs ys : List A) (i : ℕ) (x y : A) → i < length xs → i < length ys → x ≡ get_or xs i x → y ≡ get_or ys i y → same_lists same (drop i xs) (drop i ys) ≡ (same x y && same_lists same (drop (i + 1) xs) (drop (i + 1) ys))
lists_step same xs ys i x y h g d e =
    let a = rest_at xs i x h d in
    let b = rest_at ys i y g e in
    λ k. same_lists same (a k) (b k)

pub lists_end : {A : Type 0} (same : A → A → Bool) (xs ys : List A) (i : ℕ) → length xs ≤ i → length ys ≤ i → same_lists same (drop i xs) (drop i ys) ≡ true
lists_end same xs ys i h g =
    let a = drop_all i xs h in
    let b = drop_all i ys g in
    λ k. same_lists same (a k) (b k)

pub lists_length : {A : Type 0} (same : A → A → Bool) (xs ys : List A) → length xs ≢ length ys → same_lists same xs ys ≡ false
lists_length same [] [] h = absurd (h refl)
lists_length same [] (y ∷ ys) h = refl
lists_length same (x ∷ xs) [] h = refl
lists_length same (x ∷ xs) (y ∷ ys) h = ap (λ b. same x y && b) (lists_length same xs ys (λ e. h (ap suc e))) ∙ and_false (same x y)

pub inits_step : (xs ys : List Init) (i : ℕ) (x y : Init) → i < length xs → i < length ys → x ≡ get_or xs i x → y ≡ get_or ys i y → same_inits (inits_of_list (drop i xs)) (inits_of_list (drop i ys)) ≡ (same_init x y && same_inits (inits_of_list (drop (i + 1) xs)) (inits_of_list (drop (i + 1) ys)))
inits_step xs ys i x y h g d e =
    let a = rest_at xs i x h d in
    let b = rest_at ys i y g e in
    λ k. same_inits (inits_of_list (a k)) (inits_of_list (b k))

pub inits_end : (xs ys : List Init) (i : ℕ) → length xs ≤ i → length ys ≤ i → same_inits (inits_of_list (drop i xs)) (inits_of_list (drop i ys)) ≡ true
inits_end xs ys i h g =
    let a = drop_all i xs h in
    let b = drop_all i ys g in
    λ k. same_inits (inits_of_list (a k)) (inits_of_list (b k))

pub inits_length : (xs ys : List Init) → length xs ≢ length ys → same_inits (inits_of_list xs) (inits_of_list ys) ≡ false
inits_length [] [] h = absurd (h refl)
inits_length [] (y ∷ ys) h = refl
inits_length (x ∷ xs) [] h = refl
inits_length (x ∷ xs) (y ∷ ys) h = ap (λ b. same_init x y && b) (inits_length xs ys (λ e. h (ap suc e))) ∙ and_false (same_init x y)
