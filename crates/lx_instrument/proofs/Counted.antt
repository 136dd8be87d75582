-- The numbers by which functions are called in an image.
use Rattle.std.proofs.Common.{◌≡◌, ℕ, ◌+◌, ◌<◌, ◌≤◌, cond, List, [], ◌∷◌, ◌++◌, length, get_or, map, flat_map, drop, ap, sym, ◌∙◌, add-one}
use Rattle.std.proofs.lemmas.List.{drop_all}
use Rattle.lx_words.proofs.Lists.{drop_next, goes_on, ends}
use Rattle.lx_ir.specs.declared.module.Function.{Function}
use Rattle.lx_image_texts.specs.Marks.{is_wrapped, one_if}
use Rattle.lx_instrument.specs.Made.{numbers_from}

pub numbers_step : (fs : List Function) (k : ℕ) (f : Function) (n m : ℕ) (old new all : List ℕ) → k < length fs → f ≡ get_or fs k f
    → old ++ numbers_from n k (drop k fs) ≡ all → new ≡ old ++ cond (is_wrapped f) n k ∷ [] → m ≡ one_if (is_wrapped f) n → new ++ numbers_from m (k + 1) (drop (k + 1) fs) ≡ all
numbers_step fs k f n m old new all h e was p q =
    goes_on old new (cond (is_wrapped f) n k ∷ []) (numbers_from n k (drop k fs)) (numbers_from m (k + 1) (drop (k + 1) fs)) all was
    (ap (numbers_from n k) (drop_next fs k f h e) ∙ (λ i. cond (is_wrapped f) n k ∷ numbers_from (sym q i) (sym (add-one k) i) (drop (sym (add-one k) i) fs))) p

pub numbers_end : (fs : List Function) (k n : ℕ) (old all : List ℕ) → length fs ≤ k → old ++ numbers_from n k (drop k fs) ≡ all → old ≡ all
numbers_end fs k n old all h was = ends old (numbers_from n k (drop k fs)) all was (ap (numbers_from n k) (drop_all k fs h))

-- loops that add what a function gives for each element

pub flat_step : {A B : Type 0} (f : A → List B) (xs : List A) (k : ℕ) (x : A) (old new all : List B) → k < length xs → x ≡ get_or xs k x
    → old ++ flat_map f (drop k xs) ≡ all → new ≡ old ++ f x → new ++ flat_map f (drop (k + 1) xs) ≡ all
flat_step f xs k x old new all h e was n =
    goes_on old new (f x) (flat_map f (drop k xs)) (flat_map f (drop (k + 1) xs)) all was
    (ap (flat_map f) (drop_next xs k x h e) ∙ ap (λ j. f x ++ flat_map f (drop j xs)) (sym (add-one k))) n

pub flat_end : {A B : Type 0} (f : A → List B) (xs : List A) (k : ℕ) (old all : List B) → length xs ≤ k → old ++ flat_map f (drop k xs) ≡ all → old ≡ all
flat_end f xs k old all h was = ends old (flat_map f (drop k xs)) all was (ap (flat_map f) (drop_all k xs h))
