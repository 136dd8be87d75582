-- The writers so far, one principal or one module more.
use Rattle.std.proofs.Common.{◌≡◌, ◌∙◌, refl, sym, ap, ℕ, ◌+◌, Bool, false, List, [], ◌∷◌, ◌++◌, map, append_assoc, add-one}
use Rattle.std.specs.Prelude.{filter, flat_map, if◌then◌else◌}
use Rattle.std.proofs.lemmas.List.Elements.{filter-append}
use Rattle.std.proofs.lemmas.Grind.{flat_map-append}
use mathlib.Core.List.{append-nil}
use Rattle.lx_words.proofs.Lists.{map_append}
use Rattle.lx_slot_types.specs.Gets.{below}

-- what passes of a list, and of one behind it
pub both : {A : Type 0} (p : A → Bool) (xs ys old now new : List A) → now ≡ old ++ filter p xs → new ≡ now ++ filter p ys → new ≡ old ++ filter p (xs ++ ys)
both p xs ys old now new is more =
    more ∙ ap (λ zs. zs ++ filter p ys) is ∙ append_assoc old (filter p xs) (filter p ys) ∙ ap (λ zs. old ++ zs) (sym (filter-append p xs ys))

-- one numbered thing more
pub number_more : {A : Type 0} (p : A → Bool) (make : ℕ → A) (k : ℕ) (old now new : List A) → now ≡ old ++ filter p (map make (below k)) → new ≡ now ++ filter p (make k ∷ [])
    → new ≡ old ++ filter p (map make (below (k + 1)))
number_more p make k old now new is more =
    both p (map make (below k)) (make k ∷ []) old now new is more
    ∙ ap (λ xs. old ++ filter p xs) (sym (ap (λ n. map make (below n)) (add-one k) ∙ map_append make (below k) (k ∷ [])))

-- two things more, and numbered ones
pub module_more : {A : Type 0} (p : A → Bool) (make : ℕ → A) (x y : A) (k n : ℕ) (old a b new : List A) → a ≡ old ++ filter p (x ∷ []) → b ≡ a ++ filter p (y ∷ []) → k ≡ n
    → new ≡ b ++ filter p (map make (below k)) → new ≡ old ++ filter p (x ∷ y ∷ map make (below n))
module_more p make x y k n old a b new first second is rest =
    both p (x ∷ y ∷ []) (map make (below n)) old b new (both p (x ∷ []) (y ∷ []) old a b first second)
    (rest ∙ ap (λ m. b ++ filter p (map make (below m))) is)

-- one numbered list more
pub list_more : {A : Type 0} (p : A → Bool) (make : ℕ → List A) (k : ℕ) (now new : List A) → now ≡ filter p (flat_map make (below k)) → new ≡ now ++ filter p (make k)
    → new ≡ filter p (flat_map make (below (k + 1)))
list_more p make k now new is more =
    both p (flat_map make (below k)) (make k) [] now new is more
    ∙ ap (filter p) (sym (ap (λ n. flat_map make (below n)) (add-one k) ∙ flat_map-append make (below k) (k ∷ []) ∙ ap (λ xs. flat_map make (below k) ++ xs) (append-nil (make k))))

-- where nothing passes nothing is left
pub none_left : {A : Type 0} (p : A → Bool) (xs : List A) → ((x : A) → p x ≡ false) → filter p xs ≡ []
none_left p [] none = refl
none_left p (x ∷ xs) none = ap (λ b. if b then x ∷ filter p xs else filter p xs) (none x) ∙ none_left p xs none
