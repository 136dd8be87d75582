-- The steps of the loops that gather an account.
use Rattle.std.proofs.Common.{◌≡◌, ℕ, ◌+◌, Option, List, [], ◌∷◌, ◌++◌, map, sym, ap, ◌∙◌, append_assoc, add-one}
use Rattle.std.specs.List.{flat_map, filter_map}
use Rattle.std.proofs.lemmas.Grind.{flat_map-append}
use Rattle.std.proofs.lemmas.List.{flat_map_more}
use Rattle.std.proofs.lemmas.List.Elements.{filter_map-append}
use mathlib.Core.List.{append-nil}
use Rattle.lx_words.proofs.Lists.{map_append}
use Rattle.lx_caps.specs.declared.Principal.{Principal}
use Rattle.lx_caps.specs.declared.Principal.TheVariants.{Shared, Global, Inst}
use Rattle.lx_slot_types.specs.Gets.{below}

below_more : {A : Type 0} (f : ℕ → A) (k : ℕ) → map f (below (k + 1)) ≡ map f (below k) ++ f k ∷ []
below_more f k = ap (λ n. map f (below n)) (add-one k) ∙ map_append f (below k) (k ∷ [])

lists_more : {A : Type 0} (f : ℕ → List A) (k : ℕ) → flat_map f (below (k + 1)) ≡ flat_map f (below k) ++ f k
lists_more f k =
    ap (λ n. flat_map f (below n)) (add-one k) ∙ flat_map-append f (below k) (k ∷ []) ∙ ap (λ xs. flat_map f (below k) ++ xs) (append-nil (f k))

-- what one number more gives
pub gathered_more : {A : Type 0} (f : ℕ → List A) (k : ℕ) (now new : List A) → now ≡ flat_map f (below k) → new ≡ now ++ f k → new ≡ flat_map f (below (k + 1))
gathered_more f k now new p q = q ∙ ap (λ xs. xs ++ f k) p ∙ sym (lists_more f k)

-- what the principals of one module more own
pub owners_more : {A : Type 0} (f : Principal → List A) (principals : ℕ → List Principal) (m : ℕ) (now new : List A)
    → now ≡ flat_map f (flat_map principals (below m)) → new ≡ now ++ flat_map f (principals m) → new ≡ flat_map f (flat_map principals (below (m + 1)))
owners_more f principals m now new p q =
    q ∙ ap (λ xs. xs ++ flat_map f (principals m)) p
    ∙ sym (flat_map-append f (flat_map principals (below m)) (principals m))
    ∙ ap (flat_map f) (sym (lists_more principals m))

-- what one instance more owns
pub instances_more : {A : Type 0} (f : Principal → List A) (m k : ℕ) (before now new : List A)
    → now ≡ before ++ flat_map f (map (Inst m) (below k)) → new ≡ now ++ f (Inst m k) → new ≡ before ++ flat_map f (map (Inst m) (below (k + 1)))
instances_more f m k before now new p q =
    q ∙ ap (λ xs. xs ++ f (Inst m k)) p
    ∙ flat_map_more f before (map (Inst m) (below k)) (Inst m k)
    ∙ ap (λ xs. before ++ flat_map f xs) (sym (below_more (Inst m) k))

-- the principals of a module, one behind the other
pub module_whole : {A : Type 0} (f : Principal → List A) (m : ℕ) (rest : List Principal) (old first second new : List A)
    → first ≡ old ++ f (Shared m) → second ≡ first ++ f (Global m) → new ≡ second ++ flat_map f rest → new ≡ old ++ flat_map f (Shared m ∷ Global m ∷ rest)
module_whole f m rest old first second new p q r =
    r ∙ ap (λ xs. xs ++ flat_map f rest) (q ∙ ap (λ xs. xs ++ f (Global m)) p)
    ∙ append_assoc (old ++ f (Shared m)) (f (Global m)) (flat_map f rest)
    ∙ append_assoc old (f (Shared m)) (f (Global m) ++ flat_map f rest)

-- one number more, where some give nothing
pub filtered_more : {A : Type 0} (f : ℕ → Option A) (k : ℕ) (before now new : List A)
    → now ≡ before ++ filter_map f (below k) → new ≡ now ++ filter_map f (k ∷ []) → new ≡ before ++ filter_map f (below (k + 1))
filtered_more f k before now new p q =
    q ∙ ap (λ xs. xs ++ filter_map f (k ∷ [])) p
    ∙ append_assoc before (filter_map f (below k)) (filter_map f (k ∷ []))
    ∙ ap (λ xs. before ++ xs) (sym (filter_map-append f (below k) (k ∷ [])) ∙ ap (λ n. filter_map f (below n)) (sym (add-one k)))
