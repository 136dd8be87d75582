-- Names that differ, put into a table one by one.
use Rattle.std.proofs.Common.{◌≡◌, ℕ, zero, ◌+◌, ◌<◌, Bool, false, nat_lt, Option, Some, None, List, [], ◌∷◌, ◌++◌, length, map, take, get_or, position, bytes_eq, refl, sym, ap, ◌∙◌, subst, arith}
use Rattle.std.specs.List.{IsDistinct, list_any, position_or_len, prefix_len}
use Rattle.std.proofs.lemmas.Bool.Decides.{nat_tests}
use Rattle.std.proofs.lemmas.List.{get_or-take, get_or_default, length-take-le, take_more}
use Rattle.std.proofs.lemmas.List.Folds.{list_any_none}
use Rattle.std.proofs.lemmas.Map.Keys.{apart_from_distinct}
use Rattle.lx_words.proofs.Lists.{flipped, all_passed}
use Rattle.lx_annot_expressions.specs.Names.{number_among}
use Rattle.lx_annot_expressions.proofs.Numbered.{within}

within_none : (i n : ℕ) → i ≡ n → within i n ≡ None
within_none i n e = let out : nat_lt i n ≡ false = grind (arith, nat_tests) in rw out refl

nowhere : {A : Type 0} (p : A → Bool) (xs : List A) → list_any p xs ≡ false → position p xs ≡ None
nowhere p xs h = within_none (position_or_len p xs) (length xs) (all_passed p xs h)

-- a name is none of those before it
pub new_at : (names : List (List ℕ)) (i : ℕ) (d : List ℕ) → IsDistinct bytes_eq names → i < length names → number_among (take i names) (get_or names i d) ≡ None
new_at names i d h lt =
    let few : length (take i names) ≡ i = length-take-le i names (omega (arith, lt)) in
    nowhere (bytes_eq (get_or names i d)) (take i names)
    (list_any_none (bytes_eq (get_or names i d)) (take i names) (λ k e below.
    let here : k < i = omega (arith, below, few) in
    ap (bytes_eq (get_or names i d)) (get_or-take i names k e here ∙ get_or_default names k e d (omega (arith, here, lt)))
    ∙ flipped (get_or names i d) (get_or names k d)
    ∙ apart_from_distinct bytes_eq names k i d h here lt))

-- a table with one name more
pub one_more : (names table new : List (List ℕ)) (i : ℕ) (d name : List ℕ) → table ≡ take i names → name ≡ get_or names i d → i < length names → new ≡ table ++ name ∷ [] → new ≡ take (i + 1) names
one_more names table new i d name so_far is lt e = e ∙ (λ k. so_far k ++ is k ∷ []) ∙ sym (take_more names i d lt)

-- and none of its names is the next
pub still_new : (names table : List (List ℕ)) (i : ℕ) (d name : List ℕ) → IsDistinct bytes_eq names → table ≡ take i names → name ≡ get_or names i d → i < length names → number_among table name ≡ None
still_new names table i d name h so_far is lt = (λ k. number_among (so_far k) (is k)) ∙ new_at names i d h lt
