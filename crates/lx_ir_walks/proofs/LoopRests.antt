-- Lemmas on what a loop has left of a list.
use Rattle.std.proofs.Common.{◌≡◌, ℕ, ◌+◌, ◌<◌, ◌≤◌, Option, List, [], ◌∷◌, ◌++◌, length, get_or, drop, map, ap, ◌∙◌}
use Rattle.std.specs.Prelude.{filter_map, option_to_list}
use Rattle.std.proofs.lemmas.List.{drop_all}
use Rattle.lx_words.proofs.Lists.{rest_at, cons_list}

pub filter_more : {A B : Type 0} (f : A → Option B) (x : A) (xs : List A) → filter_map f (x ∷ xs) ≡ option_to_list (f x) ++ filter_map f xs
filter_more f x xs = cons_list (f x) (filter_map f xs)

pub filter_map_step : {A B C : Type 0} (f : B → Option C) (g : A → B) (xs : List A) (i : ℕ) (x : A) → i < length xs → x ≡ get_or xs i x → filter_map f (map g (drop i xs)) ≡ option_to_list (f (g x)) ++ filter_map f (map g (drop (i + 1) xs))
filter_map_step f g xs i x h e = ap (λ ys. filter_map f (map g ys)) (rest_at xs i x h e) ∙ cons_list (f (g x)) (filter_map f (map g (drop (i + 1) xs)))

pub filter_map_end : {A B C : Type 0} (f : B → Option C) (g : A → B) (xs : List A) (i : ℕ) → length xs ≤ i → filter_map f (map g (drop i xs)) ≡ []
filter_map_end f g xs i h = ap (λ ys. filter_map f (map g ys)) (drop_all i xs h)
