-- Lists and options by their items.
use Rattle.std.proofs.Common.{List, ap, get_or, length, ℕ, ◌+◌, ◌<◌, ◌∙◌, [], ◌∷◌, ◌≡◌, refl, Bool, map, ◌++◌, ◌≤◌, take, ◌&&◌, reverse, ◌||◌}
use Rattle.std.proofs.lemmas.List.{reverse-append, take_more}
use Rattle.std.specs.List.{list_any}
use Rattle.lx_words.proofs.Tests.{or_assoc}

pub reverse_take_more : {A : Type 0} (xs : List A) (i : ℕ) (d : A) → i < length xs → reverse (take (i + 1) xs) ≡ get_or xs i d ∷ reverse (take i xs)
reverse_take_more xs i d below = ap reverse (take_more xs i d below) ∙ reverse-append (take i xs) (get_or xs i d ∷ [])

pub any_append : {A : Type 0} (p : A → Bool) (xs ys : List A) → list_any p (xs ++ ys) ≡ (list_any p xs || list_any p ys)
any_append p [] ys = refl
any_append p (x ∷ xs) ys = ap (λ b. p x || b) (any_append p xs ys) ∙ or_assoc (p x) (list_any p xs) (list_any p ys)
