-- Names and their numbers.
use Rattle.std.proofs.Common.{◌≡◌, ◌∙◌, ℕ, suc, ◌+◌, ◌≤◌, Bool, not, cond, nat_lt, Option, Some, None, List, [], ◌∷◌, ◌++◌, map, length, position, bytes_eq, if◌then◌else◌, refl, sym, ap, arith}
use Rattle.std.specs.List.{position_or_len, prefix_len}
use Rattle.std.proofs.lemmas.Bool.Decides.{nat_tests}
use Rattle.std.proofs.lemmas.List.{map-append}
use Rattle.lx_words.proofs.Lists.{absent}
use Rattle.indexmap.specs.IndexSet.{insert_key}
use Rattle.lx_annot_expressions.specs.Names.{number_among}

module _ {A B : Type 0} (p : B → Bool) (f : A → B) where
  prefix_len-map : (xs : List A) → prefix_len p (map f xs) ≡ prefix_len (λ x. p (f x)) xs
  prefix_len-map [] = refl
  prefix_len-map (x ∷ xs) = ap (λ n. cond (p (f x)) (1 + n) 0) (prefix_len-map xs)

  length-map : (xs : List A) → length (map f xs) ≡ length xs
  length-map [] = refl
  length-map (x ∷ xs) = ap suc (length-map xs)

abbrev pub within : ℕ → ℕ → Option ℕ
within i n = cond (nat_lt i n) (Some i) None

-- a place in a list of images
pub position_mapped : {A B : Type 0} (p : B → Bool) (f : A → B) (xs : List A) → position p (map f xs) ≡ position (λ x. p (f x)) xs
position_mapped p f xs =
    ap (λ i. within i (length (map f xs))) (prefix_len-map (λ x. not (p x)) f xs) ∙ ap (within (position_or_len (λ x. p (f x)) xs)) (length-map p f xs)

pub past : (i n : ℕ) → within i n ≡ None → n ≤ i
past i n h = grind (arith, nat_tests)

abbrev inserted_if : {V : Type 0} → (V → List ℕ) → List V → V → Bool → List (List ℕ)
inserted_if bytes keys key found = map bytes (if found then keys else keys ++ key ∷ [])

-- A key whose bytes are new goes to the end.
pub inserted : {V : Type 0} (bytes : V → List ℕ) (keys : List V) (key : V) (names : List (List ℕ)) (name : List ℕ) → map bytes keys ≡ names → bytes key ≡ name → number_among names name ≡ None → map bytes (insert_key (λ x y. bytes_eq (bytes x) (bytes y)) keys key) ≡ names ++ name ∷ []
inserted bytes keys key names name are is none =
    let fails : position (λ y. bytes_eq (bytes key) (bytes y)) keys ≡ None = sym (position_mapped (bytes_eq (bytes key)) bytes keys) ∙ rw (are, is) none in
    ap (inserted_if bytes keys key) (absent (λ y. bytes_eq (bytes key) (bytes y)) keys fails) ∙ map-append bytes keys (key ∷ []) ∙ rw (are, is) refl
