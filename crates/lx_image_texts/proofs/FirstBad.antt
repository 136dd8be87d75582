-- Searches find the first.
use Rattle.std.proofs.Common.{◌≡◌, ◌⊎◌, inl, inr, refl, subst, ℕ, zero, suc, ◌<◌, Bool, true, false, List, [], ◌∷◌, Option, Some, None, slice_get}
use Rattle.std.specs.Prelude.{cond, find}
use Rattle.lx_words.proofs.Options.{some_none, none_some, some_same, neither_some}
use Rattle.lx_words.proofs.Tests.{no_less, one_down}
use Rattle.lx_ir.specs.Faults.{first_some}
use Rattle.lx_image_texts.specs.Named.{AllAre, IsFirstBad}
use Rattle.lx_image_texts.proofs.First.{or_some}

-- one more in front of a list

pub all_none : {A : Type 0} (Good : ℕ → A → Type 0) → AllAre Good []
all_none Good n y at = none_some at

pub all_more : {A : Type 0} (Good : ℕ → A → Type 0) (x : A) (xs : List A) → Good 0 x → AllAre (λ n. Good (suc n)) xs → AllAre Good (x ∷ xs)
all_more Good x xs here rest zero y at = subst (Good 0) (some_same at) here
all_more Good x xs here rest (suc n) y at = rest n y at

before_more : {A : Type 0} (Good : ℕ → A → Type 0) (x : A) (xs : List A) (k : ℕ) → Good 0 x → ((n : ℕ) (y : A) → n < k → slice_get xs n ≡ Some y → Good (suc n) y) → (n : ℕ) (y : A) → n < suc k → slice_get (x ∷ xs) n ≡ Some y → Good n y
before_more Good x xs k here rest zero y less at = subst (Good 0) (some_same at) here
before_more Good x xs k here rest (suc n) y less at = rest n y (one_down n k less) at

pub bad_here : {A : Type 0} (Good Bad : ℕ → A → Type 0) (x : A) (xs : List A) → Bad 0 x → IsFirstBad Good Bad (x ∷ xs) x
bad_here Good Bad x xs bad = record { place = 0; at = refl; bad = bad; before = λ n y less at. no_less n less }

pub bad_more : {A : Type 0} (Good Bad : ℕ → A → Type 0) (x y : A) (xs : List A) → Good 0 x → IsFirstBad (λ n. Good (suc n)) (λ n. Bad (suc n)) xs y → IsFirstBad Good Bad (x ∷ xs) y
bad_more Good Bad x y xs here r = record { place = suc r.place; at = r.at; bad = r.bad; before = before_more Good x xs r.place here r.before }

-- the first that has something

pub record Found {A B : Type 0} (Good Bad : ℕ → A → Type 0) (f : A → Option B) (xs : List A) (b : B) : Type 0 where
  pub it : A
  pub is : f it ≡ Some b
  pub first : IsFirstBad Good Bad xs it

pub first_found : {A B : Type 0} (Good Bad : ℕ → A → Type 0) (f : A → Option B) (xs : List A) (b : B) → AllAre (λ n y. f y ≡ None → Good n y) xs → AllAre (λ n y. f y ≡ Some b → Bad n y) xs → first_some f xs ≡ Some b → Found Good Bad f xs b
first_found Good Bad f [] b good bad h = none_some h
first_found Good Bad f (x ∷ xs) b good bad h = by (or_some (f x) (first_some f xs) b h) (first_found (λ n. Good (suc n)) (λ n. Bad (suc n)) f xs b (λ n. good (suc n)) (λ n. bad (suc n)))
  where
    by : (f x ≡ Some b) ⊎ ((f x ≡ None) × (first_some f xs ≡ Some b)) → (first_some f xs ≡ Some b → Found (λ n. Good (suc n)) (λ n. Bad (suc n)) f xs b) → Found Good Bad f (x ∷ xs) b
    by (inl here) more = record { it = x; is = here; first = bad_here Good Bad x xs (bad 0 x refl here) }
    by (inr (none, there)) more = let r = more there in record { it = r.it; is = r.is; first = bad_more Good Bad x r.it xs (good 0 x refl none) r.first }

pub none_found : {A B : Type 0} (Good : ℕ → A → Type 0) (f : A → Option B) (xs : List A) → AllAre (λ n y. f y ≡ None → Good n y) xs → first_some f xs ≡ None → AllAre Good xs
none_found Good f [] good h = all_none Good
none_found Good f (x ∷ xs) good h =
    let o = neither_some (f x) (first_some f xs) h in
    all_more Good x xs (good 0 x refl o.0) (none_found (λ n. Good (suc n)) f xs (λ n. good (suc n)) o.1)

-- the first that passes a test

pub passed : {A : Type 0} (P : A → Type 0) (p : A → Bool) (xs : List A) (x : A) → ((y : A) → p y ≡ true → P y) → ((y : A) → p y ≡ false → P y → ⊥) → find p xs ≡ Some x → IsFirstBad (λ n y. P y → ⊥) (λ n y. P y) xs x
passed P p [] x passes fails h = none_some h
passed P p (y ∷ xs) x passes fails h = by (p y) refl h (passed P p xs x passes fails)
  where
    by : (b : Bool) → p y ≡ b → cond b (Some y) (find p xs) ≡ Some x → (find p xs ≡ Some x → IsFirstBad (λ n z. P z → ⊥) (λ n z. P z) xs x) → IsFirstBad (λ n z. P z → ⊥) (λ n z. P z) (y ∷ xs) x
    by true is same more = subst (IsFirstBad (λ n z. P z → ⊥) (λ n z. P z) (y ∷ xs)) (some_same same) (bad_here (λ n z. P z → ⊥) (λ n z. P z) y xs (passes y is))
    by false is there more = bad_more (λ n z. P z → ⊥) (λ n z. P z) y x xs (fails y is) (more there)

pub none_passed : {A : Type 0} (P : A → Type 0) (p : A → Bool) (xs : List A) → ((y : A) → p y ≡ false → P y → ⊥) → find p xs ≡ None → AllAre (λ n y. P y → ⊥) xs
none_passed P p [] fails h = all_none (λ n y. P y → ⊥)
none_passed P p (y ∷ xs) fails h = by (p y) refl h (none_passed P p xs fails)
  where
    by : (b : Bool) → p y ≡ b → cond b (Some y) (find p xs) ≡ None → (find p xs ≡ None → AllAre (λ n z. P z → ⊥) xs) → AllAre (λ n z. P z → ⊥) (y ∷ xs)
    by true is some more = some_none some
    by false is none more = all_more (λ n z. P z → ⊥) y xs (fails y is) (more none)
