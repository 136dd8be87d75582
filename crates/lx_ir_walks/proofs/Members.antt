-- What stands in a list, and tests over lists.
use Rattle.std.proofs.Common.{◌≡◌, refl, sym, ap, ◌∙◌, ◌⊎◌, inl, inr, Bool, true, false, ◌||◌, List, [], ◌∷◌}
use Rattle.std.specs.List.{list_all, list_any}
use Rattle.std.proofs.lemmas.Bool.{and_from, or_left, or_right}
use Rattle.lx_words.proofs.Tests.{false_true, first_of, second_of}

abbrev pub In : {A : Type 0} → A → List A → Type 0
In x [] = ⊥
In x (y ∷ ys) = (x ≡ y) ⊎ In x ys

pub any_in : {A : Type 0} (p : A → Bool) (xs : List A) (x : A) → In x xs → p x ≡ true → list_any p xs ≡ true
any_in p [] x i e = absurd i
any_in p (y ∷ ys) x (inl i) e = or_left (p y) (list_any p ys) (sym (ap p i) ∙ e)
any_in p (y ∷ ys) x (inr i) e = or_right (p y) (list_any p ys) (any_in p ys x i e)

in_head : {A : Type 0} (p : A → Bool) (y : A) (ys : List A) (b : Bool) → p y ≡ b → (list_any p ys ≡ true → (x : A) × In x ys × (p x ≡ true)) → (b || list_any p ys) ≡ true → (x : A) × In x (y ∷ ys) × (p x ≡ true)
in_head p y ys true h more e = (y, inl refl, h)
in_head p y ys false h more e = let r = more e in (r.0, inr r.1, r.2)

pub in_any : {A : Type 0} (p : A → Bool) (xs : List A) → list_any p xs ≡ true → (x : A) × In x xs × (p x ≡ true)
in_any p [] e = false_true e
in_any p (y ∷ ys) e = in_head p y ys (p y) refl (in_any p ys) e

pub all_in : {A : Type 0} (p : A → Bool) (xs : List A) (x : A) → list_all p xs ≡ true → In x xs → p x ≡ true
all_in p [] x e i = absurd i
all_in p (y ∷ ys) x e (inl i) = ap p i ∙ first_of (p y) (list_all p ys) e
all_in p (y ∷ ys) x e (inr i) = all_in p ys x (second_of (p y) (list_all p ys) e) i

pub in_all : {A : Type 0} (p : A → Bool) (xs : List A) → ((x : A) → In x xs → p x ≡ true) → list_all p xs ≡ true
in_all p [] h = refl
in_all p (y ∷ ys) h = and_from (p y) (list_all p ys) (h y (inl refl)) (in_all p ys (λ x i. h x (inr i)))
