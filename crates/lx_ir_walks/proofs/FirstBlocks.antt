-- Numbers of blocks by their names.
use Rattle.std.proofs.Common.{◌≡◌, ◌∙◌, refl, sym, ap, ℕ, ◌<◌, Bool, true, false, Option, Some, None, List, [], ◌∷◌, length, get_or}
use Rattle.std.specs.Prelude.{bytes_eq, is_some, position}
use Rattle.std.specs.List.{list_any}
use Rattle.std.proofs.lemmas.List.Folds.{list_any_at}
use Rattle.std.proofs.lemmas.List.Quantifiers.{position-Some}
use Rattle.std.proofs.lemmas.Slice.Eq.{bytes_eq-Decides}
use Rattle.lx_words.proofs.Options.{none_or_some}
use Rattle.lx_words.proofs.Lists.{absent}
use Rattle.lx_words.proofs.Tests.{eq_self, true_eq, false_true}
use Rattle.lx_ir.specs.declared.module.Function.{Function}
use Rattle.lx_ir.specs.Lookup.{blocks_of}
use Rattle.lx_ir.specs.Faults.{block_number, has_block}
use Rattle.lx_ir_walks.specs.Numbers.{is_named, is_number}

there : {A : Type 0} (p : A → Bool) (xs : List A) (k : ℕ) → position p xs ≡ Some k → list_any p xs ≡ true
there p [] k e = none_or_some e
there p (x ∷ xs) k e = let h = position-Some p (x ∷ xs) k x e in list_any_at p (x ∷ xs) k x h.0 h.1

pub below : {A : Type 0} (p : A → Bool) (xs : List A) (k : ℕ) → position p xs ≡ Some k → k < length xs
below p [] k e = none_or_some e
below p (x ∷ xs) k e = (position-Some p (x ∷ xs) k x e).0

any_place : {A : Type 0} (p : A → Bool) (xs : List A) (o : Option ℕ) → position p xs ≡ o → list_any p xs ≡ is_some o
any_place p xs None e = absent p xs e
any_place p xs (Some k) e = there p xs k e

-- there is a block with a name where the name has a number
pub present : (f : Function) (label : List ℕ) → has_block f label ≡ is_some (block_number f label)
present f label = any_place (is_named label) (blocks_of f) (block_number f label) refl

-- what stands at the first place of two tests
two_at : {A : Type 0} (p q : A → Bool) (xs : List A) (k : ℕ) → position p xs ≡ Some k → position q xs ≡ Some k → (x : A) × (p x ≡ true) × (q x ≡ true)
two_at p q [] k e h = none_or_some e
two_at p q (x ∷ xs) k e h = (get_or (x ∷ xs) k x, (position-Some p (x ∷ xs) k x e).1, (position-Some q (x ∷ xs) k x h).1)

pub number_is : (o : Option ℕ) (n : ℕ) → is_number o n ≡ true → o ≡ Some n
number_is None n e = false_true e
number_is (Some k) n e = ap (λ (m : ℕ). Some m) (true_eq k n e)

-- names with one number are the same
pub one_name : (f : Function) (x label : List ℕ) (n : ℕ) → block_number f x ≡ Some n → block_number f label ≡ Some n → x ≡ label
one_name f x label n e h =
    let b = two_at (is_named x) (is_named label) (blocks_of f) n e h in
    sym ((bytes_eq-Decides b.0.name x).0 b.1) ∙ (bytes_eq-Decides b.0.name label).0 b.2

-- the number of a name is that of another where the names are the same
by_names : (f : Function) (x label : List ℕ) (n : ℕ) (b t : Bool) → block_number f label ≡ Some n → bytes_eq x label ≡ b → is_number (block_number f x) n ≡ t → t ≡ b
by_names f x label n true true e h g = refl
by_names f x label n false false e h g = refl
by_names f x label n true false e h g = sym g ∙ (ap (λ y. is_number (block_number f y) n) ((bytes_eq-Decides x label).0 h) ∙ (ap (λ o. is_number o n) e ∙ eq_self n))
by_names f x label n false true e h g =
    sym ((bytes_eq-Decides x label).1 (one_name f x label n (number_is (block_number f x) n g) e)) ∙ h

pub named_number : (f : Function) (x label : List ℕ) (n : ℕ) → block_number f label ≡ Some n → is_number (block_number f x) n ≡ bytes_eq x label
named_number f x label n e = by_names f x label n (bytes_eq x label) (is_number (block_number f x) n) e refl refl
