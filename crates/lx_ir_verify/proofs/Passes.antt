-- Lemmas on passes: a first answer in a list, and what a pass answers.
use Rattle.std.proofs.Common.{◌≡◌, ℕ, ◌+◌, ◌<◌, ◌≤◌, Bool, ◌||◌, Option, None, List, [], ◌∷◌, ◌++◌, length, get_or, drop, map, refl, ap, ◌∙◌}
use Rattle.std.specs.Prelude.{flat_map}
use Rattle.std.specs.Option.{option_or}
use Rattle.std.specs.Prelude.{filter_map, option_to_list}
use Rattle.std.specs.List.{list_any}
use Rattle.std.proofs.lemmas.List.{drop_all}
use Rattle.std.proofs.lemmas.List.Elements.{filter_map-append}
use Rattle.lx_words.proofs.Options.{or_some, option_or_assoc}
use Rattle.lx_words.proofs.Lists.{cons_list, rest_at}
use Rattle.lx_ir.specs.Faults.{Fault, first_some}
use Rattle.lx_ir_verify.specs.declared.fault.VerifyFault.{VerifyFault}
use Rattle.lx_ir_verify.specs.declared.fault.VerifyFault.TheVariants.{TypeDiffers, NoSuchLabel, NotAssigned, PhiEdges, NoTerminator, Memory}
use Rattle.lx_ir_verify.specs.Shown.{IsAnswer}

pub first_step : {A B : Type 0} (f : A → Option B) (xs : List A) (i : ℕ) (x : A) → i < length xs → x ≡ get_or xs i x → first_some f (drop i xs) ≡ option_or (f x) (first_some f (drop (i + 1) xs))
first_step f xs i x h e = ap (first_some f) (rest_at xs i x h e)

pub first_end : {A B : Type 0} (f : A → Option B) (xs : List A) (i : ℕ) → length xs ≤ i → first_some f (drop i xs) ≡ None
first_end f xs i h = ap (first_some f) (drop_all i xs h)

-- a fault that comes first is the answer
pub first_answer : (x rest y : Option Fault) (e : VerifyFault) → y ≡ option_or x rest → IsAnswer x e → IsAnswer y e
first_answer x rest y (TypeDiffers line what) p h = or_some x rest y _ p h
first_answer x rest y (NoSuchLabel line what) p h = or_some x rest y _ p h
first_answer x rest y (NotAssigned line what) p h = or_some x rest y _ p h
first_answer x rest y (PhiEdges line what) p h = or_some x rest y _ p h
first_answer x rest y (NoTerminator line what) p h = or_some x rest y _ p h
first_answer x rest y Memory p h = tt

-- a list that is filtered as a loop goes over it
pub filter_step : {A B : Type 0} (f : A → Option B) (xs : List A) (i : ℕ) (x : A) → i < length xs → x ≡ get_or xs i x → filter_map f (drop i xs) ≡ option_to_list (f x) ++ filter_map f (drop (i + 1) xs)
filter_step f xs i x h e = ap (filter_map f) (rest_at xs i x h e) ∙ cons_list (f x) (filter_map f (drop (i + 1) xs))

pub filter_end : {A B : Type 0} (f : A → Option B) (xs : List A) (i : ℕ) → length xs ≤ i → filter_map f (drop i xs) ≡ []
filter_end f xs i h = ap (filter_map f) (drop_all i xs h)

pub filter_flat_step : {A B C : Type 0} (f : B → Option C) (g : A → List B) (xs : List A) (i : ℕ) (x : A) → i < length xs → x ≡ get_or xs i x → filter_map f (flat_map g (drop i xs)) ≡ filter_map f (g x) ++ filter_map f (flat_map g (drop (i + 1) xs))
filter_flat_step f g xs i x h e = ap (λ ys. filter_map f (flat_map g ys)) (rest_at xs i x h e) ∙ filter_map-append f (g x) (flat_map g (drop (i + 1) xs))

pub filter_flat_end : {A B C : Type 0} (f : B → Option C) (g : A → List B) (xs : List A) (i : ℕ) → length xs ≤ i → filter_map f (flat_map g (drop i xs)) ≡ []
filter_flat_end f g xs i h = ap (λ ys. filter_map f (flat_map g ys)) (drop_all i xs h)

first_append : {A B : Type 0} (f : A → Option B) (xs ys : List A) → first_some f (xs ++ ys) ≡ option_or (first_some f xs) (first_some f ys)
first_append f [] ys = refl
first_append f (x ∷ xs) ys = ap (option_or (f x)) (first_append f xs ys) ∙ option_or_assoc (f x) (first_some f xs) (first_some f ys)

pub first_flat_step : {A B C : Type 0} (f : B → Option C) (g : A → List B) (xs : List A) (i : ℕ) (x : A) → i < length xs → x ≡ get_or xs i x → first_some f (flat_map g (drop i xs)) ≡ option_or (first_some f (g x)) (first_some f (flat_map g (drop (i + 1) xs)))
first_flat_step f g xs i x h e = ap (λ ys. first_some f (flat_map g ys)) (rest_at xs i x h e) ∙ first_append f (g x) (flat_map g (drop (i + 1) xs))

pub first_flat_end : {A B C : Type 0} (f : B → Option C) (g : A → List B) (xs : List A) (i : ℕ) → length xs ≤ i → first_some f (flat_map g (drop i xs)) ≡ None
first_flat_end f g xs i h = ap (λ ys. first_some f (flat_map g ys)) (drop_all i xs h)

-- the same over the images of a list
pub first_map_step : {A B C : Type 0} (f : B → Option C) (g : A → B) (xs : List A) (i : ℕ) (x : A) → i < length xs → x ≡ get_or xs i x → first_some f (map g (drop i xs)) ≡ option_or (f (g x)) (first_some f (map g (drop (i + 1) xs)))
first_map_step f g xs i x h e = ap (λ ys. first_some f (map g ys)) (rest_at xs i x h e)

pub first_map_end : {A B C : Type 0} (f : B → Option C) (g : A → B) (xs : List A) (i : ℕ) → length xs ≤ i → first_some f (map g (drop i xs)) ≡ None
first_map_end f g xs i h = ap (λ ys. first_some f (map g ys)) (drop_all i xs h)

pub any_map : {A B : Type 0} (p : B → Bool) (g : A → B) (xs : List A) → list_any p (map g xs) ≡ list_any (λ x. p (g x)) xs
any_map p g [] = refl
any_map p g (x ∷ xs) = ap (λ b. p (g x) || b) (any_map p g xs)
