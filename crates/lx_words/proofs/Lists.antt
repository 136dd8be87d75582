-- Lists: their elements, their parts, and where in them a test holds.
use Rattle.std.proofs.Common.{Bool, List, None, Option, Some, [], ap, append_assoc, arith, bytes_eq, cond, drop, false, find, flat_map, get_or, length, map, nat_eq, not, refl, slice_get, subst, suc, sym, take, true, true≢false, zero, ℕ, ◌&&◌, ◌++◌, ◌+◌, ◌-◌, ◌<◌, ◌||◌, ◌∙◌, ◌∷◌, ◌≡◌, ◌≤◌}
use Rattle.std.proofs.Math.Bool.{and_assoc}
use Rattle.std.specs.Cmp.{IsEquivalence}
use Rattle.std.specs.List.{cons_option, list_all, list_any, position_from, position_or_len}
use Rattle.std.specs.Map.{lookup}
use Rattle.std.specs.Option.{option_map}
use Rattle.std.specs.Prelude.{All, filter, nat_lt, option_to_list, position, slice_index_or}
use Rattle.std.proofs.lemmas.Bool.{and_from, and_parts, and_right, or_right}
use Rattle.std.proofs.lemmas.Iterator.Adapters.{position_from-zero}
use Rattle.std.proofs.lemmas.List.{append-nil, drop_all, drop_at, drop_more, flat_map_more, map-append, take_all, take_at, take_more}
use Rattle.std.proofs.lemmas.List.Folds.{find_at, list_all-append, list_any_none}
use Rattle.std.proofs.lemmas.List.Sums.{fails_before_first}
use Rattle.std.proofs.lemmas.Option.{same_Some, slice_get_past}
use Rattle.std.proofs.lemmas.Slice.Eq.{bytes_eq-Decides}
use Rattle.lx_words.proofs.Options.{none_or_some, none_some, none_within, some_same}
use Rattle.lx_words.proofs.Tests.{and_false, any_step, same_tests}
use Rattle.lx_words.proofs.Tests.{or_true}

pub no_list : {A B : Type 0} {x : A} {xs : List A} → ◌≡◌ {A = List A} [] (x ∷ xs) → B
no_list e = cc

pub rest_at : {X : Type 0} (xs : List X) (i : ℕ) (x : X) → i < length xs → x ≡ get_or xs i x → drop i xs ≡ x ∷ drop (i + 1) xs
rest_at xs i x h e = drop_more xs i x h ∙ ap (λ y. y ∷ drop (i + 1) xs) (sym e)

pub bytes_itself : (x : List ℕ) → bytes_eq x x ≡ true
bytes_itself x = (bytes_eq-Decides x x).1 refl

pub first_all : {A : Type 0} (t : A → Bool) (xs : List A) (k : ℕ) (found : Option ℕ) → k ≤ 0 → found ≡ position_from t k (drop k xs) → found ≡ position t xs
first_all t xs k found none is =
    let zero_is : k ≡ 0 = omega (arith, none) in
    is ∙ ap (λ n. position_from t n (drop n xs)) zero_is ∙ sym (position_from-zero t xs)

pub map_append : {A B : Type 0} (f : A → B) (xs ys : List A) → map f (xs ++ ys) ≡ map f xs ++ map f ys
map_append f [] ys = refl
map_append f (x ∷ xs) ys = ap (λ zs. f x ∷ zs) (map_append f xs ys)

pub heads : {A : Type 0} {x y : A} {xs ys : List A} → ◌≡◌ {A = List A} (x ∷ xs) (y ∷ ys) → x ≡ y
heads e = cc

pub same_bytes : (a b : List ℕ) → bytes_eq a b ≡ true → a ≡ b
same_bytes a b e = (bytes_eq-Decides a b).0 e

pub all_at : {X : Type 0} (p : X → Bool) (xs : List X) (k : ℕ) (x : X) → list_all p xs ≡ true → slice_get xs k ≡ Some x → p x ≡ true
all_at p [] zero x h e = absurd (cc e)
all_at p [] (suc k) x h e = absurd (cc e)
all_at p (y ∷ ys) zero x h e = let s : y ≡ x = cc in ap p (sym s) ∙ (and_parts (p y) (list_all p ys) h).0
all_at p (y ∷ ys) (suc k) x h e = all_at p ys k x (and_parts (p y) (list_all p ys) h).1 e

pub all_got : {A : Type 0} (P : A → Type 0) (xs : List A) (k : ℕ) (x : A) → All P xs → slice_get xs k ≡ Some x → P x
all_got P [] k x all h = absurd (cc)
all_got P (y ∷ ys) zero x all h = subst P (same_Some y x h) (all 0 y (omega arith))
all_got P (y ∷ ys) (suc k) x all h = all_got P ys k x (λ j d less. all (suc j) d (omega (arith, less))) h

pub drop_next : {A : Type 0} (xs : List A) (k : ℕ) (x : A) → k < length xs → x ≡ get_or xs k x → drop k xs ≡ x ∷ drop (suc k) xs
drop_next [] k x h e = absurd (omega arith)
drop_next (y ∷ ys) zero x h e = ap (λ z. z ∷ ys) (sym e)
drop_next (y ∷ ys) (suc k) x h e = drop_next ys k x (omega arith) e

pub eq_turned : (x y : List ℕ) (v : Bool) → bytes_eq y x ≡ v → bytes_eq x y ≡ false → v ≡ false
eq_turned x y false e h = refl
eq_turned x y true e h = absurd (true≢false (sym ((bytes_eq-Decides x y).1 (sym ((bytes_eq-Decides y x).0 e))) ∙ h))

pub tails : {A : Type 0} {x y : A} {xs ys : List A} → ◌≡◌ {A = List A} (x ∷ xs) (y ∷ ys) → xs ≡ ys
tails e = cc

pub goes_on : {X : Type 0} (old new piece rest next all : List X) → old ++ rest ≡ all → rest ≡ piece ++ next → new ≡ old ++ piece → new ++ next ≡ all
goes_on old new piece rest next all h r n =
    ap (λ l. l ++ next) n ∙ append_assoc old piece next ∙ ap (λ l. old ++ l) (sym r) ∙ h

pub ends : {X : Type 0} (old rest all : List X) → old ++ rest ≡ all → rest ≡ [] → old ≡ all
ends old rest all h r = sym (append-nil old) ∙ ap (λ l. old ++ l) (sym r) ∙ h

pub none_position : {A : Type 0} (p : A → Bool) (xs : List A) (b : Bool) → nat_lt (position_or_len p xs) (length xs) ≡ b → cond b (Some (position_or_len p xs)) None ≡ None → length xs ≤ position_or_len p xs
none_position p xs true e h = none_or_some (sym h)
none_position p xs false e h = grind (arith, e)

pub none_found : {A : Type 0} (p : A → Bool) (xs : List A) → position p xs ≡ None → None ≡ find p xs
none_found p xs e = sym (find_at p xs ∙ slice_get_past xs (position_or_len p xs) (none_position p xs (nat_lt (position_or_len p xs) (length xs)) refl e))

pub all_joined : {A : Type 0} (p : A → Bool) (xs ys : List A) → list_all p xs ≡ true → list_all p ys ≡ true → list_all p (xs ++ ys) ≡ true
all_joined p xs ys h g = list_all-append p xs ys ∙ and_from (list_all p xs) (list_all p ys) h g

pub there_is : {A : Type 0} (xs : List A) (k : ℕ) → k < length xs → (x : A) × (slice_get xs k ≡ Some x)
there_is [] k h = absurd (omega (arith, h))
there_is (x ∷ xs) zero h = (x, refl)
there_is (x ∷ xs) (suc k) h = there_is xs k (omega (arith, h))

pub absent : {A : Type 0} (p : A → Bool) (xs : List A) → position p xs ≡ None → list_any p xs ≡ false
absent p xs none = list_any_none p xs (λ k d lt. fails_before_first p xs k d (omega (arith, none_within (position_or_len p xs) (length xs) none)))

pub between : (whole before bytes after : List ℕ) (at : ℕ) → whole ≡ before ++ (bytes ++ after) → at ≡ length before → take (at + length bytes - at) (drop at whole) ≡ bytes
between whole before bytes after at e l =
    let n : at + length bytes - at ≡ length bytes = omega arith in
    let back : drop at whole ≡ bytes ++ after = ap (drop at) e ∙ drop_at before (bytes ++ after) at (sym l) in
    ap (λ k. take k (drop at whole)) n ∙ ap (take (length bytes)) back ∙ take_at bytes after (length bytes) refl

pub map_one_more : {A : Type 0} (g : A → A) (xs ys : List A) (x y : A) → map g xs ≡ map g ys → g x ≡ g y → map g (xs ++ x ∷ []) ≡ map g (ys ++ y ∷ [])
map_one_more g xs ys x y h k = map-append g xs (x ∷ []) ∙ (λ i. h i ++ k i ∷ []) ∙ sym (map-append g ys (y ∷ []))

pub map_length : {A B : Type 0} (f : A → B) (xs : List A) → length (map f xs) ≡ length xs
map_length f [] = refl
map_length f (x ∷ xs) = ap suc (map_length f xs)

pub place_is_here : {A : Type 0} (p : A → Bool) (xs : List A) (k : ℕ) (b : Bool) → nat_lt (position_or_len p xs) (length xs) ≡ b → cond b (Some (position_or_len p xs)) None ≡ Some k → (position_or_len p xs ≡ k) × (position_or_len p xs < length xs)
place_is_here p xs k true e h = (some_same h, less (position_or_len p xs) (length xs) e) where
  less : (a b : ℕ) → nat_lt a b ≡ true → a < b
  less a b h = grind (arith, h)
place_is_here p xs k false e h = none_some h

pub placed : {A : Type 0} (p : A → Bool) (xs : List A) (k : ℕ) → position p xs ≡ Some k → (position_or_len p xs ≡ k) × (position_or_len p xs < length xs)
placed p xs k e = place_is_here p xs k (nat_lt (position_or_len p xs) (length xs)) refl e

pub find_placed : {A : Type 0} (p : A → Bool) (xs : List A) (k : ℕ) → position p xs ≡ Some k → find p xs ≡ slice_get xs k
find_placed p xs k e = find_at p xs ∙ ap (slice_get xs) (placed p xs k e).0

pub index_map : {A B : Type 0} (f : A → B) (xs : List A) (k : ℕ) (x : A) (d : B) → slice_get xs k ≡ Some x → slice_index_or (map f xs) k d ≡ f x
index_map f [] k x d e = none_some e
index_map f (y ∷ xs) zero x d e = ap f (some_same e)
index_map f (y ∷ xs) (suc k) x d e = index_map f xs k x d e

pub all_taken : {A : Type 0} (xs : List A) → take (length xs) xs ≡ xs
all_taken [] = refl
all_taken (x ∷ xs) = ap (λ ys. x ∷ ys) (all_taken xs)

pub joined_name : (xs ys zs : List ℕ) → length xs ≤ length zs → (bytes_eq xs (take (length xs) zs) && bytes_eq ys (drop (length xs) zs)) ≡ bytes_eq (xs ++ ys) zs
joined_name [] ys zs h = refl
joined_name (x ∷ xs) ys [] h = absurd (omega (arith, h))
joined_name (x ∷ xs) ys (z ∷ zs) h =
    and_assoc (nat_eq x z) (bytes_eq xs (take (length xs) zs)) (bytes_eq ys (drop (length xs) zs))
    ∙ ap (λ b. nat_eq x z && b) (joined_name xs ys zs (omega (arith, h)))

pub longer_name : (xs ys zs : List ℕ) → length zs < length xs → false ≡ bytes_eq (xs ++ ys) zs
longer_name [] ys zs h = absurd (omega (arith, h))
longer_name (x ∷ xs) ys [] h = refl
longer_name (x ∷ xs) ys (z ∷ zs) h =
    sym (and_false (nat_eq x z)) ∙ ap (λ b. nat_eq x z && b) (longer_name xs ys zs (omega (arith, h)))

pub joined_then : (xs ys zs : List ℕ) → length xs ≤ length zs → bytes_eq xs (take (length xs) zs) ≡ true → bytes_eq ys (drop (length xs) zs) ≡ bytes_eq (xs ++ ys) zs
joined_then xs ys zs h e = ap (λ b. b && bytes_eq ys (drop (length xs) zs)) (sym e) ∙ joined_name xs ys zs h

pub joined_else : (xs ys zs : List ℕ) → length xs ≤ length zs → bytes_eq xs (take (length xs) zs) ≡ false → false ≡ bytes_eq (xs ++ ys) zs
joined_else xs ys zs h e = ap (λ b. b && bytes_eq ys (drop (length xs) zs)) (sym e) ∙ joined_name xs ys zs h

pub found_by : {A : Type 0} (t : A → Bool) (y x : A) (rest : Option A) (b : Bool) → t y ≡ b → (rest ≡ Some x → t x ≡ true) → cond b (Some y) rest ≡ Some x → t x ≡ true
found_by t y x rest true is later found = let same : y ≡ x = cc in sym (ap t same) ∙ is
found_by t y x rest false is later found = later found

pub found_is : {A : Type 0} (t : A → Bool) (xs : List A) (x : A) → find t xs ≡ Some x → t x ≡ true
found_is t [] x e = absurd (cc)
found_is t (y ∷ ys) x e = found_by t y x (find t ys) (t y) refl (found_is t ys x) e

pub got_past : {A : Type 0} (xs ys : List A) (k : ℕ) → slice_get (xs ++ ys) (length xs + k) ≡ slice_get ys k
got_past [] ys k = ap (slice_get ys) (omega arith)
got_past (x ∷ xs) ys k = let e : suc (length xs) + k ≡ suc (length xs + k) = omega arith in ap (slice_get (x ∷ xs ++ ys)) e ∙ got_past xs ys k

pub place_is : {A : Type 0} (p : A → Bool) (xs : List A) (k : ℕ) (b : Bool) → nat_lt (position_or_len p xs) (length xs) ≡ b → cond b (Some (position_or_len p xs)) None ≡ Some k → position_or_len p xs ≡ k
place_is p xs k true e h = some_same h
place_is p xs k false e h = none_some h

pub found_place : {A : Type 0} (p : A → Bool) (xs : List A) (k : ℕ) → position p xs ≡ Some k → slice_get xs k ≡ find p xs
found_place p xs k e = sym (find_at p xs ∙ ap (slice_get xs) (place_is p xs k (nat_lt (position_or_len p xs) (length xs)) refl e))

pub no_more : {A : Type 0} (xs : List A) → xs ++ [] ≡ xs
no_more [] = refl
no_more (x ∷ xs) = ap (λ ys. x ∷ ys) (no_more xs)

pub found_row : {R K X : Type 0} (key : R → K) (value : R → X) (test : K → Bool) (rows : List R) → option_map value (find (λ row. test (key row)) rows) ≡ lookup test (map (λ row. (key row, value row)) rows)
found_row key value test [] = refl
found_row key value test (row ∷ rows) =
    elim (test (key row)) as (λ b. option_map value (cond b (Some row) (find (λ row. test (key row)) rows)) ≡ cond b (Some (value row)) (lookup test (map (λ row. (key row, value row)) rows))) [ true ↦ refl | false ↦ found_row key value test rows ]

pub bytes_same : IsEquivalence bytes_eq
bytes_same = record {
  refl = λ x. (bytes_eq-Decides x x).1 refl;
  symm = λ x y. same_tests (bytes_eq x y) (bytes_eq y x) (λ h. (bytes_eq-Decides y x).1 (sym ((bytes_eq-Decides x y).0 h))) (λ h. (bytes_eq-Decides x y).1 (sym ((bytes_eq-Decides y x).0 h)));
  congr = λ x y z h. ap (λ w. bytes_eq w z) ((bytes_eq-Decides x y).0 h);
}

pub all_lost : (p : ℕ → Bool) (bs : List ℕ) (r : ℕ) (more : List ℕ) → p r ≡ false → list_all p (bs ++ r ∷ more) ≡ false
all_lost p [] r more e = ap (λ v. v && list_all p more) e
all_lost p (b ∷ bs) r more e = and_right (p b) (list_all p (bs ++ r ∷ more)) (all_lost p bs r more e)

pub take_over : (bytes : List ℕ) (r : ℕ) (rest : List ℕ) (k m : ℕ) → m ≡ length bytes + suc k → take m (bytes ++ r ∷ rest) ≡ bytes ++ r ∷ take k rest
take_over [] r rest k zero e = absurd (omega arith)
take_over [] r rest k (suc m) e = let same : m ≡ k = omega arith in ap (λ n. r ∷ take n rest) same
take_over (b ∷ bytes) r rest k zero e = absurd (omega arith)
take_over (b ∷ bytes) r rest k (suc m) e = ap (λ t. b ∷ t) (take_over bytes r rest k m (omega arith))

all_fail_by : (b rest : Bool) (n m : ℕ) → b || rest ≡ false → (rest ≡ false → n ≡ m) → cond (not b) (1 + n) 0 ≡ suc m
all_fail_by true rest n m h f = cc
all_fail_by false rest n m h f = omega (arith, f h)

pub all_passed : {A : Type 0} (p : A → Bool) (xs : List A) → list_any p xs ≡ false → position_or_len p xs ≡ length xs
all_passed p [] h = refl
all_passed p (x ∷ xs) h = all_fail_by (p x) (list_any p xs) (position_or_len p xs) (length xs) h (λ k. all_passed p xs k)

pub any_mapped : {A B : Type 0} (p : B → Bool) (f : A → B) (xs : List A) → list_any (λ x. p (f x)) xs ≡ list_any p (map f xs)
any_mapped p f [] = refl
any_mapped p f (x ∷ xs) = ap (λ b. p (f x) || b) (any_mapped p f xs)

pub flipped : (x y : List ℕ) → bytes_eq x y ≡ bytes_eq y x
flipped x y = same_tests (bytes_eq x y) (bytes_eq y x) (λ h. (bytes_eq-Decides y x).1 (sym ((bytes_eq-Decides x y).0 h))) (λ h. (bytes_eq-Decides x y).1 (sym ((bytes_eq-Decides y x).0 h)))

pub from_start : {A : Type 0} (xs : List A) (j : ℕ) → slice_get xs (0 + j) ≡ slice_get xs j
from_start xs j = ap (slice_get xs) (omega arith)

pub position_is : {A : Type 0} (p : A → Bool) (xs : List A) (k : ℕ) → position_or_len p xs ≡ k → k < length xs → position p xs ≡ Some k
position_is p xs k e l = grind (arith, l, e)

pub front_step : {A : Type 0} (p : A → Bool) (x : A) (xs ys : List A) (b : Bool) → p x ≡ b → cond (not b) (1 + position_or_len p ys) 0 < suc (length ys) → (position_or_len p ys < length ys → position_or_len p xs ≡ position_or_len p ys) →
    cond (not b) (1 + position_or_len p xs) 0 ≡ cond (not b) (1 + position_or_len p ys) 0
front_step p x xs ys true e l ih = refl
front_step p x xs ys false e l ih = ap (λ (n : ℕ). 1 + n) (ih (omega (arith, l)))

pub front_place : {A : Type 0} (p : A → Bool) (xs : List A) (n : ℕ) → position_or_len p (take n xs) < length (take n xs) → position_or_len p xs ≡ position_or_len p (take n xs)
front_place p xs zero l = absurd (omega (arith, l))
front_place p [] (suc n) l = absurd (omega (arith, l))
front_place p (x ∷ xs) (suc n) l = front_step p x xs (take n xs) (p x) refl l (front_place p xs n)

pub none_past : {A : Type 0} (xs : List A) (k : ℕ) → slice_get xs k ≡ None → length xs ≤ k
none_past [] k e = omega arith
none_past (x ∷ xs) zero e = absurd (cc)
none_past (x ∷ xs) (suc k) e = let h = none_past xs k e in omega (arith, h)

pub none_from : {A : Type 0} (i : ℕ) (xs : List A) → position_from (λ (x : A). false) i xs ≡ None
none_from i [] = refl
none_from i (x ∷ xs) = none_from (i + 1) xs

pub none_passes : {A : Type 0} (t : A → Bool) (xs : List A) → ((x : A) → t x ≡ false) → position t xs ≡ None
none_passes t xs fails =
    let p : t ≡ (λ x. false) = λ j x. fails x j in
    position_from-zero t xs ∙ ap (λ s. position_from s 0 xs) p ∙ none_from 0 xs

pub same_place : {A : Type 0} (s t : A → Bool) (xs : List A) → ((x : A) → s x ≡ t x) → position s xs ≡ position t xs
same_place s t xs same = let p : s ≡ t = λ j x. same x j in ap (λ r. position r xs) p

pub any_front : {A : Type 0} (p : A → Bool) (xs ys : List A) → list_any p xs ≡ true → list_any p (xs ++ ys) ≡ true
any_front p [] ys h = cc
any_front p (x ∷ xs) ys h = any_step (p x) (list_any p xs) (list_any p (xs ++ ys)) (any_front p xs ys) h

pub any_last : {A : Type 0} (p : A → Bool) (xs : List A) (y : A) → p y ≡ true → list_any p (xs ++ y ∷ []) ≡ true
any_last p [] y h = ap (λ b. b || false) h
any_last p (x ∷ xs) y h = or_right (p x) (list_any p (xs ++ y ∷ [])) (any_last p xs y h)

pub next_text : {X : Type 0} (f : X → List ℕ) (xs : List X) (i : ℕ) (x d : X) (start before after : List ℕ) → i < length xs → x ≡ get_or xs i d → before ≡ start ++ flat_map f (take i xs) → after ≡ before ++ f x → after ≡ start ++ flat_map f (take (i + 1) xs)
next_text f xs i x d start before after h e p q =
    q
    ∙ (ap (λ t. t ++ f x) p
    ∙ (flat_map_more f start (take i xs) x ∙ ap (λ ys. start ++ flat_map f ys) (ap (λ y. take i xs ++ y ∷ []) e ∙ sym (take_more xs i d h))))

pub all_texts : {X : Type 0} (f : X → List ℕ) (xs : List X) (i : ℕ) (start after : List ℕ) → length xs ≤ i → after ≡ start ++ flat_map f (take i xs) → after ≡ start ++ flat_map f xs
all_texts f xs i start after h p = p ∙ ap (λ ys. start ++ flat_map f ys) (take_all i xs h)

pub map_step : {A B : Type 0} (f : A → B) (xs : List A) (k : ℕ) (x : A) (old new all : List B) → k < length xs → x ≡ get_or xs k x
    → old ++ map f (drop k xs) ≡ all → new ≡ old ++ f x ∷ [] → new ++ map f (drop (k + 1) xs) ≡ all
map_step f xs k x old new all h e was n = goes_on old new (f x ∷ []) (map f (drop k xs)) (map f (drop (k + 1) xs)) all was (ap (map f) (rest_at xs k x h e)) n

pub map_end : {A B : Type 0} (f : A → B) (xs : List A) (k : ℕ) (old all : List B) → length xs ≤ k → old ++ map f (drop k xs) ≡ all → old ≡ all
map_end f xs k old all h was = ends old (map f (drop k xs)) all was (ap (map f) (drop_all k xs h))

filter_if : {A : Type 0} (p q : A → Bool) (b : Bool) (x : A) (xs : List A) → p x ≡ true → list_all p (filter q xs) ≡ true → list_all p (cond b (x ∷ filter q xs) (filter q xs)) ≡ true
filter_if p q true x xs h g = and_from (p x) (list_all p (filter q xs)) h g
filter_if p q false x xs h g = g

pub all_filter : {A : Type 0} (p q : A → Bool) (xs : List A) → list_all p xs ≡ true → list_all p (filter q xs) ≡ true
all_filter p q [] h = refl
all_filter p q (x ∷ xs) h =
    let a = and_parts (p x) (list_all p xs) h in
    filter_if p q (q x) x xs a.0 (all_filter p q xs a.1)

pub append_join : {A : Type 0} (xs ys zs : List A) → xs ++ (ys ++ zs) ≡ (xs ++ ys) ++ zs
append_join [] ys zs = refl
append_join (x ∷ xs) ys zs = ap (λ ws. x ∷ ws) (append_join xs ys zs)

pub got_take : {A : Type 0} (xs : List A) (n k : ℕ) → k < n → slice_get (take n xs) k ≡ slice_get xs k
got_take [] zero k h = absurd (omega (arith, h))
got_take [] (suc n) k h = refl
got_take (x ∷ xs) zero k h = absurd (omega (arith, h))
got_take (x ∷ xs) (suc n) zero h = refl
got_take (x ∷ xs) (suc n) (suc k) h = got_take xs n k (omega (arith, h))

pub got_first : {A : Type 0} (xs ys : List A) (k : ℕ) (x : A) → slice_get xs k ≡ Some x → slice_get (xs ++ ys) k ≡ Some x
got_first [] ys k x e = cc
got_first (y ∷ xs) ys zero x e = e
got_first (y ∷ xs) ys (suc k) x e = got_first xs ys k x e

pub split_at : {A : Type 0} (n : ℕ) (xs : List A) → take n xs ++ drop n xs ≡ xs
split_at zero xs = refl
split_at (suc n) [] = refl
split_at (suc n) (x ∷ xs) = ap (λ ys. x ∷ ys) (split_at n xs)

pub list_all_item : {X : Type 0} (p : X → Bool) (xs : List X) (k : ℕ) (x : X) → k < length xs → x ≡ get_or xs k x → list_all p xs ≡ true → p x ≡ true
list_all_item p [] k x h e a = absurd (omega arith)
list_all_item p (y ∷ ys) zero x h e a = ap p e ∙ (and_parts (p y) (list_all p ys) a).0
list_all_item p (y ∷ ys) (suc k) x h e a = list_all_item p ys k x (omega arith) e (and_parts (p y) (list_all p ys) a).1

pub at_end : (names : List (List ℕ)) (name : List ℕ) → slice_get (names ++ name ∷ []) (length names) ≡ Some name
at_end [] name = refl
at_end (x ∷ xs) name = at_end xs name

pub cons_list : {X : Type 0} (o : Option X) (xs : List X) → cons_option o xs ≡ option_to_list o ++ xs
cons_list None xs = refl
cons_list (Some x) xs = refl

pub option_joined : {A : Type 0} (o : Option A) (xs ys : List A) → cons_option o xs ++ ys ≡ cons_option o (xs ++ ys)
option_joined None xs ys = refl
option_joined (Some x) xs ys = refl

pub some_left : {A : Type 0} (xs : List A) (k : ℕ) → k < length xs → (x : A) × (drop k xs ≡ x ∷ drop (suc k) xs)
some_left [] k h = absurd (omega arith)
some_left (y ∷ ys) zero h = (y, refl)
some_left (y ∷ ys) (suc k) h = some_left ys k (omega arith)

pub nothing_behind : {X : Type 0} (xs : List X) → xs ≡ xs ++ []
nothing_behind [] = refl
nothing_behind (x ∷ xs) = ap (λ l. x ∷ l) (nothing_behind xs)

pub any_at : {A : Type 0} (p : A → Bool) (xs : List A) (k : ℕ) (x : A) → slice_get xs k ≡ Some x → p x ≡ true → list_any p xs ≡ true
any_at p [] k x e t = none_some e
any_at p (y ∷ xs) zero x e t = ap (λ (b : Bool). b || list_any p xs) (ap p (some_same e) ∙ t)
any_at p (y ∷ xs) (suc k) x e t = ap (λ (b : Bool). p y || b) (any_at p xs k x e t) ∙ or_true (p y)

pub joined_three : (o a b c x y : List ℕ) → x ≡ o ++ a → y ≡ x ++ b → y ++ c ≡ o ++ ((a ++ b) ++ c)
joined_three o a b c x y p q = simp (q, p, append_assoc)

pub joined_two : (o a b x y : List ℕ) → x ≡ o ++ a → y ≡ x ++ b → y ≡ o ++ (a ++ b)
joined_two o a b x y p q = q ∙ (ap (λ t. t ++ b) p ∙ append_assoc o a b)

pub all_from : (p q : ℕ → Bool) → ((b : ℕ) → p b ≡ true → q b ≡ true) → (bs : List ℕ) → list_all p bs ≡ true → list_all q bs ≡ true
all_from p q f [] h = refl
all_from p q f (b ∷ bs) h = let s = and_parts (p b) (list_all p bs) h in and_from (q b) (list_all q bs) (f b s.0) (all_from p q f bs s.1)
