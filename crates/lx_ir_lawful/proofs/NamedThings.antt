-- Things with names: their numbers, and how they grow.
use Rattle.std.proofs.Common.{◌≡◌, ◌∙◌, ℕ, suc, ◌+◌, ◌<◌, Bool, true, false, not, Option, Some, None, List, [], ◌∷◌, ◌++◌, length, map, slice_get, bytes_eq, nat_eq, refl, sym, ap, true≢false, arith}
use Rattle.std.specs.Prelude.{if◌then◌else◌}
use Rattle.std.specs.List.{list_any}
use Rattle.std.proofs.lemmas.Bool.{and_parts, or_parts, not-true}
use Rattle.std.proofs.lemmas.Slice.Eq.{bytes_eq-Decides}
use Rattle.lx_words.proofs.Tests.{apart_turned, eq_self}
use Rattle.lx_words.proofs.Options.{rest_of}
use Rattle.lx_words.proofs.Lists.{eq_turned}
use Rattle.lx_ir.specs.Lawful.{is_distinct}
use Rattle.lx_ir_tokens.specs.Names.{number_of}
use Rattle.lx_ir_tables.specs.Numbering.{has_name, number_from}
use Rattle.lx_ir_statements.specs.Numbers.{has_number, has_some, with_some}
use Rattle.lx_ir_lawful.specs.NamedThings.{somes, numbers_of, AreOnce}
use Rattle.lx_ir_lawful.proofs.Placed.{number_at_place}

-- Numbers.

pub somes_number : (xs : List (Option ℕ)) (n : ℕ) → somes (xs ++ Some n ∷ []) ≡ somes xs ++ n ∷ []
somes_number [] n = refl
somes_number (None ∷ xs) n = somes_number xs n
somes_number (Some m ∷ xs) n = ap (λ ms. m ∷ ms) (somes_number xs n)

pub somes_none : (xs : List (Option ℕ)) → somes (xs ++ None ∷ []) ≡ somes xs
somes_none [] = refl
somes_none (None ∷ xs) = somes_none xs
somes_none (Some m ∷ xs) = ap (λ ms. m ∷ ms) (somes_none xs)

-- a number that the list lacks goes to its end
pub somes_more : (xs : List (Option ℕ)) (o : Option ℕ) (numbers : List ℕ) → somes xs ≡ numbers → has_some numbers o ≡ false → somes (xs ++ o ∷ []) ≡ with_some numbers o
somes_more xs None numbers e h = somes_none xs ∙ e
somes_more xs (Some n) numbers e h =
    somes_number xs n ∙ ap (λ ms. ms ++ n ∷ []) e ∙ sym (ap (λ b. if b then numbers else numbers ++ n ∷ []) h)

-- What a name is the number of.

pub fresh : (xs : List (Option ℕ)) (j n : ℕ) → has_number (somes xs) n ≡ false → number_from j xs n ≡ None
fresh [] j n h = refl
fresh (None ∷ xs) j n h = fresh xs (suc j) n h
fresh (Some m ∷ xs) j n h =
    let both = or_parts (nat_eq n m) (list_any (nat_eq n) (somes xs)) h in
    ap (λ b. if b then Some j else number_from (suc j) xs n) (apart_turned n m both.0) ∙ fresh xs (suc j) n both.1

-- behind things without this name
pub behind : (xs ys : List (Option ℕ)) (j n : ℕ) → number_from j xs n ≡ None → number_from j (xs ++ ys) n ≡ number_from (j + length xs) ys n
behind [] ys j n h = let e : j ≡ j + 0 = omega arith in ap (λ k. number_from k ys n) e
behind (x ∷ xs) ys j n h =
    let both = rest_of (has_name n x) j (number_from (suc j) xs n) h in
    let e : suc j + length xs ≡ j + suc (length xs) = omega arith in
    ap (λ b. if b then Some j else number_from (suc j) (xs ++ ys) n) both.0 ∙ behind xs ys (suc j) n both.1 ∙ ap (λ k. number_from k ys n) e

stays_by : (b : Bool) (j k : ℕ) (o p : Option ℕ) → (if b then Some j else o) ≡ Some k → (o ≡ Some k → p ≡ Some k) → (if b then Some j else p) ≡ Some k
stays_by true j k o p h f = h
stays_by false j k o p h f = f h

-- a thing that is found stays so, whatever follows
pub stays : (xs ys : List (Option ℕ)) (j n k : ℕ) → number_from j xs n ≡ Some k → number_from j (xs ++ ys) n ≡ Some k
stays [] ys j n k h = absurd (cc h)
stays (x ∷ xs) ys j n k h = stays_by (has_name n x) j k (number_from (suc j) xs n) (number_from (suc j) (xs ++ ys) n) h (λ g. stays xs ys (suc j) n k g)

within_by : (b : Bool) (j k l : ℕ) (o : Option ℕ) → (if b then Some j else o) ≡ Some k → (o ≡ Some k → k < suc j + l) → k < j + suc l
within_by true j k l o h f = let e : j ≡ k = cc in omega (arith, e)
within_by false j k l o h f = let e : k < suc j + l = f h in omega (arith, e)

pub within : (xs : List (Option ℕ)) (j n k : ℕ) → number_from j xs n ≡ Some k → k < j + length xs
within [] j n k h = absurd (cc h)
within (x ∷ xs) j n k h = within_by (has_name n x) j k (length xs) (number_from (suc j) xs n) h (λ g. within xs (suc j) n k g)

-- the number of a new thing, whatever follows
pub new_number : (xs ys : List (Option ℕ)) (n : ℕ) → number_from 0 xs n ≡ None → number_from 0 ((xs ++ Some n ∷ []) ++ ys) n ≡ Some (length xs)
new_number xs ys n h =
    let e : 0 + length xs ≡ length xs = omega arith in
    stays (xs ++ Some n ∷ []) ys 0 n (length xs) (behind xs (Some n ∷ []) 0 n h ∙ ap (λ b. if b then Some (0 + length xs) else None) (eq_self n) ∙ ap Some e)

-- Distinct names.

any_more : (p : List ℕ → Bool) (xs : List (List ℕ)) (x : List ℕ) → list_any p xs ≡ false → p x ≡ false → list_any p (xs ++ x ∷ []) ≡ false
any_more p [] x h g = rw g refl
any_more p (y ∷ xs) x h g =
    let both = or_parts (p y) (list_any p xs) h in
    rw (both.0, any_more p xs x both.1 g) refl

pub distinct_more : (xs : List (List ℕ)) (x : List ℕ) → is_distinct xs ≡ true → list_any (bytes_eq x) xs ≡ false → is_distinct (xs ++ x ∷ []) ≡ true
distinct_more [] x d h = refl
distinct_more (y ∷ xs) x d h =
    let both = and_parts (not (list_any (bytes_eq y) xs)) (is_distinct xs) d in
    let two = or_parts (bytes_eq x y) (list_any (bytes_eq x) xs) h in
    let none : list_any (bytes_eq y) (xs ++ x ∷ []) ≡ false = any_more (bytes_eq y) xs x (not-true (list_any (bytes_eq y) xs) both.0) (eq_turned x y (bytes_eq y x) refl two.0) in
    rw (none, distinct_more xs x both.1 two.1) refl

-- A name whose number is not among those of others is none of them.

tail_lacks : (o : Option ℕ) (xs : List (Option ℕ)) (n : ℕ) → has_number (somes (o ∷ xs)) n ≡ false → has_number (somes xs) n ≡ false
tail_lacks None xs n h = h
tail_lacks (Some m) xs n h = (or_parts (nat_eq n m) (list_any (nat_eq n) (somes xs)) h).1

head_lacks : (o : Option ℕ) (xs : List (Option ℕ)) (n : ℕ) → has_number (somes (o ∷ xs)) n ≡ false → o ≡ Some n → ⊥
head_lacks None xs n h e = cc e
head_lacks (Some m) xs n h e =
    let s : m ≡ n = cc in
    let both = or_parts (nat_eq n m) (list_any (nat_eq n) (somes xs)) h in
    true≢false (sym (eq_self n) ∙ ap (nat_eq n) (sym s) ∙ both.0)

module _ (names : List (List ℕ)) where
  lacks_by : (b : Bool) (x name : List ℕ) (said : List (List ℕ)) (n : ℕ) → bytes_eq name x ≡ b → number_of names name ≡ Some n → has_number (numbers_of names (x ∷ said)) n ≡ false → b ≡ false
  lacks_by false x name said n e at h = refl
  lacks_by true x name said n e at h =
      let same : name ≡ x = (bytes_eq-Decides name x).0 e in
      absurd (head_lacks (number_of names x) (map (number_of names) said) n h (ap (number_of names) (sym same) ∙ at))

  pub lacks : (said : List (List ℕ)) (name : List ℕ) (n : ℕ) → number_of names name ≡ Some n → has_number (numbers_of names said) n ≡ false → list_any (bytes_eq name) said ≡ false
  lacks [] name n at h = refl
  lacks (x ∷ said) name n at h =
      let first : bytes_eq name x ≡ false = lacks_by (bytes_eq name x) x name said n refl at h in
      let rest : list_any (bytes_eq name) said ≡ false = lacks said name n at (tail_lacks (number_of names x) (map (number_of names) said) n h) in
      rw (first, rest) refl

pub names_grow : (names said : List (List ℕ)) (n : ℕ) (name : List ℕ) → AreOnce names → slice_get names n ≡ Some name → is_distinct said ≡ true → has_number (numbers_of names said) n ≡ false → is_distinct (said ++ name ∷ []) ≡ true
names_grow names said n name once at d h = distinct_more said name d (lacks names said name n (number_at_place names once n name at) h)
