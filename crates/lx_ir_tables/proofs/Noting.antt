-- A table is noted and forgotten step by step.
use Rattle.std.proofs.Common.{◌≡◌, ℕ, zero, suc, ◌+◌, ◌<◌, ◌≤◌, Bool, true, false, ◌&&◌, Option, Some, None, List, [], ◌∷◌, ◌++◌, length, refl, sym, ap, ◌∙◌, subst, arith}
use Rattle.std.specs.Prelude.{if◌then◌else◌, nat_eq, nat_lt, is_none, slice_get, slice_set, replicate}
use Rattle.std.proofs.lemmas.Bool.Decides.{nat_tests}
use Rattle.std.proofs.lemmas.List.{append-nil, length-append}
use Rattle.lx_words.proofs.Tests.{eq_self, none_below, some_below}
use Rattle.lx_ir.specs.declared.module.Symbol.{Symbol}
use Rattle.lx_ir_tables.specs.Numbering.{Numbering, numbering, has_name, number_from, number_named, numbers_from, is_free, is_new, set_none, noted, clear_same, forgotten, symbols_by, own_numbers}

-- Whether numbers are equal.

differ_by : (m n : ℕ) (b : Bool) → nat_eq m n ≡ b → (m ≡ n → ⊥) → nat_eq m n ≡ false
differ_by m n true e h = let k : m ≡ n = grind (arith, nat_tests, e) in absurd (h k)
differ_by m n false e h = e

differ : (m n : ℕ) → (m ≡ n → ⊥) → nat_eq m n ≡ false
differ m n h = differ_by m n (nat_eq m n) refl h

-- The number of a name, where there is a thing more.

abbrev or_else : Option ℕ → Option ℕ → Option ℕ
or_else (Some x) y = Some x
or_else None y = y

or_none : (x : Option ℕ) → or_else x None ≡ x
or_none (Some x) = refl
or_none None = refl

abbrev last_by : Bool → ℕ → Option ℕ
last_by b k = if b then Some k else None

pushed_step : (b : Bool) (k : ℕ) (rest more last : Option ℕ) → more ≡ or_else rest last → (if b then Some k else more) ≡ or_else (if b then Some k else rest) last
pushed_step true k rest more last e = refl
pushed_step false k rest more last e = e

pushed_at : (k : ℕ) (xs : List (Option ℕ)) (x : Option ℕ) (n l : ℕ) → l ≡ k + length xs → number_from k (xs ++ x ∷ []) n ≡ or_else (number_from k xs n) (last_by (has_name n x) l)
pushed_at k [] x n l e = let s : k ≡ l = omega (arith, e) in ap (λ j. last_by (has_name n x) j) s
pushed_at k (y ∷ ys) x n l e = pushed_step (has_name n y) k (number_from (suc k) ys n) (number_from (suc k) (ys ++ x ∷ []) n) (last_by (has_name n x) l) (pushed_at (suc k) ys x n l (omega (arith, e)))

pushed : (xs : List (Option ℕ)) (x : Option ℕ) (n : ℕ) → number_named (xs ++ x ∷ []) n ≡ or_else (number_named xs n) (last_by (has_name n x) (length xs))
pushed xs x n = pushed_at 0 xs x n (length xs) (omega arith)

other : (xs : List (Option ℕ)) (x : Option ℕ) (n : ℕ) → has_name n x ≡ false → number_named (xs ++ x ∷ []) n ≡ number_named xs n
other xs x n e = pushed xs x n ∙ ap (λ b. or_else (number_named xs n) (last_by b (length xs))) e ∙ or_none (number_named xs n)

there : (xs : List (Option ℕ)) (x : Option ℕ) (n j : ℕ) → number_named xs n ≡ Some j → number_named (xs ++ x ∷ []) n ≡ Some j
there xs x n j e = pushed xs x n ∙ ap (λ o. or_else o (last_by (has_name n x) (length xs))) e

added : (xs : List (Option ℕ)) (m n : ℕ) → m ≡ n → number_named xs n ≡ None → number_named (xs ++ Some m ∷ []) n ≡ Some (length xs)
added xs m n e h =
    let s : nat_eq m n ≡ true = ap (λ j. nat_eq j n) e ∙ eq_self n in
    pushed xs (Some m) n ∙ ap (λ o. or_else o (last_by (nat_eq m n) (length xs))) h ∙ ap (λ b. last_by b (length xs)) s

below_by : (b : Bool) (k j : ℕ) (rest : Option ℕ) (l : ℕ) → (if b then Some k else rest) ≡ Some j → k < l → (rest ≡ Some j → j < l) → j < l
below_by true k j rest l e a h = let s : k ≡ j = cc in omega (arith, s, a)
below_by false k j rest l e a h = h e

below : (k : ℕ) (xs : List (Option ℕ)) (n j l : ℕ) → l ≡ k + length xs → number_from k xs n ≡ Some j → j < l
below k [] n j l s e = cc
below k (x ∷ xs) n j l s e = below_by (has_name n x) k j (number_from (suc k) xs n) l e (omega (arith, s)) (λ r. below (suc k) xs n j l (omega (arith, s)) r)

-- Tables.

same_all : (s c : ℕ) (xs : List (Option ℕ)) → numbers_from s c (xs ++ None ∷ []) ≡ numbers_from s c xs
same_all s zero xs = refl
same_all s (suc c) xs = rw (other xs None s refl, same_all (suc s) c xs) refl

behind : (s c m : ℕ) (xs : List (Option ℕ)) → m < s → numbers_from s c (xs ++ Some m ∷ []) ≡ numbers_from s c xs
behind s zero m xs h = refl
behind s (suc c) m xs h = rw (other xs (Some m) s (differ m s (λ e. omega (arith, e, h))), behind (suc s) c m xs (omega (arith, h))) refl

set_later : (o : Option (Option ℕ)) (h : Option ℕ) (table : List (Option ℕ)) (i k : ℕ) → set_none o (h ∷ table) (suc i) k ≡ h ∷ set_none o table i k
set_later None h table i k = refl
set_later (Some None) h table i k = refl
set_later (Some (Some j)) h table i k = refl

noted_first : (s c m : ℕ) (xs : List (Option ℕ)) (o : Option ℕ) → number_named xs s ≡ o → m ≡ s → set_none (Some o) (o ∷ numbers_from (suc s) c xs) 0 (length xs) ≡ numbers_from s (suc c) (xs ++ Some m ∷ [])
noted_first s c m xs None e h = rw (added xs m s h e, behind (suc s) c m xs (omega (arith, h))) refl
noted_first s c m xs (Some j) e h = rw (there xs (Some m) s j e, behind (suc s) c m xs (omega (arith, h))) refl

noted_from : (s c i m : ℕ) (xs : List (Option ℕ)) → m ≡ s + i → noted (numbers_from s c xs) (Some i) (length xs) ≡ numbers_from s c (xs ++ Some m ∷ [])
noted_from s zero i m xs h = refl
noted_from s (suc c) zero m xs h = noted_first s c m xs (number_named xs s) refl (omega (arith, h))
noted_from s (suc c) (suc i) m xs h =
    set_later (slice_get (numbers_from (suc s) c xs) i) (number_named xs s) (numbers_from (suc s) c xs) i (length xs)
    ∙ rw (other xs (Some m) s (differ m s (λ e. omega (arith, e, h)))) (ap (λ t. number_named xs s ∷ t) (noted_from (suc s) c i m xs (omega (arith, h))))

-- a thing more is noted
pub noted_is : (c : ℕ) (xs : List (Option ℕ)) (name : Option ℕ) → noted (numbers_from 0 c xs) name (length xs) ≡ numbers_from 0 c (xs ++ name ∷ [])
noted_is c xs None = sym (same_all 0 c xs)
noted_is c xs (Some n) = noted_from 0 c n n xs (omega arith)

clear_by : (b : Bool) (h : Option ℕ) (table : List (Option ℕ)) (i : ℕ) → (if b then slice_set (h ∷ table) (suc i) None else h ∷ table) ≡ h ∷ (if b then slice_set table i None else table)
clear_by true h table i = refl
clear_by false h table i = refl

clear_later : (o : Option (Option ℕ)) (h : Option ℕ) (table : List (Option ℕ)) (i k : ℕ) → clear_same o (h ∷ table) (suc i) k ≡ h ∷ clear_same o table i k
clear_later None h table i k = refl
clear_later (Some None) h table i k = refl
clear_later (Some (Some j)) h table i k = clear_by (nat_eq j k) h table i

forgot_first : (s c m : ℕ) (xs : List (Option ℕ)) (o : Option ℕ) → number_named xs s ≡ o → m ≡ s → forgotten (numbers_from s (suc c) (xs ++ Some m ∷ [])) (Some 0) (length xs) ≡ o ∷ numbers_from (suc s) c xs
forgot_first s c m xs None e h = rw (added xs m s h e, eq_self (length xs), behind (suc s) c m xs (omega (arith, h))) refl
forgot_first s c m xs (Some j) e h =
    let l = below 0 xs s j (length xs) (omega arith) e in
    rw (there xs (Some m) s j e, differ j (length xs) (λ q. omega (arith, q, l)), behind (suc s) c m xs (omega (arith, h))) refl

forgot_from : (s c i m : ℕ) (xs : List (Option ℕ)) → m ≡ s + i → forgotten (numbers_from s c (xs ++ Some m ∷ [])) (Some i) (length xs) ≡ numbers_from s c xs
forgot_from s zero i m xs h = refl
forgot_from s (suc c) zero m xs h = forgot_first s c m xs (number_named xs s) refl (omega (arith, h))
forgot_from s (suc c) (suc i) m xs h =
    clear_later (slice_get (numbers_from (suc s) c (xs ++ Some m ∷ [])) i) (number_named (xs ++ Some m ∷ []) s) (numbers_from (suc s) c (xs ++ Some m ∷ [])) i (length xs)
    ∙ rw (other xs (Some m) s (differ m s (λ e. omega (arith, e, h)))) (ap (λ t. number_named xs s ∷ t) (forgot_from (suc s) c i m xs (omega (arith, h))))

-- that the last thing was noted is forgotten
pub forgotten_is : (c : ℕ) (xs : List (Option ℕ)) (name : Option ℕ) → forgotten (numbers_from 0 c (xs ++ name ∷ [])) name (length xs) ≡ numbers_from 0 c xs
forgotten_is c xs None = same_all 0 c xs
forgotten_is c xs (Some n) = forgot_from 0 c n n xs (omega arith)

free_first : (o : Option ℕ) → is_free (Some o) ≡ is_none o
free_first None = refl
free_first (Some j) = refl

below_by_one : (i c : ℕ) (b : Bool) → nat_lt i c ≡ b → nat_lt (suc i) (suc c) ≡ b
below_by_one i c true e = grind (arith, nat_tests, e)
below_by_one i c false e = grind (arith, nat_tests, e)

pub free_is : (s c i m : ℕ) (xs : List (Option ℕ)) → m ≡ s + i → is_free (slice_get (numbers_from s c xs) i) ≡ (nat_lt i c && is_none (number_named xs m))
free_is s zero i m xs h = rw (none_below i) refl
free_is s (suc c) zero m xs h = let e : m ≡ s = omega (arith, h) in rw (some_below c) (free_first (number_named xs s) ∙ ap (λ n. is_none (number_named xs n)) (sym e))
free_is s (suc c) (suc i) m xs h = rw (below_by_one i c (nat_lt i c) refl) (free_is (suc s) c i m xs (omega (arith, h)))

-- a table has an entry for each name
pub numbers_long : (s c : ℕ) (xs : List (Option ℕ)) → length (numbers_from s c xs) ≡ c
numbers_long s zero xs = refl
numbers_long s (suc c) xs = ap suc (numbers_long (suc s) c xs)

-- What is kept of a numbering.

pub free_table : (s c : ℕ) → replicate c None ≡ numbers_from s c []
free_table s zero = refl
free_table s (suc c) = ap (λ t. None ∷ t) (free_table (suc s) c)

pub new_by : (table things : List (Option ℕ)) (n : ℕ) (t : Numbering) → table ≡ numbers_from 0 (length table) things → numbering (length table) things ≡ t → is_free (slice_get table n) ≡ is_new t n
new_by table things n t holds view =
    ap (λ u. is_free (slice_get u n)) holds ∙ free_is 0 (length table) n n things (omega arith) ∙ ap (λ u. is_new u n) view

pub noted_by : (table things more new : List (Option ℕ)) (name : Option ℕ) (k : ℕ) → table ≡ numbers_from 0 (length table) things → k ≡ length things → more ≡ things ++ name ∷ [] → new ≡ noted table name k → new ≡ numbers_from 0 (length table) more
noted_by table things more new name k holds count is set =
    set ∙ ap (λ t. noted t name k) holds ∙ ap (λ j. noted (numbers_from 0 (length table) things) name j) count ∙ noted_is (length table) things name ∙ ap (numbers_from 0 (length table)) (sym is)

pub noted_holds : (table things more new : List (Option ℕ)) (name : Option ℕ) (k : ℕ) → table ≡ numbers_from 0 (length table) things → k ≡ length things → more ≡ things ++ name ∷ [] → new ≡ noted table name k → (new ≡ numbers_from 0 (length new) more) × (length new ≡ length table)
noted_holds table things more new name k holds count is set =
    let e = noted_by table things more new name k holds count is set in
    let l = ap (λ (t : List (Option ℕ)). length t) e ∙ numbers_long 0 (length table) more in
    (e ∙ ap (λ c. numbers_from 0 c more) (sym l), l)

-- the last thing is taken away
pub forgotten_by : (c k : ℕ) (table new things rest : List (Option ℕ)) (name : Option ℕ) → table ≡ numbers_from 0 c things → things ≡ rest ++ name ∷ [] → k ≡ length rest → new ≡ forgotten table name k → new ≡ numbers_from 0 c rest
forgotten_by c k table new things rest name holds is count set =
    set ∙ ap (λ t. forgotten t name k) (holds ∙ ap (numbers_from 0 c) is) ∙ ap (λ j. forgotten (numbers_from 0 c (rest ++ name ∷ [])) name j) count ∙ forgotten_is c rest name

pub own_more : (s c : ℕ) → own_numbers s (suc c) ≡ own_numbers s c ++ Some (s + c) ∷ []
own_more s zero = let e : s ≡ s + 0 = omega arith in ap (λ n. Some n ∷ []) e
own_more s (suc c) = let e : suc s + c ≡ s + suc c = omega arith in ap (λ t. Some s ∷ t) (own_more (suc s) c ∙ ap (λ n. own_numbers (suc s) c ++ Some n ∷ []) e)

pub own_next : (c : ℕ) → own_numbers 0 (c + 1) ≡ own_numbers 0 c ++ Some c ∷ []
own_next c =
    let e : c + 1 ≡ suc c = omega arith in
    let f : 0 + c ≡ c = omega arith in
    ap (own_numbers 0) e ∙ own_more 0 c ∙ ap (λ n. own_numbers 0 c ++ Some n ∷ []) f

-- a table that names nothing
pub record Fresh (table things : List (Option ℕ)) (count : ℕ) : Type 0 where
  pub holds : table ≡ numbers_from 0 (length table) things
  pub few : length things < 4294967296
  pub view : numbering (length table) things ≡ numbering count []

pub fresh : (table things : List (Option ℕ)) (count : ℕ) → table ≡ numbers_from 0 count [] → things ≡ [] → Fresh table things count
fresh table things count is none =
    let l = ap (λ (t : List (Option ℕ)). length t) is ∙ numbers_long 0 count [] in
    record {
      holds = is ∙ ap (λ c. numbers_from 0 c []) (sym l) ∙ ap (numbers_from 0 (length table)) (sym none);
      few = let e = ap (λ (t : List (Option ℕ)). length t) none in omega (arith, e);
      view = ap (λ c. numbering c things) l ∙ ap (numbering count) none;
    }

pub fewer : (things rest : List (Option ℕ)) (name : Option ℕ) (n : ℕ) → things ≡ rest ++ name ∷ [] → length things < n → length rest < n
fewer things rest name n is h =
    let e = ap (λ (t : List (Option ℕ)). length t) is ∙ length-append rest (name ∷ []) in
    omega (arith, e, h)

pub symbols_end : (gs fs : List (Option ℕ)) (out : List (Option Symbol)) → length fs ≡ 0 → out ++ symbols_by gs fs ≡ out
symbols_end [] fs out e = append-nil out
symbols_end (g ∷ gs) [] out e = append-nil out
symbols_end (g ∷ gs) (f ∷ fs) out e = absurd (omega (arith, e))
