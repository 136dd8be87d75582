-- The longest front, one byte further to the left.
use Rattle.std.proofs.Common.{◌≡◌, ℕ, zero, suc, ◌+◌, ◌<◌, ◌≤◌, List, [], ◌∷◌, length, take, drop, get_or, Bool, true, false, ◌&&◌, refl, sym, ap, ◌∙◌, subst, arith, Option, Some, None, IfSome}
use Rattle.std.specs.List.{list_all, prefix_len}
use Rattle.std.specs.Prelude.{◌==◌}
use Rattle.std.proofs.lemmas.Bool.{cond-true, cond-false, eq-eqb, ne_eqb}
use Rattle.std.proofs.lemmas.List.{drop_more, drop_all}
use Rattle.lx_words.specs.Lexemes.{is_nil, ends_quoted, ends_escaped, some_all, is_name, ends_name, is_name_byte, is_escaped, is_interface_mark, is_line_byte, ends_block, is_slashed}
use Rattle.lx_words.specs.Longest.{Longest, NoFront, FrontLen}
use Rattle.std.specs.Option.{option_map}

longer_from : (f g : List ℕ → Bool) (b : ℕ) (s : List ℕ) (n : ℕ) → ((bs : List ℕ) → f (b ∷ bs) ≡ g bs) → ((m : ℕ) → n < m → m ≤ length s → g (take m s) ≡ false)
    → (m : ℕ) → suc n < m → m ≤ suc (length s) → f (take m (b ∷ s)) ≡ false
longer_from f g b s n h longer zero lt le = absurd (omega arith)
longer_from f g b s n h longer (suc m) lt le = h (take m s) ∙ longer m (omega arith) (omega arith)

-- a byte before the longest front
pub step_longest : (f g : List ℕ → Bool) (b : ℕ) (s : List ℕ) (n : ℕ) → ((bs : List ℕ) → f (b ∷ bs) ≡ g bs) → Longest g s n → Longest f (b ∷ s) (suc n)
step_longest f g b s n h l = record { within = omega (arith, l.within); passes = h (take n s) ∙ l.passes; longer = longer_from f g b s n h l.longer }

none_from : (f g : List ℕ → Bool) (b : ℕ) (s : List ℕ) → f [] ≡ false → ((bs : List ℕ) → f (b ∷ bs) ≡ g bs) → NoFront g s → (m : ℕ) → m ≤ suc (length s) → f (take m (b ∷ s)) ≡ false
none_from f g b s e h l zero le = e
none_from f g b s e h l (suc m) le = h (take m s) ∙ l.fails m (omega arith)

pub step_none : (f g : List ℕ → Bool) (b : ℕ) (s : List ℕ) → f [] ≡ false → ((bs : List ℕ) → f (b ∷ bs) ≡ g bs) → NoFront g s → NoFront f (b ∷ s)
step_none f g b s e h l = record { fails = none_from f g b s e h l }

-- a byte that nothing may begin with
fails_here : (f : List ℕ → Bool) (b : ℕ) (s : List ℕ) → f [] ≡ false → ((bs : List ℕ) → f (b ∷ bs) ≡ false) → (m : ℕ) → m ≤ suc (length s) → f (take m (b ∷ s)) ≡ false
fails_here f b s e h zero le = e
fails_here f b s e h (suc m) le = h (take m s)

pub none_here : (f : List ℕ → Bool) (b : ℕ) (s : List ℕ) → f [] ≡ false → ((bs : List ℕ) → f (b ∷ bs) ≡ false) → NoFront f (b ∷ s)
none_here f b s e h = record { fails = fails_here f b s e h }

nothing_here : (f : List ℕ → Bool) → f [] ≡ false → (m : ℕ) → m ≤ 0 → f (take m []) ≡ false
nothing_here f e zero le = e
nothing_here f e (suc m) le = absurd (omega arith)

pub none_empty : (f : List ℕ → Bool) → f [] ≡ false → NoFront f []
none_empty f e = record { fails = nothing_here f e }

-- no byte follows
stops_after : (f : List ℕ → Bool) (b : ℕ) (s : List ℕ) → ((bs : List ℕ) → f (b ∷ bs) ≡ false) → (m : ℕ) → 0 < m → m ≤ suc (length s) → f (take m (b ∷ s)) ≡ false
stops_after f b s h zero lt le = absurd (omega arith)
stops_after f b s h (suc m) lt le = h (take m s)

stops_empty : (f : List ℕ → Bool) → (m : ℕ) → 0 < m → m ≤ 0 → f (take m []) ≡ false
stops_empty f m lt le = absurd (omega arith)

pub is_nil_front : (s : List ℕ) → Longest is_nil s 0
is_nil_front [] = record { within = omega arith; passes = refl; longer = stops_empty is_nil }
is_nil_front (b ∷ s) = record { within = omega arith; passes = refl; longer = stops_after is_nil b s (λ bs. refl) }

run_step : (p : ℕ → Bool) (x : ℕ) (xs : List ℕ) (v : Bool) → p x ≡ v → Longest (list_all p) xs (prefix_len p xs) → Longest (list_all p) (x ∷ xs) (prefix_len p (x ∷ xs))
run_step p x xs true e l =
    let k : prefix_len p (x ∷ xs) ≡ suc (prefix_len p xs) = cond-true (p x) _ _ e ∙ omega arith in
    subst (λ n. Longest (list_all p) (x ∷ xs) n) (sym k) (step_longest (list_all p) (list_all p) x xs (prefix_len p xs) (λ bs. ap (λ b. b && list_all p bs) e) l)
run_step p x xs false e l =
    let k : prefix_len p (x ∷ xs) ≡ 0 = cond-false (p x) _ _ e in
    subst (λ n. Longest (list_all p) (x ∷ xs) n) (sym k) (record { within = omega arith; passes = refl; longer = stops_after (list_all p) x xs (λ bs. ap (λ b. b && list_all p bs) e) })

-- the bytes that pass, up to the first that does not
pub run : (p : ℕ → Bool) (s : List ℕ) → Longest (list_all p) s (prefix_len p s)
run p [] = record { within = omega arith; passes = refl; longer = stops_empty (list_all p) }
run p (x ∷ xs) = run_step p x xs (p x) refl (run p xs)

some_step : (p : ℕ → Bool) (x : ℕ) (xs : List ℕ) (v : Bool) → p x ≡ v → 0 < prefix_len p (x ∷ xs) → Longest (some_all p) (x ∷ xs) (prefix_len p (x ∷ xs))
some_step p x xs true e lt =
    let k : prefix_len p (x ∷ xs) ≡ suc (prefix_len p xs) = cond-true (p x) _ _ e ∙ omega arith in
    subst (λ n. Longest (some_all p) (x ∷ xs) n) (sym k) (step_longest (some_all p) (list_all p) x xs (prefix_len p xs) (λ bs. ap (λ b. b && list_all p bs) e) (run p xs))
some_step p x xs false e lt =
    let k : prefix_len p (x ∷ xs) ≡ 0 = cond-false (p x) _ _ e in
    absurd (omega arith)

pub some_run : (p : ℕ → Bool) (s : List ℕ) → 0 < prefix_len p s → Longest (some_all p) s (prefix_len p s)
some_run p [] lt = absurd (omega arith)
some_run p (x ∷ xs) lt = some_step p x xs (p x) refl lt

none_step : (p : ℕ → Bool) (x : ℕ) (xs : List ℕ) (v : Bool) → p x ≡ v → prefix_len p (x ∷ xs) ≡ 0 → NoFront (some_all p) (x ∷ xs)
none_step p x xs true e z =
    let k : prefix_len p (x ∷ xs) ≡ suc (prefix_len p xs) = cond-true (p x) _ _ e ∙ omega arith in
    absurd (omega arith)
none_step p x xs false e z = none_here (some_all p) x xs refl (λ bs. ap (λ b. b && list_all p bs) e)

pub no_run : (p : ℕ → Bool) (s : List ℕ) → prefix_len p s ≡ 0 → NoFront (some_all p) s
no_run p [] z = none_empty (some_all p) refl
no_run p (x ∷ xs) z = none_step p x xs (p x) refl z

ends_at : (p : ℕ → Bool) (x : ℕ) (bs : List ℕ) → x ≡ 34 → ends_quoted p (x ∷ bs) ≡ is_nil bs
ends_at p x bs e = cond-true (x == 34) _ _ (eq-eqb x 34 e)

ends_on : (p : ℕ → Bool) (x : ℕ) (bs : List ℕ) (v : Bool) → (x ≡ 34 → ⊥) → p x ≡ v → ends_quoted p (x ∷ bs) ≡ (v && ends_quoted p bs)
ends_on p x bs v ne e = cond-false (x == 34) _ _ (ne_eqb x 34 ne) ∙ ap (λ b. b && ends_quoted p bs) e

apart : (p : ℕ → Bool) (x : ℕ) (v : Bool) → p 34 ≡ false → p x ≡ true → x ≡ 34 → ⊥
apart p x v q e s = cc (ap p s)

closed_step : (p : ℕ → Bool) (x : ℕ) (xs : List ℕ) (v : Bool) → p 34 ≡ false → p x ≡ v → (prefix_len p xs < length xs → get_or xs (prefix_len p xs) 0 ≡ 34 → Longest (ends_quoted p) xs (suc (prefix_len p xs)))
    → prefix_len p (x ∷ xs) < suc (length xs) → get_or (x ∷ xs) (prefix_len p (x ∷ xs)) 0 ≡ 34 → Longest (ends_quoted p) (x ∷ xs) (suc (prefix_len p (x ∷ xs)))
closed_step p x xs true q e next lt at =
    let k : prefix_len p (x ∷ xs) ≡ suc (prefix_len p xs) = cond-true (p x) _ _ e ∙ omega arith in
    let at' : get_or (x ∷ xs) (suc (prefix_len p xs)) 0 ≡ 34 = ap (λ n. get_or (x ∷ xs) n 0) (sym k) ∙ at in
    subst (λ n. Longest (ends_quoted p) (x ∷ xs) (suc n)) (sym k) (step_longest (ends_quoted p) (ends_quoted p) x xs (suc (prefix_len p xs)) (λ bs. ends_on p x bs true (apart p x true q e) e) (next (omega arith) at'))
closed_step p x xs false q e next lt at =
    let k : prefix_len p (x ∷ xs) ≡ 0 = cond-false (p x) _ _ e in
    let at' : x ≡ 34 = ap (λ n. get_or (x ∷ xs) n 0) (sym k) ∙ at in
    subst (λ n. Longest (ends_quoted p) (x ∷ xs) (suc n)) (sym k) (step_longest (ends_quoted p) is_nil x xs 0 (λ bs. ends_at p x bs at') (is_nil_front xs))

-- bytes that pass, and the quote
pub closed : (p : ℕ → Bool) (s : List ℕ) → p 34 ≡ false → prefix_len p s < length s → get_or s (prefix_len p s) 0 ≡ 34 → Longest (ends_quoted p) s (suc (prefix_len p s))
closed p [] q lt at = absurd (omega arith)
closed p (x ∷ xs) q lt at = closed_step p x xs (p x) q refl (closed p xs q) lt at

open_step : (p : ℕ → Bool) (x : ℕ) (xs : List ℕ) (v : Bool) → p 34 ≡ false → p x ≡ v → ((prefix_len p xs < length xs → get_or xs (prefix_len p xs) 0 ≡ 34 → ⊥) → NoFront (ends_quoted p) xs)
    → (prefix_len p (x ∷ xs) < suc (length xs) → get_or (x ∷ xs) (prefix_len p (x ∷ xs)) 0 ≡ 34 → ⊥) → NoFront (ends_quoted p) (x ∷ xs)
open_step p x xs true q e next never =
    let k : prefix_len p (x ∷ xs) ≡ suc (prefix_len p xs) = cond-true (p x) _ _ e ∙ omega arith in
    step_none (ends_quoted p) (ends_quoted p) x xs refl (λ bs. ends_on p x bs true (apart p x true q e) e) (next (λ lt at. never (omega arith) (ap (λ n. get_or (x ∷ xs) n 0) k ∙ at)))
open_step p x xs false q e next never =
    let k : prefix_len p (x ∷ xs) ≡ 0 = cond-false (p x) _ _ e in
    none_here (ends_quoted p) x xs refl (λ bs. ends_on p x bs false (λ s. never (omega arith) (ap (λ n. get_or (x ∷ xs) n 0) k ∙ s)) e)

-- no quote behind them
pub not_closed : (p : ℕ → Bool) (s : List ℕ) → p 34 ≡ false → (prefix_len p s < length s → get_or s (prefix_len p s) 0 ≡ 34 → ⊥) → NoFront (ends_quoted p) s
not_closed p [] q never = none_empty (ends_quoted p) refl
not_closed p (x ∷ xs) q never = open_step p x xs (p x) q refl (not_closed p xs q) never

pub closed_at : (p : ℕ → Bool) (s : List ℕ) (n : ℕ) → p 34 ≡ false → n ≡ prefix_len p s → n < length s → get_or s n 0 ≡ 34 → Longest (ends_quoted p) s (n + 1)
closed_at p s n q e lt at =
    let k : suc (prefix_len p s) ≡ n + 1 = omega arith in
    subst (λ m. Longest (ends_quoted p) s m) k (closed p s q (omega arith) (ap (λ m. get_or s m 0) (sym e) ∙ at))

pub not_closed_at : (p : ℕ → Bool) (s : List ℕ) (n : ℕ) → p 34 ≡ false → n ≡ prefix_len p s → (n < length s → get_or s n 0 ≡ 34 → ⊥) → NoFront (ends_quoted p) s
not_closed_at p s n q e never = not_closed p s q (λ lt at. never (omega arith) (ap (λ m. get_or s m 0) e ∙ at))

pub some_at : (p : ℕ → Bool) (s : List ℕ) (n : ℕ) → n ≡ prefix_len p s → 0 < n → Longest (some_all p) s n
some_at p s n e lt = subst (λ m. Longest (some_all p) s m) (sym e) (some_run p s (omega arith))

-- what is known of the text at a place on the way to the end of its front
pub record GoesOn (f g : List ℕ → Bool) (s : List ℕ) (i : ℕ) : Type 0 where
  pub long : (n : ℕ) → Longest g (drop i s) n → Longest f s (i + n)
  pub none : NoFront g (drop i s) → NoFront f s

pub goes_on : (f g h : List ℕ → Bool) (s : List ℕ) (i : ℕ) → i < length s → g [] ≡ false → ((bs : List ℕ) → g (get_or s i 0 ∷ bs) ≡ h bs) → GoesOn f g s i → GoesOn f h s (i + 1)
goes_on f g h s i lt e step so_far =
    let cut : drop i s ≡ get_or s i 0 ∷ drop (i + 1) s = drop_more s i 0 lt in
    record {
      long = λ n l. let k : i + suc n ≡ i + 1 + n = omega arith in subst (λ m. Longest f s m) k (so_far.long (suc n) (subst (λ t. Longest g t (suc n)) (sym cut) (step_longest g h (get_or s i 0) (drop (i + 1) s) n step l)));
      none = λ l. so_far.none (subst (λ t. NoFront g t) (sym cut) (step_none g h (get_or s i 0) (drop (i + 1) s) e step l));
    }

pub ends_here : (f g : List ℕ → Bool) (s : List ℕ) (i : ℕ) → i < length s → ((bs : List ℕ) → g (get_or s i 0 ∷ bs) ≡ is_nil bs) → GoesOn f g s i → Longest f s (i + 1)
ends_here f g s i lt step so_far =
    let cut : drop i s ≡ get_or s i 0 ∷ drop (i + 1) s = drop_more s i 0 lt in
    so_far.long 1 (subst (λ t. Longest g t 1) (sym cut) (step_longest g is_nil (get_or s i 0) (drop (i + 1) s) 0 step (is_nil_front (drop (i + 1) s))))

pub fails_at : (f g : List ℕ → Bool) (s : List ℕ) (i : ℕ) → i < length s → g [] ≡ false → ((bs : List ℕ) → g (get_or s i 0 ∷ bs) ≡ false) → GoesOn f g s i → NoFront f s
fails_at f g s i lt e step so_far =
    let cut : drop i s ≡ get_or s i 0 ∷ drop (i + 1) s = drop_more s i 0 lt in
    so_far.none (subst (λ t. NoFront g t) (sym cut) (none_here g (get_or s i 0) (drop (i + 1) s) e step))

pub never_ends : (f g : List ℕ → Bool) (s : List ℕ) (i : ℕ) → length s ≤ i → g [] ≡ false → GoesOn f g s i → NoFront f s
never_ends f g s i le e so_far = so_far.none (subst (λ t. NoFront g t) (sym (drop_all i s le)) (none_empty g e))

pub begins : (f : List ℕ → Bool) (s : List ℕ) → GoesOn f f s 0
begins f s = record { long = λ n l. let k : n ≡ 0 + n = omega arith in subst (λ m. Longest f s m) k l; none = λ l. l }

-- a byte string ends nowhere before its quote
pub escaped_empty : (digits : ℕ) → ends_escaped digits [] ≡ false
escaped_empty digits = refl

pub escaped_quote : (digits b : ℕ) (bs : List ℕ) → digits ≡ 0 → b ≡ 34 → ends_escaped digits (b ∷ bs) ≡ is_nil bs
escaped_quote digits b bs z e = rw z (cond-true (b == 34) _ _ (eq-eqb b 34 e))

-- a comment ends nowhere before its `*/`
pub block_empty : (starred : Bool) → ends_block starred [] ≡ false
block_empty starred = refl

pub block_end : (starred : Bool) (b : ℕ) (bs : List ℕ) → starred && b == 47 ≡ true → ends_block starred (b ∷ bs) ≡ is_nil bs
block_end starred b bs e = cond-true (starred && b == 47) _ _ e

pub block_on : (starred : Bool) (b : ℕ) (bs : List ℕ) → starred && b == 47 ≡ false → ends_block starred (b ∷ bs) ≡ ends_block (b == 42) bs
block_on starred b bs e = cond-false (starred && b == 47) _ _ e

-- behind the first byte of a comment
pub slashed_line : (b : ℕ) (bs : List ℕ) → b ≡ 47 → is_slashed (b ∷ bs) ≡ list_all is_line_byte bs
slashed_line b bs e = cond-true (b == 47) _ _ (eq-eqb b 47 e)

pub slashed_other : (b : ℕ) (bs : List ℕ) → (b ≡ 47 → ⊥) → (b ≡ 42 → ⊥) → is_slashed (b ∷ bs) ≡ false
slashed_other b bs ne nor = cond-false (b == 47) _ _ (ne_eqb b 47 ne) ∙ ap (λ v. v && ends_block false bs) (ne_eqb b 42 nor)

pub slashed_block : (b : ℕ) (bs : List ℕ) → (b ≡ 47 → ⊥) → b ≡ 42 → is_slashed (b ∷ bs) ≡ ends_block false bs
slashed_block b bs ne e = cond-false (b == 47) _ _ (ne_eqb b 47 ne) ∙ ap (λ v. v && ends_block false bs) (eq-eqb b 42 e)

-- one byte more than a front
pub front_step : (f g : List ℕ → Bool) (b : ℕ) (s : List ℕ) (r : Option ℕ) → f [] ≡ false → ((bs : List ℕ) → f (b ∷ bs) ≡ g bs) → FrontLen g s r → FrontLen f (b ∷ s) (option_map (λ n. n + 1) r)
front_step f g b s None e h l = step_none f g b s e h l
front_step f g b s (Some n) e h l = let k : suc n ≡ n + 1 = omega arith in subst (λ m. Longest f (b ∷ s) m) k (step_longest f g b s n h l)

pub front_within : (f : List ℕ → Bool) (s : List ℕ) (r : Option ℕ) → FrontLen f s r → IfSome r (λ n. n ≤ length s)
front_within f s None l = tt
front_within f s (Some n) l = l.within

same_at : (f g : List ℕ → Bool) (b : ℕ) (s : List ℕ) → f [] ≡ g [] → ((bs : List ℕ) → f (b ∷ bs) ≡ g (b ∷ bs)) → (m : ℕ) → f (take m (b ∷ s)) ≡ g (take m (b ∷ s))
same_at f g b s e h zero = e
same_at f g b s e h (suc m) = h (take m s)

-- two tests that agree on what begins with this byte
pub front_same : (f g : List ℕ → Bool) (b : ℕ) (s : List ℕ) (r : Option ℕ) → f [] ≡ g [] → ((bs : List ℕ) → f (b ∷ bs) ≡ g (b ∷ bs)) → FrontLen g (b ∷ s) r → FrontLen f (b ∷ s) r
front_same f g b s None e h l = record { fails = λ m le. same_at f g b s e h m ∙ l.fails m le }
front_same f g b s (Some n) e h l = record { within = l.within; passes = same_at f g b s e h n ∙ l.passes; longer = λ m lt le. same_at f g b s e h m ∙ l.longer m lt le }

-- the tests of a name

pub name_quote : (b : ℕ) (bs : List ℕ) → b ≡ 34 → is_name (b ∷ bs) ≡ ends_name bs
name_quote b bs e = cond-true (b == 34) _ _ (eq-eqb b 34 e)

pub name_plain : (b : ℕ) (bs : List ℕ) → (b ≡ 34 → ⊥) → is_name (b ∷ bs) ≡ some_all is_name_byte (b ∷ bs)
name_plain b bs ne = cond-false (b == 34) _ _ (ne_eqb b 34 ne)

-- the front of a text where that of the bytes behind its first is known
pub led_to : (f g : List ℕ → Bool) (t : List ℕ) (b : ℕ) (s : List ℕ) (r q : Option ℕ) → q ≡ option_map (λ n. n + 1) r → t ≡ b ∷ s → f [] ≡ false → ((bs : List ℕ) → f (b ∷ bs) ≡ g bs) → FrontLen g s r → FrontLen f t q
led_to f g t b s r q k e z h l = rw (k, e) (front_step f g b s r z h l)

pub same_to : (f g : List ℕ → Bool) (t : List ℕ) (b : ℕ) (s : List ℕ) (r : Option ℕ) → t ≡ b ∷ s → f [] ≡ g [] → ((bs : List ℕ) → f (b ∷ bs) ≡ g (b ∷ bs)) → FrontLen g t r → FrontLen f t r
same_to f g t b s r e z h l = let at : FrontLen g (b ∷ s) r = subst (λ u. FrontLen g u r) e l in subst (λ u. FrontLen f u r) (sym e) (front_same f g b s r z h at)

pub escaped_led : (b : ℕ) (bs : List ℕ) → b ≡ 34 → is_escaped (b ∷ bs) ≡ ends_escaped 0 bs
escaped_led b bs e = ap (λ v. v && ends_escaped 0 bs) (eq-eqb b 34 e)

pub run_to : (p : ℕ → Bool) (s : List ℕ) (n : ℕ) → n ≡ prefix_len p s → Longest (list_all p) s n
run_to p s n e = subst (λ m. Longest (list_all p) s m) (sym e) (run p s)

long_mark : (b : ℕ) (s : List ℕ) (m : ℕ) → 1 < m → m ≤ length s → is_interface_mark b (take m s) ≡ false
long_mark b [] m lt le = absurd (omega arith)
long_mark b (c ∷ []) m lt le = absurd (omega arith)
long_mark b (c ∷ d ∷ s) zero lt le = absurd (omega arith)
long_mark b (c ∷ d ∷ s) (suc zero) lt le = absurd (omega arith)
long_mark b (c ∷ d ∷ s) (suc (suc m)) lt le = refl

pub mark_of_two : (b : ℕ) (s : List ℕ) → 0 < length s → is_interface_mark b (get_or s 0 0 ∷ []) ≡ true → Longest (is_interface_mark b) s 1
mark_of_two b [] lt e = absurd (omega arith)
mark_of_two b (c ∷ s) lt e = record { within = omega arith; passes = e; longer = long_mark b (c ∷ s) }
