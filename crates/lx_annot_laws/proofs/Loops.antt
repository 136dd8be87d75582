-- What readers take, and loops of readers.
use Rattle.std.proofs.Common.{◌≡◌, ℕ, zero, suc, ◌≤◌, Bool, true, false, Option, Some, None, List, [], ◌∷◌, ◌++◌, length, Ok, Err, refl, sym, ap, ◌∙◌, subst, arith}
use Rattle.std.specs.Prelude.{if◌then◌else◌}
use Rattle.lx_words.specs.declared.token.TokenKind.{TokenKind}
use Rattle.lx_annot_expressions.specs.Tokens.{Tok}
use Rattle.lx_annot_expressions.specs.declared.fault.Fault.{Fault}
use Rattle.lx_annot_expressions.specs.declared.fault.FaultKind.{FaultKind}
use Rattle.lx_annot_expressions.specs.Reading.{Read, ◌>>=◌, at, has, behind, refused, pick_at, picked, next_at, steps_at, adding_at}
use Rattle.lx_annot_expressions.proofs.Parts.{ok_same, bind_ok}
use Rattle.lx_annot_laws.specs.RefusedPartLaws.{is_refusal}
use Rattle.lx_annot_laws.proofs.Local.{Looks, has_looks, looks_on, nothing_looks, something_looks, Bound, no_longer, Same, Plain, pure_plain, then_plain, last_plain, if_local, behind_local, fuel_local}

-- Two readers that go on alike do the same.
pub bound_alike : {A B : Type 0} (r s : Read A) (g h : A × List Tok → Read B) → r ≡ s → ((x : A) (us : List Tok) → r ≡ Ok (x, us) → g (x, us) ≡ h (x, us)) → (r >>= g) ≡ (s >>= h)
bound_alike (Ok x) s g h e k = k x.0 x.1 refl ∙ ap (λ (r : Read _). r >>= h) e
bound_alike (Err d) s g h e k = ap (λ (r : Read _). r >>= h) e

-- Two loops that go on alike do the same.
pub either_alike : {A B : Type 0} (b : Bool) (r : Read A) (f g : A × List Tok → Read B) (other : Read B) → ((x : A × List Tok) → b ≡ true → r ≡ Ok x → f x ≡ g x) → (if b then (r >>= f) else other) ≡ (if b then (r >>= g) else other)
either_alike true (Ok x) f g other h = h x refl refl
either_alike true (Err d) f g other h = refl
either_alike false r f g other h = refl

pub none_left : (ts : List Tok) → length ts ≤ 0 → ts ≡ []
none_left [] le = refl
none_left (t ∷ ts) le = absurd (omega (arith, le))

-- What is read leaves no more than there was.
pub shorter : {A : Type 0} (read : List Tok → Read A) → Plain read → (ts us : List Tok) (x : A) → read ts ≡ Ok (x, us) → length us ≤ length ts
shorter read plain ts us x e = let f = plain.ends ts us x e in no_longer f.0 ts us f.1

-- Where a token stands, one is taken at least.
abbrev pub Hungry : {A : Type 0} → (List Tok → Read A) → Type 0
Hungry {A} read = (t : Tok) (ts us : List Tok) (x : A) → read (t ∷ ts) ≡ Ok (x, us) → length us ≤ length ts

pub over_hungry : {A : Type 0} (y : A) → Hungry (λ ts. Ok (y, behind ts))
over_hungry y t ts us x e = let count : length ts ≡ length us = ap length ((ok_same y x ts us e).1) in omega (arith, count)

pub refused_hungry : {A : Type 0} → Hungry {A = A} (λ ts. refused ts)
refused_hungry t ts us x e = cc

pub picked_hungry : {A : Type 0} (what : Option A) (kind : FaultKind) → Hungry (λ ts. picked what kind ts)
picked_hungry (Some y) kind t ts us x e = over_hungry y t ts us x e
picked_hungry None kind t ts us x e = cc

pub pick_hungry : {A : Type 0} (what : Tok → Option A) (how : TokenKind → FaultKind) → Hungry (pick_at what how)
pick_hungry what how t ts us x e = picked_hungry (what t) (how t.kind) t ts us x e

by_hungry : {A : Type 0} (k : Bool) (a b : List Tok → Read A) → Hungry a → Hungry b → Hungry (λ ts. if k then a ts else b ts)
by_hungry true a b p q = p
by_hungry false a b p q = q

pub if_hungry : {A : Type 0} (c : List Tok → Bool) (a b : List Tok → Read A) → Hungry a → Hungry b → Hungry (λ ts. if c ts then a ts else b ts)
if_hungry c a b p q t ts us x e = by_hungry (c (t ∷ ts)) a b p q t ts us x e

pub next_hungry : (text : List ℕ) → Hungry (next_at text)
next_hungry text = if_hungry (has text) (λ ts. Ok (tt, behind ts)) (λ ts. refused ts) (over_hungry tt) (refused_hungry {A = Unit {0}})

pub then_hungry : {A B : Type 0} (read : List Tok → Read A) (g : A × List Tok → Read B) → Hungry read → ((x : A) → Plain (λ us. g (x, us))) → Hungry (λ ts. read ts >>= g)
then_hungry read g first next t ts us y e =
    let b = bind_ok (read (t ∷ ts)) g (y, us) e in
    let one = first t ts b.0.1 b.0.0 b.1 in
    let two = shorter (λ vs. g (b.0.0, vs)) (next b.0.0) b.0.1 us y b.2 in
    omega (arith, one, two)

pub behind_hungry : {A : Type 0} (read : List Tok → Read A) → Plain read → Hungry (λ ts. read (behind ts))
behind_hungry read plain t ts us x e = shorter read plain ts us x e

-- A reader that is chosen by what stands behind the next token: at that token neither choice ends, and a fault there is one whatever
-- stands behind it.
module _ {A : Type 0} (c : List Tok → Bool) (a b : List Tok → Read A) (first : Plain a) (second : Plain b)
    (steady : (t : Tok) (us vs : List Tok) → Looks us vs → c (t ∷ us) ≡ c (t ∷ vs)) where
  abbrev pub chosen : Bool → List Tok → Read A
  chosen k ts = if k then a ts else b ts

  chosen_plain : (k : Bool) → Plain (chosen k)
  chosen_plain true = first
  chosen_plain false = second

  module _ (hungry : (k : Bool) → Hungry (chosen k))
      (waits : (t : Tok) (ts vs : List Tok) (f : Fault) → Bound f.kind (t ∷ ts) → is_refusal f.kind ≡ true → chosen (c (t ∷ ts)) (t ∷ ts) ≡ Err f → f.left ≡ suc (length ts) → chosen (c (t ∷ vs)) (t ∷ vs) ≡ Err (at f.kind (t ∷ vs))) where
    wary_reads : (front us vs : List Tok) (x : A) → chosen (c (front ++ us)) (front ++ us) ≡ Ok (x, us) → Looks us vs → (y : A) × (chosen (c (front ++ vs)) (front ++ vs) ≡ Ok (y, vs)) × (x ≡ y)
    wary_reads [] [] vs x e l = (x, subst (λ r. chosen (c r) r ≡ Ok (x, r)) (sym (nothing_looks vs l)) e, refl)
    wary_reads [] (u ∷ us) vs x e l = let h = hungry (c (u ∷ us)) u us (u ∷ us) x e in absurd (omega (arith, h))
    wary_reads (t ∷ front) us vs x e l =
        let r = (chosen_plain (c (t ∷ front ++ us))).reads (t ∷ front) us vs x e l in
        (r.0, ap (λ k. chosen k (t ∷ front ++ vs)) (sym (steady t (front ++ us) (front ++ vs) (looks_on front us vs l))) ∙ r.1, r.2)

    wary_faults : (front us vs : List Tok) (f : Fault) → Bound f.kind us → is_refusal f.kind ≡ true → chosen (c (front ++ us)) (front ++ us) ≡ Err f → f.left ≡ length us → Looks us vs → chosen (c (front ++ vs)) (front ++ vs) ≡ Err (at f.kind vs)
    wary_faults [] [] vs f t a e left l = subst (λ r. chosen (c r) r ≡ Err (at f.kind r)) (sym (nothing_looks vs l)) ((chosen_plain (c [])).faults [] [] [] f tt a e left refl)
    wary_faults [] (u ∷ us) vs f t a e left l = subst (λ r. chosen (c r) r ≡ Err (at f.kind r)) (sym (something_looks u us vs l)) (waits u us (behind vs) f t a e left)
    wary_faults (u ∷ front) us vs f t a e left l =
        ap (λ k. chosen k (u ∷ front ++ vs)) (sym (steady u (front ++ us) (front ++ vs) (looks_on front us vs l)))
        ∙ (chosen_plain (c (u ∷ front ++ us))).faults (u ∷ front) us vs f t a e left l

    pub wary_plain : Plain (λ ts. if c ts then a ts else b ts)
    wary_plain = record {
      ends = λ ts us x e. (chosen_plain (c ts)).ends ts us x e;
      reads = wary_reads;
      stops = λ ts f a e. (chosen_plain (c ts)).stops ts f a e;
      faults = wary_faults;
    }

-- Steps, as long as a test passes.
module _ {S : Type 0} (test : List Tok → Bool) (step : S → List Tok → Read S) (ended : test [] ≡ false) (hungry : (s : S) → Hungry (step s)) where
  steps_none : (n : ℕ) (s : S) → steps_at test step n s [] ≡ Ok (s, [])
  unfolding steps_at
  steps_none zero s = refl
  steps_none (suc n) s = rw ended refl

  steps_enough : (n m : ℕ) (s : S) (ts : List Tok) → length ts ≤ n → length ts ≤ m → steps_at test step n s ts ≡ steps_at test step m s ts
  unfolding steps_at
  steps_enough n m s [] le le' = steps_none n s ∙ sym (steps_none m s)
  steps_enough zero m s (t ∷ ts) le le' = absurd (omega (arith, le))
  steps_enough (suc n) zero s (t ∷ ts) le le' = absurd (omega (arith, le'))
  steps_enough (suc n) (suc m) s (t ∷ ts) le le' =
      either_alike (test (t ∷ ts)) (step s (t ∷ ts)) (λ x. steps_at test step n x.0 x.1) (λ x. steps_at test step m x.0 x.1) (Ok (s, t ∷ ts))
      (λ x b e. let less = hungry s t ts x.1 x.0 e in steps_enough n m x.0 x.1 (omega (arith, less, le)) (omega (arith, less, le')))

  module _ (respects : (us vs : List Tok) → Looks us vs → test us ≡ test vs) (plain : (s : S) → Plain (step s)) where
    pub steps_each : (n : ℕ) (s : S) → Plain (steps_at test step n s)
    unfolding steps_at
    steps_each zero s = pure_plain s
    steps_each (suc n) s =
        if_local Same test test respects (λ ts. step s ts >>= λ x. steps_at test step n x.0 x.1) (λ ts. step s ts >>= λ x. steps_at test step n x.0 x.1) (λ ts. Ok (s, ts)) (λ ts. Ok (s, ts))
        (then_plain (step s) (λ x. steps_at test step n x.0 x.1) (plain s) (λ x. steps_each n x)) (pure_plain s)

    pub steps_plain : (s : S) → Plain (λ ts. steps_at test step (length ts) s ts)
    steps_plain s = fuel_local Same (λ n. steps_at test step n s) (λ n. steps_at test step n s) (λ n m ts. steps_enough n m s ts) (λ n m ts. steps_enough n m s ts) (λ n. steps_each n s)

-- Values one behind the other, each behind a mark.
module _ {A : Type 0} (item : List A → List Tok → Read A) (plain : (before : List A) → Plain (item before)) where
  abbrev put : List A → List Tok → Read (List A)
  put before ts = item before ts >>= λ x. Ok (before ++ x.0 ∷ [], x.1)

  put_plain : (before : List A) → Plain (put before)
  put_plain before = last_plain (item before) (λ x. before ++ x ∷ []) (plain before)

  pub adding_plain : (before : List A) → Plain (adding_at item before)
  adding_plain before = behind_local Same (put before) (put before) (put_plain before)

  pub adding_hungry : (before : List A) → Hungry (adding_at item before)
  adding_hungry before = behind_hungry (put before) (put_plain before)

  pub further_each : (mark : List ℕ) (n : ℕ) (before : List A) → Plain (steps_at (has mark) (adding_at item) n before)
  further_each mark n before = steps_each (has mark) (adding_at item) refl adding_hungry (has_looks mark) adding_plain n before

  pub further_plain : (mark : List ℕ) (before : List A) → Plain (λ ts. steps_at (has mark) (adding_at item) (length ts) before ts)
  further_plain mark before = steps_plain (has mark) (adding_at item) refl adding_hungry (has_looks mark) adding_plain before
