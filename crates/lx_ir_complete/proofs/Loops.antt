-- Loops of readers.
use Rattle.std.proofs.Common.{◌≡◌, ℕ, zero, suc, ◌<◌, ◌≤◌, Bool, true, false, List, [], ◌∷◌, ◌++◌, length, Ok, Err, refl, sym, ap, ◌∙◌, arith}
use Rattle.std.specs.Prelude.{if◌then◌else◌}
use Rattle.lx_ir_tokens.specs.declared.token.Tok.{Tok}
use Rattle.lx_ir_tokens.specs.declared.token.Kind.{Kind}
use Rattle.lx_ir_tokens.specs.declared.token.Mark.{Mark}
use Rattle.lx_ir_tokens.specs.declared.token.Mark.TheVariants.{Comma}
use Rattle.lx_ir_terms.specs.declared.fault.FaultKind.{FaultKind}
use Rattle.lx_ir_terms.specs.Grammar.{Is}
use Rattle.lx_ir_terms.specs.Reading.{Read, ◌>>=◌, has, behind, is_mark, next_at, mark_at, more_at, items_at, closed_at, listed_at}
use Rattle.lx_ir_terms.proofs.Parts.{ok_same, next_reads, next_finds}
use Rattle.lx_ir_terms.proofs.Stopping.{next_stops}
use Rattle.lx_ir_constants.specs.Constants.{skipped}
use Rattle.lx_ir_operands.specs.Steps.{steps_at, items_while}
use Rattle.lx_ir_statements.specs.Going.{going_at}
use Rattle.lx_ir_complete.proofs.Local.{Looks, has_looks, Same, Local, Plain, pure_local, pure_plain, bind_local, then_plain, last_plain, if_local, if_plain, same_local, behind_local, fuel_local, from_laws}

-- Two loops that go on alike do the same.
either_alike : {A B : Type 0} (b : Bool) (r : Read A) (f g : A × List Tok → Read B) (other : Read B) → ((x : A × List Tok) → b ≡ true → r ≡ Ok x → f x ≡ g x) → (if b then (r >>= f) else other) ≡ (if b then (r >>= g) else other)
either_alike true (Ok x) f g other h = h x refl refl
either_alike true (Err d) f g other h = refl
either_alike false r f g other h = refl

none_left : (n : ℕ) (ts : List Tok) → length ts ≤ 0 → ts ≡ []
none_left n [] le = refl
none_left n (t ∷ ts) le = absurd (omega (arith, le))

-- a step takes a token at least
abbrev pub Consumes : {A : Type 0} → (List Tok → Bool) → (List Tok → Read A) → Type 0
Consumes {A} go step = (ts us : List Tok) (x : A) → go ts ≡ true → step ts ≡ Ok (x, us) → length us < length ts

-- Steps that say nothing.

module _ (go : List Tok → Bool) (step : List Tok → Read (Unit {0})) (ended : go [] ≡ false) (consumes : Consumes go step) where
  steps_none : (n : ℕ) → steps_at go step n [] ≡ Ok (tt, [])
  unfolding steps_at
  steps_none zero = refl
  steps_none (suc n) = rw ended refl

  pub steps_enough : (n m : ℕ) (ts : List Tok) → length ts ≤ n → length ts ≤ m → steps_at go step n ts ≡ steps_at go step m ts
  unfolding steps_at
  steps_enough zero m ts le le' = ap (steps_at go step zero) (none_left m ts le) ∙ steps_none zero ∙ sym (steps_none m) ∙ ap (steps_at go step m) (sym (none_left m ts le))
  steps_enough (suc n) zero ts le le' = ap (steps_at go step (suc n)) (none_left n ts le') ∙ steps_none (suc n) ∙ sym (steps_none zero) ∙ ap (steps_at go step zero) (sym (none_left n ts le'))
  steps_enough (suc n) (suc m) ts le le' =
      either_alike (go ts) (step ts) (λ x. steps_at go step n x.1) (λ x. steps_at go step m x.1) (Ok (tt, ts))
      (λ x b e. let less = consumes ts x.1 x.0 b e in steps_enough n m x.1 (omega (arith, less, le)) (omega (arith, less, le')))

  module _ (asked : FaultKind → Bool) (respects : (us vs : List Tok) → Looks us vs → go us ≡ go vs) (plain : Plain asked step) where
    steps_each : (n : ℕ) → Plain asked (steps_at go step n)
    unfolding steps_at
    steps_each zero = pure_plain asked tt
    steps_each (suc n) =
        if_local asked Same go go respects (λ ts. step ts >>= λ x. steps_at go step n x.1) (λ ts. step ts >>= λ x. steps_at go step n x.1) (λ ts. Ok (tt, ts)) (λ ts. Ok (tt, ts))
        (then_plain asked step (λ x. steps_at go step n x.1) plain (λ x. steps_each n)) (pure_plain asked tt)

    pub steps_plain : Plain asked (λ ts. steps_at go step (length ts) ts)
    steps_plain = fuel_local asked Same (steps_at go step) (steps_at go step) steps_enough steps_enough steps_each

-- Steps that each say something.

module _ {A : Type 0} (go : List Tok → Bool) (step : List Tok → Read A) (ended : go [] ≡ false) (consumes : Consumes go step) where
  abbrev with_more : ℕ → A × List Tok → Read (List A)
  with_more n x = items_while go step n x.1 >>= λ xs. Ok (x.0 ∷ xs.0, xs.1)

  items_none : (n : ℕ) → items_while go step n [] ≡ Ok ([], [])
  unfolding items_while
  items_none zero = refl
  items_none (suc n) = rw ended refl

  items_enough : (n m : ℕ) (ts : List Tok) → length ts ≤ n → length ts ≤ m → items_while go step n ts ≡ items_while go step m ts
  unfolding items_while
  items_enough zero m ts le le' = ap (items_while go step zero) (none_left m ts le) ∙ items_none zero ∙ sym (items_none m) ∙ ap (items_while go step m) (sym (none_left m ts le))
  items_enough (suc n) zero ts le le' = ap (items_while go step (suc n)) (none_left n ts le') ∙ items_none (suc n) ∙ sym (items_none zero) ∙ ap (items_while go step zero) (sym (none_left n ts le'))
  items_enough (suc n) (suc m) ts le le' =
      either_alike (go ts) (step ts) (with_more n) (with_more m) (Ok ([], ts))
      (λ x b e. let less = consumes ts x.1 x.0 b e in ap (λ (r : Read (List A)). r >>= λ xs. Ok (x.0 ∷ xs.0, xs.1)) (items_enough n m x.1 (omega (arith, less, le)) (omega (arith, less, le'))))

  module _ (asked : FaultKind → Bool) (respects : (us vs : List Tok) → Looks us vs → go us ≡ go vs) (plain : Plain asked step) where
    items_each : (n : ℕ) → Plain asked (items_while go step n)
    unfolding items_while
    items_each zero = pure_plain asked []
    items_each (suc n) =
        if_local asked Same go go respects (λ ts. step ts >>= with_more n) (λ ts. step ts >>= with_more n) (λ ts. Ok ([], ts)) (λ ts. Ok ([], ts))
        (then_plain asked step (with_more n) plain (λ x. last_plain asked (items_while go step n) (λ xs. x ∷ xs) (items_each n))) (pure_plain asked [])

    pub items_plain : Plain asked (λ ts. items_while go step (length ts) ts)
    items_plain = fuel_local asked Same (items_while go step) (items_while go step) items_enough items_enough items_each

-- Steps with a state.

module _ {S : Type 0} (go : S → List Tok → Bool) (step : S → List Tok → Read S) (ended : (s : S) → go s [] ≡ false) (consumes : (s : S) → Consumes (go s) (step s)) where
  going_none : (n : ℕ) (s : S) → going_at go step n s [] ≡ Ok (s, [])
  unfolding going_at
  going_none zero s = refl
  going_none (suc n) s = let e = ended s in rw e refl

  pub going_enough : (n m : ℕ) (s : S) (ts : List Tok) → length ts ≤ n → length ts ≤ m → going_at go step n s ts ≡ going_at go step m s ts
  unfolding going_at
  going_enough zero m s ts le le' = ap (going_at go step zero s) (none_left m ts le) ∙ going_none zero s ∙ sym (going_none m s) ∙ ap (going_at go step m s) (sym (none_left m ts le))
  going_enough (suc n) zero s ts le le' = ap (going_at go step (suc n) s) (none_left n ts le') ∙ going_none (suc n) s ∙ sym (going_none zero s) ∙ ap (going_at go step zero s) (sym (none_left n ts le'))
  going_enough (suc n) (suc m) s ts le le' =
      either_alike (go s ts) (step s ts) (λ x. going_at go step n x.0 x.1) (λ x. going_at go step m x.0 x.1) (Ok (s, ts))
      (λ x b e. let less = consumes s ts x.1 x.0 b e in going_enough n m x.0 x.1 (omega (arith, less, le)) (omega (arith, less, le')))

  -- states that are related go on alike
  module _ (asked : FaultKind → Bool) (R : S → S → Type 0) (respects : (s r : S) → R s r → (us vs : List Tok) → Looks us vs → go s us ≡ go r vs) (local : (s r : S) → R s r → Local asked R (step s) (step r)) where
    going_each : (n : ℕ) (s r : S) → R s r → Local asked R (going_at go step n s) (going_at go step n r)
    unfolding going_at
    going_each zero s r related = pure_local asked R s r related
    going_each (suc n) s r related =
        if_local asked R (go s) (go r) (respects s r related) (λ ts. step s ts >>= λ x. going_at go step n x.0 x.1) (λ ts. step r ts >>= λ x. going_at go step n x.0 x.1) (λ ts. Ok (s, ts)) (λ ts. Ok (r, ts))
        (bind_local asked R R (step s) (step r) (λ ts x. going_at go step n x.0 x.1) (λ ts x. going_at go step n x.0 x.1) (local s r related) (λ ts vs x y l e. going_each n x y e))
        (pure_local asked R s r related)

    pub going_local : (s r : S) → R s r → Local asked R (λ ts. going_at go step (length ts) s ts) (λ ts. going_at go step (length ts) r ts)
    going_local s r related =
        fuel_local asked R (λ n ts. going_at go step n s ts) (λ n ts. going_at go step n r ts) (λ n m ts. going_enough n m s ts) (λ n m ts. going_enough n m r ts) (λ n. going_each n s r related)

pub fits : (front rest us : List Tok) → rest ≡ front ++ us → length us < suc (length rest)
fits [] rest us w = let count : length rest ≡ length us = ap length w in omega (arith, count)
fits (u ∷ front) [] us w = cc
fits (u ∷ front) (r ∷ rest) us w = let inner : rest ≡ front ++ us = cc in let less = fits front rest us inner in omega (arith, less)

-- What a step behind a token takes.
pub behind_consumes : {A : Type 0} (asked : FaultKind → Bool) (go : List Tok → Bool) (read : List Tok → Read A) → ((ts : List Tok) → go ts ≡ true → 0 < length ts) → Plain asked read → Consumes go (λ ts. read (behind ts))
behind_consumes asked go read some plain [] us x g e = let h = some [] g in absurd (omega (arith, h))
behind_consumes asked go read some plain (t ∷ ts) us x g e =
    let f = plain.ends ts us x e in
    fits f.0 ts us f.1

pub has_some : (p : Kind → Bool) (ts : List Tok) → has p ts ≡ true → 0 < length ts
has_some p [] h = cc
has_some p (t ∷ ts) h = omega arith

-- Tokens of a kind that are passed over.

-- one token of a kind, which has to stand there
pub next_plain : (asked : FaultKind → Bool) (p : Kind → Bool) → Plain asked (next_at p)
next_plain asked p = from_laws asked (next_at p) (λ x. Is p) (λ x. next_reads p) (next_finds p) (next_stops p)

abbrev over : List Tok → Read (Unit {0})
over ts = Ok (tt, behind ts)

over_shorter : (p : Kind → Bool) → Consumes (has p) over
over_shorter p [] us x g e = cc
over_shorter p (t ∷ ts) us x g e = let s = ok_same tt x ts us e in let count : length ts ≡ length us = ap length s.1 in omega (arith, count)

skip_step : (p : Kind → Bool) (n : ℕ) (t : Tok) (ts : List Tok) (b : Bool) → steps_at (has p) over n ts ≡ Ok (tt, skipped p ts) → (if b then (over (t ∷ ts) >>= λ x. steps_at (has p) over n x.1) else Ok (tt, t ∷ ts)) ≡ Ok (tt, if b then skipped p ts else t ∷ ts)
skip_step p n t ts true h = h
skip_step p n t ts false h = refl

skipped_by : (p : Kind → Bool) (n : ℕ) (ts : List Tok) → length ts ≤ n → steps_at (has p) over n ts ≡ Ok (tt, skipped p ts)
unfolding steps_at
skipped_by p zero [] le = refl
skipped_by p zero (t ∷ ts) le = absurd (omega (arith, le))
skipped_by p (suc n) [] le = refl
skipped_by p (suc n) (t ∷ ts) le = skip_step p n t ts (p t.kind) (skipped_by p n ts (omega (arith, le)))

module _ {A : Type 0} (asked : FaultKind → Bool) (p : Kind → Bool) (read : List Tok → Read A) (plain : Plain asked read) where
  skipped_is : (ts : List Tok) → read (skipped p ts) ≡ (steps_at (has p) over (length ts) ts >>= λ x. read x.1)
  skipped_is ts = ap (λ (r : Read (Unit {0})). r >>= λ x. read x.1) (sym (skipped_by p (length ts) ts (omega arith)))

  pub skipped_plain : Plain asked (λ ts. read (skipped p ts))
  skipped_plain =
      same_local asked Same (λ ts. read (skipped p ts)) (λ ts. read (skipped p ts)) (λ ts. steps_at (has p) over (length ts) ts >>= λ x. read x.1) (λ ts. steps_at (has p) over (length ts) ts >>= λ x. read x.1) skipped_is skipped_is
      (then_plain asked (λ ts. steps_at (has p) over (length ts) ts) (λ x. read x.1)
      (steps_plain (has p) over refl (over_shorter p) asked (has_looks p) (behind_local asked Same (λ ts. Ok (tt, ts)) (λ ts. Ok (tt, ts)) (pure_plain asked tt))) (λ x. plain))

-- Lists with commas.

more_are_items : {A : Type 0} (item : List Tok → Read A) (n : ℕ) (ts : List Tok) → more_at item n ts ≡ items_while (has (is_mark Comma)) (λ us. item (behind us)) n ts
unfolding more_at items_while
more_are_items item zero ts = refl
more_are_items item (suc n) ts =
    either_alike (has (is_mark Comma) ts) (item (behind ts)) (λ x. more_at item n x.1 >>= λ xs. Ok (x.0 ∷ xs.0, xs.1)) (λ x. items_while (has (is_mark Comma)) (λ us. item (behind us)) n x.1 >>= λ xs. Ok (x.0 ∷ xs.0, xs.1)) (Ok ([], ts))
    (λ x b e. ap (λ (r : Read (List _)). r >>= λ xs. Ok (x.0 ∷ xs.0, xs.1)) (more_are_items item n x.1))

module _ {A : Type 0} (asked : FaultKind → Bool) (item : List Tok → Read A) (plain : Plain asked item) where
  more_plain : Plain asked (λ ts. more_at item (length ts) ts)
  more_plain =
      same_local asked Same (λ ts. more_at item (length ts) ts) (λ ts. more_at item (length ts) ts) (λ ts. items_while (has (is_mark Comma)) (λ us. item (behind us)) (length ts) ts) (λ ts. items_while (has (is_mark Comma)) (λ us. item (behind us)) (length ts) ts)
      (λ ts. more_are_items item (length ts) ts) (λ ts. more_are_items item (length ts) ts)
      (items_plain (has (is_mark Comma)) (λ us. item (behind us)) refl (behind_consumes asked (has (is_mark Comma)) item (has_some (is_mark Comma)) plain) asked (has_looks (is_mark Comma)) (behind_local asked Same item item plain))

  items_listed : Plain asked (items_at item)
  items_listed = then_plain asked item (λ x. more_at item (length x.1) x.1 >>= λ xs. Ok (x.0 ∷ xs.0, xs.1)) plain (λ x. last_plain asked (λ us. more_at item (length us) us) (λ xs. x ∷ xs) more_plain)

  pub listed_plain : (close : Mark) → Plain asked (listed_at close item)
  listed_plain close =
      if_plain asked (is_mark close) (λ ts. Ok ([], behind ts)) (closed_at close item) (behind_local asked Same (λ ts. Ok ([], ts)) (λ ts. Ok ([], ts)) (pure_plain asked []))
      (then_plain asked (items_at item) (λ xs. mark_at close xs.1 >>= λ c. Ok (xs.0, c.1)) items_listed (λ xs. last_plain asked (mark_at close) (λ c. xs) (next_plain asked (is_mark close))))
