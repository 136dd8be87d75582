-- Parts one after the other, as a loop goes over them or collects them.
use Rattle.std.proofs.Common.{◌≡◌, ℕ, zero, suc, ◌+◌, ◌≤◌, ◌<◌, Bool, true, false, List, [], ◌∷◌, ◌++◌, length, Ok, refl, sym, ap, ◌∙◌, subst, append_assoc, arith}
use Rattle.std.specs.Prelude.{if◌then◌else◌}
use Rattle.std.proofs.lemmas.List.{length-append}
use Rattle.lx_ir_tokens.specs.declared.token.Tok.{Tok}
use Rattle.lx_ir_tokens.specs.declared.token.Kind.{Kind}
use Rattle.lx_ir_terms.specs.Reading.{Read, ◌>>=◌, has, behind}
use Rattle.lx_ir_terms.specs.Grammar.{Part, Is, ◌then◌}
use Rattle.lx_ir_terms.specs.Laws.{Reads, Finds}
use Rattle.lx_ir_terms.proofs.Marks.{next_token}
use Rattle.lx_ir_terms.proofs.Parts.{Mapped, bind_ok, ok_same, last_finds}
use Rattle.lx_ir_constants.proofs.ListLaws.{Found}
use Rattle.lx_ir_operands.specs.Steps.{steps_at, items_while}
use Rattle.lx_ir_operands.specs.Grammar.{Times, Repeated, AreInRow}
use Rattle.lx_ir_operands.proofs.Stepping.{none}
use Rattle.lx_ir_operands.proofs.Collecting.{no_more}

-- Parts have tokens.

pub is_filled : (p : Kind → Bool) (ts : List Tok) → Is p ts → 0 < length ts
is_filled p ts (t, k, e) = rw e (omega arith)

pub then_filled : (p q : Part) (ts : List Tok) → ((us : List Tok) → p us → 0 < length us) → (p then q) ts → 0 < length ts
then_filled p q ts h (f, b, a, c, w) =
    let some = h f a in
    let size : length ts ≡ length f + length b = ap length w ∙ length-append f b in
    omega (arith, some, size)

-- the rule behind a token of this kind finds its part there
pub behind_found : {A : Type 0} (p : Kind → Bool) (item : List Tok → Read A) (part : A → Part) → Finds item part → (ts us : List Tok) (x : A) → has p ts ≡ true → item (behind ts) ≡ Ok (x, us) → Found (λ y. Is p then part y) x ts us
behind_found p item part h ts us x k e =
    let n = next_token p ts k in
    let w = h (behind ts) us x e in
    (n.token ∷ w.0, (n.token ∷ [], w.0, (n.token, n.kind, refl), w.1, refl), n.whole ∙ ap (λ r. n.token ∷ r) w.2)

-- Parts that say nothing.

-- a test and a step go over a part before tokens like these
pub record GoesOver (go : List Tok → Bool) (step : List Tok → Read (Unit {0})) (p : Part) (before : List Tok → Type 0) : Type 0 where
  pub filled : (ts : List Tok) → p ts → 0 < length ts
  pub goes : (ts us : List Tok) → p ts → before us → go (ts ++ us) ≡ true
  pub reads : (ts us : List Tok) → p ts → before us → step (ts ++ us) ≡ Ok (tt, us)
  pub keeps : (ts us : List Tok) → p ts → before us → before (ts ++ us)

times_keep : (go : List Tok → Bool) (step : List Tok → Read (Unit {0})) (p : Part) (before : List Tok → Type 0) → GoesOver go step p before → (n : ℕ) (ts us : List Tok) → Times p n ts → before us → before (ts ++ us)
times_keep go step p before g zero ts us e b = subst (λ r. before (r ++ us)) (sym e) b
times_keep go step p before g (suc n) ts us (f, r, q, m, w) b =
    let whole : ts ++ us ≡ f ++ (r ++ us) = rw w (append_assoc f r us) in
    subst before (sym whole) (g.keeps f (r ++ us) q (times_keep go step p before g n r us m b))

-- so many parts are gone over, up to tokens at which the test fails
pub times_again : (go : List Tok → Bool) (step : List Tok → Read (Unit {0})) (p : Part) (before : List Tok → Type 0) → GoesOver go step p before → (n fuel : ℕ) (ts us : List Tok) → Times p n ts → before us → length (ts ++ us) ≤ fuel → go us ≡ false → steps_at go step fuel (ts ++ us) ≡ Ok (tt, us)
unfolding steps_at
times_again go step p before g zero fuel ts us e b le h = subst (λ r. steps_at go step fuel (r ++ us) ≡ Ok (tt, us)) (sym e) (none go step fuel us h)
times_again go step p before g (suc n) zero ts us (f, r, q, m, w) b le h =
    let whole : ts ++ us ≡ f ++ (r ++ us) = rw w (append_assoc f r us) in
    let size : length (ts ++ us) ≡ length f + length (r ++ us) = ap length whole ∙ length-append f (r ++ us) in
    let some = g.filled f q in
    absurd (omega (arith, some, size, le))
times_again go step p before g (suc n) (suc fuel) ts us (f, r, q, m, w) b le h =
    let whole : ts ++ us ≡ f ++ (r ++ us) = rw w (append_assoc f r us) in
    let size : length (ts ++ us) ≡ length f + length (r ++ us) = ap length whole ∙ length-append f (r ++ us) in
    let some = g.filled f q in
    let k = times_keep go step p before g n r us m b in
    rw (whole, g.goes f (r ++ us) q k, g.reads f (r ++ us) q k) (times_again go step p before g n fuel r us m b (omega (arith, some, size, le)) h)

-- what a part is in front of some tokens
abbrev pub Front : Part → List Tok → List Tok → Type 0
Front p ts us = (front : List Tok) × p front × (ts ≡ front ++ us)

-- a step finds a part
abbrev pub StepFinds : (List Tok → Bool) → (List Tok → Read (Unit {0})) → Part → Type 0
StepFinds go step p = (ts us : List Tok) (x : Unit {0}) → go ts ≡ true → step ts ≡ Ok (x, us) → Front p ts us

found_step : (go : List Tok → Bool) (step rest : List Tok → Read (Unit {0})) (p : Part) → StepFinds go step p → Finds rest (λ x. Repeated p) → (b : Bool) (ts us : List Tok) (x : Unit {0}) → go ts ≡ b → (if b then (step ts >>= λ y. rest y.1) else Ok (tt, ts)) ≡ Ok (x, us) → Front (Repeated p) ts us
found_step go step rest p h k false ts us x g e = ([], (0, refl), (ok_same tt x ts us e).1)
found_step go step rest p h k true ts us x g e =
    let a = bind_ok (step ts) (λ y. rest y.1) (x, us) e in
    let v = h ts a.0.1 a.0.0 g a.1 in
    let w = k a.0.1 us x a.2 in
    (v.0 ++ w.0, (suc w.1.0, (v.0, w.0, v.1, w.1.1, refl)), v.2 ∙ (ap (λ r. v.0 ++ r) w.2 ∙ sym (append_assoc v.0 w.0 us)))

-- what steps go over are such parts
pub steps_found : (go : List Tok → Bool) (step : List Tok → Read (Unit {0})) (p : Part) → StepFinds go step p → (fuel : ℕ) → Finds (steps_at go step fuel) (λ x. Repeated p)
unfolding steps_at
steps_found go step p h zero ts us x e = ([], (0, refl), (ok_same tt x ts us e).1)
steps_found go step p h (suc fuel) ts us x e = found_step go step (steps_at go step fuel) p h (steps_found go step p h fuel) (go ts) ts us x refl e

-- Parts that say something.

-- a test and a step read a part
pub record GoesThrough {A : Type 0} (go : List Tok → Bool) (step : List Tok → Read A) (part : A → Part) : Type 0 where
  pub filled : (x : A) (ts : List Tok) → part x ts → 0 < length ts
  pub goes : (x : A) (ts us : List Tok) → part x ts → go (ts ++ us) ≡ true
  pub reads : (x : A) → Reads step x (part x)

-- items in a row are read, up to tokens at which the test fails
pub row_again : {A : Type 0} (go : List Tok → Bool) (step : List Tok → Read A) (part : A → Part) → GoesThrough go step part → (xs : List A) (fuel : ℕ) (ts us : List Tok) → AreInRow part xs ts → length (ts ++ us) ≤ fuel → go us ≡ false → items_while go step fuel (ts ++ us) ≡ Ok (xs, us)
unfolding items_while
row_again go step part g [] fuel ts us e le h = subst (λ r. items_while go step fuel (r ++ us) ≡ Ok ([], us)) (sym e) (no_more go step fuel us h)
row_again go step part g (x ∷ xs) zero ts us (f, r, q, m, w) le h =
    let whole : ts ++ us ≡ f ++ (r ++ us) = rw w (append_assoc f r us) in
    let size : length (ts ++ us) ≡ length f + length (r ++ us) = ap length whole ∙ length-append f (r ++ us) in
    let some = g.filled x f q in
    absurd (omega (arith, some, size, le))
row_again go step part g (x ∷ xs) (suc fuel) ts us (f, r, q, m, w) le h =
    let whole : ts ++ us ≡ f ++ (r ++ us) = rw w (append_assoc f r us) in
    let size : length (ts ++ us) ≡ length f + length (r ++ us) = ap length whole ∙ length-append f (r ++ us) in
    let some = g.filled x f q in
    rw (whole, g.goes x f (r ++ us) q, g.reads x f (r ++ us) q, row_again go step part g xs fuel r us m (omega (arith, some, size, le)) h) refl

-- a step finds an item
abbrev pub ItemFinds : {A : Type 0} → (List Tok → Bool) → (List Tok → Read A) → (A → Part) → Type 0
ItemFinds {A} go step part = (ts us : List Tok) (x : A) → go ts ≡ true → step ts ≡ Ok (x, us) → Found part x ts us

row_part : {A : Type 0} (part : A → Part) (x : A) (xs : List A) (f b : List Tok) → part x f → Mapped (λ (ys : List A). x ∷ ys) (AreInRow part) xs b → AreInRow part xs (f ++ b)
row_part part x xs f b p (ys, m, eq) = subst (λ zs. AreInRow part zs (f ++ b)) eq (f, b, p, m, refl)

-- an item, and those behind it
abbrev pub with_rest : {A : Type 0} → (List Tok → Read (List A)) → A × List Tok → Read (List A)
with_rest rest x = rest x.1 >>= λ xs. Ok (x.0 ∷ xs.0, xs.1)

abbrev pub row_by : {A : Type 0} → Bool → (List Tok → Read A) → (List Tok → Read (List A)) → List Tok → Read (List A)
row_by b step rest ts = if b then (step ts >>= with_rest rest) else Ok ([], ts)

row_step : {A : Type 0} (go : List Tok → Bool) (step : List Tok → Read A) (rest : List Tok → Read (List A)) (part : A → Part) → ItemFinds go step part → Finds rest (AreInRow part) → (b : Bool) (ts us : List Tok) (xs : List A) → go ts ≡ b → row_by b step rest ts ≡ Ok (xs, us) → Found (AreInRow part) xs ts us
row_step go step rest part h k false ts us xs g e =
    let s = ok_same [] xs ts us e in
    subst (λ ys. Found (AreInRow part) ys ts us) s.0 ([], refl, s.1)
row_step go step rest part h k true ts us xs g e =
    let a = bind_ok (step ts) (with_rest rest) (xs, us) e in
    let v = h ts a.0.1 a.0.0 g a.1 in
    let w = last_finds rest (λ ys. a.0.0 ∷ ys) (AreInRow part) k a.0.1 us xs a.2 in
    (v.0 ++ w.0, row_part part a.0.0 xs v.0 w.0 v.1 w.1, v.2 ∙ (ap (λ r. v.0 ++ r) w.2 ∙ sym (append_assoc v.0 w.0 us)))

-- what is collected are items in a row
pub row_found : {A : Type 0} (go : List Tok → Bool) (step : List Tok → Read A) (part : A → Part) → ItemFinds go step part → (fuel : ℕ) → Finds (items_while go step fuel) (AreInRow part)
unfolding items_while
row_found go step part h zero ts us xs e =
    let s = ok_same [] xs ts us e in
    subst (λ ys. Found (AreInRow part) ys ts us) s.0 ([], refl, s.1)
row_found go step part h (suc fuel) ts us xs e = row_step go step (items_while go step fuel) part h (row_found go step part h fuel) (go ts) ts us xs refl e
