-- Values one after the other, each behind a mark.
use Rattle.std.proofs.Common.{◌≡◌, ℕ, zero, suc, ◌≤◌, Bool, true, false, List, [], ◌∷◌, ◌++◌, length, Ok, refl, sym, ap, ◌∙◌, subst, append_assoc, arith}
use Rattle.std.specs.Prelude.{if◌then◌else◌}
use Rattle.std.proofs.lemmas.List.{append-nil}
use Rattle.lx_annot_expressions.specs.Tokens.{Tok}
use Rattle.lx_annot_expressions.specs.Reading.{Read, ◌>>=◌, has, behind, steps_at, adding_at}
use Rattle.lx_annot_expressions.specs.Grammar.{Part, ◌then◌}
use Rattle.lx_annot_expressions.specs.Laws.{ReadsBefore, Finds}
use Rattle.lx_annot_expressions.proofs.Parts.{bind_ok, ok_same, next_token}
use Rattle.lx_annot_terms.proofs.Steps.{step_once, steps_end}
use Rattle.lx_annot_laws.specs.Parts.{IsFurther}

module _ {A : Type 0} (mark : List ℕ) (closes : List Tok → Bool) (item : List A → List Tok → Read A) (part : List A → A → Part) where
  -- What is in the grammar is read.

  abbrev pub MarkCloses : Type 0
  MarkCloses = (t : Tok) (us : List Tok) → has mark (t ∷ []) ≡ true → closes (t ∷ us) ≡ true

  pub closes_behind : MarkCloses → (before xs : List A) (ts us : List Tok) → closes us ≡ true → IsFurther mark part before xs ts → closes (ts ++ us) ≡ true
  closes_behind m before [] ts us c e = subst (λ x. closes (x ++ us) ≡ true) (sym e) c
  closes_behind m before (x ∷ xs) ts us c (f, b, (t, o, g), p, w) = subst (λ x. closes (x ++ us) ≡ true) (sym (w ∙ ap (λ x. x ++ b) g)) (m t (b ++ us) o)

  pub further_read : MarkCloses → ((before : List A) (x : A) → ReadsBefore closes (item before) x (part before x)) → (fuel : ℕ) (before xs : List A) (ts us : List Tok) → length xs ≤ fuel → has mark us ≡ false → closes us ≡ true → IsFurther mark part before xs ts → steps_at (has mark) (adding_at item) fuel before (ts ++ us) ≡ Ok (before ++ xs, us)
  further_read m r fuel before [] ts us le h c e =
      ap (λ x. steps_at (has mark) (adding_at item) fuel before (x ++ us)) e ∙ steps_end (has mark) (adding_at item) fuel before us h ∙ ap (λ b. Ok (b, us)) (sym (append-nil before))
  further_read m r zero before (x ∷ xs) ts us le h c p = absurd (omega (arith, le))
  further_read m r (suc n) before (x ∷ xs) ts us le h c (f, b, (t, o, g), (f', b', p, q, w'), w) =
      let whole : ts ++ us ≡ t ∷ (f' ++ (b' ++ us)) = ap (λ x. x ++ us) (w ∙ ap (λ x. x ++ b) g ∙ ap (λ x. t ∷ x) w') ∙ ap (λ x. t ∷ x) (append_assoc f' b' us) in
      let one : item before (f' ++ (b' ++ us)) ≡ Ok (x, b' ++ us) = r before x f' (b' ++ us) (closes_behind m (before ++ x ∷ []) xs b' us c q) p in
      let added : adding_at item before (t ∷ (f' ++ (b' ++ us))) ≡ Ok (before ++ x ∷ [], b' ++ us) = rw one refl in
      ap (steps_at (has mark) (adding_at item) (suc n) before) whole
      ∙ step_once (has mark) (adding_at item) n before (before ++ x ∷ []) (t ∷ (f' ++ (b' ++ us))) (b' ++ us) o added
      ∙ further_read m r n (before ++ x ∷ []) xs b' us (omega (arith, le)) h c q
      ∙ ap (λ b. Ok (b, us)) (append_assoc before (x ∷ []) xs)

  -- What is read is in the grammar.

  pub record Found (fuel : ℕ) (before all : List A) (ts us : List Tok) : Type 0 where
    pub values : List A
    pub front : List Tok
    pub are : all ≡ before ++ values
    pub is : IsFurther mark part before values front
    pub whole : ts ≡ front ++ us
    pub room : length values ≤ fuel

  nothing : (fuel : ℕ) (before all : List A) (ts us : List Tok) (r : Read (List A)) → r ≡ Ok (before, ts) → r ≡ Ok (all, us) → Found fuel before all ts us
  nothing fuel before all ts us r a e =
      let k = ok_same before all ts us (sym a ∙ e) in
      record { values = []; front = []; are = sym k.0 ∙ sym (append-nil before); is = refl; whole = k.1; room = omega arith }

  abbrev stepped : ℕ → List A → List Tok → Bool → Read (List A)
  stepped n before ts b = if b then (adding_at item before ts >>= λ x. steps_at (has mark) (adding_at item) n x.0 x.1) else Ok (before, ts)

  abbrev pub Onward : ℕ → Type 0
  Onward n = (before all : List A) (ts us : List Tok) → steps_at (has mark) (adding_at item) n before ts ≡ Ok (all, us) → Found n before all ts us

  one_more : ((before : List A) → Finds (item before) (part before)) → (n : ℕ) → Onward n → (before all : List A) (ts us : List Tok) (b : Bool) → has mark ts ≡ b → stepped n before ts b ≡ Ok (all, us) → Found (suc n) before all ts us
  one_more h n on before all ts us false o e = nothing (suc n) before all ts us (Ok (before, ts)) refl e
  one_more h n on before all ts us true o e =
      let a = bind_ok (adding_at item before ts) (λ x. steps_at (has mark) (adding_at item) n x.0 x.1) (all, us) e in
      let b = bind_ok (item before (behind ts)) (λ x. Ok (before ++ x.0 ∷ [], x.1)) a.0 a.1 in
      let k = ok_same (before ++ b.0.0 ∷ []) a.0.0 b.0.1 a.0.1 b.2 in
      let w = h before (behind ts) b.0.1 b.0.0 b.1 in
      let t = next_token mark ts o in
      let m = on (before ++ b.0.0 ∷ []) all b.0.1 us (ap (λ y. steps_at (has mark) (adding_at item) n y b.0.1) k.0 ∙ ap (steps_at (has mark) (adding_at item) n a.0.0) k.1 ∙ a.2) in
      record {
        values = b.0.0 ∷ m.values;
        front = t.token ∷ (w.0 ++ m.front);
        are = m.are ∙ append_assoc before (b.0.0 ∷ []) m.values;
        is = (t.token ∷ [], w.0 ++ m.front, (t.token, t.is, refl), (w.0, m.front, w.1, m.is, refl), refl);
        whole = t.whole ∙ ap (λ x. t.token ∷ x) (w.2 ∙ ap (λ x. w.0 ++ x) m.whole ∙ sym (append_assoc w.0 m.front us));
        room = omega (arith, m.room);
      }

  pub further_found : ((before : List A) → Finds (item before) (part before)) → (n : ℕ) → Onward n
  unfolding steps_at
  further_found h zero before all ts us e = nothing zero before all ts us (Ok (before, ts)) refl e
  further_found h (suc n) before all ts us e = one_more h n (further_found h n) before all ts us (has mark ts) refl e
