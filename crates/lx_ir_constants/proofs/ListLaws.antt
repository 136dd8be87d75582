-- Lists: what is in the grammar is read, and what is read is in the grammar.
use Rattle.std.proofs.Common.{◌≡◌, ℕ, zero, suc, ◌+◌, ◌≤◌, ◌<◌, Bool, true, false, List, [], ◌∷◌, ◌++◌, length, Result, Ok, Err, refl, sym, ap, ◌∙◌, subst, append_assoc, arith}
use Rattle.std.specs.Prelude.{if◌then◌else◌}
use Rattle.std.proofs.lemmas.List.{length-append}
use Rattle.lx_ir_tokens.specs.declared.token.Tok.{Tok}
use Rattle.lx_ir_tokens.specs.declared.token.Mark.{Mark}
use Rattle.lx_ir_tokens.specs.declared.token.Mark.TheVariants.{Comma}
use Rattle.lx_ir_terms.specs.Reading.{Read, ◌>>=◌, has, behind, is_mark, same_mark, next_at, mark_at, more_at, items_at, closed_at}
use Rattle.lx_ir_terms.specs.Grammar.{Part, Is, IsMark, ◌then◌}
use Rattle.lx_ir_terms.specs.Laws.{Reads, Finds}
use Rattle.lx_ir_terms.proofs.Marks.{other_mark, Next, next_token}
use Rattle.lx_ir_terms.proofs.Parts.{Joined, Mapped, next_finds, bind_finds, last_finds, ok_same}
use Rattle.lx_ir_constants.specs.Grammar.{AreFurther, AreItems}

-- further items up to a token that is no comma
abbrev FurtherAgain : {A : Type 0} → (List Tok → Read A) → (A → Part) → List A → Type 0
FurtherAgain item part xs = (fuel : ℕ) (ts us : List Tok) → AreFurther part xs ts → length (ts ++ us) ≤ fuel → has (is_mark Comma) us ≡ false → more_at item fuel (ts ++ us) ≡ Ok (xs, us)

further_again : {A : Type 0} (item : List Tok → Read A) (part : A → Part) → ((x : A) → Reads item x (part x)) → (xs : List A) → FurtherAgain item part xs
unfolding more_at
further_again item part h [] zero ts us e le c = rw e refl
further_again item part h [] (suc fuel) ts us e le c = rw (e, c) refl
further_again item part h (x ∷ xs) zero ts us (f, b, (c, e, g), r, w) le n =
    let none_left : length (ts ++ us) ≡ suc (length (b ++ us)) = rw (w, g) refl in absurd (omega arith)
further_again item part h (x ∷ xs) (suc fuel) ts us (f, b, (c, e, g), (f', b', i, m, w'), w) le n =
    let whole : ts ++ us ≡ c ∷ (f' ++ (b' ++ us)) = rw (w, g, w') (ap (λ r. c ∷ r) (append_assoc f' b' us)) in
    let size : length (ts ++ us) ≡ suc (length f' + length (b' ++ us)) = ap length whole ∙ ap suc (length-append f' (b' ++ us)) in
    rw (whole, e, h x f' (b' ++ us) i, further_again item part h xs fuel b' us m (omega arith) n) refl

-- one item or more, up to a token that is no comma
pub items_again : {A : Type 0} (item : List Tok → Read A) (part : A → Part) → ((x : A) → Reads item x (part x)) → (xs : List A) (ts us : List Tok) → AreItems part xs ts → has (is_mark Comma) us ≡ false → items_at item (ts ++ us) ≡ Ok (xs, us)
items_again item part h [] ts us e c = absurd e
items_again item part h (x ∷ xs) ts us (f, b, i, m, w) c =
    let whole : ts ++ us ≡ f ++ (b ++ us) = rw w (append_assoc f b us) in
    rw (whole, h x f (b ++ us) i, further_again item part h xs (length (b ++ us)) b us m (omega arith) c) refl

pub closed_again : {A : Type 0} (close : Mark) (item : List Tok → Read A) (part : A → Part) → same_mark close Comma ≡ false → ((x : A) → Reads item x (part x)) → (xs : List A) → Reads (closed_at close item) xs (AreItems part xs then IsMark close)
closed_again close item part d h [] ts us (f, b, e, r, w) = absurd e
closed_again close item part d h (x ∷ xs) ts us (f, b, (f', b', i, m, w'), (c, e, g), w) =
    let whole : ts ++ us ≡ f' ++ (b' ++ (c ∷ us)) = rw (w, g, w') (append_assoc (f' ++ b') (c ∷ []) us ∙ append_assoc f' b' (c ∷ us)) in
    rw (whole, h x f' (b' ++ (c ∷ us)) i, further_again item part h xs (length (b' ++ (c ∷ us))) b' (c ∷ us) m (omega arith) (other_mark close Comma (c ∷ us) d e), e) refl

-- what is found in some tokens
abbrev pub Found : {A : Type 0} → (A → Part) → A → List Tok → List Tok → Type 0
Found part x ts us = (front : List Tok) × part x front × (ts ≡ front ++ us)

abbrev one_more : {A : Type 0} → (List Tok → Read A) → (List Tok → Read (List A)) → List Tok → Read (List A)
one_more item rest ts = do
  x ← item ts
  xs ← rest x.1
  Ok (x.0 ∷ xs.0, xs.1)

abbrev more_by : {A : Type 0} → Bool → (List Tok → Read A) → (List Tok → Read (List A)) → List Tok → Read (List A)
more_by b item rest ts = if b then one_more item rest (behind ts) else Ok ([], ts)

abbrev SomeParts : {A : Type 0} → (A → Part) → List A → Part
SomeParts {A} part = Joined part (λ x. Mapped (λ (xs : List A). x ∷ xs) (AreFurther part))

items_part : {A : Type 0} (part : A → Part) (xs : List A) (ts : List Tok) → SomeParts part xs ts → AreItems part xs ts
items_part part xs ts (x, (f, b, p, (ys, m, eq), e)) = subst (λ zs. AreItems part zs ts) eq (f, b, p, m, e)

comma_part : {A : Type 0} (part : A → Part) (xs : List A) (k : Tok) (ts : List Tok) → is_mark Comma k.kind ≡ true → SomeParts part xs ts → AreFurther part xs (k ∷ ts)
comma_part part xs k ts o (x, (f, b, p, (ys, m, eq), e)) = subst (λ zs. AreFurther part zs (k ∷ ts)) eq (k ∷ [], ts, (k, o, refl), (f, b, p, m, e), refl)

some_found : {A : Type 0} (item : List Tok → Read A) (rest : List Tok → Read (List A)) (part : A → Part) → Finds item part → Finds rest (AreFurther part) → Finds (one_more item rest) (SomeParts part)
some_found item rest part h k ts us xs e = bind_finds item (λ x. rest x.1 >>= λ xs. Ok (x.0 ∷ xs.0, xs.1)) part _ h (λ x. last_finds rest (λ xs. x ∷ xs) (AreFurther part) k) ts us xs e

further_step : {A : Type 0} (item : List Tok → Read A) (rest : List Tok → Read (List A)) (part : A → Part) → Finds item part → Finds rest (AreFurther part) → (b : Bool) (ts us : List Tok) (xs : List A) → has (is_mark Comma) ts ≡ b → more_by b item rest ts ≡ Ok (xs, us) → Found (AreFurther part) xs ts us
further_step item rest part h k false ts us xs c e =
    let s = ok_same [] xs ts us e in
    subst (λ ys. Found (AreFurther part) ys ts us) s.0 ([], refl, s.1)
further_step item rest part h k true ts us xs c e =
    let n = next_token (is_mark Comma) ts c in
    let w = some_found item rest part h k (behind ts) us xs e in
    (n.token ∷ w.0, comma_part part xs n.token w.0 n.kind w.1, n.whole ∙ ap (λ r. n.token ∷ r) w.2)

further_found : {A : Type 0} (item : List Tok → Read A) (part : A → Part) → Finds item part → (fuel : ℕ) → Finds (more_at item fuel) (AreFurther part)
unfolding more_at
further_found item part h zero ts us xs e =
    let s = ok_same [] xs ts us e in
    subst (λ ys. Found (AreFurther part) ys ts us) s.0 ([], refl, s.1)
further_found item part h (suc fuel) ts us xs e = further_step item (more_at item fuel) part h (further_found item part h fuel) (has (is_mark Comma) ts) ts us xs refl e

pub items_found : {A : Type 0} (item : List Tok → Read A) (part : A → Part) → Finds item part → Finds (items_at item) (AreItems part)
items_found item part h ts us xs e =
    let w = some_found item (λ us. more_at item (length us) us) part h (λ ts us xs e. further_found item part h (length ts) ts us xs e) ts us xs e in
    (w.0, items_part part xs w.0 w.1, w.2)

abbrev ClosedParts : {A : Type 0} → (A → Part) → Mark → List A → Part
ClosedParts part close = Joined (AreItems part) (λ xs. Mapped (λ (c : Unit {0}). xs) (λ c. IsMark close))

closed_part : {A : Type 0} (part : A → Part) (close : Mark) (xs : List A) (ts : List Tok) → ClosedParts part close xs ts → (AreItems part xs then IsMark close) ts
closed_part part close xs ts (ys, (f, b, p, (c, m, eq), e)) = subst (λ zs. (AreItems part zs then IsMark close) ts) eq (f, b, p, m, e)

pub closed_found : {A : Type 0} (close : Mark) (item : List Tok → Read A) (part : A → Part) → Finds item part → Finds (closed_at close item) (λ xs. AreItems part xs then IsMark close)
closed_found close item part h ts us xs e =
    let w = bind_finds (items_at item) (λ xs. mark_at close xs.1 >>= λ c. Ok (xs.0, c.1)) (AreItems part) _ (items_found item part h) (λ xs. last_finds (mark_at close) (λ c. xs) _ (next_finds (is_mark close))) ts us xs e in
    (w.0, closed_part part close xs w.0 w.1, w.2)
