-- Lists with commas between their items, up to metadata.
use Rattle.std.proofs.Common.{◌≡◌, Bool, true, false, List, [], ◌∷◌, ◌++◌, length, Ok, refl, sym, ap, ◌∙◌, subst, append_assoc, arith}
use Rattle.std.specs.Prelude.{not, if◌then◌else◌}
use Rattle.lx_ir_tokens.specs.declared.token.Tok.{Tok}
use Rattle.lx_ir_tokens.specs.declared.token.Mark.TheVariants.{Comma, Exclamation}
use Rattle.lx_ir_terms.specs.Reading.{Read, ◌>>=◌, has, behind, is_mark}
use Rattle.lx_ir_terms.specs.Grammar.{Part, IsMark, ◌then◌}
use Rattle.lx_ir_terms.specs.Laws.{Reads, Finds}
use Rattle.lx_ir_terms.proofs.Parts.{Joined, Mapped, behind_reads, bind_finds, last_finds}
use Rattle.lx_ir_constants.specs.Grammar.{AreFurther, AreItems}
use Rattle.lx_ir_operands.specs.Steps.{has_further, items_while, unbroken_at}
use Rattle.lx_ir_operands.specs.Grammar.{AreInRow}
use Rattle.lx_ir_operands.proofs.Repeats.{is_filled, then_filled, behind_found, GoesThrough, row_again, row_found}

-- a part does not begin with an exclamation mark
abbrev pub NoMetadata : Part → Type 0
NoMetadata p = (ts us : List Tok) → p ts → has (is_mark Exclamation) (ts ++ us) ≡ false

-- a comma and such a part behind it go on with a list
pub further_with : (p : Part) → NoMetadata p → (ts us : List Tok) → (IsMark Comma then p) ts → has_further (ts ++ us) ≡ true
further_with p n ts us (c, f, (t, k, e), q, w) = rw (w, e, k, n f us q) refl

further_by : (b : Bool) (c : Bool) → (if b then not c else false) ≡ true → b ≡ true
further_by true c h = refl
further_by false c h = cc

-- where a list goes on, a comma stands
pub further_comma : (ts : List Tok) → has_further ts ≡ true → has (is_mark Comma) ts ≡ true
further_comma ts h = further_by (has (is_mark Comma) ts) (has (is_mark Exclamation) (behind ts)) h

-- an item behind its comma
abbrev pub WithComma : {A : Type 0} → (A → Part) → A → Part
WithComma part x = IsMark Comma then part x

further_row : {A : Type 0} (part : A → Part) (xs : List A) (ts : List Tok) → AreFurther part xs ts → AreInRow (WithComma part) xs ts
further_row part [] ts e = e
further_row part (x ∷ xs) ts (c, r, k, (f, b, p, m, v), w) = (c ++ f, b, (c, f, k, p, refl), further_row part xs b m, w ∙ (ap (λ z. c ++ z) v ∙ sym (append_assoc c f b)))

row_further : {A : Type 0} (part : A → Part) (xs : List A) (ts : List Tok) → AreInRow (WithComma part) xs ts → AreFurther part xs ts
row_further part [] ts e = e
row_further part (x ∷ xs) ts (d, b, (c, f, k, p, v), m, w) = (c, f ++ b, k, (f, b, p, row_further part xs b m, refl), w ∙ (ap (λ z. z ++ b) v ∙ append_assoc c f b))

pub goes_through : {A : Type 0} (item : List Tok → Read A) (part : A → Part) → ((x : A) → Reads item x (part x)) → ((x : A) → NoMetadata (part x)) → GoesThrough has_further (λ us. item (behind us)) (WithComma part)
goes_through item part h n =
    record {
      filled = λ x ts q. then_filled (IsMark Comma) (part x) ts (is_filled (is_mark Comma)) q;
      goes = λ x ts us q. further_with (part x) (n x) ts us q;
      reads = λ x ts us q. (behind_reads (is_mark Comma) (part x) item x ts us q (h x)).1;
    }

-- items are read up to what is no further one
pub unbroken_again : {A : Type 0} (item : List Tok → Read A) (part : A → Part) → ((x : A) → Reads item x (part x)) → ((x : A) → NoMetadata (part x)) → (xs : List A) (ts us : List Tok) → has_further us ≡ false → AreItems part xs ts → unbroken_at item (ts ++ us) ≡ Ok (xs, us)
unbroken_again item part h n [] ts us d e = absurd e
unbroken_again item part h n (x ∷ xs) ts us d (f, b, p, m, w) =
    let whole : ts ++ us ≡ f ++ (b ++ us) = rw w (append_assoc f b us) in
    rw (whole, h x f (b ++ us) p, row_again has_further (λ vs. item (behind vs)) (WithComma part) (goes_through item part h n) xs (length (b ++ us)) b us (further_row part xs b m) (omega arith) d) refl

abbrev UnbrokenParts : {A : Type 0} → (A → Part) → List A → Part
UnbrokenParts {A} part = Joined part (λ x. Mapped (λ (xs : List A). x ∷ xs) (AreInRow (WithComma part)))

unbroken_part : {A : Type 0} (part : A → Part) (xs : List A) (ts : List Tok) → UnbrokenParts part xs ts → AreItems part xs ts
unbroken_part part xs ts (x, (f, b, p, (ys, m, eq), e)) = subst (λ zs. AreItems part zs ts) eq (f, b, p, row_further part ys b m, e)

further_found : {A : Type 0} (item : List Tok → Read A) (part : A → Part) → Finds item part → Finds (λ us. items_while has_further (λ vs. item (behind vs)) (length us) us) (AreInRow (WithComma part))
further_found item part h ts us xs e =
    row_found has_further (λ vs. item (behind vs)) (WithComma part) (λ ws vs x g i. behind_found (is_mark Comma) item part h ws vs x (further_comma ws g) i) (length ts) ts us xs e

-- what is read are items
pub unbroken_found : {A : Type 0} (item : List Tok → Read A) (part : A → Part) → Finds item part → Finds (unbroken_at item) (AreItems part)
unbroken_found item part h ts us xs e =
    let w = bind_finds item (λ x. items_while has_further (λ vs. item (behind vs)) (length x.1) x.1 >>= λ xs. Ok (x.0 ∷ xs.0, xs.1)) part _ h (λ x. last_finds (λ us. items_while has_further (λ vs. item (behind vs)) (length us) us) (λ xs. x ∷ xs) (AreInRow (WithComma part)) (further_found item part h)) ts us xs e in
    (w.0, unbroken_part part xs w.0 w.1, w.2)
