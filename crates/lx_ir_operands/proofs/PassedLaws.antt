-- Metadata, alignments, and the words at an argument or result.
use Rattle.std.proofs.Common.{◌≡◌, ℕ, zero, suc, Bool, true, false, List, [], ◌∷◌, ◌++◌, length, Ok, Err, inl, inr, refl, sym, ap, ◌∙◌, subst, arith}
use Rattle.std.specs.Prelude.{if◌then◌else◌}
use Rattle.lx_ir_tokens.specs.declared.token.Tok.{Tok}
use Rattle.lx_ir_tokens.specs.declared.token.Kind.{Kind}
use Rattle.lx_ir_tokens.specs.declared.token.Kind.TheVariants as kinds
use Rattle.lx_ir_tokens.specs.declared.token.Mark.TheVariants.{Comma, Exclamation, OpenParenthesis, CloseParenthesis}
use Rattle.lx_ir_tokens.specs.declared.keyword.Keyword.TheVariants as keywords
use Rattle.lx_ir_terms.specs.Reading.{Read, ◌>>=◌, has, behind, is_mark, pick_at, next_at, mark_at}
use Rattle.lx_ir_terms.specs.Types.{count_in, count_at, always_refused}
use Rattle.lx_ir_terms.specs.Words.{is_passed, is_nothing_word, count_over, enclosed_count_at, enclosed_nothing_at, tail_at, word_of_kind, first_word, words_at, passed_at}
use Rattle.lx_ir_terms.specs.Grammar.{Part, Picks, Is, IsMark, ◌then◌}
use Rattle.lx_ir_terms.specs.Laws.{Reads, Finds}
use Rattle.lx_ir_terms.proofs.Parts.{ok_same, pick_reads, next_reads, bind_reads, last_reads, behind_reads, pick_finds, next_finds, last_finds}
use Rattle.lx_ir_constants.specs.Constants.{when, word_refusal}
use Rattle.lx_ir_constants.proofs.PointerLaws.{form_reads, form_finds}
use Rattle.lx_ir_operands.specs.Steps.{steps_at, has_further, is_metadata_name, one_metadata_at, has_comma, metadata_at, is_align, one_align_at, align_at}
use Rattle.lx_ir_operands.specs.Grammar.{Repeated, IsCount, IsMetadata, IsAlign, is_kind, IsPassed}
use Rattle.lx_ir_operands.proofs.Repeats.{is_filled, then_filled, behind_found, GoesOver, times_again, Front, StepFinds, steps_found}
use Rattle.lx_ir_operands.proofs.Unbroken.{NoMetadata, further_with, further_comma}
use Rattle.lx_ir_operands.proofs.Chains.{then_finds}

-- A number that is passed over.

pub count_reads : Reads count_over tt IsCount
count_reads ts us (n, p) = last_reads count_at (λ m. tt) n (Picks (λ t. count_in t.kind) n) (pick_reads (λ t. count_in t.kind) always_refused n) ts us p

pub count_finds : Finds count_over (λ x. IsCount)
count_finds ts us x e =
    let w = last_finds count_at (λ m. tt) (Picks (λ t. count_in t.kind)) (pick_finds (λ t. count_in t.kind) always_refused) ts us x e in
    (w.0, (w.1.0, w.1.1), w.2)

-- Metadata.

-- `!name !N`
abbrev pub IsName : Part
IsName = IsMark Exclamation then Is is_metadata_name then IsMark Exclamation then IsCount

name_reads : Reads one_metadata_at tt IsName
name_reads =
    bind_reads (mark_at Exclamation) (λ e. pick_at (λ t. when (is_metadata_name t.kind)) word_refusal e.1 >>= λ n. mark_at Exclamation n.1 >>= λ f. count_over f.1) tt tt _ _ (next_reads (is_mark Exclamation))
    (bind_reads (pick_at (λ t. when (is_metadata_name t.kind)) word_refusal) (λ n. mark_at Exclamation n.1 >>= λ f. count_over f.1) tt tt _ _ (form_reads is_metadata_name word_refusal)
    (bind_reads (mark_at Exclamation) (λ f. count_over f.1) tt tt _ _ (next_reads (is_mark Exclamation)) count_reads))

pub name_finds : Finds one_metadata_at (λ x. IsName)
name_finds =
    then_finds (mark_at Exclamation) (λ e. pick_at (λ t. when (is_metadata_name t.kind)) word_refusal e.1 >>= λ n. mark_at Exclamation n.1 >>= λ f. count_over f.1) _ _ (next_finds (is_mark Exclamation))
    (λ x. then_finds (pick_at (λ t. when (is_metadata_name t.kind)) word_refusal) (λ n. mark_at Exclamation n.1 >>= λ f. count_over f.1) _ _ (form_finds is_metadata_name word_refusal)
    (λ y. then_finds (mark_at Exclamation) (λ f. count_over f.1) _ _ (next_finds (is_mark Exclamation)) (λ z. count_finds)))

abbrev pub Anything : List Tok → Type 0
Anything ts = Unit {0}

pub over_metadata : GoesOver has_comma (λ us. one_metadata_at (behind us)) IsMetadata Anything
over_metadata =
    record {
      filled = λ ts q. then_filled (IsMark Comma) IsName ts (is_filled (is_mark Comma)) q;
      goes = λ ts us q b. (behind_reads (is_mark Comma) IsName one_metadata_at tt ts us q name_reads).0;
      reads = λ ts us q b. (behind_reads (is_mark Comma) IsName one_metadata_at tt ts us q name_reads).1;
      keeps = λ ts us q b. tt;
    }

pub metadata_again : (x : Unit {0}) (ts us : List Tok) → has_comma us ≡ false → Repeated IsMetadata ts → metadata_at (ts ++ us) ≡ Ok (x, us)
metadata_again x ts us c (n, m) = times_again has_comma (λ vs. one_metadata_at (behind vs)) IsMetadata Anything over_metadata n (length (ts ++ us)) ts us m tt (omega arith) c

pub metadata_found : Finds metadata_at (λ x. Repeated IsMetadata)
metadata_found ts us x e =
    steps_found has_comma (λ vs. one_metadata_at (behind vs)) IsMetadata (λ ws vs y c i. behind_found (is_mark Comma) one_metadata_at (λ z. IsName) name_finds ws vs y c i) (length ts) ts us x e

-- An alignment.

-- `align N`
abbrev IsOneAlign : Part
IsOneAlign = Is is_align then IsCount

one_align_reads : Reads one_align_at tt IsOneAlign
one_align_reads = bind_reads (pick_at (λ t. when (is_align t.kind)) word_refusal) (λ a. count_over a.1) tt tt _ _ (form_reads is_align word_refusal) count_reads

one_align_finds : Finds one_align_at (λ x. IsOneAlign)
one_align_finds = then_finds (pick_at (λ t. when (is_align t.kind)) word_refusal) (λ a. count_over a.1) _ _ (form_finds is_align word_refusal) (λ x. count_finds)

align_is_no_mark : (k : Kind) → is_align k ≡ true → is_mark Exclamation k ≡ false
align_is_no_mark (kinds.Word w) h = refl
align_is_no_mark k h = cc

align_no_metadata : NoMetadata IsOneAlign
align_no_metadata ts us (f, b, (t, k, e), c, w) = rw (w, e) (align_is_no_mark t.kind k)

abbrev pub align_by : Bool → List Tok → Read (Unit {0})
align_by b ts = if b then one_align_at (behind ts) else Ok (tt, ts)

align_at_test : (b : Bool) (ts : List Tok) → has_further ts ≡ b → align_at ts ≡ align_by b ts
align_at_test b ts h = ap (λ c. align_by c ts) h

pub align_again : (x : Unit {0}) (ts us : List Tok) → has_further us ≡ false → IsAlign ts → align_at (ts ++ us) ≡ Ok (x, us)
align_again x ts us h (inl e) = subst (λ r. align_at (r ++ us) ≡ Ok (x, us)) (sym e) (align_at_test false us h)
align_again x ts us h (inr q) =
    align_at_test true (ts ++ us) (further_with IsOneAlign align_no_metadata ts us q)
    ∙ (behind_reads (is_mark Comma) IsOneAlign one_align_at tt ts us q one_align_reads).1

align_step : (b : Bool) (ts us : List Tok) (x : Unit {0}) → has_further ts ≡ b → align_by b ts ≡ Ok (x, us) → Front IsAlign ts us
align_step false ts us x g e = ([], inl refl, (ok_same tt x ts us e).1)
align_step true ts us x g e =
    let w = behind_found (is_mark Comma) one_align_at (λ y. IsOneAlign) one_align_finds ts us x (further_comma ts g) e in
    (w.0, inr w.1, w.2)

pub align_found : Finds align_at (λ x. IsAlign)
align_found ts us x e = align_step (has_further ts) ts us x refl e

-- Words at an argument or result.

pub parameter_is : (k : Kind) → is_kind keywords.Parameter k ≡ true → k ≡ kinds.Word keywords.Parameter
parameter_is (kinds.Word keywords.Parameter) h = refl
parameter_is k h = cc

pub align_is : (k : Kind) → is_kind keywords.Align k ≡ true → k ≡ kinds.Word keywords.Align
align_is (kinds.Word keywords.Align) h = refl
align_is k h = cc

pub dereferenceable_is : (k : Kind) → is_kind keywords.Dereferenceable k ≡ true → k ≡ kinds.Word keywords.Dereferenceable
dereferenceable_is (kinds.Word keywords.Dereferenceable) h = refl
dereferenceable_is k h = cc

pub captures_is : (k : Kind) → is_kind keywords.Captures k ≡ true → k ≡ kinds.Word keywords.Captures
captures_is (kinds.Word keywords.Captures) h = refl
captures_is k h = cc

-- `(N)`
abbrev IsEnclosedCount : Part
IsEnclosedCount = IsMark OpenParenthesis then IsCount then IsMark CloseParenthesis

closed_count_reads : Reads (λ ts. count_at ts >>= λ n. mark_at CloseParenthesis n.1) tt (IsCount then IsMark CloseParenthesis)
closed_count_reads ts us (f, b, (n, p), m, w) =
    bind_reads count_at (λ n. mark_at CloseParenthesis n.1) n tt _ _ (pick_reads (λ t. count_in t.kind) always_refused n) (next_reads (is_mark CloseParenthesis)) ts us (f, b, p, m, w)

enclosed_count_reads : Reads enclosed_count_at tt IsEnclosedCount
enclosed_count_reads = bind_reads (mark_at OpenParenthesis) (λ o. count_at o.1 >>= λ n. mark_at CloseParenthesis n.1) tt tt _ _ (next_reads (is_mark OpenParenthesis)) closed_count_reads

some_count_finds : Finds count_at (λ n. IsCount)
some_count_finds ts us n e =
    let w = pick_finds (λ t. count_in t.kind) always_refused ts us n e in
    (w.0, (n, w.1), w.2)

enclosed_count_finds : Finds enclosed_count_at (λ x. IsEnclosedCount)
enclosed_count_finds =
    then_finds (mark_at OpenParenthesis) (λ o. count_at o.1 >>= λ n. mark_at CloseParenthesis n.1) _ _ (next_finds (is_mark OpenParenthesis))
    (λ x. then_finds count_at (λ n. mark_at CloseParenthesis n.1) _ _ some_count_finds (λ n. next_finds (is_mark CloseParenthesis)))

-- `(none)`
abbrev IsEnclosedNothing : Part
IsEnclosedNothing = IsMark OpenParenthesis then Is is_nothing_word then IsMark CloseParenthesis

enclosed_nothing_reads : Reads enclosed_nothing_at tt IsEnclosedNothing
enclosed_nothing_reads =
    bind_reads (mark_at OpenParenthesis) (λ o. next_at is_nothing_word o.1 >>= λ n. mark_at CloseParenthesis n.1) tt tt _ _ (next_reads (is_mark OpenParenthesis))
    (bind_reads (next_at is_nothing_word) (λ n. mark_at CloseParenthesis n.1) tt tt _ _ (next_reads is_nothing_word) (next_reads (is_mark CloseParenthesis)))

enclosed_nothing_finds : Finds enclosed_nothing_at (λ x. IsEnclosedNothing)
enclosed_nothing_finds =
    then_finds (mark_at OpenParenthesis) (λ o. next_at is_nothing_word o.1 >>= λ n. mark_at CloseParenthesis n.1) _ _ (next_finds (is_mark OpenParenthesis))
    (λ x. then_finds (next_at is_nothing_word) (λ n. mark_at CloseParenthesis n.1) _ _ (next_finds is_nothing_word) (λ y. next_finds (is_mark CloseParenthesis)))

-- a word, and what stands behind it
pub record OneWord (ts : List Tok) : Type 0 where
  pub token : Tok
  pub rest : List Tok
  pub whole : ts ≡ token ∷ rest
  pub passed : (linkage : Bool) → is_passed linkage token.kind ≡ true
  pub tail : (us : List Tok) → tail_at (word_of_kind token.kind) (rest ++ us) ≡ Ok (tt, us)

pub one_word : (ts : List Tok) → IsPassed ts → OneWord ts
one_word ts (inl (t, k, e)) = record { token = t; rest = []; whole = e; passed = λ linkage. rw (parameter_is t.kind k) refl; tail = λ us. rw (parameter_is t.kind k) refl }
one_word ts (inr (inl (f, b, (t, k, e), c, w))) =
    record { token = t; rest = b; whole = w ∙ ap (λ r. r ++ b) e; passed = λ linkage. rw (align_is t.kind k) refl; tail = λ us. rw (align_is t.kind k) (count_reads b us c) }
one_word ts (inr (inr (inl (f, b, (t, k, e), c, w)))) =
    record { token = t; rest = b; whole = w ∙ ap (λ r. r ++ b) e; passed = λ linkage. rw (dereferenceable_is t.kind k) refl; tail = λ us. rw (dereferenceable_is t.kind k) (enclosed_count_reads b us c) }
one_word ts (inr (inr (inr (f, b, (t, k, e), c, w)))) =
    record { token = t; rest = b; whole = w ∙ ap (λ r. r ++ b) e; passed = λ linkage. rw (captures_is t.kind k) refl; tail = λ us. rw (captures_is t.kind k) (enclosed_nothing_reads b us c) }

-- going over a word, as a step
abbrev pub over_word : List Tok → Read (Unit {0})
over_word ts = tail_at (first_word ts) (behind ts)

pub over_words : GoesOver (has (is_passed false)) over_word IsPassed Anything
over_words =
    record {
      filled = λ ts q. (let o = one_word ts q in let size : length ts ≡ suc (length o.rest) = ap length o.whole in omega (arith, size));
      goes = λ ts us q b. (let o = one_word ts q in rw o.whole (o.passed false));
      reads = λ ts us q b. (let o = one_word ts q in rw o.whole (o.tail us));
      keeps = λ ts us q b. tt;
    }

over_same : (read : Read (Unit {0})) (x y : List Tok → Read (Unit {0})) → ((us : List Tok) → x us ≡ y us) → (read >>= λ w. x w.1) ≡ (read >>= λ w. y w.1)
over_same (Ok w) x y h = h w.1
over_same (Err f) x y h = refl

words_step : (ts : List Tok) (b : Bool) (x y : List Tok → Read (Unit {0})) → ((us : List Tok) → x us ≡ y us) → (if b then (over_word ts >>= λ w. x w.1) else Ok (tt, ts)) ≡ (if b then (over_word ts >>= λ w. y w.1) else Ok (tt, ts))
words_step ts false x y h = refl
words_step ts true x y h = over_same (over_word ts) x y h

-- reading the words as steps
pub words_are_steps : (linkage : Bool) (n : ℕ) (ts : List Tok) → words_at linkage n ts ≡ steps_at (has (is_passed linkage)) over_word n ts
unfolding words_at steps_at
words_are_steps linkage zero ts = refl
words_are_steps linkage (suc n) ts = words_step ts (has (is_passed linkage) ts) (words_at linkage n) (steps_at (has (is_passed linkage)) over_word n) (words_are_steps linkage n)

pub passed_again : (x : Unit {0}) (ts us : List Tok) → has (is_passed false) us ≡ false → Repeated IsPassed ts → passed_at false (ts ++ us) ≡ Ok (x, us)
passed_again x ts us h (n, m) =
    words_are_steps false (length (ts ++ us)) (ts ++ us)
    ∙ times_again (has (is_passed false)) over_word IsPassed Anything over_words n (length (ts ++ us)) ts us m tt (omega arith) h

pub word_found : (t : Tok) (k : Kind) (ts us : List Tok) (x : Unit {0}) → t.kind ≡ k → is_passed false k ≡ true → tail_at (word_of_kind k) ts ≡ Ok (x, us) → Front IsPassed (t ∷ ts) us
word_found t (kinds.Word keywords.Parameter) ts us x g h e = (t ∷ [], inl (t, rw g refl, refl), ap (λ r. t ∷ r) (ok_same tt x ts us e).1)
word_found t (kinds.Word keywords.Align) ts us x g h e =
    let w = count_finds ts us x e in
    (t ∷ w.0, inr (inl (t ∷ [], w.0, (t, rw g refl, refl), w.1, refl)), ap (λ r. t ∷ r) w.2)
word_found t (kinds.Word keywords.Dereferenceable) ts us x g h e =
    let w = enclosed_count_finds ts us x e in
    (t ∷ w.0, inr (inr (inl (t ∷ [], w.0, (t, rw g refl, refl), w.1, refl))), ap (λ r. t ∷ r) w.2)
word_found t (kinds.Word keywords.Captures) ts us x g h e =
    let w = enclosed_nothing_finds ts us x e in
    (t ∷ w.0, inr (inr (inr (t ∷ [], w.0, (t, rw g refl, refl), w.1, refl))), ap (λ r. t ∷ r) w.2)
word_found t k ts us x g h e = cc

pub word_finds : StepFinds (has (is_passed false)) over_word IsPassed
word_finds [] us x h e = cc
word_finds (t ∷ ts) us x h e = word_found t t.kind ts us x refl h e

pub passed_found : Finds (passed_at false) (λ x. Repeated IsPassed)
passed_found ts us x e = steps_found (has (is_passed false)) over_word IsPassed word_finds (length ts) ts us x (sym (words_are_steps false (length ts) ts) ∙ e)
