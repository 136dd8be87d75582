-- Pointers: what is in the grammar is read, and what is read is in the grammar.
use Rattle.std.proofs.Common.{◌≡◌, Bool, true, false, Some, None, List, [], ◌∷◌, ◌++◌, Ok, refl, sym, ap, ◌∙◌, subst, append_assoc}
use Rattle.std.specs.Prelude.{if◌then◌else◌, ℤ}
use Rattle.std.specs.List.{list_all}
use Rattle.std.proofs.lemmas.Bool.{and_parts}
use Rattle.lx_ir_tokens.specs.declared.token.Tok.{Tok}
use Rattle.lx_ir_tokens.specs.declared.token.Kind.{Kind}
use Rattle.lx_ir_tokens.specs.declared.token.Kind.TheVariants as kinds
use Rattle.lx_ir_tokens.specs.declared.token.Mark.TheVariants.{Comma, OpenParenthesis, CloseParenthesis}
use Rattle.lx_words.specs.declared.word.Width.{Width}
use Rattle.lx_words.specs.Word.{Word, word_of_int}
use Rattle.lx_ir.specs.IrType.{IrType}
use Rattle.lx_ir.specs.declared.module.Pointer.{Pointer}
use Rattle.lx_ir_terms.specs.Context.{Context}
use Rattle.lx_ir_terms.specs.Reading.{Read, ◌>>=◌, at, refusal, has, behind, is_mark, is_to, pick_at, next_at, mark_at, closed_at}
use Rattle.lx_ir_terms.specs.Types.{integer_in, integer_at, scalar_refusal, depth_limit, written_type_at}
use Rattle.lx_ir_terms.specs.Grammar.{Part, Picks, Is, IsMark, ◌then◌, IsWritten}
use Rattle.lx_ir_terms.specs.Laws.{Reads, Finds}
use Rattle.lx_ir_terms.proofs.Marks.{mark_is, other_mark, Next, next_token}
use Rattle.lx_ir_terms.proofs.Parts.{Joined, Mapped, pick_reads, next_reads, bind_reads, last_reads, behind_reads, pick_finds, next_finds, bind_finds, last_finds, ok_same}
use Rattle.lx_ir_terms.proofs.Written.{written_again, written_found}
use Rattle.lx_ir_constants.specs.declared.element.Element.{Element}
use Rattle.lx_ir_constants.specs.Constants.{is_in_range, number_in, number_refusal, number_at, is_flag_word, skipped, when, word_refusal, opened_at, is_pointer_word, form_type_at, index_at, element_behind}
use Rattle.lx_ir_constants.specs.Grammar.{AreItems, AreFlags, IsOpened, IsIndex}
use Rattle.lx_ir_constants.proofs.ListLaws.{closed_again, closed_found}

-- A word or a mark that a form names.

when_true : (b : Bool) → b ≡ true → when b ≡ Some tt
when_true true e = refl
when_true false e = cc

pub when_some : (b : Bool) (x : Unit {0}) → when b ≡ Some x → b ≡ true
when_some true x e = refl
when_some false x e = cc

pub form_reads : (p : Kind → Bool) (how : _) → Reads (pick_at (λ t. when (p t.kind)) how) tt (Is p)
form_reads p how ts us (t, e, f) = rw (f, e) refl

pub form_finds : (p : Kind → Bool) (how : _) → Finds (pick_at (λ t. when (p t.kind)) how) (λ x. Is p)
form_finds p how ts us x e =
    let w = pick_finds (λ t. when (p t.kind)) how ts us x e in
    (w.0, (w.1.0, when_some (p w.1.0.kind) x w.1.1, w.1.2), w.2)

-- Flags and the parenthesis behind them.

no_flag : (k : Kind) → is_mark OpenParenthesis k ≡ true → is_flag_word k ≡ false
no_flag k h = ap is_flag_word (mark_is OpenParenthesis k h)

pub flags_over : (fs vs : List Tok) → AreFlags fs → has is_flag_word vs ≡ false → skipped is_flag_word (fs ++ vs) ≡ vs
flags_over [] [] e n = refl
flags_over [] (t ∷ vs) e n = rw n refl
flags_over (f ∷ fs) vs e n =
    let s = and_parts (is_flag_word f.kind) (list_all (λ u. is_flag_word u.kind) fs) e in
    rw s.0 (flags_over fs vs s.1 n)

pub opened_reads : Reads opened_at tt IsOpened
opened_reads ts us (f, b, e, (t, k, g), w) =
    let whole : ts ++ us ≡ f ++ t ∷ us = rw (w, g) (append_assoc f (t ∷ []) us) in
    rw (whole, flags_over f (t ∷ us) e (no_flag t.kind k), k) refl

skip_step : (b : Bool) (t : Tok) (ts rest : List Tok) → is_flag_word t.kind ≡ b → ((front : List Tok) × AreFlags front × (ts ≡ front ++ skipped is_flag_word ts)) → (front : List Tok) × AreFlags front × (t ∷ ts ≡ front ++ skipped is_flag_word (t ∷ ts))
skip_step true t ts rest e w = (t ∷ w.0, rw e w.1, rw e (ap (λ r. t ∷ r) w.2))
skip_step false t ts rest e w = ([], refl, rw e refl)

pub flags_found : (ts : List Tok) → (front : List Tok) × AreFlags front × (ts ≡ front ++ skipped is_flag_word ts)
flags_found [] = ([], refl, refl)
flags_found (t ∷ ts) = skip_step (is_flag_word t.kind) t ts [] refl (flags_found ts)

pub opened_finds : Finds opened_at (λ x. IsOpened)
opened_finds ts us x e =
    let f = flags_found ts in
    let w = form_finds (is_mark OpenParenthesis) word_refusal (skipped is_flag_word ts) us x e in
    (f.0 ++ w.0, (f.0, w.0, f.1, w.1, refl), f.2 ∙ ap (λ r. f.0 ++ r) w.2 ∙ sym (append_assoc f.0 w.0 us))

-- Indices.

pub index_reads : (i : Word) → Reads index_at i (IsIndex i)
index_reads i =
    bind_reads integer_at (λ w. number_at w.0 w.1) i.width i _ _ (pick_reads (λ t. integer_in t.kind) scalar_refusal i.width)
    (pick_reads (λ t. number_in i.width t.kind) number_refusal i)

ranged : (w : Width) (z : ℤ) (i : Word) (b : Bool) → (if b then Some (word_of_int w z) else None) ≡ Some i → w ≡ i.width
ranged w z i true e = let s : word_of_int w z ≡ i = cc in ap (λ (v : Word). v.width) s
ranged w z i false e = cc

number_width : (w : Width) (k : Kind) (i : Word) → number_in w k ≡ Some i → w ≡ i.width
number_width w (kinds.Number (Some z) m) i e = ranged w z i (is_in_range w z) e
number_width w (kinds.Number None m) i e = cc
number_width w (kinds.Word v) i e = cc
number_width w kinds.Local i e = cc
number_width w kinds.Global i e = cc
number_width w kinds.Text i e = cc
number_width w kinds.Bytes i e = cc
number_width w (kinds.Mark m) i e = cc

abbrev IndexParts : Word → Part
IndexParts = Joined (Picks (λ t. integer_in t.kind)) (λ w. Picks (λ t. number_in w t.kind))

index_part : (i : Word) (ts : List Tok) → IndexParts i ts → IsIndex i ts
index_part i ts (w, (f, b, p, (t, n, g), e)) =
    subst (λ v. (Picks (λ u. integer_in u.kind) v then Picks (λ u. number_in v u.kind) i) ts) (number_width w t.kind i n) (f, b, p, (t, n, g), e)

pub index_finds : Finds index_at IsIndex
index_finds ts us i e =
    let w = bind_finds integer_at (λ w. number_at w.0 w.1) _ _ (pick_finds (λ t. integer_in t.kind) scalar_refusal) (λ w. pick_finds (λ t. number_in w t.kind) number_refusal) ts us i e in
    (w.0, index_part i w.0 w.1, w.2)

-- The operands of a `getelementptr`.

abbrev element : IrType → Pointer → List Word → Element
element ty base indices = record { ty = ty; base = base; indices = indices }

-- what stands behind the word of a `getelementptr`
abbrev pub IsRest : Context → (Pointer → Part) → Element → Part
IsRest context base e =
    IsOpened then IsWritten context e.ty then IsMark Comma then Is is_pointer_word then base e.base
    then IsMark Comma then AreItems IsIndex e.indices then IsMark CloseParenthesis

pub element_reads : (context : Context) (item : List Tok → Read Pointer) (base : Pointer → Part) → ((p : Pointer) → Reads item p (base p)) → (e : Element) → Reads (element_behind context item) e (IsRest context base e)
element_reads context item base h e =
    bind_reads opened_at (λ o. written_type_at context o.1 >>= λ t. mark_at Comma t.1 >>= λ c. form_type_at is_pointer_word c.1 >>= λ p. item p.1 >>= λ b. mark_at Comma b.1 >>= λ d. closed_at CloseParenthesis index_at d.1 >>= λ is. Ok (element t.0 b.0 is.0, is.1)) tt e _ _ opened_reads
    (bind_reads (written_type_at context) (λ t. mark_at Comma t.1 >>= λ c. form_type_at is_pointer_word c.1 >>= λ p. item p.1 >>= λ b. mark_at Comma b.1 >>= λ d. closed_at CloseParenthesis index_at d.1 >>= λ is. Ok (element t.0 b.0 is.0, is.1)) e.ty e _ _ (written_again context e.ty)
    (bind_reads (mark_at Comma) (λ c. form_type_at is_pointer_word c.1 >>= λ p. item p.1 >>= λ b. mark_at Comma b.1 >>= λ d. closed_at CloseParenthesis index_at d.1 >>= λ is. Ok (element e.ty b.0 is.0, is.1)) tt e _ _ (next_reads (is_mark Comma))
    (bind_reads (form_type_at is_pointer_word) (λ p. item p.1 >>= λ b. mark_at Comma b.1 >>= λ d. closed_at CloseParenthesis index_at d.1 >>= λ is. Ok (element e.ty b.0 is.0, is.1)) tt e _ _ (form_reads is_pointer_word refusal)
    (bind_reads item (λ b. mark_at Comma b.1 >>= λ d. closed_at CloseParenthesis index_at d.1 >>= λ is. Ok (element e.ty b.0 is.0, is.1)) e.base e _ _ (h e.base)
    (bind_reads (mark_at Comma) (λ d. closed_at CloseParenthesis index_at d.1 >>= λ is. Ok (element e.ty e.base is.0, is.1)) tt e _ _ (next_reads (is_mark Comma))
    (last_reads (closed_at CloseParenthesis index_at) (λ is. element e.ty e.base is) e.indices _ (closed_again CloseParenthesis index_at IsIndex refl index_reads e.indices)))))))

abbrev RestParts : Context → (Pointer → Part) → Element → Part
RestParts context base =
    Joined (λ (o : Unit {0}). IsOpened) (λ o. Joined (λ t. IsWritten context t) (λ t. Joined (λ (c : Unit {0}). IsMark Comma) (λ c. Joined (λ (p : Unit {0}). Is is_pointer_word) (λ p. Joined base (λ b. Joined (λ (d : Unit {0}). IsMark Comma) (λ d. Mapped (λ (is : List Word). element t b is) (λ is. AreItems IsIndex is then IsMark CloseParenthesis)))))))

rest_part : (context : Context) (base : Pointer → Part) (e : Element) (ts : List Tok) → RestParts context base e ts → IsRest context base e ts
rest_part context base e ts (o, (f, b, po, (t, (f2, b2, pt, (c, (f3, b3, pc, (p, (f4, b4, pp, (q, (f5, b5, pq, (d, (f6, b6, pd, (is, pis, eq), e6)), e5)), e4)), e3)), e2)), e1)) =
    subst (λ x. IsRest context base x ts) eq (f, b, po, (f2, b2, pt, (f3, b3, pc, (f4, b4, pp, (f5, b5, pq, (f6, b6, pd, pis, e6), e5), e4), e3), e2), e1)

pub element_finds : (context : Context) (item : List Tok → Read Pointer) (base : Pointer → Part) → Finds item base → Finds (element_behind context item) (IsRest context base)
element_finds context item base h ts us e g =
    let w = bind_finds opened_at (λ o. written_type_at context o.1 >>= λ t. mark_at Comma t.1 >>= λ c. form_type_at is_pointer_word c.1 >>= λ p. item p.1 >>= λ b. mark_at Comma b.1 >>= λ d. closed_at CloseParenthesis index_at d.1 >>= λ is. Ok (element t.0 b.0 is.0, is.1)) _ _ opened_finds
    (λ o. bind_finds (written_type_at context) (λ t. mark_at Comma t.1 >>= λ c. form_type_at is_pointer_word c.1 >>= λ p. item p.1 >>= λ b. mark_at Comma b.1 >>= λ d. closed_at CloseParenthesis index_at d.1 >>= λ is. Ok (element t.0 b.0 is.0, is.1)) _ _ (written_found context)
    (λ t. bind_finds (mark_at Comma) (λ c. form_type_at is_pointer_word c.1 >>= λ p. item p.1 >>= λ b. mark_at Comma b.1 >>= λ d. closed_at CloseParenthesis index_at d.1 >>= λ is. Ok (element t b.0 is.0, is.1)) _ _ (next_finds (is_mark Comma))
    (λ c. bind_finds (form_type_at is_pointer_word) (λ p. item p.1 >>= λ b. mark_at Comma b.1 >>= λ d. closed_at CloseParenthesis index_at d.1 >>= λ is. Ok (element t b.0 is.0, is.1)) _ _ (form_finds is_pointer_word refusal)
    (λ p. bind_finds item (λ b. mark_at Comma b.1 >>= λ d. closed_at CloseParenthesis index_at d.1 >>= λ is. Ok (element t b.0 is.0, is.1)) _ _ h
    (λ b. bind_finds (mark_at Comma) (λ d. closed_at CloseParenthesis index_at d.1 >>= λ is. Ok (element t b is.0, is.1)) _ _ (next_finds (is_mark Comma))
    (λ d. last_finds (closed_at CloseParenthesis index_at) (λ is. element t b is) _ (closed_found CloseParenthesis index_at IsIndex index_finds))))))) ts us e g in
    (w.0, rest_part context base e w.0 w.1, w.2)
