-- Constants: what is in the grammar is read, and what is read is in the grammar.
use Rattle.std.proofs.Common.{◌≡◌, ℕ, zero, suc, Bool, true, false, Option, Some, None, List, [], ◌∷◌, ◌++◌, Result, Ok, Err, ◌⊎◌, inl, inr, refl, sym, ap, ◌∙◌, subst}
use Rattle.std.specs.Prelude.{if◌then◌else◌}
use Rattle.lx_ir_tokens.specs.declared.token.Tok.{Tok}
use Rattle.lx_ir_tokens.specs.declared.token.Kind.{Kind}
use Rattle.lx_ir_tokens.specs.declared.token.Kind.TheVariants as kinds
use Rattle.lx_ir_tokens.specs.declared.token.Mark.TheVariants.{CloseParenthesis}
use Rattle.lx_ir_tokens.specs.declared.keyword.ConversionWord.TheVariants.{IntToPtr, PtrToInt}
use Rattle.lx_ir_tokens.specs.declared.keyword.InstructionWord.TheVariants.{Conversion, GetElementPtr}
use Rattle.lx_ir_tokens.specs.declared.keyword.Keyword.TheVariants as keywords
use Rattle.lx_words.specs.declared.word.Width.{Width}
use Rattle.lx_words.proofs.Tests.{if_second, if_neither}
use Rattle.lx_ir.specs.declared.types.Scalar.{Scalar}
use Rattle.lx_ir.specs.declared.module.Pointer.{Pointer}
use Rattle.lx_ir.specs.declared.module.Constant.{Constant}
use Rattle.lx_ir.specs.declared.module.Constant.TheVariants as made
use Rattle.lx_ir_terms.specs.Context.{Context}
use Rattle.lx_ir_terms.specs.Reading.{Read, ◌>>=◌, at, refusal, has, behind, is_mark, is_to, pick_at, next_at, mark_at}
use Rattle.lx_ir_terms.specs.Types.{integer_in, integer_at, scalar_refusal}
use Rattle.lx_ir_terms.specs.Grammar.{Part, Picks, Is, IsMark, ◌then◌}
use Rattle.lx_ir_terms.specs.Laws.{Reads, Finds}
use Rattle.lx_ir_terms.proofs.Marks.{Next, next_token}
use Rattle.lx_ir_terms.proofs.Parts.{Joined, Mapped, pick_reads, next_reads, bind_reads, last_reads, behind_reads, pick_finds, next_finds, bind_finds, last_finds, bind_ok, ok_same}
use Rattle.lx_ir_constants.specs.Constants.{opened_at, is_pointer_word, form_type_at, constant_refusal, begins_pointer, pointer_at, is_cast_word, cast_behind, address_constant_at, begins_expression, expression_at, constant_at, flat_constant_of, flat_constant_at}
use Rattle.lx_ir_constants.specs.Grammar.{IsOpened, IsPointer, IsPointerExpression, IsCast, IsAddressConstant, IsExpression, IsConstant}
use Rattle.lx_ir_constants.proofs.ListLaws.{Found}
use Rattle.lx_ir_constants.proofs.PointerLaws.{form_reads, form_finds, opened_reads, opened_finds}
use Rattle.lx_ir_constants.proofs.PointersAgree.{pointer_again, pointer_found, expression_again, expression_found, expression_begins}
use Rattle.lx_ir_constants.proofs.ConstantStops.{constant_by}

-- A `ptrtoint`.

-- what stands behind its word
abbrev IsCastRest : Context → ℕ → Pointer → Width → Part
IsCastRest context depth p w = IsOpened then Is is_pointer_word then IsPointer context depth p then Is is_to then Picks (λ t. integer_in t.kind) w then IsMark CloseParenthesis

cast_reads : (context : Context) (depth : ℕ) (p : Pointer) (w : Width) → Reads (cast_behind (pointer_at context depth)) (made.Cast p w) (IsCastRest context depth p w)
cast_reads context depth p w =
    let item = pointer_at context depth in
    bind_reads opened_at (λ o. form_type_at is_pointer_word o.1 >>= λ q. item q.1 >>= λ b. next_at is_to b.1 >>= λ t. integer_at t.1 >>= λ w. mark_at CloseParenthesis w.1 >>= λ c. Ok (made.Cast b.0 w.0, c.1)) tt (made.Cast p w) _ _ opened_reads
    (bind_reads (form_type_at is_pointer_word) (λ q. item q.1 >>= λ b. next_at is_to b.1 >>= λ t. integer_at t.1 >>= λ w. mark_at CloseParenthesis w.1 >>= λ c. Ok (made.Cast b.0 w.0, c.1)) tt (made.Cast p w) _ _ (form_reads is_pointer_word refusal)
    (bind_reads item (λ b. next_at is_to b.1 >>= λ t. integer_at t.1 >>= λ w. mark_at CloseParenthesis w.1 >>= λ c. Ok (made.Cast b.0 w.0, c.1)) p (made.Cast p w) _ _ (pointer_again context depth p)
    (bind_reads (next_at is_to) (λ t. integer_at t.1 >>= λ w. mark_at CloseParenthesis w.1 >>= λ c. Ok (made.Cast p w.0, c.1)) tt (made.Cast p w) _ _ (next_reads is_to)
    (bind_reads integer_at (λ w. mark_at CloseParenthesis w.1 >>= λ c. Ok (made.Cast p w.0, c.1)) w (made.Cast p w) _ _ (pick_reads (λ t. integer_in t.kind) scalar_refusal w)
    (last_reads (mark_at CloseParenthesis) (λ c. made.Cast p w) tt _ (next_reads (is_mark CloseParenthesis)))))))

abbrev CastParts : Context → ℕ → Constant → Part
CastParts context depth =
    Joined (λ (o : Unit {0}). IsOpened) (λ o. Joined (λ (q : Unit {0}). Is is_pointer_word) (λ q. Joined (IsPointer context depth) (λ b. Joined (λ (t : Unit {0}). Is is_to) (λ t. Joined (Picks (λ t. integer_in t.kind)) (λ w. Mapped (λ (c : Unit {0}). made.Cast b w) (λ c. IsMark CloseParenthesis))))))

-- with the word before it
cast_token : (context : Context) (depth : ℕ) (c : Constant) (k : Tok) (ts : List Tok) → is_cast_word k.kind ≡ true → CastParts context depth c ts → IsCast context depth c (k ∷ ts)
cast_token context depth c k ts h (o, (f, b, po, (q, (f2, b2, pq, (p, (f3, b3, pp, (t, (f4, b4, pt, (w, (f5, b5, pw, (d, pd, eq), e5)), e4)), e3)), e2)), e1)) =
    subst (λ x. IsCast context depth x (k ∷ ts)) eq (k ∷ [], ts, (k, h, refl), (f, b, po, (f2, b2, pq, (f3, b3, pp, (f4, b4, pt, (f5, b5, pw, pd, e5), e4), e3), e2), e1), refl)

cast_finds : (context : Context) (depth : ℕ) → Finds (cast_behind (pointer_at context depth)) (CastParts context depth)
cast_finds context depth ts us c g =
    let item = pointer_at context depth in
    bind_finds opened_at (λ o. form_type_at is_pointer_word o.1 >>= λ q. item q.1 >>= λ b. next_at is_to b.1 >>= λ t. integer_at t.1 >>= λ w. mark_at CloseParenthesis w.1 >>= λ c. Ok (made.Cast b.0 w.0, c.1)) _ _ opened_finds
    (λ o. bind_finds (form_type_at is_pointer_word) (λ q. item q.1 >>= λ b. next_at is_to b.1 >>= λ t. integer_at t.1 >>= λ w. mark_at CloseParenthesis w.1 >>= λ c. Ok (made.Cast b.0 w.0, c.1)) _ _ (form_finds is_pointer_word refusal)
    (λ q. bind_finds item (λ b. next_at is_to b.1 >>= λ t. integer_at t.1 >>= λ w. mark_at CloseParenthesis w.1 >>= λ c. Ok (made.Cast b.0 w.0, c.1)) _ _ (pointer_found context depth)
    (λ b. bind_finds (next_at is_to) (λ t. integer_at t.1 >>= λ w. mark_at CloseParenthesis w.1 >>= λ c. Ok (made.Cast b w.0, c.1)) _ _ (next_finds is_to)
    (λ t. bind_finds integer_at (λ w. mark_at CloseParenthesis w.1 >>= λ c. Ok (made.Cast b w.0, c.1)) _ _ (pick_finds (λ t. integer_in t.kind) scalar_refusal)
    (λ w. last_finds (mark_at CloseParenthesis) (λ c. made.Cast b w) _ (next_finds (is_mark CloseParenthesis))))))) ts us c g

-- What begins a constant expression.

not_cast : (k : Kind) → begins_pointer k ≡ true → is_cast_word k ≡ false
not_cast (kinds.Word (keywords.Instruction GetElementPtr)) h = refl
not_cast (kinds.Word (keywords.Instruction (Conversion IntToPtr))) h = refl
not_cast k h = cc

no_cast : (ts : List Tok) → has begins_pointer ts ≡ true → has is_cast_word ts ≡ false
no_cast [] h = cc
no_cast (t ∷ ts) h = not_cast t.kind h

begins_cast : (ts : List Tok) → has is_cast_word ts ≡ true → has begins_expression ts ≡ true
begins_cast [] h = cc
begins_cast (t ∷ ts) h = rw h refl

begins_as_pointer : (ts : List Tok) → has begins_pointer ts ≡ true → has begins_expression ts ≡ true
begins_as_pointer [] h = cc
begins_as_pointer (t ∷ ts) h = if_second (is_cast_word t.kind) (begins_pointer t.kind) h

a_pointer : (ts : List Tok) → has begins_expression ts ≡ true → has is_cast_word ts ≡ false → has begins_pointer ts ≡ true
a_pointer [] h e = cc
a_pointer (t ∷ ts) h e = if_neither (is_cast_word t.kind) (begins_pointer t.kind) h e

-- Expressions.

cast_again : (context : Context) (depth : ℕ) (c : Constant) (ts us : List Tok) → IsCast context depth c ts → (has begins_expression (ts ++ us) ≡ true) × (expression_at context (suc depth) (ts ++ us) ≡ Ok (c, us))
cast_again context depth (made.Cast p w) ts us i =
    let r = behind_reads is_cast_word (IsCastRest context depth p w) (cast_behind (pointer_at context depth)) (made.Cast p w) ts us i (cast_reads context depth p w) in
    (begins_cast (ts ++ us) r.0, rw r.0 r.1)
cast_again context depth (made.Number w) ts us i = absurd i
cast_again context depth (made.Truth b) ts us i = absurd i
cast_again context depth (made.Blank b w) ts us i = absurd i
cast_again context depth (made.Pointer p) ts us i = absurd i

address_again : (context : Context) (depth : ℕ) (c : Constant) (ts us : List Tok) → IsAddressConstant context (suc depth) c ts → (has begins_expression (ts ++ us) ≡ true) × (expression_at context (suc depth) (ts ++ us) ≡ Ok (c, us))
address_again context depth (made.Pointer p) ts us i =
    let o = expression_begins context (suc depth) p ts us i in
    (begins_as_pointer (ts ++ us) o, rw (no_cast (ts ++ us) o, expression_again context (suc depth) p ts us i) refl)
address_again context depth (made.Number w) ts us i = absurd i
address_again context depth (made.Truth b) ts us i = absurd i
address_again context depth (made.Blank b w) ts us i = absurd i
address_again context depth (made.Cast p w) ts us i = absurd i

pub expression_reads : (context : Context) (depth : ℕ) (c : Constant) (ts us : List Tok) → IsExpression context depth c ts → (has begins_expression (ts ++ us) ≡ true) × (expression_at context depth (ts ++ us) ≡ Ok (c, us))
expression_reads context zero c ts us e = absurd e
expression_reads context (suc depth) c ts us (inl i) = cast_again context depth c ts us i
expression_reads context (suc depth) c ts us (inr i) = address_again context depth c ts us i

abbrev expression_by : Bool → Context → ℕ → List Tok → Read Constant
expression_by b context depth ts = if b then cast_behind (pointer_at context depth) (behind ts) else address_constant_at (pointer_at context (suc depth)) ts

address_as : (context : Context) (depth : ℕ) (p : Pointer) (c : Constant) (ts : List Tok) → made.Pointer p ≡ c → IsPointerExpression context depth p ts → IsAddressConstant context depth c ts
address_as context depth p c ts e i = subst (λ x. IsAddressConstant context depth x ts) e i

expression_step : (context : Context) (depth : ℕ) (b : Bool) (ts us : List Tok) (c : Constant) → has begins_expression ts ≡ true → has is_cast_word ts ≡ b → expression_by b context depth ts ≡ Ok (c, us) → Found (IsExpression context (suc depth)) c ts us
expression_step context depth true ts us c o q g =
    let n = next_token is_cast_word ts q in
    let w = cast_finds context depth (behind ts) us c g in
    (n.token ∷ w.0, inl (cast_token context depth c n.token w.0 n.kind w.1), n.whole ∙ ap (λ r. n.token ∷ r) w.2)
expression_step context depth false ts us c o q g =
    let a = bind_ok (pointer_at context (suc depth) ts) (λ p. Ok (made.Pointer p.0, p.1)) (c, us) g in
    let k = ok_same (made.Pointer a.0.0) c a.0.1 us a.2 in
    let w = expression_found context depth ts a.0.1 a.0.0 (a_pointer ts o q) a.1 in
    (w.0, inr (address_as context (suc depth) a.0.0 c w.0 k.0 w.1), w.2 ∙ ap (λ r. w.0 ++ r) k.1)

pub expression_finds : (context : Context) (depth : ℕ) (ts us : List Tok) (c : Constant) → has begins_expression ts ≡ true → expression_at context depth ts ≡ Ok (c, us) → Found (IsExpression context depth) c ts us
expression_finds context zero ts us c o e = cc
expression_finds context (suc depth) ts us c o e = expression_step context depth (has is_cast_word ts) ts us c o refl e

-- Constants at the type of a register.

flat_begins : (context : Context) (ty : Scalar) (k : Kind) (name : ℕ) (c : Constant) → flat_constant_of context ty k name ≡ Some c → begins_expression k ≡ false
flat_begins context ty (kinds.Word (keywords.Constant w)) name c e = refl
flat_begins context ty kinds.Global name c e = refl
flat_begins context ty (kinds.Number v m) name c e = refl
flat_begins context ty k name c e = cc

pub constant_again : (context : Context) (depth : ℕ) (ty : Scalar) (c : Constant) → Reads (constant_at context depth ty) c (IsConstant context depth ty c)
unfolding constant_at
constant_again context depth ty c ts us (inl (k, e, f)) = rw (f, flat_begins context ty k.kind k.name c e, e) refl
constant_again context depth ty c ts us (inr i) = let r = expression_reads context depth c ts us i in rw r.0 r.1

constant_step : (context : Context) (depth : ℕ) (ty : Scalar) (b : Bool) (ts us : List Tok) (c : Constant) → has begins_expression ts ≡ b → constant_by b (expression_at context depth ts) (flat_constant_at context ty ts) ≡ Ok (c, us) → Found (IsConstant context depth ty) c ts us
constant_step context depth ty true ts us c o e =
    let w = expression_finds context depth ts us c o e in
    (w.0, inr w.1, w.2)
constant_step context depth ty false ts us c o e =
    let w = pick_finds (λ t. flat_constant_of context ty t.kind t.name) constant_refusal ts us c e in
    (w.0, inl w.1, w.2)

pub constant_found : (context : Context) (depth : ℕ) (ty : Scalar) → Finds (constant_at context depth ty) (IsConstant context depth ty)
unfolding constant_at
constant_found context depth ty ts us c e = constant_step context depth ty (has begins_expression ts) ts us c refl e
