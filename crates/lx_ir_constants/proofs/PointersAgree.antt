-- Pointers, nested in one another.
use Rattle.std.proofs.Common.{◌≡◌, ℕ, zero, suc, Bool, true, false, Some, List, [], ◌∷◌, ◌++◌, Ok, Err, ◌⊎◌, inl, inr, refl, sym, ap, ◌∙◌}
use Rattle.std.specs.Prelude.{if◌then◌else◌}
use Rattle.lx_ir_tokens.specs.declared.token.Tok.{Tok}
use Rattle.lx_ir_tokens.specs.declared.token.Kind.{Kind}
use Rattle.lx_ir_tokens.specs.declared.token.Kind.TheVariants as kinds
use Rattle.lx_ir_tokens.specs.declared.token.Mark.TheVariants.{CloseParenthesis}
use Rattle.lx_ir_tokens.specs.declared.keyword.ConversionWord.TheVariants.{IntToPtr}
use Rattle.lx_ir_tokens.specs.declared.keyword.InstructionWord.TheVariants.{Conversion}
use Rattle.lx_ir_tokens.specs.declared.keyword.Keyword.TheVariants as keywords
use Rattle.lx_words.specs.declared.word.Width.TheVariants.{W64}
use Rattle.lx_words.specs.Word.{Word}
use Rattle.lx_words.proofs.Tests.{if_second, if_neither}
use Rattle.lx_ir.specs.declared.module.Pointer.{Pointer}
use Rattle.lx_ir.specs.declared.module.Pointer.TheVariants as pointers
use Rattle.lx_ir_terms.specs.declared.fault.FaultKind.TheVariants.{OutOfProfile}
use Rattle.lx_ir_terms.specs.Context.{Context}
use Rattle.lx_ir_terms.specs.Reading.{Read, ◌>>=◌, at, refusal, has, behind, is_mark, is_to, next_at, mark_at}
use Rattle.lx_ir_terms.specs.Grammar.{Part, Picks, Is, IsMark, ◌then◌}
use Rattle.lx_ir_terms.specs.Laws.{Reads, Finds}
use Rattle.lx_ir_terms.proofs.Marks.{next_token}
use Rattle.lx_ir_terms.proofs.Parts.{Joined, Mapped, pick_reads, next_reads, bind_reads, last_reads, behind_reads, pick_finds, next_finds, bind_finds, last_finds}
use Rattle.lx_ir_constants.specs.declared.element.Element.{Element}
use Rattle.lx_ir_constants.specs.Constants.{number_in, number_refusal, number_at, opened_at, is_pointer_word, is_long_word, form_type_at, is_element_word, is_address_word, flat_pointer_of, flat_pointer_at, constant_refusal, address_of, element_behind, address_behind, begins_pointer, nested_pointer_at, pointer_at}
use Rattle.lx_ir_constants.specs.Grammar.{IsOpened, IsElement, IsAddress, IsFlatPointer, IsPointerExpression, IsPointer}
use Rattle.lx_ir_constants.proofs.ListLaws.{Found}
use Rattle.lx_ir_constants.proofs.PointerLaws.{form_reads, form_finds, opened_reads, opened_finds, IsRest, element_reads, element_finds}

-- An `inttoptr`.

-- what stands behind its word
abbrev IsAddressRest : Word → Part
IsAddressRest n = IsOpened then Is is_long_word then Picks (λ t. number_in W64 t.kind) n then Is is_to then Is is_pointer_word then IsMark CloseParenthesis

address_reads : (n : Word) → Reads address_behind (pointers.Number n.bits) (IsAddressRest n)
address_reads n =
    bind_reads opened_at (λ o. form_type_at is_long_word o.1 >>= λ i. number_at W64 i.1 >>= λ n. next_at is_to n.1 >>= λ t. form_type_at is_pointer_word t.1 >>= λ p. mark_at CloseParenthesis p.1 >>= λ c. Ok (pointers.Number n.0.bits, c.1)) tt (pointers.Number n.bits) _ _ opened_reads
    (bind_reads (form_type_at is_long_word) (λ i. number_at W64 i.1 >>= λ n. next_at is_to n.1 >>= λ t. form_type_at is_pointer_word t.1 >>= λ p. mark_at CloseParenthesis p.1 >>= λ c. Ok (pointers.Number n.0.bits, c.1)) tt (pointers.Number n.bits) _ _ (form_reads is_long_word refusal)
    (bind_reads (number_at W64) (λ n. next_at is_to n.1 >>= λ t. form_type_at is_pointer_word t.1 >>= λ p. mark_at CloseParenthesis p.1 >>= λ c. Ok (pointers.Number n.0.bits, c.1)) n (pointers.Number n.bits) _ _ (pick_reads (λ t. number_in W64 t.kind) number_refusal n)
    (bind_reads (next_at is_to) (λ t. form_type_at is_pointer_word t.1 >>= λ p. mark_at CloseParenthesis p.1 >>= λ c. Ok (pointers.Number n.bits, c.1)) tt (pointers.Number n.bits) _ _ (next_reads is_to)
    (bind_reads (form_type_at is_pointer_word) (λ p. mark_at CloseParenthesis p.1 >>= λ c. Ok (pointers.Number n.bits, c.1)) tt (pointers.Number n.bits) _ _ (form_reads is_pointer_word refusal)
    (last_reads (mark_at CloseParenthesis) (λ c. pointers.Number n.bits) tt _ (next_reads (is_mark CloseParenthesis)))))))

abbrev AddressParts : Pointer → Part
AddressParts =
    Joined (λ (o : Unit {0}). IsOpened) (λ o. Joined (λ (i : Unit {0}). Is is_long_word) (λ i. Joined (Picks (λ t. number_in W64 t.kind)) (λ n. Joined (λ (t : Unit {0}). Is is_to) (λ t. Joined (λ (p : Unit {0}). Is is_pointer_word) (λ p. Mapped (λ (c : Unit {0}). pointers.Number n.bits) (λ c. IsMark CloseParenthesis))))))

-- an `inttoptr` of some number behind its word
abbrev SomeAddress : Pointer → Part
SomeAddress p ts = (n : Word) × IsAddressRest n ts × (pointers.Number n.bits ≡ p)

address_part : (p : Pointer) (ts : List Tok) → AddressParts p ts → SomeAddress p ts
address_part p ts (o, (f, b, po, (i, (f2, b2, pi, (n, (f3, b3, pn, (t, (f4, b4, pt, (q, (f5, b5, pq, (c, pc, eq), e5)), e4)), e3)), e2)), e1)) =
    (n, (f, b, po, (f2, b2, pi, (f3, b3, pn, (f4, b4, pt, (f5, b5, pq, pc, e5), e4), e3), e2), e1), eq)

address_finds : Finds address_behind SomeAddress
address_finds ts us p g =
    let w = bind_finds opened_at (λ o. form_type_at is_long_word o.1 >>= λ i. number_at W64 i.1 >>= λ n. next_at is_to n.1 >>= λ t. form_type_at is_pointer_word t.1 >>= λ p. mark_at CloseParenthesis p.1 >>= λ c. Ok (pointers.Number n.0.bits, c.1)) _ _ opened_finds
    (λ o. bind_finds (form_type_at is_long_word) (λ i. number_at W64 i.1 >>= λ n. next_at is_to n.1 >>= λ t. form_type_at is_pointer_word t.1 >>= λ p. mark_at CloseParenthesis p.1 >>= λ c. Ok (pointers.Number n.0.bits, c.1)) _ _ (form_finds is_long_word refusal)
    (λ i. bind_finds (number_at W64) (λ n. next_at is_to n.1 >>= λ t. form_type_at is_pointer_word t.1 >>= λ p. mark_at CloseParenthesis p.1 >>= λ c. Ok (pointers.Number n.0.bits, c.1)) _ _ (pick_finds (λ t. number_in W64 t.kind) number_refusal)
    (λ n. bind_finds (next_at is_to) (λ t. form_type_at is_pointer_word t.1 >>= λ p. mark_at CloseParenthesis p.1 >>= λ c. Ok (pointers.Number n.bits, c.1)) _ _ (next_finds is_to)
    (λ t. bind_finds (form_type_at is_pointer_word) (λ p. mark_at CloseParenthesis p.1 >>= λ c. Ok (pointers.Number n.bits, c.1)) _ _ (form_finds is_pointer_word refusal)
    (λ p. last_finds (mark_at CloseParenthesis) (λ c. pointers.Number n.bits) _ (next_finds (is_mark CloseParenthesis))))))) ts us p g in
    (w.0, address_part p w.0 w.1, w.2)

-- What begins a pointer.

begins_element : (ts : List Tok) → has is_element_word ts ≡ true → has begins_pointer ts ≡ true
begins_element [] h = cc
begins_element (t ∷ ts) h = rw h refl

begins_address : (ts : List Tok) → has is_address_word ts ≡ true → has begins_pointer ts ≡ true
begins_address [] h = cc
begins_address (t ∷ ts) h = if_second (is_element_word t.kind) (is_address_word t.kind) h

address_kind : (k : Kind) → is_address_word k ≡ true → is_element_word k ≡ false
address_kind (kinds.Word (keywords.Instruction (Conversion IntToPtr))) h = refl
address_kind k h = cc

pub no_element : (ts : List Tok) → has is_address_word ts ≡ true → has is_element_word ts ≡ false
no_element [] h = cc
no_element (t ∷ ts) h = address_kind t.kind h

pub an_address : (ts : List Tok) → has begins_pointer ts ≡ true → has is_element_word ts ≡ false → has is_address_word ts ≡ true
an_address [] h e = cc
an_address (t ∷ ts) h e = if_neither (is_element_word t.kind) (is_address_word t.kind) h e

flat_begins_nothing : (context : Context) (k : Kind) (name : ℕ) (p : Pointer) → flat_pointer_of context k name ≡ Some p → begins_pointer k ≡ false
flat_begins_nothing context (kinds.Word (keywords.Constant w)) name p e = refl
flat_begins_nothing context kinds.Global name p e = refl
flat_begins_nothing context k name p e = cc

-- What is in the grammar is read.

flat_pointer_reads : (context : Context) (depth : ℕ) (p : Pointer) → Reads (pointer_at context depth) p (IsFlatPointer context p)
unfolding pointer_at
flat_pointer_reads context zero p ts us (k, e, f) = rw (f, flat_begins_nothing context k.kind k.name p e, e) refl
flat_pointer_reads context (suc depth) p ts us (k, e, f) = rw (f, flat_begins_nothing context k.kind k.name p e, e) refl

nested : (context : Context) (depth : ℕ) (ts : List Tok) → has begins_pointer ts ≡ true → pointer_at context (suc depth) ts ≡ nested_pointer_at context (pointer_at context depth) ts
unfolding pointer_at
nested context depth ts h = rw h refl

abbrev Inside : Context → ℕ → Pointer → Part
Inside context depth q us = IsFlatPointer context q us ⊎ IsPointerExpression context depth q us

element_again : (context : Context) (depth : ℕ) → ((q : Pointer) → Reads (pointer_at context depth) q (Inside context depth q)) → (e : Element) (p : Pointer) (ts us : List Tok) → IsElement context (Inside context depth) e ts → address_of context e ≡ p → pointer_at context (suc depth) (ts ++ us) ≡ Ok (p, us)
element_again context depth h e p ts us i a =
    let r = behind_reads is_element_word (IsRest context (Inside context depth) e) (element_behind context (pointer_at context depth)) e ts us i (element_reads context (pointer_at context depth) (Inside context depth) h e) in
    nested context depth (ts ++ us) (begins_element (ts ++ us) r.0) ∙ rw (r.0, r.1) (ap (λ q. Ok (q, us)) a)

address_again : (context : Context) (depth : ℕ) (n : Word) (p : Pointer) (ts us : List Tok) → IsAddress n ts → pointers.Number n.bits ≡ p → pointer_at context (suc depth) (ts ++ us) ≡ Ok (p, us)
address_again context depth n p ts us i a =
    let r = behind_reads is_address_word (IsAddressRest n) address_behind (pointers.Number n.bits) ts us i (address_reads n) in
    nested context depth (ts ++ us) (begins_address (ts ++ us) r.0) ∙ rw (no_element (ts ++ us) r.0) (r.1 ∙ ap (λ q. Ok (q, us)) a)

pub expression_again : (context : Context) (depth : ℕ) (p : Pointer) (ts us : List Tok) → IsPointerExpression context depth p ts → pointer_at context depth (ts ++ us) ≡ Ok (p, us)
expression_again context zero p ts us e = absurd e
expression_again context (suc depth) p ts us (inl (e, i, a)) =
    element_again context depth (λ q vs ws j. elim j [ inl f ↦ flat_pointer_reads context depth q vs ws f | inr g ↦ expression_again context depth q vs ws g ]) e p ts us i a
expression_again context (suc depth) p ts us (inr (n, i, a)) = address_again context depth n p ts us i a

pub pointer_again : (context : Context) (depth : ℕ) (p : Pointer) → Reads (pointer_at context depth) p (IsPointer context depth p)
pointer_again context depth p ts us (inl f) = flat_pointer_reads context depth p ts us f
pointer_again context depth p ts us (inr e) = expression_again context depth p ts us e

-- What is read is in the grammar.

element_token : (context : Context) (depth : ℕ) (p : Pointer) (k : Tok) (ts : List Tok) → is_element_word k.kind ≡ true → Mapped (λ (e : Element). address_of context e) (IsRest context (Inside context depth)) p ts → IsPointerExpression context (suc depth) p (k ∷ ts)
element_token context depth p k ts h (e, r, a) = inl (e, (k ∷ [], ts, (k, h, refl), r, refl), a)

address_token : (context : Context) (depth : ℕ) (p : Pointer) (k : Tok) (ts : List Tok) → is_address_word k.kind ≡ true → SomeAddress p ts → IsPointerExpression context (suc depth) p (k ∷ ts)
address_token context depth p k ts h (n, r, a) = inr (n, (k ∷ [], ts, (k, h, refl), r, refl), a)

abbrev nested_by : Bool → Context → (List Tok → Read Pointer) → List Tok → Read Pointer
nested_by b context item ts = if b then (element_behind context item (behind ts) >>= λ e. Ok (address_of context e.0, e.1)) else address_behind (behind ts)

nested_found : (context : Context) (depth : ℕ) → Finds (pointer_at context depth) (Inside context depth) → (b : Bool) (ts us : List Tok) (p : Pointer) → has begins_pointer ts ≡ true → has is_element_word ts ≡ b → nested_by b context (pointer_at context depth) ts ≡ Ok (p, us) → Found (IsPointerExpression context (suc depth)) p ts us
nested_found context depth h true ts us p o q g =
    let n = next_token is_element_word ts q in
    let w = last_finds (element_behind context (pointer_at context depth)) (λ e. address_of context e) _ (element_finds context (pointer_at context depth) (Inside context depth) h) (behind ts) us p g in
    (n.token ∷ w.0, element_token context depth p n.token w.0 n.kind w.1, n.whole ∙ ap (λ r. n.token ∷ r) w.2)
nested_found context depth h false ts us p o q g =
    let n = next_token is_address_word ts (an_address ts o q) in
    let w = address_finds (behind ts) us p g in
    (n.token ∷ w.0, address_token context depth p n.token w.0 n.kind w.1, n.whole ∙ ap (λ r. n.token ∷ r) w.2)

flat_finds : (context : Context) (depth : ℕ) → Finds (flat_pointer_at context) (IsPointer context depth)
flat_finds context depth ts us p g =
    let w = pick_finds (λ t. flat_pointer_of context t.kind t.name) constant_refusal ts us p g in
    (w.0, inl w.1, w.2)

as_pointer : (context : Context) (depth : ℕ) (p : Pointer) (ts us : List Tok) → Found (IsPointerExpression context depth) p ts us → Found (IsPointer context depth) p ts us
as_pointer context depth p ts us w = (w.0, inr w.1, w.2)

abbrev pub pointer_by : Bool → Read Pointer → Read Pointer → Read Pointer
pointer_by b nested flat = if b then nested else flat

shallow : (context : Context) (b : Bool) (ts us : List Tok) (p : Pointer) → pointer_by b (Err (at OutOfProfile ts)) (flat_pointer_at context ts) ≡ Ok (p, us) → Found (IsPointer context zero) p ts us
shallow context true ts us p e = cc
shallow context false ts us p e = flat_finds context zero ts us p e

deep : (context : Context) (depth : ℕ) → Finds (pointer_at context depth) (IsPointer context depth) → (b : Bool) (ts us : List Tok) (p : Pointer) → has begins_pointer ts ≡ b → pointer_by b (nested_pointer_at context (pointer_at context depth) ts) (flat_pointer_at context ts) ≡ Ok (p, us) → Found (IsPointer context (suc depth)) p ts us
deep context depth h true ts us p o e = as_pointer context (suc depth) p ts us (nested_found context depth h (has is_element_word ts) ts us p o refl e)
deep context depth h false ts us p o e = flat_finds context (suc depth) ts us p e

pub pointer_found : (context : Context) (depth : ℕ) → Finds (pointer_at context depth) (IsPointer context depth)
unfolding pointer_at
pointer_found context zero ts us p e = shallow context (has begins_pointer ts) ts us p e
pointer_found context (suc depth) ts us p e = deep context depth (pointer_found context depth) (has begins_pointer ts) ts us p refl e

-- an expression that is a pointer, where one begins
pub expression_found : (context : Context) (depth : ℕ) (ts us : List Tok) (p : Pointer) → has begins_pointer ts ≡ true → pointer_at context (suc depth) ts ≡ Ok (p, us) → Found (IsPointerExpression context (suc depth)) p ts us
expression_found context depth ts us p o e = nested_found context depth (pointer_found context depth) (has is_element_word ts) ts us p o refl (sym (nested context depth ts o) ∙ e)

-- an expression that is a pointer begins with one of two words
pub expression_begins : (context : Context) (depth : ℕ) (p : Pointer) (ts us : List Tok) → IsPointerExpression context depth p ts → has begins_pointer (ts ++ us) ≡ true
expression_begins context zero p ts us e = absurd e
expression_begins context (suc depth) p ts us (inl (e, (f, b, (k, h, g), r, w), a)) = begins_element (ts ++ us) (rw (w, g) h)
expression_begins context (suc depth) p ts us (inr (n, (f, b, (k, h, g), r, w), a)) = begins_address (ts ++ us) (rw (w, g) h)
