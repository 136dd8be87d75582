-- A token at which the reading of a constant or an operand stops cannot stand there.
use Rattle.std.proofs.Common.{◌≡◌, ℕ, zero, suc, Bool, true, false, List, [], ◌∷◌, ◌++◌, Ok, Err, refl, sym, ap, ◌∙◌, append_assoc}
use Rattle.std.specs.Prelude.{◌≡◌, None, if◌then◌else◌}
use Rattle.lx_ir_tokens.specs.declared.token.Tok.{Tok}
use Rattle.lx_ir_tokens.specs.declared.token.Kind.{Kind}
use Rattle.lx_ir_tokens.specs.declared.token.Mark.TheVariants.{Comma, OpenParenthesis, CloseParenthesis}
use Rattle.lx_words.specs.declared.word.Width.TheVariants.{W64}
use Rattle.lx_words.specs.Word.{Word}
use Rattle.lx_ir.specs.IrType.{IrType}
use Rattle.lx_ir.specs.declared.types.Scalar.{Scalar}
use Rattle.lx_ir.specs.declared.module.Pointer.{Pointer}
use Rattle.lx_ir.specs.declared.module.Pointer.TheVariants as pointers
use Rattle.lx_ir.specs.declared.module.Constant.{Constant}
use Rattle.lx_ir.specs.declared.module.Constant.TheVariants as made
use Rattle.lx_ir.specs.declared.module.Value.{Value}
use Rattle.lx_ir.specs.declared.module.Value.TheVariants as values
use Rattle.lx_ir_terms.specs.declared.fault.Fault.{Fault}
use Rattle.lx_ir_terms.specs.declared.fault.FaultKind.{FaultKind}
use Rattle.lx_ir_terms.specs.declared.fault.FaultKind.TheVariants.{OutOfProfile}
use Rattle.lx_ir_terms.specs.Context.{Context, register_number}
use Rattle.lx_ir_terms.specs.Reading.{Read, ◌>>=◌, at, refusal, has, behind, is_mark, is_to, pick_at, next_at, mark_at, closed_at}
use Rattle.lx_ir_terms.specs.Types.{integer_in, integer_at, scalar_refusal, written_type_at, depth_limit}
use Rattle.lx_ir_terms.specs.Grammar.{Part, IsWritten}
use Rattle.lx_ir_terms.specs.Laws.{Reads, Finds, Stops}
use Rattle.lx_ir_terms.proofs.ListStops.{closed_stops}
use Rattle.lx_ir_terms.proofs.Parts.{pick_reads, next_reads, pick_finds, next_finds}
use Rattle.lx_ir_terms.proofs.Stopping.{Refuses, pick_stops, next_stops, bind_stops, last_stops, guard_stops, behind_stops, at_once, first_same}
use Rattle.lx_ir_terms.proofs.Written.{written_again, written_found, written_stops}
use Rattle.lx_ir_constants.specs.declared.element.Element.{Element}
use Rattle.lx_ir_constants.specs.Constants.{number_in, number_refusal, number_at, is_flag_word, skipped, when, word_refusal, opened_at, is_pointer_word, is_long_word, form_type_at, is_element_word, is_address_word, is_cast_word, flat_pointer_of, flat_pointer_at, constant_refusal, address_of, index_at, element_behind, address_behind, begins_pointer, nested_pointer_at, pointer_at, flat_constant_of, flat_constant_at, cast_behind, address_constant_at, begins_expression, expression_at, constant_at, is_register, first_name, value_at}
use Rattle.lx_ir_constants.specs.Grammar.{IsIndex, IsPointer}
use Rattle.lx_ir_constants.proofs.PointerLaws.{form_reads, form_finds, flags_found, flags_over, opened_reads, opened_finds, index_reads, index_finds}
use Rattle.lx_ir_constants.proofs.PointersAgree.{pointer_again, pointer_found, no_element, an_address, pointer_by}

-- Flags, and a rule behind them.

left_step : (p : Kind → Bool) (t : Tok) (ts : List Tok) (b : Bool) → p t.kind ≡ b → has p (skipped p ts) ≡ false → has p (if b then skipped p ts else t ∷ ts) ≡ false
left_step p t ts true e h = h
left_step p t ts false e h = e

-- none stands behind those that were passed over
none_left : (p : Kind → Bool) (ts : List Tok) → has p (skipped p ts) ≡ false
none_left p [] = refl
none_left p (t ∷ ts) = left_step p t ts (p t.kind) refl (none_left p ts)

pub flagged_stops : {A : Type 0} (read : List Tok → Read A) → Refuses read → Refuses (λ ts. read (skipped is_flag_word ts))
flagged_stops read h ts f e =
    let w = flags_found ts in
    let s = h (skipped is_flag_word ts) f e in
    record {
      front = w.0 ++ s.front;
      rest = s.rest;
      whole = w.2 ∙ (ap (λ r. w.0 ++ r) s.whole ∙ sym (append_assoc w.0 s.front s.rest));
      left = s.left;
      again = λ t more us c.
          let n : has is_flag_word (s.front ++ t ∷ us) ≡ false = first_same is_flag_word (skipped is_flag_word ts) s.front s.rest more us t s.whole c ∙ none_left is_flag_word ts in
          rw (append_assoc w.0 s.front (t ∷ us), flags_over w.0 (s.front ++ t ∷ us) w.1 n) (s.again t more us c);
    }

pub form_stops : (p : Kind → Bool) (how : Kind → FaultKind) → Refuses (pick_at (λ t. when (p t.kind)) how)
form_stops p how = pick_stops (λ t. when (p t.kind)) how

opened_stops : Refuses opened_at
opened_stops = flagged_stops (pick_at (λ t. when (is_mark OpenParenthesis t.kind)) word_refusal) (form_stops (is_mark OpenParenthesis) word_refusal)

-- Pointers.

index_stops : Refuses index_at
index_stops =
    bind_stops integer_at (λ w. number_at w.0 w.1) _ (λ w. pick_reads (λ t. integer_in t.kind) scalar_refusal w) (pick_finds (λ t. integer_in t.kind) scalar_refusal) (pick_stops (λ t. integer_in t.kind) scalar_refusal)
    (λ w. pick_stops (λ t. number_in w t.kind) number_refusal)

abbrev element : IrType → Pointer → List Word → Element
element ty base indices = record { ty = ty; base = base; indices = indices }

element_stops : (context : Context) (l : context.limits ≡ None) (item : List Tok → Read Pointer) (base : Pointer → Part) → ((p : Pointer) → Reads item p (base p)) → Finds item base → Refuses item → Refuses (element_behind context item)
element_stops context l item base reads finds stops =
    bind_stops opened_at (λ o. written_type_at context o.1 >>= λ t. mark_at Comma t.1 >>= λ c. form_type_at is_pointer_word c.1 >>= λ p. item p.1 >>= λ b. mark_at Comma b.1 >>= λ d. closed_at CloseParenthesis index_at d.1 >>= λ is. Ok (element t.0 b.0 is.0, is.1)) _ (λ x. opened_reads) opened_finds opened_stops
    (λ o. bind_stops (written_type_at context) (λ t. mark_at Comma t.1 >>= λ c. form_type_at is_pointer_word c.1 >>= λ p. item p.1 >>= λ b. mark_at Comma b.1 >>= λ d. closed_at CloseParenthesis index_at d.1 >>= λ is. Ok (element t.0 b.0 is.0, is.1)) (IsWritten context) (written_again context) (written_found context) (written_stops context l)
    (λ t. bind_stops (mark_at Comma) (λ c. form_type_at is_pointer_word c.1 >>= λ p. item p.1 >>= λ b. mark_at Comma b.1 >>= λ d. closed_at CloseParenthesis index_at d.1 >>= λ is. Ok (element t b.0 is.0, is.1)) _ (λ x. next_reads (is_mark Comma)) (next_finds (is_mark Comma)) (next_stops (is_mark Comma))
    (λ c. bind_stops (form_type_at is_pointer_word) (λ p. item p.1 >>= λ b. mark_at Comma b.1 >>= λ d. closed_at CloseParenthesis index_at d.1 >>= λ is. Ok (element t b.0 is.0, is.1)) _ (λ x. form_reads is_pointer_word refusal) (form_finds is_pointer_word refusal) (form_stops is_pointer_word refusal)
    (λ p. bind_stops item (λ b. mark_at Comma b.1 >>= λ d. closed_at CloseParenthesis index_at d.1 >>= λ is. Ok (element t b.0 is.0, is.1)) base reads finds stops
    (λ b. bind_stops (mark_at Comma) (λ d. closed_at CloseParenthesis index_at d.1 >>= λ is. Ok (element t b is.0, is.1)) _ (λ x. next_reads (is_mark Comma)) (next_finds (is_mark Comma)) (next_stops (is_mark Comma))
    (λ d. last_stops (closed_at CloseParenthesis index_at) (λ is. element t b is) (closed_stops CloseParenthesis index_at IsIndex index_reads index_finds index_stops)))))))

address_stops : Refuses address_behind
address_stops =
    bind_stops opened_at (λ o. form_type_at is_long_word o.1 >>= λ i. number_at W64 i.1 >>= λ n. next_at is_to n.1 >>= λ t. form_type_at is_pointer_word t.1 >>= λ p. mark_at CloseParenthesis p.1 >>= λ c. Ok (pointers.Number n.0.bits, c.1)) _ (λ x. opened_reads) opened_finds opened_stops
    (λ o. bind_stops (form_type_at is_long_word) (λ i. number_at W64 i.1 >>= λ n. next_at is_to n.1 >>= λ t. form_type_at is_pointer_word t.1 >>= λ p. mark_at CloseParenthesis p.1 >>= λ c. Ok (pointers.Number n.0.bits, c.1)) _ (λ x. form_reads is_long_word refusal) (form_finds is_long_word refusal) (form_stops is_long_word refusal)
    (λ i. bind_stops (number_at W64) (λ n. next_at is_to n.1 >>= λ t. form_type_at is_pointer_word t.1 >>= λ p. mark_at CloseParenthesis p.1 >>= λ c. Ok (pointers.Number n.0.bits, c.1)) _ (λ n. pick_reads (λ t. number_in W64 t.kind) number_refusal n) (pick_finds (λ t. number_in W64 t.kind) number_refusal) (pick_stops (λ t. number_in W64 t.kind) number_refusal)
    (λ n. bind_stops (next_at is_to) (λ t. form_type_at is_pointer_word t.1 >>= λ p. mark_at CloseParenthesis p.1 >>= λ c. Ok (pointers.Number n.bits, c.1)) _ (λ x. next_reads is_to) (next_finds is_to) (next_stops is_to)
    (λ t. bind_stops (form_type_at is_pointer_word) (λ p. mark_at CloseParenthesis p.1 >>= λ c. Ok (pointers.Number n.bits, c.1)) _ (λ x. form_reads is_pointer_word refusal) (form_finds is_pointer_word refusal) (form_stops is_pointer_word refusal)
    (λ p. last_stops (mark_at CloseParenthesis) (λ c. pointers.Number n.bits) (next_stops (is_mark CloseParenthesis)))))))

abbrev element_pointer : Context → (List Tok → Read Pointer) → List Tok → Read Pointer
element_pointer context item ts = element_behind context item ts >>= λ e. Ok (address_of context e.0, e.1)

abbrev nested_by : Bool → Context → (List Tok → Read Pointer) → List Tok → Read Pointer
nested_by b context item ts = if b then element_pointer context item (behind ts) else address_behind (behind ts)

nested_step : (context : Context) (l : context.limits ≡ None) (depth : ℕ) → Refuses (pointer_at context depth) → (b : Bool) (ts : List Tok) (f : Fault) → has begins_pointer ts ≡ true → has is_element_word ts ≡ b → nested_by b context (pointer_at context depth) ts ≡ Err f → Stops (nested_pointer_at context (pointer_at context depth)) ts f
nested_step context l depth h true ts f o q e =
    let item = pointer_at context depth in
    guard_stops is_element_word (nested_pointer_at context item) (λ us. element_pointer context item (behind us)) true (λ vs k. rw k refl) ts f q
    (behind_stops is_element_word (element_pointer context item) ts f q
    (last_stops (element_behind context item) (λ e. address_of context e) (element_stops context l item (IsPointer context depth) (pointer_again context depth) (pointer_found context depth) h) (behind ts) f e))
nested_step context l depth h false ts f o q e =
    let a = an_address ts o q in
    guard_stops is_address_word (nested_pointer_at context (pointer_at context depth)) (λ us. address_behind (behind us)) true (λ vs k. rw (no_element vs k) refl) ts f a
    (behind_stops is_address_word address_behind ts f a (address_stops (behind ts) f e))

flat_pointer_stops : (context : Context) → Refuses (flat_pointer_at context)
flat_pointer_stops context = pick_stops (λ t. flat_pointer_of context t.kind t.name) constant_refusal

-- a nesting past the limit
pub too_deep : {A : Type 0} → Refuses {A = A} (λ ts. Err (at OutOfProfile ts))
too_deep {A} ts f e =
    let s : at OutOfProfile ts ≡ f = cc in
    at_once (λ us. Err (at OutOfProfile us)) ts f OutOfProfile (sym s) (λ t more us w. refl)

shallow : (context : Context) (b : Bool) (ts : List Tok) (f : Fault) → has begins_pointer ts ≡ b → pointer_by b (Err (at OutOfProfile ts)) (flat_pointer_at context ts) ≡ Err f → Stops (pointer_at context zero) ts f
unfolding pointer_at
shallow context true ts f o e = guard_stops begins_pointer (pointer_at context zero) (λ us. Err (at OutOfProfile us)) true (λ vs k. rw k refl) ts f o (too_deep ts f e)
shallow context false ts f o e = guard_stops begins_pointer (pointer_at context zero) (flat_pointer_at context) false (λ vs k. rw k refl) ts f o (flat_pointer_stops context ts f e)

deep : (context : Context) (l : context.limits ≡ None) (depth : ℕ) → Refuses (pointer_at context depth) → (b : Bool) (ts : List Tok) (f : Fault) → has begins_pointer ts ≡ b → pointer_by b (nested_pointer_at context (pointer_at context depth) ts) (flat_pointer_at context ts) ≡ Err f → Stops (pointer_at context (suc depth)) ts f
unfolding pointer_at
deep context l depth h true ts f o e =
    guard_stops begins_pointer (pointer_at context (suc depth)) (nested_pointer_at context (pointer_at context depth)) true (λ vs k. rw k refl) ts f o
    (nested_step context l depth h (has is_element_word ts) ts f o refl e)
deep context l depth h false ts f o e = guard_stops begins_pointer (pointer_at context (suc depth)) (flat_pointer_at context) false (λ vs k. rw k refl) ts f o (flat_pointer_stops context ts f e)

pub pointer_stops : (context : Context) (l : context.limits ≡ None) (depth : ℕ) → Refuses (pointer_at context depth)
unfolding pointer_at
pointer_stops context l zero ts f e = shallow context (has begins_pointer ts) ts f refl e
pointer_stops context l (suc depth) ts f e = deep context l depth (pointer_stops context l depth) (has begins_pointer ts) ts f refl e

-- Constants.

cast_stops : (context : Context) (l : context.limits ≡ None) (depth : ℕ) → Refuses (cast_behind (pointer_at context depth))
cast_stops context l depth =
    let item = pointer_at context depth in
    bind_stops opened_at (λ o. form_type_at is_pointer_word o.1 >>= λ q. item q.1 >>= λ b. next_at is_to b.1 >>= λ t. integer_at t.1 >>= λ w. mark_at CloseParenthesis w.1 >>= λ c. Ok (made.Cast b.0 w.0, c.1)) _ (λ x. opened_reads) opened_finds opened_stops
    (λ o. bind_stops (form_type_at is_pointer_word) (λ q. item q.1 >>= λ b. next_at is_to b.1 >>= λ t. integer_at t.1 >>= λ w. mark_at CloseParenthesis w.1 >>= λ c. Ok (made.Cast b.0 w.0, c.1)) _ (λ x. form_reads is_pointer_word refusal) (form_finds is_pointer_word refusal) (form_stops is_pointer_word refusal)
    (λ q. bind_stops item (λ b. next_at is_to b.1 >>= λ t. integer_at t.1 >>= λ w. mark_at CloseParenthesis w.1 >>= λ c. Ok (made.Cast b.0 w.0, c.1)) (IsPointer context depth) (pointer_again context depth) (pointer_found context depth) (pointer_stops context l depth)
    (λ b. bind_stops (next_at is_to) (λ t. integer_at t.1 >>= λ w. mark_at CloseParenthesis w.1 >>= λ c. Ok (made.Cast b w.0, c.1)) _ (λ x. next_reads is_to) (next_finds is_to) (next_stops is_to)
    (λ t. bind_stops integer_at (λ w. mark_at CloseParenthesis w.1 >>= λ c. Ok (made.Cast b w.0, c.1)) _ (λ w. pick_reads (λ t. integer_in t.kind) scalar_refusal w) (pick_finds (λ t. integer_in t.kind) scalar_refusal) (pick_stops (λ t. integer_in t.kind) scalar_refusal)
    (λ w. last_stops (mark_at CloseParenthesis) (λ c. made.Cast b w) (next_stops (is_mark CloseParenthesis)))))))

abbrev expression_by : Bool → Context → ℕ → List Tok → Read Constant
expression_by b context depth ts = if b then cast_behind (pointer_at context depth) (behind ts) else address_constant_at (pointer_at context (suc depth)) ts

expression_step : (context : Context) (l : context.limits ≡ None) (depth : ℕ) (b : Bool) (ts : List Tok) (f : Fault) → has is_cast_word ts ≡ b → expression_by b context depth ts ≡ Err f → Stops (expression_at context (suc depth)) ts f
expression_step context l depth true ts f q e =
    guard_stops is_cast_word (expression_at context (suc depth)) (λ us. cast_behind (pointer_at context depth) (behind us)) true (λ vs k. rw k refl) ts f q
    (behind_stops is_cast_word (cast_behind (pointer_at context depth)) ts f q (cast_stops context l depth (behind ts) f e))
expression_step context l depth false ts f q e =
    guard_stops is_cast_word (expression_at context (suc depth)) (address_constant_at (pointer_at context (suc depth))) false (λ vs k. rw k refl) ts f q
    (last_stops (pointer_at context (suc depth)) (λ p. made.Pointer p) (pointer_stops context l (suc depth)) ts f e)

pub expression_stops : (context : Context) (l : context.limits ≡ None) (depth : ℕ) → Refuses (expression_at context depth)
expression_stops context l zero ts f e = too_deep ts f e
expression_stops context l (suc depth) ts f e = expression_step context l depth (has is_cast_word ts) ts f refl e

abbrev pub constant_by : Bool → Read Constant → Read Constant → Read Constant
constant_by b expression flat = if b then expression else flat

constant_step : (context : Context) (l : context.limits ≡ None) (depth : ℕ) (ty : Scalar) (b : Bool) (ts : List Tok) (f : Fault) → has begins_expression ts ≡ b → constant_by b (expression_at context depth ts) (flat_constant_at context ty ts) ≡ Err f → Stops (constant_at context depth ty) ts f
unfolding constant_at
constant_step context l depth ty true ts f o e = guard_stops begins_expression (constant_at context depth ty) (expression_at context depth) true (λ vs k. rw k refl) ts f o (expression_stops context l depth ts f e)
constant_step context l depth ty false ts f o e =
    guard_stops begins_expression (constant_at context depth ty) (flat_constant_at context ty) false (λ vs k. rw k refl) ts f o
    (pick_stops (λ t. flat_constant_of context ty t.kind t.name) constant_refusal ts f e)

pub constant_stops : (context : Context) (l : context.limits ≡ None) (depth : ℕ) (ty : Scalar) → Refuses (constant_at context depth ty)
unfolding constant_at
constant_stops context l depth ty ts f e = constant_step context l depth ty (has begins_expression ts) ts f refl e

-- Operands.

abbrev constant_value : Context → Scalar → List Tok → Read Value
constant_value context ty ts = constant_at context depth_limit ty ts >>= λ c. Ok (values.Constant c.0, c.1)

abbrev value_by : Bool → Context → Scalar → List Tok → Read Value
value_by b context ty ts = if b then Ok (values.Register (register_number context (first_name ts)), behind ts) else constant_value context ty ts

value_step : (context : Context) (l : context.limits ≡ None) (ty : Scalar) (b : Bool) (ts : List Tok) (f : Fault) → has is_register ts ≡ b → value_by b context ty ts ≡ Err f → Stops (value_at context ty) ts f
value_step context l ty true ts f o e = cc
value_step context l ty false ts f o e =
    guard_stops is_register (value_at context ty) (constant_value context ty) false (λ vs k. rw k refl) ts f o
    (last_stops (constant_at context depth_limit ty) (λ c. values.Constant c) (constant_stops context l depth_limit ty) ts f e)

pub value_stops : (context : Context) (l : context.limits ≡ None) (ty : Scalar) → Refuses (value_at context ty)
value_stops context l ty ts f e = value_step context l ty (has is_register ts) ts f refl e
