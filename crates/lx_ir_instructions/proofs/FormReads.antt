-- Instructions: what is in the grammar is read.
use Rattle.std.proofs.Common.{◌≡◌, ℕ, zero, suc, Bool, true, false, Option, Some, None, List, ◌∷◌, ◌++◌, Ok, ◌⊎◌, inl, inr, refl, ap, ◌∙◌, subst, append_assoc}
use Rattle.lx_ir_tokens.specs.declared.token.Tok.{Tok}
use Rattle.lx_ir_tokens.specs.declared.token.Kind.{Kind}
use Rattle.lx_ir_tokens.specs.declared.token.Kind.TheVariants as kinds
use Rattle.lx_ir_tokens.specs.declared.token.Mark.TheVariants.{Comma, OpenBracket, CloseBracket}
use Rattle.lx_ir_tokens.specs.declared.keyword.InstructionWord.TheVariants as instructions
use Rattle.lx_ir_tokens.specs.declared.keyword.ConversionWord.{ConversionWord}
use Rattle.lx_ir_tokens.specs.declared.keyword.Keyword.TheVariants as keywords
use Rattle.lx_words.specs.declared.word.BinOp.{BinOp}
use Rattle.lx_words.specs.declared.word.Pred.{Pred}
use Rattle.lx_words.specs.declared.word.Width.TheVariants.{W1}
use Rattle.lx_ir.specs.declared.types.Scalar.{Scalar}
use Rattle.lx_ir.specs.declared.types.Scalar.TheVariants.{Int}
use Rattle.lx_ir.specs.IrType.{IrType}
use Rattle.lx_ir.specs.declared.module.Value.{Value}
use Rattle.lx_ir.specs.declared.instr.Argument.{Argument}
use Rattle.lx_ir.specs.declared.instr.Conversion.{Conversion}
use Rattle.lx_ir.specs.declared.instr.Edge.{Edge}
use Rattle.lx_ir.specs.declared.instr.SwitchCase.{SwitchCase}
use Rattle.lx_ir.specs.declared.instr.UnaryOp.TheVariants as unary
use Rattle.lx_ir.specs.declared.instr.Op.{Op}
use Rattle.lx_ir.specs.declared.instr.Op.TheVariants as op
use Rattle.lx_ir_terms.specs.Context.{Context}
use Rattle.lx_ir_terms.specs.Reading.{Read, ◌>>=◌, is_mark, is_to, has, pick_at, next_at, mark_at}
use Rattle.lx_ir_terms.specs.Types.{scalar_in, scalar_at, scalar_refusal, result_in}
use Rattle.lx_ir_terms.specs.Words as passing
use Rattle.lx_ir_terms.specs.Grammar.{Part, Picks, Is, IsMark, ◌then◌, IsWritten}
use Rattle.lx_ir_terms.specs.Laws.{Reads}
use Rattle.lx_ir_terms.proofs.Parts.{pick_reads, next_reads, bind_reads, last_reads}
use Rattle.lx_ir_constants.specs.Constants.{is_flag_word, is_register, skipped, word_refusal, value_at}
use Rattle.lx_ir_constants.specs.Grammar.{AreItems, IsValue}
use Rattle.lx_ir_constants.proofs.PointerLaws.{form_reads}
use Rattle.lx_ir_constants.proofs.ValueLaws.{value_again}
use Rattle.lx_ir_operands.specs.Steps.{has_further, align_at, unbroken_at}
use Rattle.lx_ir_operands.specs.Operands.{address_at, again_at, argument, cases_at, edge_at, flagged_scalar_at, flagged_type_at, flagged_typed_at, instruction_in, is_label_word, is_truth_word, named_type_refusal, next_label_at, second_at, truth_type_at, typed_at}
use Rattle.lx_ir_operands.specs.Grammar.{AreInRow, First, Flagged, IsAddress, IsAgain, IsAlign, IsCase, IsEdge, IsLabel, IsLocal, IsNextLabel, IsScalar, IsSecond, IsTyped}
use Rattle.lx_ir_operands.proofs.FlagLaws.{NoFlag, flagged_reads, flagged_scalar_reads, flagged_truth_reads, flagged_type_reads, flagged_typed_reads, typed_reads, scalar_no_flag, truth_no_flag}
use Rattle.lx_ir_operands.proofs.OperandLaws.{address_reads, again_reads, local_reads, next_label_reads, second_reads}
use Rattle.lx_ir_operands.proofs.ListedLaws.{cases_reads, edges_again, indices_again}
use Rattle.lx_ir_operands.proofs.PassedLaws.{align_again}
use Rattle.lx_ir_operands.specs.Laws.{EndsCall}
use Rattle.lx_ir_calls.specs.declared.intrinsics.TextForm.{TextForm}
use Rattle.lx_ir_calls.specs.Calls.{is_tail_word, tail_call_at}
use Rattle.lx_ir_calls.specs.Grammar.{IsCall, given_by}
use Rattle.lx_ir_calls.proofs.CallLaws.{call_word, calls_read}
use Rattle.lx_ir_instructions.specs.Instructions.{binary_behind, predicate_in, predicate_at, compare_behind, conversion_of, convert_behind, unary_behind, select_behind, phi_behind, alloca_behind, load_behind, element_behind, store_behind, flagged_result_at, returned_at, ret_behind, branch_behind, br_at, br_behind, switch_behind, giving_at, form_at}
use Rattle.lx_ir_instructions.specs.Grammar.{IsForm}
use Rattle.lx_ir_instructions.proofs.FormParts.{ReadsTo, bind_to, last_to, flags_before, giving_reads, silent_reads, given_reads}

-- tokens that go on with no form: no comma but before metadata, and no word of a call
pub record Ends (us : List Tok) : Type 0 where
  pub further : has_further us ≡ false
  pub call : EndsCall us

-- Parts that begin with no flag.

picks_no_flag : {A : Type 0} (what : Tok → Option A) (x : A) → ((t : Tok) → what t ≡ Some x → is_flag_word t.kind ≡ false) → NoFlag (Picks what x)
picks_no_flag what x h ts us (t, e, f) = rw f (h t e)

is_no_flag : (p : Kind → Bool) → ((k : Kind) → p k ≡ true → is_flag_word k ≡ false) → NoFlag (Is p)
is_no_flag p h ts us (t, e, f) = rw f (h t.kind e)

then_no_flag : (p q : Part) → NoFlag p → NoFlag (p then q)
then_no_flag p q n ts us (f, b, e, r, w) = rw (w, append_assoc f b us) (n f (b ++ us) e)

-- Operators, comparisons and conversions.

binary_reads : (context : Context) (to : ℕ) (o : BinOp) (ty : Scalar) (a b : Value) → Reads (binary_behind context to o) (op.Binary to o ty a b) (Flagged (IsTyped context (argument ty a)) then IsSecond context ty b)
binary_reads context to o ty a b =
    bind_reads (flagged_typed_at context) (λ a. second_at context a.0.ty a.1 >>= λ b. Ok (op.Binary to o a.0.ty a.0.value b.0, b.1)) (argument ty a) (op.Binary to o ty a b) _ _ (flagged_typed_reads context (argument ty a))
    (last_reads (second_at context ty) (λ b. op.Binary to o ty a b) b _ (second_reads context ty b))

predicate_no_flag : (k : Kind) (p : Pred) → predicate_in k ≡ Some p → is_flag_word k ≡ false
predicate_no_flag (kinds.Word (keywords.Predicate q)) p e = refl
predicate_no_flag k p e = cc

predicate_reads : (p : Pred) → Reads predicate_at p (Flagged (Picks (λ t. predicate_in t.kind) p))
predicate_reads p = flagged_reads (pick_at (λ t. predicate_in t.kind) word_refusal) p _ (picks_no_flag (λ t. predicate_in t.kind) p (λ t e. predicate_no_flag t.kind p e)) (pick_reads (λ t. predicate_in t.kind) word_refusal p)

compare_reads : (context : Context) (to : ℕ) (p : Pred) (ty : Scalar) (a b : Value) → Reads (compare_behind context to) (op.Compare to p ty a b) (Flagged (Picks (λ t. predicate_in t.kind) p) then IsTyped context (argument ty a) then IsSecond context ty b)
compare_reads context to p ty a b =
    bind_reads predicate_at (λ p. typed_at context p.1 >>= λ a. second_at context a.0.ty a.1 >>= λ b. Ok (op.Compare to p.0 a.0.ty a.0.value b.0, b.1)) p (op.Compare to p ty a b) _ _ (predicate_reads p)
    (bind_reads (typed_at context) (λ a. second_at context a.0.ty a.1 >>= λ b. Ok (op.Compare to p a.0.ty a.0.value b.0, b.1)) (argument ty a) (op.Compare to p ty a b) _ _ (typed_reads context (argument ty a))
    (last_reads (second_at context ty) (λ b. op.Compare to p ty a b) b _ (second_reads context ty b)))

abbrev IsConvert : Context → Scalar → Value → Scalar → Part
IsConvert context from a into = Flagged (IsTyped context (argument from a)) then Is is_to then IsScalar into

convert_reads : (context : Context) (to : ℕ) (w : ConversionWord) (from : Scalar) (a : Value) (into : Scalar) → Reads (convert_behind context to (conversion_of w)) (op.Convert to (conversion_of w) from a into) (IsConvert context from a into)
convert_reads context to w from a into =
    let how = conversion_of w in
    bind_reads (flagged_typed_at context) (λ a. next_at is_to a.1 >>= λ t. scalar_at t.1 >>= λ u. Ok (op.Convert to how a.0.ty a.0.value u.0, u.1)) (argument from a) (op.Convert to how from a into) _ _ (flagged_typed_reads context (argument from a))
    (bind_reads (next_at is_to) (λ t. scalar_at t.1 >>= λ u. Ok (op.Convert to how from a u.0, u.1)) tt (op.Convert to how from a into) _ _ (next_reads is_to)
    (last_reads scalar_at (λ u. op.Convert to how from a u) into _ (pick_reads (λ t. scalar_in t.kind) scalar_refusal into)))

freeze_reads : (context : Context) (to : ℕ) (ty : Scalar) (a : Value) → Reads (unary_behind context to unary.Freeze) (op.Unary to unary.Freeze ty a) (Flagged (IsTyped context (argument ty a)))
freeze_reads context to ty a = last_reads (flagged_typed_at context) (λ a. op.Unary to unary.Freeze a.ty a.value) (argument ty a) _ (flagged_typed_reads context (argument ty a))

-- Choices.

select_reads : (context : Context) (to : ℕ) (c : Value) (ty : Scalar) (a b : Value) → Reads (select_behind context to) (op.Select to c ty a b) (Flagged (Is is_truth_word) then IsValue context (Int W1) c then IsMark Comma then IsTyped context (argument ty a) then IsAgain context ty b)
select_reads context to c ty a b =
    bind_reads (λ ts. truth_type_at (skipped is_flag_word ts)) (λ i. value_at context (Int W1) i.1 >>= λ c. mark_at Comma c.1 >>= λ d. typed_at context d.1 >>= λ a. again_at context a.0.ty a.1 >>= λ b. Ok (op.Select to c.0 a.0.ty a.0.value b.0, b.1)) tt (op.Select to c ty a b) _ _ (flagged_truth_reads tt)
    (bind_reads (value_at context (Int W1)) (λ c. mark_at Comma c.1 >>= λ d. typed_at context d.1 >>= λ a. again_at context a.0.ty a.1 >>= λ b. Ok (op.Select to c.0 a.0.ty a.0.value b.0, b.1)) c (op.Select to c ty a b) _ _ (value_again context (Int W1) c)
    (bind_reads (mark_at Comma) (λ d. typed_at context d.1 >>= λ a. again_at context a.0.ty a.1 >>= λ b. Ok (op.Select to c a.0.ty a.0.value b.0, b.1)) tt (op.Select to c ty a b) _ _ (next_reads (is_mark Comma))
    (bind_reads (typed_at context) (λ a. again_at context a.0.ty a.1 >>= λ b. Ok (op.Select to c a.0.ty a.0.value b.0, b.1)) (argument ty a) (op.Select to c ty a b) _ _ (typed_reads context (argument ty a))
    (last_reads (again_at context ty) (λ b. op.Select to c ty a b) b _ (again_reads context ty b)))))

phi_reads : (context : Context) (to : ℕ) (ty : Scalar) (edges : List Edge) (us : List Tok) → has_further us ≡ false → ReadsTo us (phi_behind context to) (op.Phi to ty edges) (Flagged (IsScalar ty) then AreItems (IsEdge context ty) edges)
phi_reads context to ty edges us h =
    bind_to us flagged_scalar_at (λ t. unbroken_at (edge_at context t.0) t.1 >>= λ es. Ok (op.Phi to t.0 es.0, es.1)) ty (op.Phi to ty edges) _ _ (flagged_scalar_reads ty)
    (last_to us (unbroken_at (edge_at context ty)) (λ es. op.Phi to ty es) edges _ (λ ts i. edges_again context ty edges ts us h i))

-- Memory.

alloca_reads : (context : Context) (to : ℕ) (ty : IrType) (us : List Tok) → has_further us ≡ false → ReadsTo us (alloca_behind context to) (op.Alloca to ty) (Flagged (IsWritten context ty) then IsAlign)
alloca_reads context to ty us h =
    bind_to us (flagged_type_at context) (λ t. align_at t.1 >>= λ a. Ok (op.Alloca to t.0, a.1)) ty (op.Alloca to ty) _ _ (flagged_type_reads context ty)
    (last_to us align_at (λ a. op.Alloca to ty) tt _ (λ ts i. align_again tt ts us h i))

load_reads : (context : Context) (to : ℕ) (ty : Scalar) (p : Value) (us : List Tok) → has_further us ≡ false → ReadsTo us (load_behind context to) (op.Load to ty p) (Flagged (IsScalar ty) then IsAddress context p then IsAlign)
load_reads context to ty p us h =
    bind_to us flagged_scalar_at (λ t. address_at context t.1 >>= λ p. align_at p.1 >>= λ a. Ok (op.Load to t.0 p.0, a.1)) ty (op.Load to ty p) _ _ (flagged_scalar_reads ty)
    (bind_to us (address_at context) (λ p. align_at p.1 >>= λ a. Ok (op.Load to ty p.0, a.1)) p (op.Load to ty p) _ _ (address_reads context p)
    (last_to us align_at (λ a. op.Load to ty p) tt _ (λ ts i. align_again tt ts us h i)))

store_reads : (context : Context) (ty : Scalar) (v p : Value) (us : List Tok) → has_further us ≡ false → ReadsTo us (store_behind context) (op.Store ty v p) (Flagged (IsTyped context (argument ty v)) then IsAddress context p then IsAlign)
store_reads context ty v p us h =
    bind_to us (flagged_typed_at context) (λ v. address_at context v.1 >>= λ p. align_at p.1 >>= λ a. Ok (op.Store v.0.ty v.0.value p.0, a.1)) (argument ty v) (op.Store ty v p) _ _ (flagged_typed_reads context (argument ty v))
    (bind_to us (address_at context) (λ p. align_at p.1 >>= λ a. Ok (op.Store ty v p.0, a.1)) p (op.Store ty v p) _ _ (address_reads context p)
    (last_to us align_at (λ a. op.Store ty v p) tt _ (λ ts i. align_again tt ts us h i)))

element_reads : (context : Context) (to : ℕ) (ty : IrType) (base : Value) (indices : List Argument) (us : List Tok) → has_further us ≡ false → ReadsTo us (element_behind context to) (op.GetElementPtr to ty base indices) (Flagged (IsWritten context ty) then IsAddress context base then IsMark Comma then AreItems (IsTyped context) indices)
element_reads context to ty base indices us h =
    bind_to us (flagged_type_at context) (λ t. address_at context t.1 >>= λ p. mark_at Comma p.1 >>= λ c. unbroken_at (typed_at context) c.1 >>= λ is. Ok (op.GetElementPtr to t.0 p.0 is.0, is.1)) ty (op.GetElementPtr to ty base indices) _ _ (flagged_type_reads context ty)
    (bind_to us (address_at context) (λ p. mark_at Comma p.1 >>= λ c. unbroken_at (typed_at context) c.1 >>= λ is. Ok (op.GetElementPtr to ty p.0 is.0, is.1)) base (op.GetElementPtr to ty base indices) _ _ (address_reads context base)
    (bind_to us (mark_at Comma) (λ c. unbroken_at (typed_at context) c.1 >>= λ is. Ok (op.GetElementPtr to ty base is.0, is.1)) tt (op.GetElementPtr to ty base indices) _ _ (next_reads (is_mark Comma))
    (last_to us (unbroken_at (typed_at context)) (λ is. op.GetElementPtr to ty base is) indices _ (λ ts i. indices_again context indices ts us h i))))

-- Ends of blocks.

result_no_flag : (k : Kind) (r : Option Scalar) → result_in k ≡ Some r → is_flag_word k ≡ false
result_no_flag (kinds.Word (keywords.Scalar w)) r e = refl
result_no_flag (kinds.Word keywords.Void) r e = refl
result_no_flag k r e = cc

flagged_result_reads : (r : Option Scalar) → Reads flagged_result_at r (Flagged (Picks (λ t. result_in t.kind) r))
flagged_result_reads r = flagged_reads (pick_at (λ t. result_in t.kind) passing.word_refusal) r _ (picks_no_flag (λ t. result_in t.kind) r (λ t e. result_no_flag t.kind r e)) (pick_reads (λ t. result_in t.kind) passing.word_refusal r)

ret_void_reads : (context : Context) → Reads (ret_behind context) (op.Ret None) (Flagged (Picks (λ t. result_in t.kind) None))
ret_void_reads context ts us i = rw (flagged_result_reads None ts us i) refl

scalar_result : (k : Kind) (ty : Scalar) → scalar_in k ≡ Some ty → result_in k ≡ Some (Some ty)
scalar_result (kinds.Word (keywords.Scalar w)) ty e = ap Some e
scalar_result k ty e = cc

typed_result : (context : Context) (v : Argument) (ts : List Tok) → IsTyped context v ts → (Picks (λ t. result_in t.kind) (Some v.ty) then IsValue context v.ty v.value) ts
typed_result context v ts (f, b, (t, e, g), i, w) = (f, b, (t, scalar_result t.kind v.ty e, g), i, w)

abbrev returned_by : Context → List Tok → Read Op
returned_by context ts = pick_at (λ t. result_in t.kind) passing.word_refusal ts >>= λ t. returned_at context t.0 t.1 >>= λ v. Ok (op.Ret v.0, v.1)

returned_reads : (context : Context) (v : Argument) → Reads (returned_by context) (op.Ret (Some v)) (Picks (λ t. result_in t.kind) (Some v.ty) then IsValue context v.ty v.value)
returned_reads context v =
    bind_reads (pick_at (λ t. result_in t.kind) passing.word_refusal) (λ t. returned_at context t.0 t.1 >>= λ v. Ok (op.Ret v.0, v.1)) (Some v.ty) (op.Ret (Some v)) _ _ (pick_reads (λ t. result_in t.kind) passing.word_refusal (Some v.ty))
    (λ ts us i. rw (value_again context v.ty v.value ts us i) refl)

ret_reads : (context : Context) (v : Argument) → Reads (ret_behind context) (op.Ret (Some v)) (Flagged (IsTyped context v))
ret_reads context v =
    flagged_reads (returned_by context) (op.Ret (Some v)) (IsTyped context v)
    (then_no_flag (IsScalar v.ty) (IsValue context v.ty v.value) (picks_no_flag (λ t. scalar_in t.kind) v.ty (λ t e. scalar_no_flag t.kind v.ty e)))
    (λ ts us i. returned_reads context v ts us (typed_result context v ts i))

label_no_flag : (k : Kind) → is_label_word k ≡ true → is_flag_word k ≡ false
label_no_flag (kinds.Word keywords.Flag) e = cc
label_no_flag k e = refl

truth_no_label : (k : Kind) → is_truth_word k ≡ true → is_label_word k ≡ false
truth_no_label (kinds.Word keywords.Label) e = cc
truth_no_label k e = refl

jump_at_reads : (context : Context) (l : List ℕ) → Reads (br_at context) (op.Jump l) (IsLabel context l)
jump_at_reads context l ts us (f, b, (t, k, g), i, w) = rw (w, g, k, local_reads context l b us i) refl

jump_reads : (context : Context) (l : List ℕ) → Reads (br_behind context) (op.Jump l) (Flagged (IsLabel context l))
jump_reads context l = flagged_reads (br_at context) (op.Jump l) (IsLabel context l) (then_no_flag (Is is_label_word) (IsLocal context l) (is_no_flag is_label_word label_no_flag)) (jump_at_reads context l)

abbrev IsBranch : Context → Value → List ℕ → List ℕ → Part
IsBranch context c a b = Is is_truth_word then IsValue context (Int W1) c then IsNextLabel context a then IsNextLabel context b

branch_reads : (context : Context) (c : Value) (a b : List ℕ) → Reads (branch_behind context) (op.Branch c a b) (IsBranch context c a b)
branch_reads context c a b =
    bind_reads truth_type_at (λ i. value_at context (Int W1) i.1 >>= λ c. next_label_at context c.1 >>= λ a. next_label_at context a.1 >>= λ b. Ok (op.Branch c.0 a.0 b.0, b.1)) tt (op.Branch c a b) _ _ (form_reads is_truth_word named_type_refusal)
    (bind_reads (value_at context (Int W1)) (λ c. next_label_at context c.1 >>= λ a. next_label_at context a.1 >>= λ b. Ok (op.Branch c.0 a.0 b.0, b.1)) c (op.Branch c a b) _ _ (value_again context (Int W1) c)
    (bind_reads (next_label_at context) (λ a. next_label_at context a.1 >>= λ b. Ok (op.Branch c a.0 b.0, b.1)) a (op.Branch c a b) _ _ (next_label_reads context a)
    (last_reads (next_label_at context) (λ b. op.Branch c a b) b _ (next_label_reads context b))))

branch_at_reads : (context : Context) (c : Value) (a b : List ℕ) → Reads (br_at context) (op.Branch c a b) (IsBranch context c a b)
branch_at_reads context c a b ts us (f, r, (t, k, g), i, w) =
    let no_label : has is_label_word (ts ++ us) ≡ false = rw (w, g) (truth_no_label t.kind k) in
    rw no_label (branch_reads context c a b ts us (f, r, (t, k, g), i, w))

br_reads : (context : Context) (c : Value) (a b : List ℕ) → Reads (br_behind context) (op.Branch c a b) (Flagged (Is is_truth_word) then IsValue context (Int W1) c then IsNextLabel context a then IsNextLabel context b)
br_reads context c a b ts us i =
    flagged_reads (br_at context) (op.Branch c a b) (IsBranch context c a b) (then_no_flag (Is is_truth_word) _ (is_no_flag is_truth_word truth_no_flag)) (branch_at_reads context c a b) ts us (flags_before (Is is_truth_word) _ ts i)

switch_reads : (context : Context) (ty : Scalar) (v : Value) (otherwise : List ℕ) (cases : List SwitchCase) → Reads (switch_behind context) (op.Switch ty v otherwise cases) (Flagged (IsTyped context (argument ty v)) then IsNextLabel context otherwise then IsMark OpenBracket then AreInRow (IsCase context ty) cases then IsMark CloseBracket)
switch_reads context ty v otherwise cases =
    bind_reads (flagged_typed_at context) (λ v. next_label_at context v.1 >>= λ d. cases_at context v.0.ty d.1 >>= λ cs. Ok (op.Switch v.0.ty v.0.value d.0 cs.0, cs.1)) (argument ty v) (op.Switch ty v otherwise cases) _ _ (flagged_typed_reads context (argument ty v))
    (bind_reads (next_label_at context) (λ d. cases_at context ty d.1 >>= λ cs. Ok (op.Switch ty v d.0 cs.0, cs.1)) otherwise (op.Switch ty v otherwise cases) _ _ (next_label_reads context otherwise)
    (last_reads (cases_at context ty) (λ cs. op.Switch ty v otherwise cs) cases _ (cases_reads context ty cases)))

-- Calls.

-- what a call begins with
abbrev BeginsCall : List Tok → Type 0
BeginsCall ts = (t : Tok) × (rest : List Tok) × (ts ≡ t ∷ rest) × ((is_tail_word t.kind ≡ true) ⊎ (t.kind ≡ kinds.Word (keywords.Instruction instructions.Call)))

begins_call : (context : Context) (form : TextForm) (o : Op) (ts us : List Tok) → IsCall context form o ts → BeginsCall (ts ++ us)
begins_call context form o ts us (f, b, (zero, e), (f2, b2, (t, k, g), rest, w2), w) =
    (t, b2 ++ us, rw (w, e, w2, g) refl, inr (call_word t.kind k))
begins_call context form o ts us (f, b, (suc n, (f2, b2, (t, k, g), r, w2)), rest, w) =
    (t, (b2 ++ b) ++ us, rw (w, w2, g) refl, inl k)

tail_is_no_register : (k : Kind) → is_tail_word k ≡ true → is_register k ≡ false
tail_is_no_register kinds.Local e = cc
tail_is_no_register k e = refl

silent_call : (context : Context) (form : TextForm) (ts : List Tok) → BeginsCall ts → form_at context form ts ≡ tail_call_at context form None ts
silent_call context form ts (t, rest, e, inl k) = rw (e, tail_is_no_register t.kind k, k) refl
silent_call context form ts (t, rest, e, inr k) = rw (e, k) refl

giving_call : (context : Context) (form : TextForm) (to : ℕ) (ts : List Tok) → BeginsCall ts → giving_at context form to ts ≡ tail_call_at context form (Some to) ts
giving_call context form to ts (t, rest, e, inl k) = rw (e, k) refl
giving_call context form to ts (t, rest, e, inr k) = rw (e, k) refl

silent_call_reads : (context : Context) (form : TextForm) (o : Op) (us : List Tok) → EndsCall us → given_by o ≡ None → ReadsTo us (form_at context form) o (IsCall context form o)
silent_call_reads context form o us h e ts i =
    let one : form_at context form (ts ++ us) ≡ tail_call_at context form None (ts ++ us) = silent_call context form (ts ++ us) (begins_call context form o ts us i) in
    let two : tail_call_at context form None (ts ++ us) ≡ Ok (o, us) = subst (λ to. tail_call_at context form to (ts ++ us) ≡ Ok (o, us)) e (calls_read context form o ts us h i) in
    one ∙ two

giving_call_reads : (context : Context) (form : TextForm) (to : ℕ) (o : Op) (us : List Tok) → EndsCall us → given_by o ≡ Some to → ReadsTo us (giving_at context form to) o (IsCall context form o)
giving_call_reads context form to o us h e ts i =
    let one : giving_at context form to (ts ++ us) ≡ tail_call_at context form (Some to) (ts ++ us) = giving_call context form to (ts ++ us) (begins_call context form o ts us i) in
    let two : tail_call_at context form (Some to) (ts ++ us) ≡ Ok (o, us) = subst (λ g. tail_call_at context form g (ts ++ us) ≡ Ok (o, us)) e (calls_read context form o ts us h i) in
    one ∙ two

-- Every form.

unreachable_word : (k : Kind) → instruction_in k ≡ Some instructions.Unreachable → k ≡ kinds.Word (keywords.Instruction instructions.Unreachable)
unreachable_word (kinds.Word (keywords.Instruction w)) e = let p : w ≡ instructions.Unreachable = cc in ap (λ v. kinds.Word (keywords.Instruction v)) p
unreachable_word k e = cc

unreachable_reads : (context : Context) (form : TextForm) (us : List Tok) → ReadsTo us (form_at context form) op.Unreachable (First instructions.Unreachable)
unreachable_reads context form us ts (t, e, g) = rw (g, unreachable_word t.kind e) refl

abbrev IsConversion : Context → Conversion → Scalar → Value → Scalar → Part
IsConversion context how from a into = λ ts.
    (w : ConversionWord)
    × (First (instructions.Conversion w) then Flagged (IsTyped context (argument from a)) then Is is_to then IsScalar into) ts
    × (conversion_of w ≡ how)

conversion_reads : (context : Context) (form : TextForm) (to : ℕ) (how : Conversion) (from : Scalar) (a : Value) (into : Scalar) (us : List Tok) → ReadsTo us (giving_at context form to) (op.Convert to how from a into) (IsConversion context how from a into)
conversion_reads context form to how from a into us ts (w, p, e) =
    giving_reads context form to (instructions.Conversion w) (op.Convert to (conversion_of w) from a into) _ us (λ t ts q. convert_reads context to w from a into ts us q) ts p
    ∙ ap (λ h. Ok (op.Convert to h from a into, us)) e

pub forms_read : (context : Context) (form : TextForm) (o : Op) (us : List Tok) → Ends us → ReadsTo us (form_at context form) o (IsForm context form o)
forms_read context form (op.Binary to o ty a b) us h =
    given_reads context form to (op.Binary to o ty a b) _ us (giving_reads context form to (instructions.Operator o) (op.Binary to o ty a b) _ us (λ t ts q. binary_reads context to o ty a b ts us q))
forms_read context form (op.Compare to p ty a b) us h =
    given_reads context form to (op.Compare to p ty a b) _ us (giving_reads context form to instructions.Compare (op.Compare to p ty a b) _ us (λ t ts q. compare_reads context to p ty a b ts us q))
forms_read context form (op.Convert to how from a into) us h =
    given_reads context form to (op.Convert to how from a into) (IsConversion context how from a into) us (conversion_reads context form to how from a into us)
forms_read context form (op.Unary to unary.Freeze ty a) us h =
    given_reads context form to (op.Unary to unary.Freeze ty a) _ us (giving_reads context form to instructions.Freeze (op.Unary to unary.Freeze ty a) _ us (λ t ts q. freeze_reads context to ty a ts us q))
forms_read context form (op.Select to c ty a b) us h =
    given_reads context form to (op.Select to c ty a b) _ us (giving_reads context form to instructions.Select (op.Select to c ty a b) _ us (λ t ts q. select_reads context to c ty a b ts us q))
forms_read context form (op.Phi to ty edges) us h =
    given_reads context form to (op.Phi to ty edges) _ us (giving_reads context form to instructions.Phi (op.Phi to ty edges) _ us (λ t ts q. phi_reads context to ty edges us h.further ts q))
forms_read context form (op.Alloca to ty) us h =
    given_reads context form to (op.Alloca to ty) _ us (giving_reads context form to instructions.Alloca (op.Alloca to ty) _ us (λ t ts q. alloca_reads context to ty us h.further ts q))
forms_read context form (op.Load to ty p) us h =
    given_reads context form to (op.Load to ty p) _ us (giving_reads context form to instructions.Load (op.Load to ty p) _ us (λ t ts q. load_reads context to ty p us h.further ts q))
forms_read context form (op.Store ty v p) us h =
    silent_reads context form instructions.Store (op.Store ty v p) _ us (λ t ts q. store_reads context ty v p us h.further ts q)
forms_read context form (op.GetElementPtr to ty base indices) us h =
    given_reads context form to (op.GetElementPtr to ty base indices) _ us (giving_reads context form to instructions.GetElementPtr (op.GetElementPtr to ty base indices) _ us (λ t ts q. element_reads context to ty base indices us h.further ts q))
forms_read context form (op.Call None ret f args) us h = silent_call_reads context form (op.Call None ret f args) us h.call refl
forms_read context form (op.Call (Some to) ret f args) us h =
    given_reads context form to (op.Call (Some to) ret f args) _ us (giving_call_reads context form to (op.Call (Some to) ret f args) us h.call refl)
forms_read context form (op.CopyBlock moves d s len) us h = silent_call_reads context form (op.CopyBlock moves d s len) us h.call refl
forms_read context form (op.FillBlock d b len) us h = silent_call_reads context form (op.FillBlock d b len) us h.call refl
forms_read context form (op.Ret None) us h = silent_reads context form instructions.Ret (op.Ret None) _ us (λ t ts q. ret_void_reads context ts us q)
forms_read context form (op.Ret (Some v)) us h = silent_reads context form instructions.Ret (op.Ret (Some v)) _ us (λ t ts q. ret_reads context v ts us q)
forms_read context form (op.Jump l) us h = silent_reads context form instructions.Br (op.Jump l) _ us (λ t ts q. jump_reads context l ts us q)
forms_read context form (op.Branch c a b) us h = silent_reads context form instructions.Br (op.Branch c a b) _ us (λ t ts q. br_reads context c a b ts us q)
forms_read context form (op.Switch ty v otherwise cases) us h = silent_reads context form instructions.Switch (op.Switch ty v otherwise cases) _ us (λ t ts q. switch_reads context ty v otherwise cases ts us q)
forms_read context form op.Unreachable us h = unreachable_reads context form us
forms_read context form (op.Guard p n narrow) us h = silent_call_reads context form (op.Guard p n narrow) us h.call refl
forms_read context form (op.Check p) us h = silent_call_reads context form (op.Check p) us h.call refl
forms_read context form (op.Enter f) us h = silent_call_reads context form (op.Enter f) us h.call refl
forms_read context form (op.Pre f k) us h = silent_call_reads context form (op.Pre f k) us h.call refl
forms_read context form (op.Post f k) us h = silent_call_reads context form (op.Post f k) us h.call refl
forms_read context form (op.Leave f) us h = silent_call_reads context form (op.Leave f) us h.call refl
