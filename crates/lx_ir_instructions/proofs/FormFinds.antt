-- Instructions: what is read is in the grammar.
use Rattle.std.proofs.Common.{◌≡◌, ℕ, Bool, true, false, Option, Some, None, List, [], ◌∷◌, ◌++◌, Ok, ◌⊎◌, inl, inr, refl, sym, ap, ◌∙◌, subst}
use Rattle.std.specs.Prelude.{if◌then◌else◌}
use Rattle.std.proofs.lemmas.List.{append-nil}
use Rattle.lx_ir_tokens.specs.declared.token.Tok.{Tok}
use Rattle.lx_ir_tokens.specs.declared.token.Kind.{Kind}
use Rattle.lx_ir_tokens.specs.declared.token.Kind.TheVariants as kinds
use Rattle.lx_ir_tokens.specs.declared.token.Mark.TheVariants.{Comma, Equal, OpenBracket, CloseBracket}
use Rattle.lx_ir_tokens.specs.declared.keyword.InstructionWord.{InstructionWord}
use Rattle.lx_ir_tokens.specs.declared.keyword.InstructionWord.TheVariants as instructions
use Rattle.lx_ir_tokens.specs.declared.keyword.ConversionWord.{ConversionWord}
use Rattle.lx_ir_tokens.specs.declared.keyword.Keyword.TheVariants as keywords
use Rattle.lx_words.specs.declared.word.BinOp.{BinOp}
use Rattle.lx_words.specs.declared.word.Width.TheVariants.{W1}
use Rattle.lx_ir.specs.declared.types.Scalar.{Scalar}
use Rattle.lx_ir.specs.declared.types.Scalar.TheVariants.{Int}
use Rattle.lx_ir.specs.declared.module.Value.{Value}
use Rattle.lx_ir.specs.declared.instr.Argument.{Argument}
use Rattle.lx_ir.specs.declared.instr.Edge.{Edge}
use Rattle.lx_ir.specs.declared.instr.SwitchCase.{SwitchCase}
use Rattle.lx_ir.specs.declared.instr.UnaryOp.TheVariants as unary
use Rattle.lx_ir.specs.declared.instr.Op.{Op}
use Rattle.lx_ir.specs.declared.instr.Op.TheVariants as op
use Rattle.lx_ir_terms.specs.Context.{Context, register_number}
use Rattle.lx_ir_terms.specs.Reading.{Read, ◌>>=◌, behind, is_mark, is_to, has, pick_at, next_at, mark_at}
use Rattle.lx_ir_terms.specs.Types.{scalar_in, scalar_at, scalar_refusal, result_in}
use Rattle.lx_ir_terms.specs.Words as passing
use Rattle.lx_ir_terms.specs.Grammar.{Part, Picks, Is, IsMark, ◌then◌, IsWritten}
use Rattle.lx_ir_terms.specs.Laws.{Finds}
use Rattle.lx_ir_terms.proofs.Marks.{next_token}
use Rattle.lx_ir_terms.proofs.Parts.{Joined, Mapped, pick_finds, next_finds, bind_finds, last_finds, ok_same}
use Rattle.lx_ir_constants.specs.Constants.{is_register, skipped, is_flag_word, word_refusal, value_at}
use Rattle.lx_ir_constants.specs.Grammar.{AreItems, IsValue}
use Rattle.lx_ir_constants.proofs.ListLaws.{Found}
use Rattle.lx_ir_constants.proofs.PointerLaws.{form_finds}
use Rattle.lx_ir_constants.proofs.ValueLaws.{value_found}
use Rattle.lx_ir_operands.specs.Steps.{align_at, unbroken_at}
use Rattle.lx_ir_operands.specs.Operands.{address_at, again_at, argument, cases_at, edge_at, flagged_scalar_at, flagged_type_at, flagged_typed_at, instruction_in, is_label_word, is_truth_word, local_at, named_type_refusal, next_label_at, second_at, truth_type_at, typed_at}
use Rattle.lx_ir_operands.specs.Grammar.{AreInRow, First, Flagged, IsAddress, IsAgain, IsAlign, IsCase, IsEdge, IsLabel, IsLocal, IsNextLabel, IsScalar, IsSecond, IsTyped}
use Rattle.lx_ir_operands.proofs.FlagLaws.{flagged_finds, flagged_scalar_finds, flagged_truth_finds, flagged_type_finds, flagged_typed_finds, typed_finds}
use Rattle.lx_ir_operands.proofs.OperandLaws.{address_finds, again_finds, local_finds, next_label_finds, second_finds}
use Rattle.lx_ir_operands.proofs.ListedLaws.{cases_finds, edges_found, indices_found}
use Rattle.lx_ir_operands.proofs.PassedLaws.{align_found}
use Rattle.lx_ir_operands.proofs.Chains.{then_finds}
use Rattle.lx_ir_calls.specs.declared.intrinsics.TextForm.{TextForm}
use Rattle.lx_ir_calls.specs.Calls.{call_behind, is_tail_word, tail_call_at}
use Rattle.lx_ir_calls.specs.Grammar.{IsCall, IsCalled, given_by}
use Rattle.lx_ir_calls.proofs.CallLaws.{call_word, calls_found}
use Rattle.lx_ir_instructions.specs.Instructions.{binary_behind, predicate_in, predicate_at, compare_behind, conversion_of, convert_behind, unary_behind, select_behind, phi_behind, alloca_behind, load_behind, element_behind, store_behind, flagged_result_at, returned_at, ret_behind, jump_behind, branch_behind, br_at, br_behind, switch_behind, giving_of, silent_of, by_word, first_word_at, giving_at, silent_at, given_behind, form_at}
use Rattle.lx_ir_instructions.specs.Grammar.{IsRegister, Given, IsForm}
use Rattle.lx_ir_instructions.proofs.FormParts.{flags_before, flags_first, given_as}

-- what gives a register: with `%r =` before it, it is an instruction
abbrev GivesForm : Context → TextForm → ℕ → Op → Part
GivesForm context form to o ts = (rs es : List Tok) → IsRegister context to rs → IsMark Equal es → IsForm context form o (rs ++ (es ++ ts))

-- a word, and what stands behind it
word_then : (w : InstructionWord) (p : Part) (t : Tok) (ts : List Tok) → instruction_in t.kind ≡ Some w → p ts → (First w then p) (t ∷ ts)
word_then w p t ts k q = (t ∷ [], ts, (t, k, refl), q, refl)

gives_as : (context : Context) (form : TextForm) (to : ℕ) (w : InstructionWord) (p : Part) (o : Op) → ((us : List Tok) → Given context to (First w then p) us → IsForm context form o us) → (t : Tok) (ts : List Tok) → instruction_in t.kind ≡ Some w → p ts → GivesForm context form to o (t ∷ ts)
gives_as context form to w p o h t ts k q rs es r m = h (rs ++ (es ++ (t ∷ ts))) (given_as context to (First w then p) (t ∷ ts) rs es (word_then w p t ts k q) r m)

-- what is found behind the first word of an instruction
behind_word : (context : Context) (form : TextForm) (to : ℕ) (t : Tok) (read : List Tok → Read Op) (part : Op → Part) → Finds read part → ((o : Op) (ts : List Tok) → part o ts → GivesForm context form to o (t ∷ ts)) → (ts us : List Tok) (o : Op) → read ts ≡ Ok (o, us) → Found (GivesForm context form to) o (t ∷ ts) us
behind_word context form to t read part h k ts us o e =
    let w = h ts us o e in
    (t ∷ w.0, k o w.0 w.1, ap (λ r. t ∷ r) w.2)

behind_silent : (context : Context) (form : TextForm) (t : Tok) (read : List Tok → Read Op) (part : Op → Part) → Finds read part → ((o : Op) (ts : List Tok) → part o ts → IsForm context form o (t ∷ ts)) → (ts us : List Tok) (o : Op) → read ts ≡ Ok (o, us) → Found (IsForm context form) o (t ∷ ts) us
behind_silent context form t read part h k ts us o e =
    let w = h ts us o e in
    (t ∷ w.0, k o w.0 w.1, ap (λ r. t ∷ r) w.2)

-- Operators, comparisons and conversions.

abbrev BinaryParts : Context → ℕ → BinOp → Op → Part
BinaryParts context to o = Joined (λ a. Flagged (IsTyped context a)) (λ a. Mapped (λ (b : Value). op.Binary to o a.ty a.value b) (IsSecond context a.ty))

binary_finds : (context : Context) (to : ℕ) (o : BinOp) → Finds (binary_behind context to o) (BinaryParts context to o)
binary_finds context to o =
    bind_finds (flagged_typed_at context) (λ a. second_at context a.0.ty a.1 >>= λ b. Ok (op.Binary to o a.0.ty a.0.value b.0, b.1)) _ _ (flagged_typed_finds context)
    (λ a. last_finds (second_at context a.ty) (λ b. op.Binary to o a.ty a.value b) _ (second_finds context a.ty))

binary_says : (context : Context) (form : TextForm) (to : ℕ) (n : BinOp) (t : Tok) → instruction_in t.kind ≡ Some (instructions.Operator n) → (o : Op) (ts : List Tok) → BinaryParts context to n o ts → GivesForm context form to o (t ∷ ts)
binary_says context form to n t k o ts (a, (f, b, pa, (v, pv, eq), e)) =
    subst (λ x. GivesForm context form to x (t ∷ ts)) eq (gives_as context form to (instructions.Operator n) (Flagged (IsTyped context a) then IsSecond context a.ty v) (op.Binary to n a.ty a.value v) (λ us g. g) t ts k (f, b, pa, pv, e))

abbrev CompareParts : Context → ℕ → Op → Part
CompareParts context to = Joined (λ p. Flagged (Picks (λ t. predicate_in t.kind) p)) (λ p. Joined (IsTyped context) (λ a. Mapped (λ (b : Value). op.Compare to p a.ty a.value b) (IsSecond context a.ty)))

compare_finds : (context : Context) (to : ℕ) → Finds (compare_behind context to) (CompareParts context to)
compare_finds context to =
    bind_finds predicate_at (λ p. typed_at context p.1 >>= λ a. second_at context a.0.ty a.1 >>= λ b. Ok (op.Compare to p.0 a.0.ty a.0.value b.0, b.1)) _ _ (flagged_finds (pick_at (λ t. predicate_in t.kind) word_refusal) (Picks (λ t. predicate_in t.kind)) (pick_finds (λ t. predicate_in t.kind) word_refusal))
    (λ p. bind_finds (typed_at context) (λ a. second_at context a.0.ty a.1 >>= λ b. Ok (op.Compare to p a.0.ty a.0.value b.0, b.1)) _ _ (typed_finds context)
    (λ a. last_finds (second_at context a.ty) (λ b. op.Compare to p a.ty a.value b) _ (second_finds context a.ty)))

compare_says : (context : Context) (form : TextForm) (to : ℕ) (t : Tok) → instruction_in t.kind ≡ Some instructions.Compare → (o : Op) (ts : List Tok) → CompareParts context to o ts → GivesForm context form to o (t ∷ ts)
compare_says context form to t k o ts (p, (f, b, pp, (a, (f2, b2, pa, (v, pv, eq), e2)), e)) =
    subst (λ x. GivesForm context form to x (t ∷ ts)) eq (gives_as context form to instructions.Compare (Flagged (Picks (λ t. predicate_in t.kind) p) then IsTyped context a then IsSecond context a.ty v) (op.Compare to p a.ty a.value v) (λ us g. g) t ts k (f, b, pp, (f2, b2, pa, pv, e2), e))

abbrev ConvertParts : Context → ℕ → ConversionWord → Op → Part
ConvertParts context to w = Joined (λ a. Flagged (IsTyped context a)) (λ a. Joined (λ (t : Unit {0}). Is is_to) (λ t. Mapped (λ (u : Scalar). op.Convert to (conversion_of w) a.ty a.value u) IsScalar))

convert_finds : (context : Context) (to : ℕ) (w : ConversionWord) → Finds (convert_behind context to (conversion_of w)) (ConvertParts context to w)
convert_finds context to w =
    bind_finds (flagged_typed_at context) (λ a. next_at is_to a.1 >>= λ t. scalar_at t.1 >>= λ u. Ok (op.Convert to (conversion_of w) a.0.ty a.0.value u.0, u.1)) _ _ (flagged_typed_finds context)
    (λ a. bind_finds (next_at is_to) (λ t. scalar_at t.1 >>= λ u. Ok (op.Convert to (conversion_of w) a.ty a.value u.0, u.1)) _ _ (next_finds is_to)
    (λ t. last_finds scalar_at (λ u. op.Convert to (conversion_of w) a.ty a.value u) _ (pick_finds (λ t. scalar_in t.kind) scalar_refusal)))

abbrev IsConvertRest : Context → Argument → Scalar → Part
IsConvertRest context a u = Flagged (IsTyped context a) then Is is_to then IsScalar u

convert_says : (context : Context) (form : TextForm) (to : ℕ) (w : ConversionWord) (t : Tok) → instruction_in t.kind ≡ Some (instructions.Conversion w) → (o : Op) (ts : List Tok) → ConvertParts context to w o ts → GivesForm context form to o (t ∷ ts)
convert_says context form to w t k o ts (a, (f, b, pa, (x, (f2, b2, pt, (u, pu, eq), e2)), e)) =
    subst (λ x. GivesForm context form to x (t ∷ ts)) eq
    (λ rs es r m. (rs, es ++ (t ∷ ts), r, (es, t ∷ ts, m, (w, word_then (instructions.Conversion w) (IsConvertRest context a u) t ts k (f, b, pa, (f2, b2, pt, pu, e2), e), refl), refl), refl))

freeze_finds : (context : Context) (to : ℕ) → Finds (unary_behind context to unary.Freeze) (Mapped (λ (a : Argument). op.Unary to unary.Freeze a.ty a.value) (λ a. Flagged (IsTyped context a)))
freeze_finds context to = last_finds (flagged_typed_at context) (λ a. op.Unary to unary.Freeze a.ty a.value) _ (flagged_typed_finds context)

freeze_says : (context : Context) (form : TextForm) (to : ℕ) (t : Tok) → instruction_in t.kind ≡ Some instructions.Freeze → (o : Op) (ts : List Tok) → Mapped (λ (a : Argument). op.Unary to unary.Freeze a.ty a.value) (λ a. Flagged (IsTyped context a)) o ts → GivesForm context form to o (t ∷ ts)
freeze_says context form to t k o ts (a, pa, eq) =
    subst (λ x. GivesForm context form to x (t ∷ ts)) eq (gives_as context form to instructions.Freeze (Flagged (IsTyped context a)) (op.Unary to unary.Freeze a.ty a.value) (λ us g. g) t ts k pa)

-- Choices.

abbrev SelectParts : Context → ℕ → Op → Part
SelectParts context to =
    Joined (λ (i : Unit {0}). Flagged (Is is_truth_word)) (λ i. Joined (IsValue context (Int W1)) (λ c. Joined (λ (d : Unit {0}). IsMark Comma) (λ d. Joined (IsTyped context) (λ a. Mapped (λ (b : Value). op.Select to c a.ty a.value b) (IsAgain context a.ty)))))

select_finds : (context : Context) (to : ℕ) → Finds (select_behind context to) (SelectParts context to)
select_finds context to =
    bind_finds (λ ts. truth_type_at (skipped is_flag_word ts)) (λ i. value_at context (Int W1) i.1 >>= λ c. mark_at Comma c.1 >>= λ d. typed_at context d.1 >>= λ a. again_at context a.0.ty a.1 >>= λ b. Ok (op.Select to c.0 a.0.ty a.0.value b.0, b.1)) _ _ flagged_truth_finds
    (λ i. bind_finds (value_at context (Int W1)) (λ c. mark_at Comma c.1 >>= λ d. typed_at context d.1 >>= λ a. again_at context a.0.ty a.1 >>= λ b. Ok (op.Select to c.0 a.0.ty a.0.value b.0, b.1)) _ _ (value_found context (Int W1))
    (λ c. bind_finds (mark_at Comma) (λ d. typed_at context d.1 >>= λ a. again_at context a.0.ty a.1 >>= λ b. Ok (op.Select to c a.0.ty a.0.value b.0, b.1)) _ _ (next_finds (is_mark Comma))
    (λ d. bind_finds (typed_at context) (λ a. again_at context a.0.ty a.1 >>= λ b. Ok (op.Select to c a.0.ty a.0.value b.0, b.1)) _ _ (typed_finds context)
    (λ a. last_finds (again_at context a.ty) (λ b. op.Select to c a.ty a.value b) _ (again_finds context a.ty)))))

select_says : (context : Context) (form : TextForm) (to : ℕ) (t : Tok) → instruction_in t.kind ≡ Some instructions.Select → (o : Op) (ts : List Tok) → SelectParts context to o ts → GivesForm context form to o (t ∷ ts)
select_says context form to t k o ts (i, (f, b, pi, (c, (f2, b2, pc, (d, (f3, b3, pd, (a, (f4, b4, pa, (v, pv, eq), e4)), e3)), e2)), e)) =
    subst (λ x. GivesForm context form to x (t ∷ ts)) eq (gives_as context form to instructions.Select (Flagged (Is is_truth_word) then IsValue context (Int W1) c then IsMark Comma then IsTyped context a then IsAgain context a.ty v) (op.Select to c a.ty a.value v) (λ us g. g) t ts k (f, b, pi, (f2, b2, pc, (f3, b3, pd, (f4, b4, pa, pv, e4), e3), e2), e))

abbrev PhiParts : Context → ℕ → Op → Part
PhiParts context to = Joined (λ ty. Flagged (IsScalar ty)) (λ ty. Mapped (λ (es : List Edge). op.Phi to ty es) (AreItems (IsEdge context ty)))

phi_finds : (context : Context) (to : ℕ) → Finds (phi_behind context to) (PhiParts context to)
phi_finds context to =
    bind_finds flagged_scalar_at (λ t. unbroken_at (edge_at context t.0) t.1 >>= λ es. Ok (op.Phi to t.0 es.0, es.1)) _ _ flagged_scalar_finds
    (λ ty. last_finds (unbroken_at (edge_at context ty)) (λ es. op.Phi to ty es) _ (edges_found context ty))

phi_says : (context : Context) (form : TextForm) (to : ℕ) (t : Tok) → instruction_in t.kind ≡ Some instructions.Phi → (o : Op) (ts : List Tok) → PhiParts context to o ts → GivesForm context form to o (t ∷ ts)
phi_says context form to t k o ts (ty, (f, b, pt, (es, pe, eq), e)) =
    subst (λ x. GivesForm context form to x (t ∷ ts)) eq (gives_as context form to instructions.Phi (Flagged (IsScalar ty) then AreItems (IsEdge context ty) es) (op.Phi to ty es) (λ us g. g) t ts k (f, b, pt, pe, e))

-- Memory.

abbrev AllocaParts : Context → ℕ → Op → Part
AllocaParts context to = Joined (λ ty. Flagged (IsWritten context ty)) (λ ty. Mapped (λ (a : Unit {0}). op.Alloca to ty) (λ a. IsAlign))

alloca_finds : (context : Context) (to : ℕ) → Finds (alloca_behind context to) (AllocaParts context to)
alloca_finds context to =
    bind_finds (flagged_type_at context) (λ t. align_at t.1 >>= λ a. Ok (op.Alloca to t.0, a.1)) _ _ (flagged_type_finds context)
    (λ ty. last_finds align_at (λ a. op.Alloca to ty) _ align_found)

alloca_says : (context : Context) (form : TextForm) (to : ℕ) (t : Tok) → instruction_in t.kind ≡ Some instructions.Alloca → (o : Op) (ts : List Tok) → AllocaParts context to o ts → GivesForm context form to o (t ∷ ts)
alloca_says context form to t k o ts (ty, (f, b, pt, (a, pa, eq), e)) =
    subst (λ x. GivesForm context form to x (t ∷ ts)) eq (gives_as context form to instructions.Alloca (Flagged (IsWritten context ty) then IsAlign) (op.Alloca to ty) (λ us g. g) t ts k (f, b, pt, pa, e))

abbrev LoadParts : Context → ℕ → Op → Part
LoadParts context to = Joined (λ ty. Flagged (IsScalar ty)) (λ ty. Joined (IsAddress context) (λ p. Mapped (λ (a : Unit {0}). op.Load to ty p) (λ a. IsAlign)))

load_finds : (context : Context) (to : ℕ) → Finds (load_behind context to) (LoadParts context to)
load_finds context to =
    bind_finds flagged_scalar_at (λ t. address_at context t.1 >>= λ p. align_at p.1 >>= λ a. Ok (op.Load to t.0 p.0, a.1)) _ _ flagged_scalar_finds
    (λ ty. bind_finds (address_at context) (λ p. align_at p.1 >>= λ a. Ok (op.Load to ty p.0, a.1)) _ _ (address_finds context)
    (λ p. last_finds align_at (λ a. op.Load to ty p) _ align_found))

load_says : (context : Context) (form : TextForm) (to : ℕ) (t : Tok) → instruction_in t.kind ≡ Some instructions.Load → (o : Op) (ts : List Tok) → LoadParts context to o ts → GivesForm context form to o (t ∷ ts)
load_says context form to t k o ts (ty, (f, b, pt, (p, (f2, b2, pp, (a, pa, eq), e2)), e)) =
    subst (λ x. GivesForm context form to x (t ∷ ts)) eq (gives_as context form to instructions.Load (Flagged (IsScalar ty) then IsAddress context p then IsAlign) (op.Load to ty p) (λ us g. g) t ts k (f, b, pt, (f2, b2, pp, pa, e2), e))

abbrev StoreParts : Context → Op → Part
StoreParts context = Joined (λ v. Flagged (IsTyped context v)) (λ v. Joined (IsAddress context) (λ p. Mapped (λ (a : Unit {0}). op.Store v.ty v.value p) (λ a. IsAlign)))

store_finds : (context : Context) → Finds (store_behind context) (StoreParts context)
store_finds context =
    bind_finds (flagged_typed_at context) (λ v. address_at context v.1 >>= λ p. align_at p.1 >>= λ a. Ok (op.Store v.0.ty v.0.value p.0, a.1)) _ _ (flagged_typed_finds context)
    (λ v. bind_finds (address_at context) (λ p. align_at p.1 >>= λ a. Ok (op.Store v.ty v.value p.0, a.1)) _ _ (address_finds context)
    (λ p. last_finds align_at (λ a. op.Store v.ty v.value p) _ align_found))

store_says : (context : Context) (form : TextForm) (t : Tok) → instruction_in t.kind ≡ Some instructions.Store → (o : Op) (ts : List Tok) → StoreParts context o ts → IsForm context form o (t ∷ ts)
store_says context form t k o ts (v, (f, b, pv, (p, (f2, b2, pp, (a, pa, eq), e2)), e)) =
    subst (λ x. IsForm context form x (t ∷ ts)) eq (word_then instructions.Store (Flagged (IsTyped context v) then IsAddress context p then IsAlign) t ts k (f, b, pv, (f2, b2, pp, pa, e2), e))

abbrev ElementParts : Context → ℕ → Op → Part
ElementParts context to =
    Joined (λ ty. Flagged (IsWritten context ty)) (λ ty. Joined (IsAddress context) (λ p. Joined (λ (c : Unit {0}). IsMark Comma) (λ c. Mapped (λ (is : List Argument). op.GetElementPtr to ty p is) (AreItems (IsTyped context)))))

element_finds : (context : Context) (to : ℕ) → Finds (element_behind context to) (ElementParts context to)
element_finds context to =
    bind_finds (flagged_type_at context) (λ t. address_at context t.1 >>= λ p. mark_at Comma p.1 >>= λ c. unbroken_at (typed_at context) c.1 >>= λ is. Ok (op.GetElementPtr to t.0 p.0 is.0, is.1)) _ _ (flagged_type_finds context)
    (λ ty. bind_finds (address_at context) (λ p. mark_at Comma p.1 >>= λ c. unbroken_at (typed_at context) c.1 >>= λ is. Ok (op.GetElementPtr to ty p.0 is.0, is.1)) _ _ (address_finds context)
    (λ p. bind_finds (mark_at Comma) (λ c. unbroken_at (typed_at context) c.1 >>= λ is. Ok (op.GetElementPtr to ty p is.0, is.1)) _ _ (next_finds (is_mark Comma))
    (λ c. last_finds (unbroken_at (typed_at context)) (λ is. op.GetElementPtr to ty p is) _ (indices_found context))))

element_says : (context : Context) (form : TextForm) (to : ℕ) (t : Tok) → instruction_in t.kind ≡ Some instructions.GetElementPtr → (o : Op) (ts : List Tok) → ElementParts context to o ts → GivesForm context form to o (t ∷ ts)
element_says context form to t k o ts (ty, (f, b, pt, (p, (f2, b2, pp, (c, (f3, b3, pc, (is, pis, eq), e3)), e2)), e)) =
    subst (λ x. GivesForm context form to x (t ∷ ts)) eq (gives_as context form to instructions.GetElementPtr (Flagged (IsWritten context ty) then IsAddress context p then IsMark Comma then AreItems (IsTyped context) is) (op.GetElementPtr to ty p is) (λ us g. g) t ts k (f, b, pt, (f2, b2, pp, (f3, b3, pc, pis, e3), e2), e))

-- Ends of blocks.

-- what is returned behind its type
abbrev Returned : Context → Option Scalar → Option Argument → Part
Returned context None v ts = (ts ≡ []) × (None ≡ v)
Returned context (Some ty) v ts = Mapped (λ (x : Value). Some (argument ty x)) (IsValue context ty) v ts

returned_finds : (context : Context) (r : Option Scalar) → Finds (returned_at context r) (Returned context r)
returned_finds context None ts us v e = let s = ok_same None v ts us e in ([], (refl, s.0), s.1)
returned_finds context (Some ty) ts us v e = last_finds (value_at context ty) (λ x. Some (argument ty x)) _ (value_found context ty) ts us v e

abbrev RetParts : Context → Op → Part
RetParts context = Joined (λ r. Flagged (Picks (λ t. result_in t.kind) r)) (λ r. Mapped (λ (v : Option Argument). op.Ret v) (Returned context r))

ret_finds : (context : Context) → Finds (ret_behind context) (RetParts context)
ret_finds context =
    bind_finds flagged_result_at (λ t. returned_at context t.0 t.1 >>= λ v. Ok (op.Ret v.0, v.1)) _ _ (flagged_finds (pick_at (λ t. result_in t.kind) passing.word_refusal) (Picks (λ t. result_in t.kind)) (pick_finds (λ t. result_in t.kind) passing.word_refusal))
    (λ r. last_finds (returned_at context r) (λ v. op.Ret v) _ (returned_finds context r))

result_scalar : (k : Kind) (ty : Scalar) → result_in k ≡ Some (Some ty) → scalar_in k ≡ Some ty
result_scalar (kinds.Word (keywords.Scalar w)) ty e = cc
result_scalar k ty e = cc

result_typed : (context : Context) (a : Argument) (ts : List Tok) → Flagged (Picks (λ t. result_in t.kind) (Some a.ty) then IsValue context a.ty a.value) ts → Flagged (IsTyped context a) ts
result_typed context a ts (g, r, flags, (f, b, (t, e, h), v, w2), w) = (g, r, flags, (f, b, (t, result_scalar t.kind a.ty e, h), v, w2), w)

ret_says : (context : Context) (form : TextForm) (t : Tok) → instruction_in t.kind ≡ Some instructions.Ret → (o : Op) (ts : List Tok) → RetParts context o ts → IsForm context form o (t ∷ ts)
ret_says context form t k o ts (None, (f, b, pr, (v, (n, nv), eq), e)) =
    let whole : ts ≡ f = e ∙ ap (λ r. f ++ r) n ∙ append-nil f in
    let pr' : Flagged (Picks (λ t. result_in t.kind) None) ts = subst (Flagged (Picks (λ t. result_in t.kind) None)) (sym whole) pr in
    subst (λ x. IsForm context form x (t ∷ ts)) (ap op.Ret nv ∙ eq) (word_then instructions.Ret (Flagged (Picks (λ t. result_in t.kind) None)) t ts k pr')
ret_says context form t k o ts (Some ty, (f, b, pr, (v, (x, px, nv), eq), e)) =
    let typed : Flagged (IsTyped context (argument ty x)) ts = result_typed context (argument ty x) ts (flags_before (Picks (λ t. result_in t.kind) (Some ty)) (IsValue context ty x) ts (f, b, pr, px, e)) in
    subst (λ x. IsForm context form x (t ∷ ts)) (ap op.Ret nv ∙ eq) (word_then instructions.Ret (Flagged (IsTyped context (argument ty x))) t ts k typed)

abbrev IsBranch : Context → Value → List ℕ → List ℕ → Part
IsBranch context c a b = Is is_truth_word then IsValue context (Int W1) c then IsNextLabel context a then IsNextLabel context b

abbrev BranchParts : Context → Op → Part
BranchParts context =
    Joined (λ (i : Unit {0}). Is is_truth_word) (λ i. Joined (IsValue context (Int W1)) (λ c. Joined (IsNextLabel context) (λ a. Mapped (λ (b : List ℕ). op.Branch c a b) (IsNextLabel context))))

branch_finds : (context : Context) → Finds (branch_behind context) (BranchParts context)
branch_finds context =
    bind_finds truth_type_at (λ i. value_at context (Int W1) i.1 >>= λ c. next_label_at context c.1 >>= λ a. next_label_at context a.1 >>= λ b. Ok (op.Branch c.0 a.0 b.0, b.1)) _ _ (form_finds is_truth_word named_type_refusal)
    (λ i. bind_finds (value_at context (Int W1)) (λ c. next_label_at context c.1 >>= λ a. next_label_at context a.1 >>= λ b. Ok (op.Branch c.0 a.0 b.0, b.1)) _ _ (value_found context (Int W1))
    (λ c. bind_finds (next_label_at context) (λ a. next_label_at context a.1 >>= λ b. Ok (op.Branch c a.0 b.0, b.1)) _ _ (next_label_finds context)
    (λ a. last_finds (next_label_at context) (λ b. op.Branch c a b) _ (next_label_finds context))))

-- what stands behind the flags of a `br`
abbrev BrSays : Context → Op → Part
BrSays context o ts = ((l : List ℕ) × IsLabel context l ts × (op.Jump l ≡ o)) ⊎ ((c : Value) × (a : List ℕ) × (b : List ℕ) × IsBranch context c a b ts × (op.Branch c a b ≡ o))

branch_says : (context : Context) (o : Op) (ts : List Tok) → BranchParts context o ts → BrSays context o ts
branch_says context o ts (i, (f, b, pi, (c, (f2, b2, pc, (x, (f3, b3, px, (y, py, eq), e3)), e2)), e)) =
    inr (c, x, y, (f, b, pi, (f2, b2, pc, (f3, b3, px, py, e3), e2), e), eq)

jump_says : (context : Context) (o : Op) (k : Tok) (ts : List Tok) → is_label_word k.kind ≡ true → Mapped (λ (l : List ℕ). op.Jump l) (IsLocal context) o ts → BrSays context o (k ∷ ts)
jump_says context o k ts h (l, pl, eq) = inl (l, (k ∷ [], ts, (k, h, refl), pl, refl), eq)

abbrev br_by : Bool → Context → List Tok → Read Op
br_by b context ts = if b then jump_behind context (behind ts) else branch_behind context ts

br_step : (b : Bool) (context : Context) (ts us : List Tok) (o : Op) → has is_label_word ts ≡ b → br_by b context ts ≡ Ok (o, us) → Found (BrSays context) o ts us
br_step true context ts us o h e =
    let n = next_token is_label_word ts h in
    let w = last_finds (local_at context) (λ l. op.Jump l) _ (local_finds context) (behind ts) us o e in
    (n.token ∷ w.0, jump_says context o n.token w.0 n.kind w.1, n.whole ∙ ap (λ r. n.token ∷ r) w.2)
br_step false context ts us o h e =
    let w = branch_finds context ts us o e in
    (w.0, branch_says context o w.0 w.1, w.2)

br_finds : (context : Context) → Finds (br_behind context) (λ o. Flagged (BrSays context o))
br_finds context = flagged_finds (br_at context) (BrSays context) (λ ts us o e. br_step (has is_label_word ts) context ts us o refl e)

br_says : (context : Context) (form : TextForm) (t : Tok) → instruction_in t.kind ≡ Some instructions.Br → (o : Op) (ts : List Tok) → Flagged (BrSays context o) ts → IsForm context form o (t ∷ ts)
br_says context form t k o ts (g, r, flags, inl (l, pl, eq), w) =
    subst (λ x. IsForm context form x (t ∷ ts)) eq (word_then instructions.Br (Flagged (IsLabel context l)) t ts k (g, r, flags, pl, w))
br_says context form t k o ts (g, r, flags, inr (c, a, b, p, eq), w) =
    subst (λ x. IsForm context form x (t ∷ ts)) eq (word_then instructions.Br (Flagged (Is is_truth_word) then IsValue context (Int W1) c then IsNextLabel context a then IsNextLabel context b) t ts k (flags_first (Is is_truth_word) (IsValue context (Int W1) c then IsNextLabel context a then IsNextLabel context b) ts (g, r, flags, p, w)))

abbrev AreCases : Context → Scalar → List SwitchCase → Part
AreCases context ty cases = IsMark OpenBracket then AreInRow (IsCase context ty) cases then IsMark CloseBracket

abbrev SwitchParts : Context → Op → Part
SwitchParts context =
    Joined (λ v. Flagged (IsTyped context v)) (λ v. Joined (IsNextLabel context) (λ d. Mapped (λ (cs : List SwitchCase). op.Switch v.ty v.value d cs) (AreCases context v.ty)))

switch_finds : (context : Context) → Finds (switch_behind context) (SwitchParts context)
switch_finds context =
    bind_finds (flagged_typed_at context) (λ v. next_label_at context v.1 >>= λ d. cases_at context v.0.ty d.1 >>= λ cs. Ok (op.Switch v.0.ty v.0.value d.0 cs.0, cs.1)) _ _ (flagged_typed_finds context)
    (λ v. bind_finds (next_label_at context) (λ d. cases_at context v.ty d.1 >>= λ cs. Ok (op.Switch v.ty v.value d.0 cs.0, cs.1)) _ _ (next_label_finds context)
    (λ d. last_finds (cases_at context v.ty) (λ cs. op.Switch v.ty v.value d cs) _ (cases_finds context v.ty)))

switch_says : (context : Context) (form : TextForm) (t : Tok) → instruction_in t.kind ≡ Some instructions.Switch → (o : Op) (ts : List Tok) → SwitchParts context o ts → IsForm context form o (t ∷ ts)
switch_says context form t k o ts (v, (f, b, pv, (d, (f2, b2, pd, (cs, pcs, eq), e2)), e)) =
    subst (λ x. IsForm context form x (t ∷ ts)) eq (word_then instructions.Switch (Flagged (IsTyped context v) then IsNextLabel context d then AreCases context v.ty cs) t ts k (f, b, pv, (f2, b2, pd, pcs, e2), e))

-- Calls.

called_in : (context : Context) (form : TextForm) (o : Op) (ts : List Tok) → IsCall context form o ts → (us : List Tok) × IsCalled context form o us
called_in context form o ts (f, b, tails, (f2, b2, first, (f3, b3, ret, (f4, b4, called, w, e4), e3), e2), e) = (f4, called)

call_gives : (context : Context) (form : TextForm) (to : ℕ) (o : Op) (ts : List Tok) → given_by o ≡ Some to → IsCall context form o ts → GivesForm context form to o ts
call_gives context form to (op.Call (Some r) ret f args) ts e i rs es a m =
    let same : r ≡ to = cc in
    given_as context r (IsCall context form (op.Call (Some r) ret f args)) ts rs es i (subst (λ x. IsRegister context x rs) (sym same) a) m
call_gives context form to (op.Call None ret f args) ts e i rs es a m = cc
call_gives context form to o ts e i rs es a m = cc

call_silent : (context : Context) (form : TextForm) (o : Op) (ts : List Tok) → given_by o ≡ None → IsCall context form o ts → IsForm context form o ts
call_silent context form (op.Call None ret f args) ts e i = i
call_silent context form (op.Call (Some r) ret f args) ts e i = cc
call_silent context form (op.CopyBlock moves d s len) ts e i = i
call_silent context form (op.FillBlock d b len) ts e i = i
call_silent context form (op.Guard p n narrow) ts e i = i
call_silent context form (op.Check p) ts e i = i
call_silent context form (op.Enter f) ts e i = i
call_silent context form (op.Leave f) ts e i = i
call_silent context form (op.Pre f k) ts e i = i
call_silent context form (op.Post f k) ts e i = i
call_silent context form (op.Binary to o ty a b) ts e i = absurd (called_in context form (op.Binary to o ty a b) ts i).1
call_silent context form (op.Compare to p ty a b) ts e i = absurd (called_in context form (op.Compare to p ty a b) ts i).1
call_silent context form (op.Convert to how from a into) ts e i = absurd (called_in context form (op.Convert to how from a into) ts i).1
call_silent context form (op.Unary to unary.Freeze ty a) ts e i = absurd (called_in context form (op.Unary to unary.Freeze ty a) ts i).1
call_silent context form (op.Select to c ty a b) ts e i = absurd (called_in context form (op.Select to c ty a b) ts i).1
call_silent context form (op.Phi to ty edges) ts e i = absurd (called_in context form (op.Phi to ty edges) ts i).1
call_silent context form (op.Alloca to ty) ts e i = absurd (called_in context form (op.Alloca to ty) ts i).1
call_silent context form (op.Load to ty p) ts e i = absurd (called_in context form (op.Load to ty p) ts i).1
call_silent context form (op.Store ty v p) ts e i = absurd (called_in context form (op.Store ty v p) ts i).1
call_silent context form (op.GetElementPtr to ty base indices) ts e i = absurd (called_in context form (op.GetElementPtr to ty base indices) ts i).1
call_silent context form (op.Ret v) ts e i = absurd (called_in context form (op.Ret v) ts i).1
call_silent context form (op.Jump l) ts e i = absurd (called_in context form (op.Jump l) ts i).1
call_silent context form (op.Branch c a b) ts e i = absurd (called_in context form (op.Branch c a b) ts i).1
call_silent context form (op.Switch ty v otherwise cases) ts e i = absurd (called_in context form (op.Switch ty v otherwise cases) ts i).1
call_silent context form op.Unreachable ts e i = absurd (called_in context form op.Unreachable ts i).1

call_at_word : (context : Context) (form : TextForm) (to : Option ℕ) (t : Tok) (ts : List Tok) → t.kind ≡ kinds.Word (keywords.Instruction instructions.Call) → tail_call_at context form to (t ∷ ts) ≡ call_behind context form to ts
call_at_word context form to t ts k = rw k refl

giving_calls : (context : Context) (form : TextForm) (to : ℕ) (ts us : List Tok) (o : Op) → tail_call_at context form (Some to) ts ≡ Ok (o, us) → Found (GivesForm context form to) o ts us
giving_calls context form to ts us o e =
    let w = calls_found context form (Some to) ts us o e in
    (w.0, call_gives context form to o w.0 w.1.0 w.1.1, w.2)

silent_calls : (context : Context) (form : TextForm) (ts us : List Tok) (o : Op) → tail_call_at context form None ts ≡ Ok (o, us) → Found (IsForm context form) o ts us
silent_calls context form ts us o e =
    let w = calls_found context form None ts us o e in
    (w.0, call_silent context form o w.0 w.1.0 w.1.1, w.2)

-- By their first word.

giving_word : (context : Context) (form : TextForm) (to : ℕ) (w : InstructionWord) (t : Tok) (ts us : List Tok) (o : Op) → instruction_in t.kind ≡ Some w → giving_of context form to w (t ∷ ts) ≡ Ok (o, us) → Found (GivesForm context form to) o (t ∷ ts) us
giving_word context form to (instructions.Operator n) t ts us o k e = behind_word context form to t (binary_behind context to n) (BinaryParts context to n) (binary_finds context to n) (binary_says context form to n t k) ts us o e
giving_word context form to instructions.Compare t ts us o k e = behind_word context form to t (compare_behind context to) (CompareParts context to) (compare_finds context to) (compare_says context form to t k) ts us o e
giving_word context form to (instructions.Conversion w) t ts us o k e = behind_word context form to t (convert_behind context to (conversion_of w)) (ConvertParts context to w) (convert_finds context to w) (convert_says context form to w t k) ts us o e
giving_word context form to instructions.Freeze t ts us o k e = behind_word context form to t (unary_behind context to unary.Freeze) (Mapped (λ (a : Argument). op.Unary to unary.Freeze a.ty a.value) (λ a. Flagged (IsTyped context a))) (freeze_finds context to) (freeze_says context form to t k) ts us o e
giving_word context form to instructions.Select t ts us o k e = behind_word context form to t (select_behind context to) (SelectParts context to) (select_finds context to) (select_says context form to t k) ts us o e
giving_word context form to instructions.Phi t ts us o k e = behind_word context form to t (phi_behind context to) (PhiParts context to) (phi_finds context to) (phi_says context form to t k) ts us o e
giving_word context form to instructions.Alloca t ts us o k e = behind_word context form to t (alloca_behind context to) (AllocaParts context to) (alloca_finds context to) (alloca_says context form to t k) ts us o e
giving_word context form to instructions.Load t ts us o k e = behind_word context form to t (load_behind context to) (LoadParts context to) (load_finds context to) (load_says context form to t k) ts us o e
giving_word context form to instructions.GetElementPtr t ts us o k e = behind_word context form to t (element_behind context to) (ElementParts context to) (element_finds context to) (element_says context form to t k) ts us o e
giving_word context form to instructions.Call t ts us o k e = giving_calls context form to (t ∷ ts) us o (call_at_word context form (Some to) t ts (call_word t.kind k) ∙ e)
giving_word context form to instructions.Store t ts us o k e = cc
giving_word context form to instructions.Ret t ts us o k e = cc
giving_word context form to instructions.Br t ts us o k e = cc
giving_word context form to instructions.Switch t ts us o k e = cc
giving_word context form to instructions.Unreachable t ts us o k e = cc

unreachable_found : (context : Context) (form : TextForm) (t : Tok) (ts us : List Tok) (o : Op) → instruction_in t.kind ≡ Some instructions.Unreachable → silent_of context form instructions.Unreachable (t ∷ ts) ≡ Ok (o, us) → Found (IsForm context form) o (t ∷ ts) us
unreachable_found context form t ts us o k e =
    let s = ok_same op.Unreachable o ts us e in
    (t ∷ [], subst (λ x. IsForm context form x (t ∷ [])) s.0 (t, k, refl), ap (λ r. t ∷ r) s.1)

silent_word : (context : Context) (form : TextForm) (w : InstructionWord) (t : Tok) (ts us : List Tok) (o : Op) → instruction_in t.kind ≡ Some w → silent_of context form w (t ∷ ts) ≡ Ok (o, us) → Found (IsForm context form) o (t ∷ ts) us
silent_word context form instructions.Store t ts us o k e = behind_silent context form t (store_behind context) (StoreParts context) (store_finds context) (store_says context form t k) ts us o e
silent_word context form instructions.Call t ts us o k e = silent_calls context form (t ∷ ts) us o (call_at_word context form None t ts (call_word t.kind k) ∙ e)
silent_word context form instructions.Ret t ts us o k e = behind_silent context form t (ret_behind context) (RetParts context) (ret_finds context) (ret_says context form t k) ts us o e
silent_word context form instructions.Br t ts us o k e = behind_silent context form t (br_behind context) (λ o. Flagged (BrSays context o)) (br_finds context) (br_says context form t k) ts us o e
silent_word context form instructions.Switch t ts us o k e = behind_silent context form t (switch_behind context) (SwitchParts context) (switch_finds context) (switch_says context form t k) ts us o e
silent_word context form instructions.Unreachable t ts us o k e = unreachable_found context form t ts us o k e
silent_word context form (instructions.Operator n) t ts us o k e = cc
silent_word context form instructions.Compare t ts us o k e = cc
silent_word context form (instructions.Conversion w) t ts us o k e = cc
silent_word context form instructions.Freeze t ts us o k e = cc
silent_word context form instructions.Select t ts us o k e = cc
silent_word context form instructions.Phi t ts us o k e = cc
silent_word context form instructions.Alloca t ts us o k e = cc
silent_word context form instructions.Load t ts us o k e = cc
silent_word context form instructions.GetElementPtr t ts us o k e = cc

giving_by : (context : Context) (form : TextForm) (to : ℕ) (t : Tok) (ts us : List Tok) (o : Op) (found : Option InstructionWord) → instruction_in t.kind ≡ found → by_word found (giving_of context form to) t.kind (t ∷ ts) ≡ Ok (o, us) → Found (GivesForm context form to) o (t ∷ ts) us
giving_by context form to t ts us o None k e = cc
giving_by context form to t ts us o (Some w) k e = giving_word context form to w t ts us o k e

silent_by : (context : Context) (form : TextForm) (t : Tok) (ts us : List Tok) (o : Op) (found : Option InstructionWord) → instruction_in t.kind ≡ found → by_word found (silent_of context form) t.kind (t ∷ ts) ≡ Ok (o, us) → Found (IsForm context form) o (t ∷ ts) us
silent_by context form t ts us o None k e = cc
silent_by context form t ts us o (Some w) k e = silent_word context form w t ts us o k e

abbrev tail_or : Bool → Read Op → Read Op → Read Op
tail_or b call word = if b then call else word

giving_step : (b : Bool) (context : Context) (form : TextForm) (to : ℕ) (t : Tok) (ts us : List Tok) (o : Op) → tail_or b (tail_call_at context form (Some to) (t ∷ ts)) (first_word_at (giving_of context form to) (t ∷ ts)) ≡ Ok (o, us) → Found (GivesForm context form to) o (t ∷ ts) us
giving_step true context form to t ts us o e = giving_calls context form to (t ∷ ts) us o e
giving_step false context form to t ts us o e = giving_by context form to t ts us o (instruction_in t.kind) refl e

giving_finds : (context : Context) (form : TextForm) (to : ℕ) → Finds (giving_at context form to) (GivesForm context form to)
giving_finds context form to [] us o e = cc
giving_finds context form to (t ∷ ts) us o e = giving_step (is_tail_word t.kind) context form to t ts us o e

silent_step : (b : Bool) (context : Context) (form : TextForm) (t : Tok) (ts us : List Tok) (o : Op) → tail_or b (tail_call_at context form None (t ∷ ts)) (first_word_at (silent_of context form) (t ∷ ts)) ≡ Ok (o, us) → Found (IsForm context form) o (t ∷ ts) us
silent_step true context form t ts us o e = silent_calls context form (t ∷ ts) us o e
silent_step false context form t ts us o e = silent_by context form t ts us o (instruction_in t.kind) refl e

given_finds : (context : Context) (form : TextForm) (to : ℕ) → Finds (given_behind context form to) (λ o. IsMark Equal then GivesForm context form to o)
given_finds context form to = then_finds (mark_at Equal) (λ e. giving_at context form to e.1) (IsMark Equal) (GivesForm context form to) (next_finds (is_mark Equal)) (λ e. giving_finds context form to)

given_says : (context : Context) (form : TextForm) (t : Tok) (o : Op) (ts : List Tok) → is_register t.kind ≡ true → (IsMark Equal then GivesForm context form (register_number context t.name) o) ts → IsForm context form o (t ∷ ts)
given_says context form t o ts k (f, b, m, g, e) = subst (λ r. IsForm context form o (t ∷ r)) (sym e) (g (t ∷ []) f (t, k, refl, refl) m)

form_step : (b : Bool) (context : Context) (form : TextForm) (t : Tok) (ts us : List Tok) (o : Op) → is_register t.kind ≡ b → tail_or b (given_behind context form (register_number context t.name) ts) (silent_at context form (t ∷ ts)) ≡ Ok (o, us) → Found (IsForm context form) o (t ∷ ts) us
form_step true context form t ts us o k e =
    let w = given_finds context form (register_number context t.name) ts us o e in
    (t ∷ w.0, given_says context form t o w.0 k w.1, ap (λ r. t ∷ r) w.2)
form_step false context form t ts us o k e = silent_step (is_tail_word t.kind) context form t ts us o e

pub forms_found : (context : Context) (form : TextForm) → Finds (form_at context form) (IsForm context form)
forms_found context form [] us o e = cc
forms_found context form (t ∷ ts) us o e = form_step (is_register t.kind) context form t ts us o refl e
