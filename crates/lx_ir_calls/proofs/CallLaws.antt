-- Calls: what is in the grammar is read, and what is read is in the grammar.
use Rattle.std.proofs.Common.{◌≡◌, ℕ, zero, suc, Bool, true, false, Option, Some, None, List, [], ◌∷◌, ◌++◌, Ok, inl, inr, refl, sym, ap, ◌∙◌, subst, append_assoc}
use Rattle.std.specs.Prelude.{option_map, is_some}
use Rattle.lx_ir_tokens.specs.declared.token.Tok.{Tok}
use Rattle.lx_ir_tokens.specs.declared.token.Kind.{Kind}
use Rattle.lx_ir_tokens.specs.declared.token.Kind.TheVariants as kinds
use Rattle.lx_ir_tokens.specs.declared.token.Mark.TheVariants.{OpenParenthesis, CloseParenthesis}
use Rattle.lx_ir_tokens.specs.declared.keyword.InstructionWord.TheVariants as instructions
use Rattle.lx_ir_tokens.specs.declared.keyword.Keyword.TheVariants as keywords
use Rattle.lx_words.specs.declared.word.Width.TheVariants.{W8}
use Rattle.lx_ir.specs.declared.types.Scalar.{Scalar}
use Rattle.lx_ir.specs.declared.types.Scalar.TheVariants.{Int, Ptr}
use Rattle.lx_ir.specs.declared.instr.Argument.{Argument}
use Rattle.lx_ir.specs.declared.instr.Callee.{Callee}
use Rattle.lx_ir.specs.declared.instr.Op.{Op}
use Rattle.lx_ir.specs.declared.instr.Op.TheVariants as op
use Rattle.lx_ir_terms.specs.declared.fault.FaultKind.{FaultKind}
use Rattle.lx_ir_terms.specs.Context.{Context}
use Rattle.lx_ir_terms.specs.Reading.{Read, ◌>>=◌, has, is_mark, picked, pick_at, mark_at, listed_at}
use Rattle.lx_ir_terms.specs.Types.{scalar_in}
use Rattle.lx_ir_terms.specs.Words as passing
use Rattle.lx_ir_terms.specs.Grammar.{Part, Picks, Is, IsMark, ◌then◌}
use Rattle.lx_ir_terms.specs.Laws.{Reads, Finds}
use Rattle.lx_ir_terms.proofs.Parts.{Joined, Mapped, pick_reads, next_reads, bind_reads, last_reads, pick_finds, next_finds, bind_finds, last_finds}
use Rattle.lx_ir_constants.specs.Constants.{is_flag_word, skipped, when, word_refusal}
use Rattle.lx_ir_constants.specs.InitGrammar.{AreListed}
use Rattle.lx_ir_constants.proofs.ListLaws.{Found}
use Rattle.lx_ir_constants.proofs.PointerLaws.{form_finds}
use Rattle.lx_ir_operands.specs.Steps.{attributes_at}
use Rattle.lx_ir_operands.specs.Operands.{argument, instruction_in}
use Rattle.lx_ir_operands.specs.Grammar.{First, Flagged, IsAttribute, IsPassed, Repeated, Times}
use Rattle.lx_ir_operands.specs.Laws.{EndsCall}
use Rattle.lx_ir_operands.proofs.AttributeLaws.{attributes_again, attributes_found}
use Rattle.lx_ir_operands.proofs.Chains.{then_finds}
use Rattle.lx_ir_operands.proofs.PassedLaws.{parameter_is, align_is, passed_found, dereferenceable_is, captures_is}
use Rattle.lx_ir_operands.proofs.FlagLaws.{NoFlag, flagged_reads, flagged_finds}
use Rattle.lx_ir_calls.specs.declared.writes.BlockWrite.TheVariants as writes
use Rattle.lx_ir_calls.specs.declared.image_lines.ImageLine.TheVariants as lines
use Rattle.lx_ir_calls.specs.declared.intrinsics.TextForm.{TextForm}
use Rattle.lx_ir_calls.specs.declared.intrinsics.Intrinsic.{Intrinsic}
use Rattle.lx_ir_calls.specs.declared.intrinsics.Intrinsic.TheVariants as intrinsics
use Rattle.lx_ir_calls.specs.Arguments.{argument_at}
use Rattle.lx_ir_calls.specs.Intrinsics.{intrinsic_of, intrinsic_behind}
use Rattle.lx_ir_calls.specs.Calls.{callee_of, callee_refusal, intrinsic_call_at, call_by, called_at, call_result_in, call_result_refusal, call_result_at, call_behind, is_tail_word, is_call_word, tail_call_at}
use Rattle.lx_ir_calls.specs.Grammar.{IsArgument, IsIntrinsic, IsCalled, result_of, given_by, IsCallResult, IsCall}
use Rattle.lx_ir_calls.specs.Laws.{IsCallTo}
use Rattle.lx_ir_calls.proofs.ArgumentLaws.{passed_reads, picks_not_passed, AreArguments, arguments_read, arguments_found}
use Rattle.lx_ir_calls.proofs.IntrinsicLaws.{write_reads, guard_reads, check_reads, crossing_reads, action_line_reads, IntrinsicSays, intrinsic_finds}

-- What is called.

named_reads : (context : Context) (form : TextForm) (i : Intrinsic) (o : Op) (p : Part) → Reads (intrinsic_behind context i) o p → Reads (called_at context form None None) o (IsIntrinsic context form i then p)
named_reads context form i o p h ts us (f, b, (t, e, g), r, w) = rw (w, g, e) (h b us r)

-- what stands behind the name that is called
abbrev plain_rest_at : Context → Option ℕ → Option Scalar → Callee → List Tok → Read Op
plain_rest_at context to ret f ts = do
  o ← mark_at OpenParenthesis ts
  xs ← listed_at CloseParenthesis (argument_at context) o.1
  Ok (op.Call to ret f xs.0, xs.1)

abbrev IsPlainRest : Context → List Argument → Part
IsPlainRest context xs = IsMark OpenParenthesis then AreListed (IsArgument context) xs then IsMark CloseParenthesis

plain_rest_reads : (context : Context) (to : Option ℕ) (ret : Option Scalar) (f : Callee) (xs : List Argument) → Reads (plain_rest_at context to ret f) (op.Call to ret f xs) (IsPlainRest context xs)
plain_rest_reads context to ret f xs =
    bind_reads (mark_at OpenParenthesis) (λ o. listed_at CloseParenthesis (argument_at context) o.1 >>= λ xs. Ok (op.Call to ret f xs.0, xs.1)) tt (op.Call to ret f xs) _ _ (next_reads (is_mark OpenParenthesis))
    (last_reads (listed_at CloseParenthesis (argument_at context)) (λ xs. op.Call to ret f xs) xs _ (arguments_read context xs))

called_reads : (context : Context) (form : TextForm) (o : Op) → Reads (called_at context form (given_by o) (result_of o)) o (IsCalled context form o)
called_reads context form (op.Call to ret f args) ts us (a, b, (t, c, n, g), r, w) = rw (w, g, n, c) (plain_rest_reads context to ret f args b us r)
called_reads context form (op.CopyBlock moves d s len) ts us (w, e, p) =
    named_reads context form (intrinsics.Write (writes.Copy moves w)) (op.CopyBlock moves d s (argument (Int w) len.value)) _ (write_reads context Ptr w (λ d s n. op.CopyBlock moves d s (argument (Int w) n)) d s len.value) ts us p
    ∙ ap (λ ty. Ok (op.CopyBlock moves d s (argument ty len.value), us)) (sym e)
called_reads context form (op.FillBlock d b len) ts us (w, e, p) =
    named_reads context form (intrinsics.Write (writes.Fill w)) (op.FillBlock d b (argument (Int w) len.value)) _ (write_reads context (Int W8) w (λ d b n. op.FillBlock d b (argument (Int w) n)) d b len.value) ts us p
    ∙ ap (λ ty. Ok (op.FillBlock d b (argument ty len.value), us)) (sym e)
called_reads context form (op.Guard p n narrow) ts us i = named_reads context form (intrinsics.Line (lines.Guard narrow)) (op.Guard p n narrow) _ (guard_reads context narrow p n) ts us i
called_reads context form (op.Check p) ts us i = named_reads context form (intrinsics.Line lines.Check) (op.Check p) _ (check_reads context p) ts us i
called_reads context form (op.Enter f) ts us i = named_reads context form (intrinsics.Line (lines.Crossing false)) (op.Enter f) _ (crossing_reads context false f) ts us i
called_reads context form (op.Leave f) ts us i = named_reads context form (intrinsics.Line (lines.Crossing true)) (op.Leave f) _ (crossing_reads context true f) ts us i
called_reads context form (op.Pre f k) ts us i = named_reads context form (intrinsics.Line (lines.Action false)) (op.Pre f k) _ (action_line_reads context false f k) ts us i
called_reads context form (op.Post f k) ts us i = named_reads context form (intrinsics.Line (lines.Action true)) (op.Post f k) _ (action_line_reads context true f k) ts us i
called_reads context form (op.Binary to o ty a b) ts us i = absurd i
called_reads context form (op.Compare to p ty a b) ts us i = absurd i
called_reads context form (op.Convert to how from a into) ts us i = absurd i
called_reads context form (op.Unary to o ty a) ts us i = absurd i
called_reads context form (op.Select to c ty a b) ts us i = absurd i
called_reads context form (op.Phi to ty edges) ts us i = absurd i
called_reads context form (op.Alloca to ty) ts us i = absurd i
called_reads context form (op.Load to ty at) ts us i = absurd i
called_reads context form (op.Store ty v at) ts us i = absurd i
called_reads context form (op.GetElementPtr to ty base indices) ts us i = absurd i
called_reads context form (op.Ret v) ts us i = absurd i
called_reads context form (op.Jump l) ts us i = absurd i
called_reads context form (op.Branch c a b) ts us i = absurd i
called_reads context form (op.Switch ty v otherwise cases) ts us i = absurd i
called_reads context form op.Unreachable ts us i = absurd i

-- what is called with this result, and gives it to this register
abbrev CalledFor : Context → TextForm → Option ℕ → Option Scalar → Op → Part
CalledFor context form to ret o ts = (result_of o ≡ ret) × ((ret ≡ None → to ≡ None) → given_by o ≡ to) × IsCalled context form o ts

intrinsic_called : (context : Context) (form : TextForm) (to : Option ℕ) (i : Intrinsic) (o : Op) (t : Tok) (ts : List Tok) → intrinsic_of context form t.kind t.name ≡ Some i → IntrinsicSays context i o ts → CalledFor context form to None o (t ∷ ts)
intrinsic_called context form to (intrinsics.Write (writes.Copy moves w)) o t ts e (d, s, n, p, eq) =
    subst (λ x. CalledFor context form to None x (t ∷ ts)) eq (refl, (λ h. sym (h refl)), (w, refl, (t ∷ [], ts, (t, e, refl), p, refl)))
intrinsic_called context form to (intrinsics.Write (writes.Fill w)) o t ts e (d, b, n, p, eq) =
    subst (λ x. CalledFor context form to None x (t ∷ ts)) eq (refl, (λ h. sym (h refl)), (w, refl, (t ∷ [], ts, (t, e, refl), p, refl)))
intrinsic_called context form to (intrinsics.Line (lines.Guard narrow)) o t ts e (p, n, q, eq) =
    subst (λ x. CalledFor context form to None x (t ∷ ts)) eq (refl, (λ h. sym (h refl)), (t ∷ [], ts, (t, e, refl), q, refl))
intrinsic_called context form to (intrinsics.Line lines.Check) o t ts e (p, q, eq) =
    subst (λ x. CalledFor context form to None x (t ∷ ts)) eq (refl, (λ h. sym (h refl)), (t ∷ [], ts, (t, e, refl), q, refl))
intrinsic_called context form to (intrinsics.Line (lines.Crossing false)) o t ts e (f, q, eq) =
    subst (λ x. CalledFor context form to None x (t ∷ ts)) eq (refl, (λ h. sym (h refl)), (t ∷ [], ts, (t, e, refl), q, refl))
intrinsic_called context form to (intrinsics.Line (lines.Crossing true)) o t ts e (f, q, eq) =
    subst (λ x. CalledFor context form to None x (t ∷ ts)) eq (refl, (λ h. sym (h refl)), (t ∷ [], ts, (t, e, refl), q, refl))
intrinsic_called context form to (intrinsics.Line (lines.Action false)) o t ts e (f, k, q, eq) =
    subst (λ x. CalledFor context form to None x (t ∷ ts)) eq (refl, (λ h. sym (h refl)), (t ∷ [], ts, (t, e, refl), q, refl))
intrinsic_called context form to (intrinsics.Line (lines.Action true)) o t ts e (f, k, q, eq) =
    subst (λ x. CalledFor context form to None x (t ∷ ts)) eq (refl, (λ h. sym (h refl)), (t ∷ [], ts, (t, e, refl), q, refl))

abbrev PlainRestSays : Context → Option ℕ → Option Scalar → Callee → Op → Part
PlainRestSays context to ret f o ts = (xs : List Argument) × IsPlainRest context xs ts × (op.Call to ret f xs ≡ o)

plain_rest_says : (context : Context) (to : Option ℕ) (ret : Option Scalar) (f : Callee) (o : Op) (ts : List Tok) → (IsMark OpenParenthesis then Mapped (λ (xs : List Argument). op.Call to ret f xs) (AreArguments context) o) ts → PlainRestSays context to ret f o ts
plain_rest_says context to ret f o ts (a, b, p, (xs, q, eq), e) = (xs, (a, b, p, q, e), eq)

plain_rest_finds : (context : Context) (to : Option ℕ) (ret : Option Scalar) (f : Callee) → Finds (plain_rest_at context to ret f) (PlainRestSays context to ret f)
plain_rest_finds context to ret f ts us o e =
    let w = then_finds (mark_at OpenParenthesis) (λ o. listed_at CloseParenthesis (argument_at context) o.1 >>= λ xs. Ok (op.Call to ret f xs.0, xs.1)) (IsMark OpenParenthesis) (Mapped (λ (xs : List Argument). op.Call to ret f xs) (AreArguments context)) (next_finds (is_mark OpenParenthesis))
    (λ o. last_finds (listed_at CloseParenthesis (argument_at context)) (λ xs. op.Call to ret f xs) _ (arguments_found context)) ts us o e in
    (w.0, plain_rest_says context to ret f o w.0 w.1, w.2)

plain_called : (context : Context) (form : TextForm) (to : Option ℕ) (ret : Option Scalar) (f : Callee) (o : Op) (t : Tok) (ts : List Tok) → callee_of context t.kind t.name ≡ Some f → intrinsic_of context form t.kind t.name ≡ None → PlainRestSays context to ret f o ts → CalledFor context form to ret o (t ∷ ts)
plain_called context form to ret f o t ts c n (xs, p, eq) =
    subst (λ x. CalledFor context form to ret x (t ∷ ts)) eq (refl, (λ h. refl), (t ∷ [], ts, (t, c, n, refl), p, refl))

abbrev plain_by : Option Callee → FaultKind → Context → Option ℕ → Option Scalar → List Tok → Read Op
plain_by found kind context to ret ts = picked found kind ts >>= λ f. plain_rest_at context to ret f.0 f.1

plain_step : (context : Context) (form : TextForm) (to : Option ℕ) (ret : Option Scalar) (t : Tok) (ts us : List Tok) (o : Op) (found : Option Callee) → callee_of context t.kind t.name ≡ found → intrinsic_of context form t.kind t.name ≡ None → plain_by found (callee_refusal t.kind) context to ret (t ∷ ts) ≡ Ok (o, us) → Found (CalledFor context form to ret) o (t ∷ ts) us
plain_step context form to ret t ts us o None c n e = cc
plain_step context form to ret t ts us o (Some f) c n e =
    let w = plain_rest_finds context to ret f ts us o e in
    (t ∷ w.0, plain_called context form to ret f o t w.0 c n w.1, ap (λ r. t ∷ r) w.2)

named_step : (context : Context) (form : TextForm) (to : Option ℕ) (ret : Option Scalar) (t : Tok) (ts us : List Tok) (o : Op) (i : Intrinsic) → intrinsic_of context form t.kind t.name ≡ Some i → intrinsic_call_at context i ret (t ∷ ts) ≡ Ok (o, us) → Found (CalledFor context form to ret) o (t ∷ ts) us
named_step context form to (Some ret) t ts us o i n e = cc
named_step context form to None t ts us o i n e =
    let w = intrinsic_finds context i ts us o e in
    (t ∷ w.0, intrinsic_called context form to i o t w.0 n w.1, ap (λ r. t ∷ r) w.2)

called_step : (context : Context) (form : TextForm) (to : Option ℕ) (ret : Option Scalar) (t : Tok) (ts us : List Tok) (o : Op) (found : Option Intrinsic) → intrinsic_of context form t.kind t.name ≡ found → call_by found context to ret (t ∷ ts) ≡ Ok (o, us) → Found (CalledFor context form to ret) o (t ∷ ts) us
called_step context form to ret t ts us o None n e = plain_step context form to ret t ts us o (callee_of context t.kind t.name) refl n e
called_step context form to ret t ts us o (Some i) n e = named_step context form to ret t ts us o i n e

called_finds : (context : Context) (form : TextForm) (to : Option ℕ) (ret : Option Scalar) → Finds (called_at context form to ret) (CalledFor context form to ret)
called_finds context form to ret [] us o e = cc
called_finds context form to ret (t ∷ ts) us o e = called_step context form to ret t ts us o (intrinsic_of context form t.kind t.name) refl e

-- Results.

result_is_not_passed : (gives : Bool) (k : Kind) (ret : Option Scalar) → call_result_in gives k ≡ Some ret → passing.is_passed false k ≡ false
result_is_not_passed true (kinds.Word (keywords.Scalar w)) ret e = refl
result_is_not_passed true k ret e = cc
result_is_not_passed false (kinds.Word (keywords.Scalar w)) ret e = refl
result_is_not_passed false (kinds.Word keywords.Void) ret e = refl
result_is_not_passed false k ret e = cc

result_is_no_flag : (gives : Bool) (k : Kind) (ret : Option Scalar) → call_result_in gives k ≡ Some ret → is_flag_word k ≡ false
result_is_no_flag true (kinds.Word (keywords.Scalar w)) ret e = refl
result_is_no_flag true k ret e = cc
result_is_no_flag false (kinds.Word (keywords.Scalar w)) ret e = refl
result_is_no_flag false (kinds.Word keywords.Void) ret e = refl
result_is_no_flag false k ret e = cc

passed_no_flag : (ts us : List Tok) → IsPassed ts → has is_flag_word (ts ++ us) ≡ false
passed_no_flag ts us (inl (t, k, g)) = rw g (ap is_flag_word (parameter_is t.kind k))
passed_no_flag ts us (inr (inl (f, b, (t, k, g), c, w))) = rw (w, g) (ap is_flag_word (align_is t.kind k))
passed_no_flag ts us (inr (inr (inl (f, b, (t, k, g), c, w)))) = rw (w, g) (ap is_flag_word (dereferenceable_is t.kind k))
passed_no_flag ts us (inr (inr (inr (f, b, (t, k, g), c, w)))) = rw (w, g) (ap is_flag_word (captures_is t.kind k))

result_no_flag : (to : Option ℕ) (ret : Option Scalar) → NoFlag (IsCallResult to ret)
result_no_flag to ret ts us (f, b, (zero, n), (t, e, g), w) = rw (w, n, g) (result_is_no_flag (is_some to) t.kind ret e)
result_no_flag to ret ts us (f, b, (suc k, (f2, b2, p, r, w2)), q, w) =
    rw (w, w2, append_assoc (f2 ++ b2) b us, append_assoc f2 b2 (b ++ us)) (passed_no_flag f2 (b2 ++ (b ++ us)) p)

abbrev result_by : Bool → List Tok → Read (Option Scalar)
result_by gives ts = passing.passed_at false ts >>= λ w. pick_at (λ t. call_result_in gives t.kind) call_result_refusal w.1

result_reads : (to : Option ℕ) (ret : Option Scalar) → Reads (call_result_at (is_some to)) ret (Flagged (IsCallResult to ret))
result_reads to ret =
    flagged_reads (result_by (is_some to)) ret (IsCallResult to ret) (result_no_flag to ret)
    (passed_reads (pick_at (λ t. call_result_in (is_some to) t.kind) call_result_refusal) ret _ (picks_not_passed (λ t. call_result_in (is_some to) t.kind) ret (λ t e. result_is_not_passed (is_some to) t.kind ret e)) (pick_reads (λ t. call_result_in (is_some to) t.kind) call_result_refusal ret))

result_finds : (to : Option ℕ) → Finds (call_result_at (is_some to)) (λ ret. Flagged (IsCallResult to ret))
result_finds to =
    flagged_finds (result_by (is_some to)) (IsCallResult to)
    (λ ts us ret e. then_finds (passing.passed_at false) (λ w. pick_at (λ t. call_result_in (is_some to) t.kind) call_result_refusal w.1) (Repeated IsPassed) (Picks (λ t. call_result_in (is_some to) t.kind)) passed_found (λ w. pick_finds (λ t. call_result_in (is_some to) t.kind) call_result_refusal) ts us ret e)

no_void : (x : Option Scalar) (ret : Option Scalar) → option_map Some x ≡ Some ret → ret ≡ None → ⊥
no_void None ret e f = cc
no_void (Some s) ret e f = cc

-- a register is given no `void`
gives_nothing : (to : Option ℕ) (ret : Option Scalar) (ts : List Tok) → Flagged (IsCallResult to ret) ts → ret ≡ None → to ≡ None
gives_nothing None ret ts i e = refl
gives_nothing (Some r) ret ts (f, b, h, (f2, b2, p, (t, q, g), w2), w) e = absurd (no_void (scalar_in t.kind) ret q e)

-- Calls.

-- what a part is read as, with these tokens behind it
abbrev ReadsTo : {A : Type 0} → List Tok → (List Tok → Read A) → A → Part → Type 0
ReadsTo us read x part = (ts : List Tok) → part ts → read (ts ++ us) ≡ Ok (x, us)

bind_to : {A B : Type 0} (us : List Tok) (read : List Tok → Read A) (g : A × List Tok → Read B) (x : A) (y : B) (p q : Part) → Reads read x p → ReadsTo us (λ vs. g (x, vs)) y q → ReadsTo us (λ ts. read ts >>= g) y (p then q)
bind_to us read g x y p q h k ts (f, b, a, c, e) = rw (e, append_assoc f b us, h f (b ++ us) a) (k b c)

abbrev IsCallRest : Context → TextForm → Op → Part
IsCallRest context form o = Flagged (IsCallResult (given_by o) (result_of o)) then IsCalled context form o then Repeated IsAttribute

call_rest_reads : (context : Context) (form : TextForm) (o : Op) (us : List Tok) → EndsCall us → ReadsTo us (call_behind context form (given_by o)) o (IsCallRest context form o)
call_rest_reads context form o us h =
    bind_to us (call_result_at (is_some (given_by o))) (λ r. called_at context form (given_by o) r.0 r.1 >>= λ c. attributes_at c.1 >>= λ w. Ok (c.0, w.1)) (result_of o) o _ _ (result_reads (given_by o) (result_of o))
    (bind_to us (called_at context form (given_by o) (result_of o)) (λ c. attributes_at c.1 >>= λ w. Ok (c.0, w.1)) o o _ _ (called_reads context form o)
    (λ ts a. rw (attributes_again tt ts us h a) refl))

pub call_word : (k : Kind) → instruction_in k ≡ Some instructions.Call → k ≡ kinds.Word (keywords.Instruction instructions.Call)
call_word (kinds.Word (keywords.Instruction w)) e = let p : w ≡ instructions.Call = cc in ap (λ v. kinds.Word (keywords.Instruction v)) p
call_word k e = cc

is_call : (k : Kind) → is_call_word k ≡ true → instruction_in k ≡ Some instructions.Call
is_call (kinds.Word (keywords.Instruction instructions.Call)) e = refl
is_call k e = cc

tails_skipped : (n : ℕ) (ts vs : List Tok) → Times (Is is_tail_word) n ts → has is_tail_word vs ≡ false → skipped is_tail_word (ts ++ vs) ≡ vs
tails_skipped zero ts [] e h = rw e refl
tails_skipped zero ts (v ∷ vs) e h = rw (e, h) refl
tails_skipped (suc n) ts vs (f, b, (t, e, g), r, w) h = rw (w, g, e) (tails_skipped n b vs r h)

abbrev TailsFound : List Tok → Type 0
TailsFound ts = (front : List Tok) × Repeated (Is is_tail_word) front × (ts ≡ front ++ skipped is_tail_word ts)

tails_step : (b : Bool) (t : Tok) (ts : List Tok) → is_tail_word t.kind ≡ b → TailsFound ts → TailsFound (t ∷ ts)
tails_step true t ts e w = (t ∷ w.0, (suc w.1.0, (t ∷ [], w.0, (t, e, refl), w.1.1, refl)), rw e (ap (λ r. t ∷ r) w.2))
tails_step false t ts e w = ([], (zero, refl), rw e refl)

tails_found : (ts : List Tok) → TailsFound ts
tails_found [] = ([], (zero, refl), refl)
tails_found (t ∷ ts) = tails_step (is_tail_word t.kind) t ts refl (tails_found ts)

pub calls_read : (context : Context) (form : TextForm) (o : Op) (ts us : List Tok) → EndsCall us → IsCall context form o ts → tail_call_at context form (given_by o) (ts ++ us) ≡ Ok (o, us)
calls_read context form o ts us h (f, b, (n, tails), (f2, b2, (t, e, g), rest, w2), w) =
    let k = call_word t.kind e in
    let whole : ts ++ us ≡ f ++ (t ∷ (b2 ++ us)) = rw (w, w2, g) (append_assoc f (t ∷ b2) us) in
    let over : skipped is_tail_word (f ++ (t ∷ (b2 ++ us))) ≡ t ∷ (b2 ++ us) = tails_skipped n f (t ∷ (b2 ++ us)) tails (ap is_tail_word k) in
    rw (whole, over, k) (call_rest_reads context form o us h b2 rest)

abbrev CallRestParts : Context → TextForm → Option ℕ → Op → Part
CallRestParts context form to =
    Joined (λ ret. Flagged (IsCallResult to ret)) (λ ret. Joined (CalledFor context form to ret) (λ c. Mapped (λ (w : Unit {0}). c) (λ w. Repeated IsAttribute)))

abbrev CallRestTo : Context → TextForm → Option ℕ → Op → Part
CallRestTo context form to o ts = (given_by o ≡ to) × IsCallRest context form o ts

-- a result with this register and type
abbrev ResultTo : Option ℕ → Option Scalar → List Tok → Type 0
ResultTo to ret ts = Flagged (IsCallResult to ret) ts

call_rest_says : (context : Context) (form : TextForm) (to : Option ℕ) (o : Op) (ts : List Tok) → CallRestParts context form to o ts → CallRestTo context form to o ts
call_rest_says context form to o ts (ret, (f, b, pr, (c, (f2, b2, (re, ge, pc), (w, pa, eq), e2)), e1)) =
    let g : given_by c ≡ to = ge (gives_nothing to ret f pr) in
    let pr' : ResultTo (given_by c) (result_of c) f = subst (λ x. ResultTo x (result_of c) f) (sym g) (subst (λ x. ResultTo to x f) (sym re) pr) in
    subst (λ x. CallRestTo context form to x ts) eq (g, (f, b, pr', (f2, b2, pc, pa, e2), e1))

call_rest_finds : (context : Context) (form : TextForm) (to : Option ℕ) → Finds (call_behind context form to) (CallRestTo context form to)
call_rest_finds context form to ts us o e =
    let x = bind_finds (call_result_at (is_some to)) (λ r. called_at context form to r.0 r.1 >>= λ c. attributes_at c.1 >>= λ w. Ok (c.0, w.1)) _ _ (result_finds to)
    (λ ret. bind_finds (called_at context form to ret) (λ c. attributes_at c.1 >>= λ w. Ok (c.0, w.1)) _ _ (called_finds context form to ret)
    (λ c. last_finds attributes_at (λ w. c) _ attributes_found)) ts us o e in
    (x.0, call_rest_says context form to o x.0 x.1, x.2)

abbrev FirstCallTo : Context → TextForm → Option ℕ → Op → Part
FirstCallTo context form to o ts = (given_by o ≡ to) × (First instructions.Call then IsCallRest context form o) ts

first_call_says : (context : Context) (form : TextForm) (to : Option ℕ) (o : Op) (ts : List Tok) → (Is is_call_word then CallRestTo context form to o) ts → FirstCallTo context form to o ts
first_call_says context form to o ts (f, b, (t, k, g), (e, r), w) = (e, (f, b, (t, is_call t.kind k, g), r, w))

first_call_finds : (context : Context) (form : TextForm) (to : Option ℕ) → Finds (λ us. pick_at (λ t. when (is_call_word t.kind)) word_refusal us >>= λ c. call_behind context form to c.1) (FirstCallTo context form to)
first_call_finds context form to ts us o e =
    let w = then_finds (pick_at (λ t. when (is_call_word t.kind)) word_refusal) (λ c. call_behind context form to c.1) (Is is_call_word) (CallRestTo context form to) (form_finds is_call_word word_refusal) (λ c. call_rest_finds context form to) ts us o e in
    (w.0, first_call_says context form to o w.0 w.1, w.2)

pub calls_found : (context : Context) (form : TextForm) (to : Option ℕ) → Finds (tail_call_at context form to) (IsCallTo context form to)
calls_found context form to ts us o e =
    let t = tails_found ts in
    let w = first_call_finds context form to (skipped is_tail_word ts) us o e in
    (t.0 ++ w.0, (w.1.0, (t.0, w.0, t.1, w.1.1, refl)), t.2 ∙ ap (λ r. t.0 ++ r) w.2 ∙ sym (append_assoc t.0 w.0 us))
