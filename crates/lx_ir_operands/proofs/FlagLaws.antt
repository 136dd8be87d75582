-- Flags, and what stands behind them.
use Rattle.std.proofs.Common.{◌≡◌, ℕ, zero, suc, Bool, true, false, Some, List, [], ◌∷◌, ◌++◌, Ok, Err, refl, sym, ap, ◌∙◌, subst, append_assoc}
use Rattle.std.specs.Prelude.{if◌then◌else◌}
use Rattle.lx_ir_tokens.specs.declared.token.Tok.{Tok}
use Rattle.lx_ir_tokens.specs.declared.token.Kind.{Kind}
use Rattle.lx_ir_tokens.specs.declared.token.Kind.TheVariants as kinds
use Rattle.lx_ir_tokens.specs.declared.token.Mark.{Mark}
use Rattle.lx_ir_tokens.specs.declared.token.Mark.TheVariants.{OpenBrace, OpenBracket, Less}
use Rattle.lx_ir_tokens.specs.declared.keyword.Keyword.TheVariants as keywords
use Rattle.lx_ir.specs.IrType.{IrType, One, Array, Struct, Packed, Named}
use Rattle.lx_ir.specs.declared.types.Scalar.{Scalar}
use Rattle.lx_ir.specs.declared.module.Value.{Value}
use Rattle.lx_ir.specs.declared.instr.Argument.{Argument}
use Rattle.lx_ir_terms.specs.declared.fault.FaultKind.{FaultKind}
use Rattle.lx_ir_terms.specs.declared.fault.FaultKind.TheVariants.{OutOfProfile}
use Rattle.lx_ir_terms.specs.Context.{Context}
use Rattle.lx_ir_terms.specs.Reading.{Read, ◌>>=◌, at, has, is_mark, pick_at}
use Rattle.lx_ir_terms.specs.Types.{scalar_in, scalar_refusal, flat_of, depth_limit, written_type_at}
use Rattle.lx_ir_terms.specs.Words as passing
use Rattle.lx_ir_terms.specs.Grammar.{Part, Picks, Is, IsMark, ◌then◌, IsType, IsWritten}
use Rattle.lx_ir_terms.specs.Laws.{Reads, Finds}
use Rattle.lx_ir_terms.proofs.Marks.{mark_is}
use Rattle.lx_ir_terms.proofs.Parts.{Joined, Mapped, pick_reads, bind_reads, last_reads, pick_finds, bind_finds, last_finds}
use Rattle.lx_ir_terms.proofs.Written.{written_again, written_found}
use Rattle.lx_ir_constants.specs.Constants.{is_flag_word, skipped, value_at}
use Rattle.lx_ir_constants.specs.Grammar.{IsValue}
use Rattle.lx_ir_constants.proofs.ListLaws.{Found}
use Rattle.lx_ir_constants.proofs.PointerLaws.{form_reads, form_finds, flags_over, flags_found}
use Rattle.lx_ir_constants.proofs.ValueLaws.{value_again, value_found}
use Rattle.lx_ir_operands.specs.Operands.{argument, flagged_scalar_at, is_stray_at_type, strict_type_at, flagged_type_at, is_truth_word, named_type_refusal, truth_type_at, typed_at, flagged_typed_at}
use Rattle.lx_ir_operands.specs.Grammar.{Flagged, IsScalar, IsTyped}

-- Parts behind flags.

-- a part does not begin with a flag
abbrev pub NoFlag : Part → Type 0
NoFlag p = (ts us : List Tok) → p ts → has is_flag_word (ts ++ us) ≡ false

pub flagged_reads : {A : Type 0} (read : List Tok → Read A) (x : A) (p : Part) → NoFlag p → Reads read x p → Reads (λ ts. read (skipped is_flag_word ts)) x (Flagged p)
flagged_reads read x p n h ts us (f, b, e, q, w) =
    let whole : ts ++ us ≡ f ++ (b ++ us) = rw w (append_assoc f b us) in
    rw (whole, flags_over f (b ++ us) e (n b us q)) (h b us q)

pub flagged_finds : {A : Type 0} (read : List Tok → Read A) (part : A → Part) → Finds read part → Finds (λ ts. read (skipped is_flag_word ts)) (λ x. Flagged (part x))
flagged_finds read part h ts us x e =
    let f = flags_found ts in
    let w = h (skipped is_flag_word ts) us x e in
    (f.0 ++ w.0, (f.0, w.0, f.1, w.1, refl), f.2 ∙ ap (λ r. f.0 ++ r) w.2 ∙ sym (append_assoc f.0 w.0 us))

-- Types behind flags.

pub scalar_no_flag : (k : Kind) (ty : Scalar) → scalar_in k ≡ Some ty → is_flag_word k ≡ false
scalar_no_flag (kinds.Word (keywords.Scalar w)) ty e = refl
scalar_no_flag k ty e = cc

is_scalar_no_flag : (ty : Scalar) → NoFlag (IsScalar ty)
is_scalar_no_flag ty ts us (t, e, f) = rw f (scalar_no_flag t.kind ty e)

pub flagged_scalar_reads : (ty : Scalar) → Reads flagged_scalar_at ty (Flagged (IsScalar ty))
flagged_scalar_reads ty = flagged_reads (pick_at (λ t. scalar_in t.kind) passing.word_refusal) ty (IsScalar ty) (is_scalar_no_flag ty) (pick_reads (λ t. scalar_in t.kind) passing.word_refusal ty)

pub flagged_scalar_finds : Finds flagged_scalar_at (λ ty. Flagged (IsScalar ty))
flagged_scalar_finds = flagged_finds (pick_at (λ t. scalar_in t.kind) passing.word_refusal) IsScalar (pick_finds (λ t. scalar_in t.kind) passing.word_refusal)

pub truth_no_flag : (k : Kind) → is_truth_word k ≡ true → is_flag_word k ≡ false
truth_no_flag (kinds.Word (keywords.Scalar w)) h = refl
truth_no_flag k h = cc

is_truth_no_flag : NoFlag (Is is_truth_word)
is_truth_no_flag ts us (t, k, e) = rw e (truth_no_flag t.kind k)

pub flagged_truth_reads : (x : Unit {0}) → Reads (λ ts. truth_type_at (skipped is_flag_word ts)) x (Flagged (Is is_truth_word))
flagged_truth_reads x = flagged_reads truth_type_at x (Is is_truth_word) is_truth_no_flag (form_reads is_truth_word named_type_refusal)

pub flagged_truth_finds : Finds (λ ts. truth_type_at (skipped is_flag_word ts)) (λ x. Flagged (Is is_truth_word))
flagged_truth_finds = flagged_finds truth_type_at (λ x. Is is_truth_word) (form_finds is_truth_word named_type_refusal)

-- the tokens of a type do not begin with a word that begins no type
flat_no_stray : (context : Context) (k : Kind) (name : ℕ) (t : IrType) → flat_of context k name ≡ Some t → is_stray_at_type k ≡ false
flat_no_stray context (kinds.Word (keywords.Scalar w)) name t e = refl
flat_no_stray context kinds.Local name t e = refl
flat_no_stray context k name t e = cc

mark_no_stray : (m : Mark) (k : Kind) → is_mark m k ≡ true → is_stray_at_type k ≡ false
mark_no_stray m k h = ap is_stray_at_type (mark_is m k h)

abbrev NoStray : Part → Type 0
NoStray p = (ts us : List Tok) → p ts → has is_stray_at_type (ts ++ us) ≡ false

begins_no_stray : (m : Mark) (q : Part) → NoStray (IsMark m then q)
begins_no_stray m q ts us (f, b, (t, k, e), r, w) = rw (w, e) (mark_no_stray m t.kind k)

type_no_stray : (context : Context) (t : IrType) (depth : ℕ) → NoStray (IsType context t depth)
type_no_stray context (One s) depth ts us (t, e, f) = rw f (flat_no_stray context t.kind t.name (One s) e)
type_no_stray context (Named n) depth ts us (t, e, f) = rw f (flat_no_stray context t.kind t.name (Named n) e)
type_no_stray context (Array n t) zero ts us i = absurd i
type_no_stray context (Array n t) (suc depth) ts us i = begins_no_stray OpenBracket _ ts us i
type_no_stray context (Struct fs) zero ts us i = absurd i
type_no_stray context (Struct fs) (suc depth) ts us i = begins_no_stray OpenBrace _ ts us i
type_no_stray context (Packed fs) zero ts us i = absurd i
type_no_stray context (Packed fs) (suc depth) ts us i = begins_no_stray Less _ ts us i

stray_flag : (k : Kind) → is_stray_at_type k ≡ false → is_flag_word k ≡ false
stray_flag (kinds.Word keywords.Flag) h = cc
stray_flag k h = refl

no_stray_flag : (ts : List Tok) → has is_stray_at_type ts ≡ false → has is_flag_word ts ≡ false
no_stray_flag [] h = refl
no_stray_flag (t ∷ ts) h = stray_flag t.kind h

abbrev strict_by : Bool → Context → List Tok → Read IrType
strict_by b context ts = if b then Err (at OutOfProfile ts) else written_type_at context ts

strict_reads : (context : Context) (t : IrType) → Reads (strict_type_at context) t (IsWritten context t)
strict_reads context t ts us i =
    let same : strict_type_at context (ts ++ us) ≡ strict_by false context (ts ++ us) = ap (λ b. strict_by b context (ts ++ us)) (type_no_stray context t depth_limit ts us i.0) in
    same ∙ written_again context t ts us i

strict_step : (context : Context) (b : Bool) (ts us : List Tok) (t : IrType) → strict_by b context ts ≡ Ok (t, us) → Found (λ t. IsWritten context t) t ts us
strict_step context true ts us t e = cc
strict_step context false ts us t e = written_found context ts us t e

strict_finds : (context : Context) → Finds (strict_type_at context) (λ t. IsWritten context t)
strict_finds context ts us t e = strict_step context (has is_stray_at_type ts) ts us t e

pub flagged_type_reads : (context : Context) (t : IrType) → Reads (flagged_type_at context) t (Flagged (IsWritten context t))
flagged_type_reads context t = flagged_reads (strict_type_at context) t (IsWritten context t) (λ ts us i. no_stray_flag (ts ++ us) (type_no_stray context t depth_limit ts us i.0)) (strict_reads context t)

pub flagged_type_finds : (context : Context) → Finds (flagged_type_at context) (λ t. Flagged (IsWritten context t))
flagged_type_finds context = flagged_finds (strict_type_at context) (λ t. IsWritten context t) (strict_finds context)

-- Operands with their types.

typed_no_flag : (context : Context) (a : Argument) → NoFlag (IsTyped context a)
typed_no_flag context a ts us (f, b, (t, e, g), v, w) = rw (w, g) (scalar_no_flag t.kind a.ty e)

typed_reads_by : (context : Context) (how : Kind → FaultKind) (a : Argument) → Reads (λ ts. pick_at (λ t. scalar_in t.kind) how ts >>= λ t. value_at context t.0 t.1 >>= λ v. Ok (argument t.0 v.0, v.1)) a (IsTyped context a)
typed_reads_by context how a =
    bind_reads (pick_at (λ t. scalar_in t.kind) how) (λ t. value_at context t.0 t.1 >>= λ v. Ok (argument t.0 v.0, v.1)) a.ty a _ _ (pick_reads (λ t. scalar_in t.kind) how a.ty)
    (last_reads (value_at context a.ty) (λ v. argument a.ty v) a.value _ (value_again context a.ty a.value))

pub typed_reads : (context : Context) (a : Argument) → Reads (typed_at context) a (IsTyped context a)
typed_reads context a = typed_reads_by context scalar_refusal a

pub flagged_typed_reads : (context : Context) (a : Argument) → Reads (flagged_typed_at context) a (Flagged (IsTyped context a))
flagged_typed_reads context a = flagged_reads (λ ts. pick_at (λ t. scalar_in t.kind) passing.word_refusal ts >>= λ t. value_at context t.0 t.1 >>= λ v. Ok (argument t.0 v.0, v.1)) a (IsTyped context a) (typed_no_flag context a) (typed_reads_by context passing.word_refusal a)

typed_parts : (context : Context) (a : Argument) (ts : List Tok) → Joined (Picks (λ t. scalar_in t.kind)) (λ ty. Mapped (λ (v : Value). argument ty v) (IsValue context ty)) a ts → IsTyped context a ts
typed_parts context a ts (ty, (f, b, p, (v, m, eq), e)) = subst (λ x. IsTyped context x ts) eq (f, b, p, m, e)

typed_finds_by : (context : Context) (how : Kind → FaultKind) → Finds (λ ts. pick_at (λ t. scalar_in t.kind) how ts >>= λ t. value_at context t.0 t.1 >>= λ v. Ok (argument t.0 v.0, v.1)) (IsTyped context)
typed_finds_by context how ts us a g =
    let w = bind_finds (pick_at (λ t. scalar_in t.kind) how) (λ t. value_at context t.0 t.1 >>= λ v. Ok (argument t.0 v.0, v.1)) _ _ (pick_finds (λ t. scalar_in t.kind) how) (λ ty. last_finds (value_at context ty) (λ v. argument ty v) _ (value_found context ty)) ts us a g in
    (w.0, typed_parts context a w.0 w.1, w.2)

pub typed_finds : (context : Context) → Finds (typed_at context) (IsTyped context)
typed_finds context = typed_finds_by context scalar_refusal

pub flagged_typed_finds : (context : Context) → Finds (flagged_typed_at context) (λ a. Flagged (IsTyped context a))
flagged_typed_finds context = flagged_finds (λ ts. pick_at (λ t. scalar_in t.kind) passing.word_refusal ts >>= λ t. value_at context t.0 t.1 >>= λ v. Ok (argument t.0 v.0, v.1)) (IsTyped context) (typed_finds_by context passing.word_refusal)
