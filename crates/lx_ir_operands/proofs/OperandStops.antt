-- A token at which the reading of an operand stops cannot stand there.
use Rattle.std.proofs.Common.{◌≡◌, ℕ, Bool, true, false, List, Ok, Err, refl}
use Rattle.std.specs.Prelude.{◌≡◌, None, if◌then◌else◌}
use Rattle.lx_ir_tokens.specs.declared.token.Tok.{Tok}
use Rattle.lx_ir_tokens.specs.declared.token.Kind.{Kind}
use Rattle.lx_ir_tokens.specs.declared.token.Mark.TheVariants.{Comma, OpenBracket, CloseBracket}
use Rattle.lx_ir.specs.IrType.{IrType}
use Rattle.lx_ir.specs.declared.types.Scalar.{Scalar}
use Rattle.lx_ir.specs.declared.types.Scalar.TheVariants.{Ptr}
use Rattle.lx_ir.specs.declared.module.Constant.{Constant}
use Rattle.lx_ir.specs.declared.module.Value.{Value}
use Rattle.lx_ir.specs.declared.module.Value.TheVariants as values
use Rattle.lx_ir.specs.declared.instr.Argument.{Argument}
use Rattle.lx_ir.specs.declared.instr.Edge.{Edge}
use Rattle.lx_ir.specs.declared.instr.SwitchCase.{SwitchCase}
use Rattle.lx_ir_terms.specs.declared.fault.Fault.{Fault}
use Rattle.lx_ir_terms.specs.declared.fault.FaultKind.{FaultKind}
use Rattle.lx_ir_terms.specs.declared.fault.FaultKind.TheVariants.{OutOfProfile}
use Rattle.lx_ir_terms.specs.Context.{Context}
use Rattle.lx_ir_terms.specs.Reading.{Read, ◌>>=◌, at, refusal, has, is_mark, pick_at, next_at, mark_at}
use Rattle.lx_ir_terms.specs.Types.{scalar_in, scalar_at, scalar_refusal, always_refused, written_type_at, depth_limit}
use Rattle.lx_ir_terms.specs.Words as passing
use Rattle.lx_ir_terms.specs.Laws.{Stops}
use Rattle.lx_ir_terms.proofs.Parts.{pick_reads, next_reads, pick_finds, next_finds}
use Rattle.lx_ir_terms.proofs.Stopping.{Refuses, pick_stops, next_stops, bind_stops, last_stops, guard_stops}
use Rattle.lx_ir_terms.proofs.Written.{written_stops}
use Rattle.lx_ir_constants.specs.Constants.{is_flag_word, skipped, is_pointer_word, form_type_at, value_at, constant_at}
use Rattle.lx_ir_constants.specs.Grammar.{IsConstant, IsValue}
use Rattle.lx_ir_constants.proofs.ConstantLaws.{constant_again, constant_found}
use Rattle.lx_ir_constants.proofs.ConstantStops.{flagged_stops, form_stops, too_deep, constant_stops, value_stops}
use Rattle.lx_ir_constants.proofs.PointerLaws.{form_reads, form_finds}
use Rattle.lx_ir_constants.proofs.ValueLaws.{value_again, value_found}
use Rattle.lx_ir_operands.specs.Operands.{argument, flagged_scalar_at, is_stray_at_type, strict_type_at, flagged_type_at, is_truth_word, named_type_refusal, truth_type_at, typed_at, flagged_typed_at, second_at, address_at, kept_constant, again_at, is_label_word, local_in, local_at, label_at, next_label_at, edge_at, case_at}
use Rattle.lx_ir_operands.specs.Grammar.{IsScalar, IsLocal}
use Rattle.lx_ir_operands.proofs.OperandLaws.{local_reads, local_finds, kept}

-- Types behind flags.

pub flagged_scalar_stops : Refuses flagged_scalar_at
flagged_scalar_stops = flagged_stops (pick_at (λ t. scalar_in t.kind) passing.word_refusal) (pick_stops (λ t. scalar_in t.kind) passing.word_refusal)

abbrev strict_by : Bool → Context → List Tok → Read IrType
strict_by b context ts = if b then Err (at OutOfProfile ts) else written_type_at context ts

strict_step : (context : Context) (free : context.limits ≡ None) (b : Bool) (ts : List Tok) (f : Fault) → has is_stray_at_type ts ≡ b → strict_by b context ts ≡ Err f → Stops (strict_type_at context) ts f
strict_step context free true ts f o e = guard_stops is_stray_at_type (strict_type_at context) (λ us. Err (at OutOfProfile us)) true (λ vs k. rw k refl) ts f o (too_deep ts f e)
strict_step context free false ts f o e = guard_stops is_stray_at_type (strict_type_at context) (written_type_at context) false (λ vs k. rw k refl) ts f o (written_stops context free ts f e)

strict_stops : (context : Context) (free : context.limits ≡ None) → Refuses (strict_type_at context)
strict_stops context free ts f e = strict_step context free (has is_stray_at_type ts) ts f refl e

pub flagged_type_stops : (context : Context) (free : context.limits ≡ None) → Refuses (flagged_type_at context)
flagged_type_stops context free = flagged_stops (strict_type_at context) (strict_stops context free)

pub flagged_truth_stops : Refuses (λ ts. truth_type_at (skipped is_flag_word ts))
flagged_truth_stops = flagged_stops truth_type_at (form_stops is_truth_word named_type_refusal)

-- Operands.

abbrev typed_by : Context → (Kind → FaultKind) → List Tok → Read Argument
typed_by context how ts = pick_at (λ t. scalar_in t.kind) how ts >>= λ t. value_at context t.0 t.1 >>= λ v. Ok (argument t.0 v.0, v.1)

typed_by_stops : (context : Context) (free : context.limits ≡ None) (how : Kind → FaultKind) → Refuses (typed_by context how)
typed_by_stops context free how =
    bind_stops (pick_at (λ t. scalar_in t.kind) how) (λ t. value_at context t.0 t.1 >>= λ v. Ok (argument t.0 v.0, v.1)) _ (λ ty. pick_reads (λ t. scalar_in t.kind) how ty) (pick_finds (λ t. scalar_in t.kind) how) (pick_stops (λ t. scalar_in t.kind) how)
    (λ ty. last_stops (value_at context ty) (λ v. argument ty v) (value_stops context free ty))

pub typed_stops : (context : Context) (free : context.limits ≡ None) → Refuses (typed_at context)
typed_stops context free = typed_by_stops context free scalar_refusal

pub flagged_typed_stops : (context : Context) (free : context.limits ≡ None) → Refuses (flagged_typed_at context)
flagged_typed_stops context free = flagged_stops (typed_by context passing.word_refusal) (typed_by_stops context free passing.word_refusal)

pub second_stops : (context : Context) (free : context.limits ≡ None) (ty : Scalar) → Refuses (second_at context ty)
second_stops context free ty =
    bind_stops (mark_at Comma) (λ c. value_at context ty c.1) _ (λ x. next_reads (is_mark Comma)) (next_finds (is_mark Comma)) (next_stops (is_mark Comma))
    (λ c. value_stops context free ty)

pub address_stops : (context : Context) (free : context.limits ≡ None) → Refuses (address_at context)
address_stops context free =
    bind_stops (mark_at Comma) (λ c. form_type_at is_pointer_word c.1 >>= λ w. value_at context Ptr w.1) _ (λ x. next_reads (is_mark Comma)) (next_finds (is_mark Comma)) (next_stops (is_mark Comma))
    (λ c. bind_stops (form_type_at is_pointer_word) (λ w. value_at context Ptr w.1) _ (λ x. form_reads is_pointer_word refusal) (form_finds is_pointer_word refusal) (form_stops is_pointer_word refusal)
    (λ w. value_stops context free Ptr))

pub again_stops : (context : Context) (free : context.limits ≡ None) (ty : Scalar) → Refuses (again_at context ty)
again_stops context free ty =
    bind_stops (mark_at Comma) (λ c. typed_at context c.1 >>= λ a. Ok (kept ty a.0, a.1)) _ (λ x. next_reads (is_mark Comma)) (next_finds (is_mark Comma)) (next_stops (is_mark Comma))
    (λ c. last_stops (typed_at context) (λ a. kept ty a) (typed_stops context free))

-- Labels.

pub local_stops : (context : Context) → Refuses (local_at context)
local_stops context = pick_stops (λ t. local_in context t.kind t.name) always_refused

pub label_stops : (context : Context) → Refuses (label_at context)
label_stops context = bind_stops (next_at is_label_word) (λ w. local_at context w.1) _ (λ x. next_reads is_label_word) (next_finds is_label_word) (next_stops is_label_word) (λ w. local_stops context)

pub next_label_stops : (context : Context) → Refuses (next_label_at context)
next_label_stops context = bind_stops (mark_at Comma) (λ c. label_at context c.1) _ (λ x. next_reads (is_mark Comma)) (next_finds (is_mark Comma)) (next_stops (is_mark Comma)) (λ c. label_stops context)

abbrev edge : Value → List ℕ → Edge
edge v l = record { value = v; label = l }

pub edge_stops : (context : Context) (free : context.limits ≡ None) (ty : Scalar) → Refuses (edge_at context ty)
edge_stops context free ty =
    bind_stops (mark_at OpenBracket) (λ o. value_at context ty o.1 >>= λ v. mark_at Comma v.1 >>= λ c. local_at context c.1 >>= λ l. mark_at CloseBracket l.1 >>= λ d. Ok (edge v.0 l.0, d.1)) _ (λ x. next_reads (is_mark OpenBracket)) (next_finds (is_mark OpenBracket)) (next_stops (is_mark OpenBracket))
    (λ o. bind_stops (value_at context ty) (λ v. mark_at Comma v.1 >>= λ c. local_at context c.1 >>= λ l. mark_at CloseBracket l.1 >>= λ d. Ok (edge v.0 l.0, d.1)) (IsValue context ty) (value_again context ty) (value_found context ty) (value_stops context free ty)
    (λ v. bind_stops (mark_at Comma) (λ c. local_at context c.1 >>= λ l. mark_at CloseBracket l.1 >>= λ d. Ok (edge v l.0, d.1)) _ (λ x. next_reads (is_mark Comma)) (next_finds (is_mark Comma)) (next_stops (is_mark Comma))
    (λ c. bind_stops (local_at context) (λ l. mark_at CloseBracket l.1 >>= λ d. Ok (edge v l.0, d.1)) (IsLocal context) (local_reads context) (local_finds context) (local_stops context)
    (λ l. last_stops (mark_at CloseBracket) (λ d. edge v l) (next_stops (is_mark CloseBracket))))))

-- the case of a switch of this type, whose own type is another
abbrev case_of : Scalar → Scalar → Constant → List ℕ → SwitchCase
case_of ty other c l = record { value = values.Constant (kept_constant ty other c); label = l }

pub case_stops : (context : Context) (free : context.limits ≡ None) (ty : Scalar) → Refuses (case_at context ty)
case_stops context free ty =
    bind_stops scalar_at (λ t. constant_at context depth_limit t.0 t.1 >>= λ c. next_label_at context c.1 >>= λ l. Ok (case_of ty t.0 c.0 l.0, l.1)) IsScalar (λ t. pick_reads (λ t. scalar_in t.kind) scalar_refusal t) (pick_finds (λ t. scalar_in t.kind) scalar_refusal) (pick_stops (λ t. scalar_in t.kind) scalar_refusal)
    (λ other. bind_stops (constant_at context depth_limit other) (λ c. next_label_at context c.1 >>= λ l. Ok (case_of ty other c.0 l.0, l.1)) (IsConstant context depth_limit other) (constant_again context depth_limit other) (constant_found context depth_limit other) (constant_stops context free depth_limit other)
    (λ c. last_stops (next_label_at context) (λ l. case_of ty other c l) (next_label_stops context)))
