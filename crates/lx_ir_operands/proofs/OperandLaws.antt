-- Further operands, and labels.
use Rattle.std.proofs.Common.{ℕ, List, Ok, ap, ◌∙◌}
use Rattle.lx_ir_tokens.specs.declared.token.Tok.{Tok}
use Rattle.lx_ir_tokens.specs.declared.token.Mark.TheVariants.{Comma}
use Rattle.lx_ir.specs.declared.types.Scalar.{Scalar}
use Rattle.lx_ir.specs.declared.types.Scalar.TheVariants.{Ptr}
use Rattle.lx_ir.specs.declared.module.Value.{Value}
use Rattle.lx_ir.specs.declared.instr.Argument.{Argument}
use Rattle.lx_ir_terms.specs.Context.{Context}
use Rattle.lx_ir_terms.specs.Reading.{◌>>=◌, refusal, is_mark, next_at, mark_at}
use Rattle.lx_ir_terms.specs.Types.{always_refused}
use Rattle.lx_ir_terms.specs.Grammar.{IsMark, ◌then◌}
use Rattle.lx_ir_terms.specs.Laws.{Reads, Finds}
use Rattle.lx_ir_terms.proofs.Parts.{Mapped, pick_reads, next_reads, bind_reads, last_reads, pick_finds, next_finds, last_finds}
use Rattle.lx_ir_constants.specs.Constants.{is_pointer_word, form_type_at, value_at}
use Rattle.lx_ir_constants.proofs.PointerLaws.{form_reads, form_finds}
use Rattle.lx_ir_constants.proofs.ValueLaws.{value_again, value_found}
use Rattle.lx_ir_operands.specs.Operands.{kept_value, typed_at, second_at, address_at, again_at, is_label_word, local_in, local_at, label_at, next_label_at}
use Rattle.lx_ir_operands.specs.Grammar.{IsTyped, IsSecond, IsAddress, IsAgain, IsLocal, IsLabel, IsNextLabel}
use Rattle.lx_ir_operands.proofs.Chains.{then_finds}
use Rattle.lx_ir_operands.proofs.FlagLaws.{typed_reads, typed_finds}

-- Operands behind a comma.

pub second_reads : (context : Context) (ty : Scalar) (v : Value) → Reads (second_at context ty) v (IsSecond context ty v)
second_reads context ty v = bind_reads (mark_at Comma) (λ c. value_at context ty c.1) tt v _ _ (next_reads (is_mark Comma)) (value_again context ty v)

pub second_finds : (context : Context) (ty : Scalar) → Finds (second_at context ty) (IsSecond context ty)
second_finds context ty = then_finds (mark_at Comma) (λ c. value_at context ty c.1) _ _ (next_finds (is_mark Comma)) (λ x. value_found context ty)

pub address_reads : (context : Context) (p : Value) → Reads (address_at context) p (IsAddress context p)
address_reads context p =
    bind_reads (mark_at Comma) (λ c. form_type_at is_pointer_word c.1 >>= λ w. value_at context Ptr w.1) tt p _ _ (next_reads (is_mark Comma))
    (bind_reads (form_type_at is_pointer_word) (λ w. value_at context Ptr w.1) tt p _ _ (form_reads is_pointer_word refusal) (value_again context Ptr p))

pub address_finds : (context : Context) → Finds (address_at context) (IsAddress context)
address_finds context =
    then_finds (mark_at Comma) (λ c. form_type_at is_pointer_word c.1 >>= λ w. value_at context Ptr w.1) _ _ (next_finds (is_mark Comma))
    (λ x. then_finds (form_type_at is_pointer_word) (λ w. value_at context Ptr w.1) _ _ (form_finds is_pointer_word refusal) (λ y. value_found context Ptr))

-- what is kept of an operand, where the form wrote this type before
abbrev pub kept : Scalar → Argument → Value
kept ty a = kept_value ty a.ty a.value

pub again_reads : (context : Context) (ty : Scalar) (b : Value) → Reads (again_at context ty) b (IsAgain context ty b)
again_reads context ty b ts us (a, q, e) =
    bind_reads (mark_at Comma) (λ c. typed_at context c.1 >>= λ a. Ok (kept ty a.0, a.1)) tt (kept ty a) _ _ (next_reads (is_mark Comma))
    (last_reads (typed_at context) (λ a. kept ty a) a _ (typed_reads context a)) ts us q
    ∙ ap (λ v. Ok (v, us)) e

again_part : (context : Context) (ty : Scalar) (b : Value) (ts : List Tok) → (IsMark Comma then Mapped (λ (a : Argument). kept ty a) (IsTyped context) b) ts → IsAgain context ty b ts
again_part context ty b ts (f, r, p, (a, q, e), w) = (a, (f, r, p, q, w), e)

pub again_finds : (context : Context) (ty : Scalar) → Finds (again_at context ty) (IsAgain context ty)
again_finds context ty ts us b e =
    let w = then_finds (mark_at Comma) (λ c. typed_at context c.1 >>= λ a. Ok (kept ty a.0, a.1)) (IsMark Comma) (Mapped (λ (a : Argument). kept ty a) (IsTyped context)) (next_finds (is_mark Comma)) (λ x. last_finds (typed_at context) (λ a. kept ty a) (IsTyped context) (typed_finds context)) ts us b e in
    (w.0, again_part context ty b w.0 w.1, w.2)

-- Labels.

pub local_reads : (context : Context) (l : List ℕ) → Reads (local_at context) l (IsLocal context l)
local_reads context l = pick_reads (λ t. local_in context t.kind t.name) always_refused l

pub local_finds : (context : Context) → Finds (local_at context) (IsLocal context)
local_finds context = pick_finds (λ t. local_in context t.kind t.name) always_refused

pub label_reads : (context : Context) (l : List ℕ) → Reads (label_at context) l (IsLabel context l)
label_reads context l = bind_reads (next_at is_label_word) (λ w. local_at context w.1) tt l _ _ (next_reads is_label_word) (local_reads context l)

pub label_finds : (context : Context) → Finds (label_at context) (IsLabel context)
label_finds context = then_finds (next_at is_label_word) (λ w. local_at context w.1) _ _ (next_finds is_label_word) (λ x. local_finds context)

pub next_label_reads : (context : Context) (l : List ℕ) → Reads (next_label_at context) l (IsNextLabel context l)
next_label_reads context l = bind_reads (mark_at Comma) (λ c. label_at context c.1) tt l _ _ (next_reads (is_mark Comma)) (label_reads context l)

pub next_label_finds : (context : Context) → Finds (next_label_at context) (IsNextLabel context)
next_label_finds context = then_finds (mark_at Comma) (λ c. label_at context c.1) _ _ (next_finds (is_mark Comma)) (λ x. label_finds context)
