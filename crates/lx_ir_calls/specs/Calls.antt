-- Reading calls.
use Rattle.std.specs.Prelude.{ℕ, Bool, true, false, Option, Some, None, List, Ok, Err, option_map, is_some}
use Rattle.lx_ir_tokens.specs.declared.token.Tok.{Tok}
use Rattle.lx_ir_tokens.specs.declared.token.Kind.{Kind}
use Rattle.lx_ir_tokens.specs.declared.token.Kind.TheVariants as kinds
use Rattle.lx_ir_tokens.specs.declared.token.Mark.TheVariants.{OpenParenthesis, CloseParenthesis}
use Rattle.lx_ir_tokens.specs.declared.keyword.InstructionWord.TheVariants as instructions
use Rattle.lx_ir_tokens.specs.declared.keyword.Keyword.TheVariants as keywords
use Rattle.lx_ir.specs.declared.types.Scalar.{Scalar}
use Rattle.lx_ir.specs.declared.instr.Callee.{Callee}
use Rattle.lx_ir.specs.declared.instr.Callee.TheVariants as callee
use Rattle.lx_ir.specs.declared.instr.Op.{Op}
use Rattle.lx_ir.specs.declared.instr.Op.TheVariants as op
use Rattle.lx_ir_terms.specs.declared.fault.FaultKind.{FaultKind}
use Rattle.lx_ir_terms.specs.declared.fault.FaultKind.TheVariants.{Statement, Unknown}
use Rattle.lx_ir_terms.specs.Context.{Context, symbol_of, register_number}
use Rattle.lx_ir_terms.specs.Reading.{Read, ◌>>=◌, at, refusal, behind, pick_at, mark_at, listed_at}
use Rattle.lx_ir_terms.specs.Types.{scalar_in, result_in}
use Rattle.lx_ir_terms.specs.Words as passing
use Rattle.lx_ir_constants.specs.Constants.{is_flag_word, skipped, when, word_refusal}
use Rattle.lx_ir_operands.specs.Steps.{attributes_at}
use Rattle.lx_ir_calls.specs.declared.intrinsics.TextForm.{TextForm}
use Rattle.lx_ir_calls.specs.declared.intrinsics.Intrinsic.{Intrinsic}
use Rattle.lx_ir_calls.specs.Arguments.{argument_at}
use Rattle.lx_ir_calls.specs.Intrinsics.{intrinsic_next, intrinsic_behind}

abbrev pub callee_of : Context → Kind → ℕ → Option Callee
callee_of context kinds.Local name = Some (callee.Register (register_number context name))
callee_of context kinds.Global name = option_map callee.Symbol (symbol_of context name)
callee_of context _ name = None

abbrev pub callee_refusal : Kind → FaultKind
callee_refusal kinds.Global = Unknown
callee_refusal k = refusal k

abbrev pub callee_at : Context → List Tok → Read Callee
callee_at context ts = pick_at (λ t. callee_of context t.kind t.name) callee_refusal ts

-- `f(T a, ..)`
abbrev pub plain_call_at : Context → Option ℕ → Option Scalar → List Tok → Read Op
plain_call_at context to ret ts = do
  f ← callee_at context ts
  o ← mark_at OpenParenthesis f.1
  xs ← listed_at CloseParenthesis (argument_at context) o.1
  Ok (op.Call to ret f.0 xs.0, xs.1)

-- a call whose name says what it does gives nothing
abbrev pub intrinsic_call_at : Context → Intrinsic → Option Scalar → List Tok → Read Op
intrinsic_call_at context i None ts = intrinsic_behind context i (behind ts)
intrinsic_call_at context i (Some ret) ts = Err (at Statement ts)

abbrev pub call_by : Option Intrinsic → Context → Option ℕ → Option Scalar → List Tok → Read Op
call_by None context to ret ts = plain_call_at context to ret ts
call_by (Some i) context to ret ts = intrinsic_call_at context i ret ts

-- the called name and its arguments
abbrev pub called_at : Context → TextForm → Option ℕ → Option Scalar → List Tok → Read Op
called_at context form to ret ts = call_by (intrinsic_next context form ts) context to ret ts

-- a result, which is not `void` where a register is given
abbrev pub call_result_in : Bool → Kind → Option (Option Scalar)
call_result_in true k = option_map Some (scalar_in k)
call_result_in false k = result_in k

abbrev pub call_result_refusal : Kind → FaultKind
call_result_refusal (kinds.Word keywords.Void) = Statement
call_result_refusal k = passing.word_refusal k

abbrev pub call_result_at : Bool → List Tok → Read (Option Scalar)
call_result_at gives ts = do
  w ← passing.passed_at false (skipped is_flag_word ts)
  pick_at (λ t. call_result_in gives t.kind) call_result_refusal w.1

-- a call behind its word
abbrev pub call_behind : Context → TextForm → Option ℕ → List Tok → Read Op
call_behind context form to ts = do
  r ← call_result_at (is_some to) ts
  c ← called_at context form to r.0 r.1
  w ← attributes_at c.1
  Ok (c.0, w.1)

abbrev pub is_tail_word : Kind → Bool
is_tail_word (kinds.Word keywords.Tail) = true
is_tail_word _ = false

abbrev pub is_call_word : Kind → Bool
is_call_word (kinds.Word (keywords.Instruction instructions.Call)) = true
is_call_word _ = false

-- a call behind `tail` or `notail`; any other word there is outside the profile
abbrev pub tail_call_at : Context → TextForm → Option ℕ → List Tok → Read Op
tail_call_at context form to ts = do
  c ← pick_at (λ t. when (is_call_word t.kind)) word_refusal (skipped is_tail_word ts)
  call_behind context form to c.1
