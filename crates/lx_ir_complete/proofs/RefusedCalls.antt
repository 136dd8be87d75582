-- Calls.
use Rattle.std.proofs.Common.{◌≡◌, ℕ, Bool, false, Option, Some, None, List, [], ◌∷◌, Ok, Err, refl, ap}
use Rattle.std.specs.Prelude.{is_some}
use Rattle.lx_ir_tokens.specs.declared.token.Tok.{Tok}
use Rattle.lx_ir_tokens.specs.declared.token.Mark.TheVariants.{Comma, OpenParenthesis, CloseParenthesis}
use Rattle.lx_words.specs.declared.word.Width.{Width}
use Rattle.lx_words.specs.declared.word.Width.TheVariants.{W1, W8, W32}
use Rattle.lx_ir.specs.declared.types.Scalar.{Scalar}
use Rattle.lx_ir.specs.declared.types.Scalar.TheVariants.{Int, Ptr}
use Rattle.lx_ir.specs.declared.instr.Op.TheVariants as op
use Rattle.lx_ir.specs.Operands.{guard_width}
use Rattle.lx_ir_terms.specs.declared.fault.FaultKind.{FaultKind}
use Rattle.lx_ir_terms.specs.declared.fault.FaultKind.TheVariants.{Statement, OutOfProfile}
use Rattle.lx_ir_terms.specs.Context.{Context}
use Rattle.lx_ir_terms.specs.Reading.{◌>>=◌, at, is_mark, pick_at, mark_at, listed_at}
use Rattle.lx_ir_terms.specs.Types.{scalar_in, scalar_at, scalar_refusal}
use Rattle.lx_ir_terms.specs.Words.{passed_at}
use Rattle.lx_ir_constants.specs.Constants.{is_flag_word, when, word_refusal, value_at}
use Rattle.lx_ir_operands.specs.Operands.{argument}
use Rattle.lx_ir_operands.specs.Steps.{attributes_at}
use Rattle.lx_ir_calls.specs.declared.writes.BlockWrite.{BlockWrite}
use Rattle.lx_ir_calls.specs.declared.writes.BlockWrite.TheVariants as writes
use Rattle.lx_ir_calls.specs.declared.image_lines.ImageLine.{ImageLine}
use Rattle.lx_ir_calls.specs.declared.image_lines.ImageLine.TheVariants as lines
use Rattle.lx_ir_calls.specs.declared.intrinsics.TextForm.{TextForm}
use Rattle.lx_ir_calls.specs.declared.intrinsics.Intrinsic.{Intrinsic}
use Rattle.lx_ir_calls.specs.declared.intrinsics.Intrinsic.TheVariants as intrinsics
use Rattle.lx_ir_calls.specs.Arguments.{is_stray_at_value, strict_value_at, passed_value_at, argument_at, is_scalar_word, given_type_refusal, given_type_at, given_argument_at, next_argument_at}
use Rattle.lx_ir_calls.specs.Writes.{is_false_word, not_volatile_at, copy_behind, fill_behind, block_write_behind}
use Rattle.lx_ir_calls.specs.ImageLines.{guard_behind, check_behind, symbol_in, symbol_refusal, symbol_argument_at, crossing, crossing_behind, action_in, action_refusal, action_at, action, action_behind, image_line_behind}
use Rattle.lx_ir_calls.specs.Intrinsics.{intrinsic_of, intrinsic_next, intrinsic_behind}
use Rattle.lx_ir_calls.specs.Calls.{callee_of, callee_refusal, callee_at, plain_call_at, intrinsic_call_at, call_by, called_at, call_result_in, call_result_refusal, call_result_at, call_behind, is_call_word, is_tail_word, tail_call_at}
use Rattle.lx_ir_complete.proofs.Local.{Looks, Same, Plain, fault_local, then_plain, last_plain, if_plain, choose_local, behind_local}
use Rattle.lx_ir_complete.proofs.Loops.{next_plain, skipped_plain, listed_plain}
use Rattle.lx_ir_complete.proofs.RefusedOperands.{pick_plain, value_plain, passed_plain, attributes_plain}

-- what the next name says the call does
intrinsic_looks : (context : Context) (form : TextForm) (us vs : List Tok) → Looks us vs → intrinsic_next context form us ≡ intrinsic_next context form vs
intrinsic_looks context form [] [] l = refl
intrinsic_looks context form [] (v ∷ vs) l = let e = l.first in cc
intrinsic_looks context form (u ∷ us) [] l = let e = l.first in cc
intrinsic_looks context form (u ∷ us) (v ∷ vs) l = let e = l.first in let s : u ≡ v = cc in ap (λ (t : Tok). intrinsic_of context form t.kind t.name) s

module _ (asked : FaultKind → Bool) (context : Context) (free : context.limits ≡ None) where
  mark : (m : _) → Plain asked (mark_at m)
  mark m = next_plain asked (is_mark m)

  -- Arguments.

  strict_value_plain : (ty : Scalar) → Plain asked (strict_value_at context ty)
  strict_value_plain ty = if_plain asked is_stray_at_value (λ ts. Err (at OutOfProfile ts)) (value_at context ty) (fault_local asked Same OutOfProfile) (value_plain asked context free ty)

  passed_value_plain : (ty : Scalar) → Plain asked (passed_value_at context ty)
  passed_value_plain ty = then_plain asked (passed_at false) (λ w. strict_value_at context ty w.1) (passed_plain asked false) (λ w. strict_value_plain ty)

  argument_plain : Plain asked (argument_at context)
  argument_plain =
      then_plain asked (scalar_at) (λ t. passed_value_at context t.0 t.1 >>= λ v. Ok (argument t.0 v.0, v.1)) (pick_plain asked (λ t. scalar_in t.kind) scalar_refusal)
      (λ t. last_plain asked (passed_value_at context t) (λ v. argument t v) (passed_value_plain t))

  given_type_plain : (ty : Scalar) → Plain asked (given_type_at ty)
  given_type_plain ty = pick_plain asked (λ t. when (is_scalar_word ty t.kind)) given_type_refusal

  given_plain : (ty : Scalar) → Plain asked (given_argument_at context ty)
  given_plain ty = then_plain asked (given_type_at ty) (λ t. passed_value_at context ty t.1) (given_type_plain ty) (λ t. passed_value_plain ty)

  next_argument_plain : (ty : Scalar) → Plain asked (next_argument_at context ty)
  next_argument_plain ty = then_plain asked (mark_at Comma) (λ c. given_argument_at context ty c.1) (mark Comma) (λ c. given_plain ty)

  -- Block writes and the lines of images.

  not_volatile_plain : Plain asked (not_volatile_at)
  not_volatile_plain =
      then_plain asked (mark_at Comma) (λ c. given_type_at (Int W1) c.1 >>= λ t. passed_at false t.1 >>= λ w. pick_at (λ t. when (is_false_word t.kind)) word_refusal w.1 >>= λ f. mark_at CloseParenthesis f.1) (mark Comma)
      (λ c. then_plain asked (given_type_at (Int W1)) (λ t. passed_at false t.1 >>= λ w. pick_at (λ t. when (is_false_word t.kind)) word_refusal w.1 >>= λ f. mark_at CloseParenthesis f.1) (given_type_plain (Int W1))
      (λ t. then_plain asked (passed_at false) (λ w. pick_at (λ t. when (is_false_word t.kind)) word_refusal w.1 >>= λ f. mark_at CloseParenthesis f.1) (passed_plain asked false)
      (λ w. then_plain asked (pick_at (λ t. when (is_false_word t.kind)) word_refusal) (λ f. mark_at CloseParenthesis f.1) (pick_plain asked (λ t. when (is_false_word t.kind)) word_refusal)
      (λ f. (mark CloseParenthesis)))))

  copy_plain : (moves : Bool) (w : Width) → Plain asked (copy_behind context moves w)
  copy_plain moves w =
      then_plain asked (mark_at OpenParenthesis) (λ o. given_argument_at context Ptr o.1 >>= λ d. next_argument_at context (Ptr) d.1 >>= λ s. next_argument_at context (Int w) s.1 >>= λ n. not_volatile_at n.1 >>= λ v. Ok (op.CopyBlock moves d.0 s.0 (argument (Int w) n.0), v.1)) (mark OpenParenthesis)
      (λ o. then_plain asked (given_argument_at context Ptr) (λ d. next_argument_at context (Ptr) d.1 >>= λ s. next_argument_at context (Int w) s.1 >>= λ n. not_volatile_at n.1 >>= λ v. Ok (op.CopyBlock moves d.0 s.0 (argument (Int w) n.0), v.1)) (given_plain Ptr)
      (λ d. then_plain asked (next_argument_at context (Ptr)) (λ s. next_argument_at context (Int w) s.1 >>= λ n. not_volatile_at n.1 >>= λ v. Ok (op.CopyBlock moves d s.0 (argument (Int w) n.0), v.1)) (next_argument_plain (Ptr))
      (λ s. then_plain asked (next_argument_at context (Int w)) (λ n. not_volatile_at n.1 >>= λ v. Ok (op.CopyBlock moves d s (argument (Int w) n.0), v.1)) (next_argument_plain (Int w))
      (λ n. last_plain asked (not_volatile_at) (λ v. op.CopyBlock moves d s (argument (Int w) n)) not_volatile_plain))))

  fill_plain : (w : Width) → Plain asked (fill_behind context w)
  fill_plain w =
      then_plain asked (mark_at OpenParenthesis) (λ o. given_argument_at context Ptr o.1 >>= λ d. next_argument_at context (Int W8) d.1 >>= λ b. next_argument_at context (Int w) b.1 >>= λ n. not_volatile_at n.1 >>= λ v. Ok (op.FillBlock d.0 b.0 (argument (Int w) n.0), v.1)) (mark OpenParenthesis)
      (λ o. then_plain asked (given_argument_at context Ptr) (λ d. next_argument_at context (Int W8) d.1 >>= λ b. next_argument_at context (Int w) b.1 >>= λ n. not_volatile_at n.1 >>= λ v. Ok (op.FillBlock d.0 b.0 (argument (Int w) n.0), v.1)) (given_plain Ptr)
      (λ d. then_plain asked (next_argument_at context (Int W8)) (λ b. next_argument_at context (Int w) b.1 >>= λ n. not_volatile_at n.1 >>= λ v. Ok (op.FillBlock d b.0 (argument (Int w) n.0), v.1)) (next_argument_plain (Int W8))
      (λ b. then_plain asked (next_argument_at context (Int w)) (λ n. not_volatile_at n.1 >>= λ v. Ok (op.FillBlock d b (argument (Int w) n.0), v.1)) (next_argument_plain (Int w))
      (λ n. last_plain asked (not_volatile_at) (λ v. op.FillBlock d b (argument (Int w) n)) not_volatile_plain))))

  write_plain : (w : BlockWrite) → Plain asked (block_write_behind context w)
  write_plain (writes.Copy moves w) = copy_plain moves w
  write_plain (writes.Fill w) = fill_plain w

  guard_plain : (narrow : Bool) → Plain asked (guard_behind context narrow)
  guard_plain narrow =
      then_plain asked (mark_at OpenParenthesis) (λ o. given_argument_at context Ptr o.1 >>= λ p. next_argument_at context (Int (guard_width narrow)) p.1 >>= λ n. mark_at CloseParenthesis n.1 >>= λ c. Ok (op.Guard p.0 n.0 narrow, c.1)) (mark OpenParenthesis)
      (λ o. then_plain asked (given_argument_at context Ptr) (λ p. next_argument_at context (Int (guard_width narrow)) p.1 >>= λ n. mark_at CloseParenthesis n.1 >>= λ c. Ok (op.Guard p.0 n.0 narrow, c.1)) (given_plain Ptr)
      (λ p. then_plain asked (next_argument_at context (Int (guard_width narrow))) (λ n. mark_at CloseParenthesis n.1 >>= λ c. Ok (op.Guard p n.0 narrow, c.1)) (next_argument_plain (Int (guard_width narrow)))
      (λ n. last_plain asked (mark_at CloseParenthesis) (λ c. op.Guard p n narrow) (mark CloseParenthesis))))

  check_plain : Plain asked (check_behind context)
  check_plain =
      then_plain asked (mark_at OpenParenthesis) (λ o. given_argument_at context Ptr o.1 >>= λ p. mark_at CloseParenthesis p.1 >>= λ c. Ok (op.Check p.0, c.1)) (mark OpenParenthesis)
      (λ o. then_plain asked (given_argument_at context Ptr) (λ p. mark_at CloseParenthesis p.1 >>= λ c. Ok (op.Check p.0, c.1)) (given_plain Ptr)
      (λ p. last_plain asked (mark_at CloseParenthesis) (λ c. op.Check p) (mark CloseParenthesis)))

  symbol_argument_plain : Plain asked (symbol_argument_at context)
  symbol_argument_plain =
      then_plain asked (given_type_at Ptr) (λ t. passed_at false t.1 >>= λ w. pick_at (λ t. symbol_in context t.kind t.name) symbol_refusal w.1) (given_type_plain Ptr)
      (λ t. then_plain asked (passed_at false) (λ w. pick_at (λ t. symbol_in context t.kind t.name) symbol_refusal w.1) (passed_plain asked false)
      (λ w. (pick_plain asked (λ t. symbol_in context t.kind t.name) symbol_refusal)))

  crossing_plain : (leaves : Bool) → Plain asked (crossing_behind context leaves)
  crossing_plain leaves =
      then_plain asked (mark_at OpenParenthesis) (λ o. symbol_argument_at context o.1 >>= λ f. mark_at CloseParenthesis f.1 >>= λ c. Ok (crossing leaves f.0, c.1)) (mark OpenParenthesis)
      (λ o. then_plain asked (symbol_argument_at context) (λ f. mark_at CloseParenthesis f.1 >>= λ c. Ok (crossing leaves f.0, c.1)) symbol_argument_plain
      (λ f. last_plain asked (mark_at CloseParenthesis) (λ c. crossing leaves f) (mark CloseParenthesis)))

  action_number_plain : Plain asked (action_at)
  action_number_plain =
      then_plain asked (mark_at Comma) (λ c. given_type_at (Int W32) c.1 >>= λ t. passed_at false t.1 >>= λ w. pick_at (λ t. action_in t.kind) action_refusal w.1) (mark Comma)
      (λ c. then_plain asked (given_type_at (Int W32)) (λ t. passed_at false t.1 >>= λ w. pick_at (λ t. action_in t.kind) action_refusal w.1) (given_type_plain (Int W32))
      (λ t. then_plain asked (passed_at false) (λ w. pick_at (λ t. action_in t.kind) action_refusal w.1) (passed_plain asked false)
      (λ w. (pick_plain asked (λ t. action_in t.kind) action_refusal))))

  action_plain : (after : Bool) → Plain asked (action_behind context after)
  action_plain after =
      then_plain asked (mark_at OpenParenthesis) (λ o. symbol_argument_at context o.1 >>= λ f. action_at f.1 >>= λ k. mark_at CloseParenthesis k.1 >>= λ c. Ok (action after f.0 k.0, c.1)) (mark OpenParenthesis)
      (λ o. then_plain asked (symbol_argument_at context) (λ f. action_at f.1 >>= λ k. mark_at CloseParenthesis k.1 >>= λ c. Ok (action after f.0 k.0, c.1)) symbol_argument_plain
      (λ f. then_plain asked (action_at) (λ k. mark_at CloseParenthesis k.1 >>= λ c. Ok (action after f k.0, c.1)) action_number_plain
      (λ k. last_plain asked (mark_at CloseParenthesis) (λ c. action after f k) (mark CloseParenthesis))))

  line_plain : (l : ImageLine) → Plain asked (image_line_behind context l)
  line_plain (lines.Guard narrow) = guard_plain narrow
  line_plain lines.Check = check_plain
  line_plain (lines.Crossing leaves) = crossing_plain leaves
  line_plain (lines.Action after) = action_plain after

  intrinsic_plain : (i : Intrinsic) → Plain asked (intrinsic_behind context i)
  intrinsic_plain (intrinsics.Write w) = write_plain w
  intrinsic_plain (intrinsics.Line l) = line_plain l

  -- Calls.

  plain_call_plain : (to : Option ℕ) (ret : Option Scalar) → Plain asked (plain_call_at context to ret)
  plain_call_plain to ret =
      then_plain asked (callee_at context) (λ f. mark_at OpenParenthesis f.1 >>= λ o. listed_at CloseParenthesis (argument_at context) o.1 >>= λ xs. Ok (op.Call to ret f.0 xs.0, xs.1)) (pick_plain asked (λ t. callee_of context t.kind t.name) callee_refusal)
      (λ f. then_plain asked (mark_at OpenParenthesis) (λ o. listed_at CloseParenthesis (argument_at context) o.1 >>= λ xs. Ok (op.Call to ret f xs.0, xs.1)) (mark OpenParenthesis)
      (λ o. last_plain asked (listed_at CloseParenthesis (argument_at context)) (λ xs. op.Call to ret f xs) (listed_plain asked (argument_at context) argument_plain CloseParenthesis)))

  intrinsic_call_plain : (i : Intrinsic) (ret : Option Scalar) → Plain asked (intrinsic_call_at context i ret)
  intrinsic_call_plain i None = behind_local asked Same (intrinsic_behind context i) (intrinsic_behind context i) (intrinsic_plain i)
  intrinsic_call_plain i (Some ret) = fault_local asked Same Statement

  call_by_plain : (to : Option ℕ) (ret : Option Scalar) (i : Option Intrinsic) → Plain asked (call_by i context to ret)
  call_by_plain to ret None = plain_call_plain to ret
  call_by_plain to ret (Some i) = intrinsic_call_plain i ret

  module _ (form : TextForm) where
    called_plain : (to : Option ℕ) (ret : Option Scalar) → Plain asked (called_at context form to ret)
    called_plain to ret =
        choose_local asked Same (intrinsic_next context form) (intrinsic_next context form) (intrinsic_looks context form) (λ i ts. call_by i context to ret ts) (λ i ts. call_by i context to ret ts) (call_by_plain to ret)

    result_plain : (gives : Bool) → Plain asked (call_result_at gives)
    result_plain gives =
        skipped_plain asked is_flag_word (λ ts. passed_at false ts >>= λ w. pick_at (λ t. call_result_in gives t.kind) call_result_refusal w.1)
        (then_plain asked (passed_at false) (λ w. pick_at (λ t. call_result_in gives t.kind) call_result_refusal w.1) (passed_plain asked false) (λ w. pick_plain asked (λ t. call_result_in gives t.kind) call_result_refusal))

    pub call_behind_plain : (to : Option ℕ) → Plain asked (call_behind context form to)
    call_behind_plain to =
        then_plain asked (call_result_at (is_some to)) (λ r. called_at context form to r.0 r.1 >>= λ c. attributes_at c.1 >>= λ w. Ok (c.0, w.1)) (result_plain (is_some to))
        (λ r. then_plain asked (called_at context form to r) (λ c. attributes_at c.1 >>= λ w. Ok (c.0, w.1)) (called_plain to r)
        (λ c. last_plain asked (attributes_at) (λ w. c) (attributes_plain asked)))

    pub tail_call_plain : (to : Option ℕ) → Plain asked (tail_call_at context form to)
    tail_call_plain to =
        skipped_plain asked is_tail_word (λ ts. pick_at (λ t. when (is_call_word t.kind)) word_refusal ts >>= λ c. call_behind context form to c.1)
        (then_plain asked (pick_at (λ t. when (is_call_word t.kind)) word_refusal) (λ c. call_behind context form to c.1) (pick_plain asked (λ t. when (is_call_word t.kind)) word_refusal) (λ c. call_behind_plain to))
