-- Instructions where no limits are asked.
use Rattle.std.proofs.Common.{Some, None}
use Rattle.lx_words.specs.declared.word.Width.TheVariants.{W1}
use Rattle.lx_ir.specs.declared.types.Scalar.TheVariants.{Int}
use Rattle.lx_ir.specs.declared.instr.Op.TheVariants as op
use Rattle.lx_ir_terms.specs.Context.{Context}
use Rattle.lx_ir_operands.specs.Operands.{argument}
use Rattle.lx_ir_operands.specs.Grammar.{IsCase, IsEdge, IsTyped}
use Rattle.lx_ir_calls.specs.declared.intrinsics.TextForm.{TextForm}
use Rattle.lx_ir_instructions.specs.Grammar.{IsForm, IsInstr}
use Rattle.lx_ir_complete.specs.Unlimited.{unlimited}
use Rattle.lx_ir_complete.proofs.FreeTypes.{Frees, written_free}
use Rattle.lx_ir_complete.proofs.FreeConstants.{items_free, value_free}
use Rattle.lx_ir_complete.proofs.FreeOperands.{row_free, typed_free, second_free, address_free, again_free, edge_free, case_free, call_free}

module _ (c : Context) (form : TextForm) where
  abbrev d : Context
  d = unlimited c

  form_free : Frees (IsForm c form) (IsForm d form)
  form_free (op.Binary to o ty x y) ts (f1, b1, r, (f2, b2, m, (f3, b3, first, (f4, b4, (f5, b5, flags, p, w5), q, w4), w3), w2), w1) =
      (f1, b1, r, (f2, b2, m, (f3, b3, first, (f4, b4, (f5, b5, flags, typed_free c (argument ty x) b5 p, w5), second_free c ty y b4 q, w4), w3), w2), w1)
  form_free (op.Compare to k ty x y) ts (f1, b1, r, (f2, b2, m, (f3, b3, first, (f4, b4, flags, (f5, b5, p, q, w5), w4), w3), w2), w1) =
      (f1, b1, r, (f2, b2, m, (f3, b3, first, (f4, b4, flags, (f5, b5, typed_free c (argument ty x) f5 p, second_free c ty y b5 q, w5), w4), w3), w2), w1)
  form_free (op.Convert to how from x into) ts (f1, b1, r, (f2, b2, m, (word, (f3, b3, first, (f4, b4, (f5, b5, flags, p, w5), q, w4), w3), is), w2), w1) =
      (f1, b1, r, (f2, b2, m, (word, (f3, b3, first, (f4, b4, (f5, b5, flags, typed_free c (argument from x) b5 p, w5), q, w4), w3), is), w2), w1)
  form_free (op.Unary to o ty x) ts (f1, b1, r, (f2, b2, m, (f3, b3, first, (f5, b5, flags, p, w5), w3), w2), w1) =
      (f1, b1, r, (f2, b2, m, (f3, b3, first, (f5, b5, flags, typed_free c (argument ty x) b5 p, w5), w3), w2), w1)
  form_free (op.Select to z ty x y) ts (f1, b1, r, (f2, b2, m, (f3, b3, first, (f4, b4, flags, (f5, b5, p, (f6, b6, comma, (f7, b7, q, s, w7), w6), w5), w4), w3), w2), w1) =
      (f1, b1, r, (f2, b2, m, (f3, b3, first, (f4, b4, flags, (f5, b5, value_free c (Int W1) z f5 p, (f6, b6, comma, (f7, b7, typed_free c (argument ty x) f7 q, again_free c ty y b7 s, w7), w6), w5), w4), w3), w2), w1)
  form_free (op.Phi to ty edges) ts (f1, b1, r, (f2, b2, m, (f3, b3, first, (f4, b4, flags, p, w4), w3), w2), w1) =
      (f1, b1, r, (f2, b2, m, (f3, b3, first, (f4, b4, flags, items_free (IsEdge c ty) (IsEdge d ty) (edge_free c ty) edges b4 p, w4), w3), w2), w1)
  form_free (op.Alloca to ty) ts (f1, b1, r, (f2, b2, m, (f3, b3, first, (f4, b4, (f5, b5, flags, p, w5), q, w4), w3), w2), w1) =
      (f1, b1, r, (f2, b2, m, (f3, b3, first, (f4, b4, (f5, b5, flags, written_free c ty b5 p, w5), q, w4), w3), w2), w1)
  form_free (op.Load to ty x) ts (f1, b1, r, (f2, b2, m, (f3, b3, first, (f4, b4, flags, (f5, b5, p, q, w5), w4), w3), w2), w1) =
      (f1, b1, r, (f2, b2, m, (f3, b3, first, (f4, b4, flags, (f5, b5, address_free c x f5 p, q, w5), w4), w3), w2), w1)
  form_free (op.Store ty x y) ts (f3, b3, first, (f4, b4, (f5, b5, flags, p, w5), (f6, b6, q, r, w6), w4), w3) =
      (f3, b3, first, (f4, b4, (f5, b5, flags, typed_free c (argument ty x) b5 p, w5), (f6, b6, address_free c y f6 q, r, w6), w4), w3)
  form_free (op.GetElementPtr to ty x is) ts (f1, b1, r, (f2, b2, m, (f3, b3, first, (f4, b4, (f5, b5, flags, p, w5), (f6, b6, q, (f7, b7, comma, s, w7), w6), w4), w3), w2), w1) =
      (f1, b1, r, (f2, b2, m, (f3, b3, first, (f4, b4, (f5, b5, flags, written_free c ty b5 p, w5), (f6, b6, address_free c x f6 q, (f7, b7, comma, items_free (IsTyped c) (IsTyped d) (typed_free c) is b7 s, w7), w6), w4), w3), w2), w1)
  form_free (op.Call None ret g args) ts h = call_free c form (op.Call None ret g args) ts h
  form_free (op.Call (Some to) ret g args) ts (f1, b1, r, (f2, b2, m, p, w2), w1) =
      (f1, b1, r, (f2, b2, m, call_free c form (op.Call (Some to) ret g args) b2 p, w2), w1)
  form_free (op.CopyBlock moves x y len) ts h = call_free c form (op.CopyBlock moves x y len) ts h
  form_free (op.FillBlock x y len) ts h = call_free c form (op.FillBlock x y len) ts h
  form_free (op.Ret None) ts h = h
  form_free (op.Ret (Some x)) ts (f1, b1, first, (f2, b2, flags, p, w2), w1) = (f1, b1, first, (f2, b2, flags, typed_free c x b2 p, w2), w1)
  form_free (op.Jump l) ts h = h
  form_free (op.Branch x l r) ts (f1, b1, first, (f2, b2, flags, (f3, b3, p, rest, w3), w2), w1) =
      (f1, b1, first, (f2, b2, flags, (f3, b3, value_free c (Int W1) x f3 p, rest, w3), w2), w1)
  form_free (op.Switch ty x otherwise cases) ts (f1, b1, first, (f2, b2, (f3, b3, flags, p, w3), (f4, b4, l, (f5, b5, o, (f6, b6, q, m, w6), w5), w4), w2), w1) =
      (f1, b1, first, (f2, b2, (f3, b3, flags, typed_free c (argument ty x) b3 p, w3), (f4, b4, l, (f5, b5, o, (f6, b6, row_free (IsCase c ty) (IsCase d ty) (case_free c ty) cases f6 q, m, w6), w5), w4), w2), w1)
  form_free op.Unreachable ts h = h
  form_free (op.Guard x n narrow) ts h = call_free c form (op.Guard x n narrow) ts h
  form_free (op.Check x) ts h = call_free c form (op.Check x) ts h
  form_free (op.Enter s) ts h = call_free c form (op.Enter s) ts h
  form_free (op.Leave s) ts h = call_free c form (op.Leave s) ts h
  form_free (op.Pre s k) ts h = call_free c form (op.Pre s k) ts h
  form_free (op.Post s k) ts h = call_free c form (op.Post s k) ts h

  pub instr_free : Frees (IsInstr c form) (IsInstr d form)
  instr_free o ts (f, b, x, meta, w) = (f, b, form_free o f x, meta, w)
