-- Operands and calls where no limits are asked.
use Rattle.std.proofs.Common.{Bool, List, [], ◌∷◌}
use Rattle.lx_words.specs.declared.word.Width.{Width}
use Rattle.lx_words.specs.declared.word.Width.TheVariants.{W8}
use Rattle.lx_ir_tokens.specs.declared.token.Tok.{Tok}
use Rattle.lx_ir.specs.declared.types.Scalar.{Scalar}
use Rattle.lx_ir.specs.declared.types.Scalar.TheVariants.{Int, Ptr}
use Rattle.lx_ir.specs.declared.module.Value.{Value}
use Rattle.lx_ir.specs.declared.instr.Argument.{Argument}
use Rattle.lx_ir.specs.declared.instr.Callee.{Callee}
use Rattle.lx_ir.specs.declared.instr.Op.TheVariants as op
use Rattle.lx_ir.specs.Operands.{guard_width}
use Rattle.lx_ir_terms.specs.Context.{Context}
use Rattle.lx_ir_terms.specs.Types.{depth_limit}
use Rattle.lx_ir_terms.specs.Grammar.{Part}
use Rattle.lx_ir_operands.specs.Grammar.{AreInRow, IsTyped, IsSecond, IsAddress, IsAgain, IsEdge, IsCase}
use Rattle.lx_ir_calls.specs.declared.intrinsics.TextForm.{TextForm}
use Rattle.lx_ir_calls.specs.Grammar.{IsArgument, IsGivenArgument, IsNextArgument, IsCopy, IsFill, IsGuard, IsCheck, IsPlainCall, IsCalled, IsCall}
use Rattle.lx_ir_complete.specs.Unlimited.{unlimited}
use Rattle.lx_ir_complete.proofs.FreeTypes.{Frees}
use Rattle.lx_ir_complete.proofs.FreeConstants.{listed_free, constant_free, value_free}

pub row_free : {A : Type 0} (p q : A → Part) → Frees p q → Frees (AreInRow p) (AreInRow q)
row_free p q free [] ts h = h
row_free p q free (x ∷ xs) ts (f, b, one, more, w) = (f, b, free x f one, row_free p q free xs b more, w)

module _ (c : Context) where
  abbrev d : Context
  d = unlimited c

  -- Operands.

  pub typed_free : Frees (IsTyped c) (IsTyped d)
  typed_free a ts (f, b, s, v, w) = (f, b, s, value_free c a.ty a.value b v, w)

  pub second_free : (ty : Scalar) → Frees (IsSecond c ty) (IsSecond d ty)
  second_free ty v ts (f, b, m, x, w) = (f, b, m, value_free c ty v b x, w)

  pub address_free : Frees (IsAddress c) (IsAddress d)
  address_free v ts (f, b, m, (f2, b2, p, x, w2), w) = (f, b, m, (f2, b2, p, value_free c Ptr v b2 x, w2), w)

  pub again_free : (ty : Scalar) → Frees (IsAgain c ty) (IsAgain d ty)
  again_free ty v ts (a, (f, b, m, x, w), e) = (a, (f, b, m, typed_free a b x, w), e)

  pub edge_free : (ty : Scalar) → Frees (IsEdge c ty) (IsEdge d ty)
  edge_free ty e ts (f, b, o, (f2, b2, v, rest, w2), w) = (f, b, o, (f2, b2, value_free c ty e.value f2 v, rest, w2), w)

  pub case_free : (ty : Scalar) → Frees (IsCase c ty) (IsCase d ty)
  case_free ty k ts (other, x, (f, b, s, (f2, b2, v, l, w2), w), e) = (other, x, (f, b, s, (f2, b2, constant_free c depth_limit other x f2 v, l, w2), w), e)

  -- Calls.

  argument_free : Frees (IsArgument c) (IsArgument d)
  argument_free a ts (f, b, s, (f2, b2, p, v, w2), w) = (f, b, s, (f2, b2, p, value_free c a.ty a.value b2 v, w2), w)

  given_argument_free : (ty : Scalar) → Frees (IsGivenArgument c ty) (IsGivenArgument d ty)
  given_argument_free ty a ts (f, b, s, (f2, b2, p, v, w2), w) = (f, b, s, (f2, b2, p, value_free c ty a b2 v, w2), w)

  next_argument_free : (ty : Scalar) → Frees (IsNextArgument c ty) (IsNextArgument d ty)
  next_argument_free ty a ts (f, b, m, x, w) = (f, b, m, given_argument_free ty a b x, w)

  copy_free : (v : Width) (x y n : Value) (ts : List Tok) → IsCopy c v x y n ts → IsCopy d v x y n ts
  copy_free v x y n ts (f, b, o, (f2, b2, p, (f3, b3, q, (f4, b4, r, rest, w4), w3), w2), w) =
      (f, b, o, (f2, b2, given_argument_free Ptr x f2 p, (f3, b3, next_argument_free Ptr y f3 q, (f4, b4, next_argument_free (Int v) n f4 r, rest, w4), w3), w2), w)

  fill_free : (v : Width) (x y n : Value) (ts : List Tok) → IsFill c v x y n ts → IsFill d v x y n ts
  fill_free v x y n ts (f, b, o, (f2, b2, p, (f3, b3, q, (f4, b4, r, rest, w4), w3), w2), w) =
      (f, b, o, (f2, b2, given_argument_free Ptr x f2 p, (f3, b3, next_argument_free (Int W8) y f3 q, (f4, b4, next_argument_free (Int v) n f4 r, rest, w4), w3), w2), w)

  guard_free : (narrow : Bool) (x n : Value) (ts : List Tok) → IsGuard c narrow x n ts → IsGuard d narrow x n ts
  guard_free narrow x n ts (f, b, o, (f2, b2, p, (f3, b3, q, rest, w3), w2), w) =
      (f, b, o, (f2, b2, given_argument_free Ptr x f2 p, (f3, b3, next_argument_free (Int (guard_width narrow)) n f3 q, rest, w3), w2), w)

  check_free : Frees (IsCheck c) (IsCheck d)
  check_free x ts (f, b, o, (f2, b2, p, rest, w2), w) = (f, b, o, (f2, b2, given_argument_free Ptr x f2 p, rest, w2), w)

  module _ (form : TextForm) where
    plain_call_free : (g : Callee) (args : List Argument) (ts : List Tok) → IsPlainCall c form g args ts → IsPlainCall d form g args ts
    plain_call_free g args ts (f1, b1, x, (f2, b2, o, (f4, b4, all, m, w4), w2), w1) =
        (f1, b1, x, (f2, b2, o, (f4, b4, listed_free (IsArgument c) (IsArgument d) argument_free args f4 all, m, w4), w2), w1)

    called_free : Frees (IsCalled c form) (IsCalled d form)
    called_free (op.Call to ret g args) ts h = plain_call_free g args ts h
    called_free (op.CopyBlock moves x y len) ts (width, is, (f, b, name, p, w)) = (width, is, (f, b, name, copy_free width x y len.value b p, w))
    called_free (op.FillBlock x y len) ts (width, is, (f, b, name, p, w)) = (width, is, (f, b, name, fill_free width x y len.value b p, w))
    called_free (op.Guard x n narrow) ts (f, b, name, p, w) = (f, b, name, guard_free narrow x n b p, w)
    called_free (op.Check x) ts (f, b, name, p, w) = (f, b, name, check_free x b p, w)
    called_free (op.Enter s) ts h = h
    called_free (op.Leave s) ts h = h
    called_free (op.Pre s k) ts h = h
    called_free (op.Post s k) ts h = h
    called_free o ts h = absurd h

    pub call_free : Frees (IsCall c form) (IsCall d form)
    call_free o ts (f1, b1, tails, (f2, b2, first, (f3, b3, result, (f4, b4, p, words, w4), w3), w2), w1) =
        (f1, b1, tails, (f2, b2, first, (f3, b3, result, (f4, b4, called_free o f4 p, words, w4), w3), w2), w1)
