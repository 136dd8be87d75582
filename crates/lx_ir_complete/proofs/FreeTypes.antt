-- Types where no limits are asked.
use Rattle.std.proofs.Common.{ℕ, zero, suc, List, refl}
use Rattle.lx_ir_tokens.specs.declared.token.Tok.{Tok}
use Rattle.lx_ir.specs.IrType.{IrType, One, Array, Struct, Packed, Named, IrTypes, none, also}
use Rattle.lx_ir_terms.specs.Context.{Context}
use Rattle.lx_ir_terms.specs.Types.{depth_limit}
use Rattle.lx_ir_terms.specs.Grammar.{Part, IsType, AreTypes, AreMore, IsWritten}
use Rattle.lx_ir_complete.specs.Unlimited.{unlimited}

-- what tokens are as one part, they are as the other
abbrev pub Frees : {A : Type 0} → (A → Part) → (A → Part) → Type 0
Frees {A} p q = (x : A) (ts : List Tok) → p x ts → q x ts

module _ (c : Context) where
  abbrev d : Context
  d = unlimited c

  mutual
    type_free : (t : IrType) (depth : ℕ) (ts : List Tok) → IsType c t depth ts → IsType d t depth ts
    type_free (One s) depth ts h = h
    type_free (Named k) depth ts h = h
    type_free (Array n t) zero ts h = h
    type_free (Array n t) (suc depth) ts (f, b, o, (f2, b2, p, (f3, b3, x, (f4, b4, ty, m, w4), w3), w2), w) =
        (f, b, o, (f2, b2, p, (f3, b3, x, (f4, b4, type_free t depth f4 ty, m, w4), w3), w2), w)
    type_free (Struct fields) zero ts h = h
    type_free (Struct fields) (suc depth) ts (f, b, o, (f2, b2, ty, m, w2), w) = (f, b, o, (f2, b2, types_free fields depth f2 ty, m, w2), w)
    type_free (Packed fields) zero ts h = h
    type_free (Packed fields) (suc depth) ts (f, b, l, (f2, b2, o, (f3, b3, (f4, b4, ty, m, w4), g, w3), w2), w) =
        (f, b, l, (f2, b2, o, (f3, b3, (f4, b4, types_free fields depth f4 ty, m, w4), g, w3), w2), w)

    types_free : (ts : IrTypes) (depth : ℕ) (us : List Tok) → AreTypes c ts depth us → AreTypes d ts depth us
    types_free none depth us h = h
    types_free (also t ts) depth us (f, b, ty, more, w) = (f, b, type_free t depth f ty, more_free ts depth b more, w)

    more_free : (ts : IrTypes) (depth : ℕ) (us : List Tok) → AreMore c ts depth us → AreMore d ts depth us
    more_free none depth us h = h
    more_free (also t ts) depth us (f, b, m, (f2, b2, ty, more, w2), w) = (f, b, m, (f2, b2, type_free t depth f2 ty, more_free ts depth b2 more, w2), w)

  pub written_free : Frees (IsWritten c) (IsWritten d)
  written_free t ts (e, h) = (type_free t depth_limit ts e, refl)
