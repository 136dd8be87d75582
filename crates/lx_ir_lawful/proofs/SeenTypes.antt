-- Types by a context that knows no names: each name stands for nothing.
use Rattle.std.proofs.Common.{◌≡◌, ℕ, zero, suc, Bool, true, Option, Some, None, List, [], ◌∷◌, refl}
use Rattle.lx_ir_tokens.specs.declared.token.Tok.{Tok}
use Rattle.lx_ir_tokens.specs.declared.token.Kind.{Kind}
use Rattle.lx_ir_tokens.specs.declared.token.Kind.TheVariants as kinds
use Rattle.lx_ir_tokens.specs.declared.keyword.Keyword.TheVariants as keywords
use Rattle.lx_ir.specs.declared.types.Scalar.{Scalar}
use Rattle.lx_ir.specs.IrType.{IrType, One, Array, Struct, Packed, Named, IrTypes, none, also}
use Rattle.lx_ir.specs.Layout.{is_struct}
use Rattle.lx_ir_terms.specs.Context.{Context, nothing, type_number}
use Rattle.lx_ir_terms.specs.Types.{named_type, flat_of, depth_limit}
use Rattle.lx_ir_terms.specs.Grammar.{IsType, AreTypes, AreMore, IsWritten}
use Rattle.lx_ir_lawful.specs.Alike.{knowing_registers}

abbrev mutual
  -- a type whose names stand for nothing
  pub unnamed : IrType → IrType
  unnamed (One s) = One s
  unnamed (Array n t) = Array n (unnamed t)
  unnamed (Struct ts) = Struct (unnamed_all ts)
  unnamed (Packed ts) = Packed (unnamed_all ts)
  unnamed (Named k) = Named nothing

  pub unnamed_all : IrTypes → IrTypes
  unnamed_all none = none
  unnamed_all (also t ts) = also (unnamed t) (unnamed_all ts)

pub unnamed_struct : (t : IrType) → is_struct t ≡ true → is_struct (unnamed t) ≡ true
unnamed_struct (One s) e = e
unnamed_struct (Array n t) e = e
unnamed_struct (Struct ts) e = e
unnamed_struct (Packed ts) e = e
unnamed_struct (Named k) e = e

named_one : (o : Option ℕ) (s : Scalar) → named_type o ≡ Some (One s) → ⊥
named_one (Some k) s e = cc
named_one None s e = cc

module _ (c : Context) (registers : List (Option ℕ)) where
  abbrev d : Context
  d = knowing_registers c.names registers

  flat_one : (k : Kind) (n : ℕ) (s : Scalar) → flat_of c k n ≡ Some (One s) → flat_of d k n ≡ Some (One s)
  flat_one (kinds.Word w) n s e = e
  flat_one kinds.Local n s e = absurd (named_one (type_number c n) s e)
  flat_one k n s e = cc

  flat_named : (k : Kind) (n j : ℕ) → flat_of c k n ≡ Some (Named j) → flat_of d k n ≡ Some (Named nothing)
  flat_named (kinds.Word (keywords.Scalar w)) n j e = cc
  flat_named (kinds.Word w) n j e = cc
  flat_named kinds.Local n j e = refl
  flat_named k n j e = cc

  mutual
    pub type_seen : (t : IrType) (depth : ℕ) (ts : List Tok) → IsType c t depth ts → IsType d (unnamed t) depth ts
    type_seen (One s) depth ts (t, e, w) = (t, flat_one t.kind t.name s e, w)
    type_seen (Named k) depth ts (t, e, w) = (t, flat_named t.kind t.name k e, w)
    type_seen (Array n t) zero ts h = absurd h
    type_seen (Array n t) (suc depth) ts (f, b, o, (f2, b2, p, (f3, b3, x, (f4, b4, ty, m, w4), w3), w2), w) =
        (f, b, o, (f2, b2, p, (f3, b3, x, (f4, b4, type_seen t depth f4 ty, m, w4), w3), w2), w)
    type_seen (Struct fields) zero ts h = absurd h
    type_seen (Struct fields) (suc depth) ts (f, b, o, (f2, b2, ty, m, w2), w) = (f, b, o, (f2, b2, types_seen fields depth f2 ty, m, w2), w)
    type_seen (Packed fields) zero ts h = absurd h
    type_seen (Packed fields) (suc depth) ts (f, b, l, (f2, b2, o, (f3, b3, (f4, b4, ty, m, w4), g, w3), w2), w) =
        (f, b, l, (f2, b2, o, (f3, b3, (f4, b4, types_seen fields depth f4 ty, m, w4), g, w3), w2), w)

    types_seen : (ts : IrTypes) (depth : ℕ) (us : List Tok) → AreTypes c ts depth us → AreTypes d (unnamed_all ts) depth us
    types_seen none depth us h = h
    types_seen (also t ts) depth us (f, b, ty, more, w) = (f, b, type_seen t depth f ty, more_seen ts depth b more, w)

    more_seen : (ts : IrTypes) (depth : ℕ) (us : List Tok) → AreMore c ts depth us → AreMore d (unnamed_all ts) depth us
    more_seen none depth us h = h
    more_seen (also t ts) depth us (f, b, m, (f2, b2, ty, more, w2), w) = (f, b, m, (f2, b2, type_seen t depth f2 ty, more_seen ts depth b2 more, w2), w)

  pub written_seen : (t : IrType) (ts : List Tok) → IsWritten c t ts → IsWritten d (unnamed t) ts
  written_seen t ts (e, h) = (type_seen t depth_limit ts e, refl)
