-- Type statements by a context that knows the names of types alone.
use Rattle.std.proofs.Common.{◌≡◌, ℕ, zero, suc, true, false, List, [], ◌∷◌, ◌++◌, Ok, refl, sym, ap, ◌∙◌, subst, Option, Some, None}
use Rattle.lx_words.specs.declared.token.Token.{Token}
use Rattle.lx_ir.specs.declared.types.Scalar.{Scalar}
use Rattle.lx_ir.specs.IrType.{IrType, One, Array, Struct, Packed, Named, IrTypes, none, also}
use Rattle.lx_ir_tokens.specs.declared.token.Tok.{Tok}
use Rattle.lx_ir_tokens.specs.declared.token.Kind.{Kind}
use Rattle.lx_ir_tokens.specs.declared.token.Kind.TheVariants as kinds
use Rattle.lx_ir_terms.specs.Context.{Context, entry, nothing, unless_complete, type_number}
use Rattle.lx_ir_terms.specs.Types.{named_type, flat_of, depth_limit}
use Rattle.lx_ir_terms.specs.Grammar.{IsType, AreTypes, AreMore, IsWritten}
use Rattle.lx_ir_calls.specs.declared.intrinsics.TextForm.{TextForm}
use Rattle.lx_ir_statements.specs.declared.form.Statement.TheVariants as statements
use Rattle.lx_ir_statements.specs.Defined.{nothing_defined}
use Rattle.lx_ir_statements.specs.Statements.{new_type_at, statement_by, statement_at}
use Rattle.lx_ir_statements.specs.Grammar.{IsNewType}
use Rattle.lx_ir_statements.proofs.TypeNames.{local_name_is, new_type_again}
use Rattle.lx_ir_read.specs.Tables.{naming_types}

-- Types by a context that knows the names of types alone.

module _ (c : Context) (whole : c.complete ≡ true) where
  abbrev pub naming : Context
  naming = naming_types c.names c.types []

  number_kept : (o : Option ℕ) (k : ℕ) → unless_complete c.complete nothing o ≡ Some k → unless_complete false nothing o ≡ Some k
  number_kept (Some j) k e = ap (λ b. unless_complete b nothing (Some j)) (sym whole) ∙ e
  number_kept None k e = absurd (apart (sym (ap (λ b. unless_complete b nothing None) whole) ∙ e))
    where
      apart : None ≡ Some k → ⊥
      apart h = cc

  named_kept : (o p : Option ℕ) (k : ℕ) → ((j : ℕ) → o ≡ Some j → p ≡ Some j) → named_type o ≡ Some (Named k) → named_type p ≡ Some (Named k)
  named_kept (Some j) p k f e = ap named_type (f j refl) ∙ e
  named_kept None p k f e = cc

  named_one : (o : Option ℕ) (s : Scalar) → named_type o ≡ Some (One s) → ⊥
  named_one (Some k) s e = cc
  named_one None s e = cc

  flat_one : (k : Kind) (n : ℕ) (s : Scalar) → flat_of c k n ≡ Some (One s) → flat_of naming k n ≡ Some (One s)
  flat_one (kinds.Word w) n s e = e
  flat_one kinds.Local n s e = absurd (named_one (type_number c n) s e)
  flat_one k n s e = cc

  flat_named : (k : Kind) (n j : ℕ) → flat_of c k n ≡ Some (Named j) → flat_of naming k n ≡ Some (Named j)
  flat_named (kinds.Word w) n j e = e
  flat_named kinds.Local n j e = named_kept (type_number c n) (type_number naming n) j (number_kept (entry c.types n)) e
  flat_named k n j e = cc

  mutual
    type_named : (t : IrType) (depth : ℕ) (ts : List Tok) → IsType c t depth ts → IsType naming t depth ts
    type_named (One s) depth ts (t, e, w) = (t, flat_one t.kind t.name s e, w)
    type_named (Named k) depth ts (t, e, w) = (t, flat_named t.kind t.name k e, w)
    type_named (Array n t) zero ts h = absurd h
    type_named (Array n t) (suc depth) ts (f, b, o, (f2, b2, p, (f3, b3, x, (f4, b4, ty, m, w4), w3), w2), w) =
        (f, b, o, (f2, b2, p, (f3, b3, x, (f4, b4, type_named t depth f4 ty, m, w4), w3), w2), w)
    type_named (Struct fields) zero ts h = absurd h
    type_named (Struct fields) (suc depth) ts (f, b, o, (f2, b2, ty, m, w2), w) = (f, b, o, (f2, b2, types_named fields depth f2 ty, m, w2), w)
    type_named (Packed fields) zero ts h = absurd h
    type_named (Packed fields) (suc depth) ts (f, b, l, (f2, b2, o, (f3, b3, (f4, b4, ty, m, w4), g, w3), w2), w) =
        (f, b, l, (f2, b2, o, (f3, b3, (f4, b4, types_named fields depth f4 ty, m, w4), g, w3), w2), w)

    types_named : (ts : IrTypes) (depth : ℕ) (us : List Tok) → AreTypes c ts depth us → AreTypes naming ts depth us
    types_named none depth us h = h
    types_named (also t ts) depth us (f, b, ty, more, w) = (f, b, type_named t depth f ty, more_named ts depth b more, w)

    more_named : (ts : IrTypes) (depth : ℕ) (us : List Tok) → AreMore c ts depth us → AreMore naming ts depth us
    more_named none depth us h = h
    more_named (also t ts) depth us (f, b, m, (f2, b2, ty, more, w2), w) = (f, b, m, (f2, b2, type_named t depth f2 ty, more_named ts depth b2 more, w2), w)

  written_named : (t : IrType) (ts : List Tok) → IsWritten c t ts → IsWritten naming t ts
  written_named t ts (e, h) = (type_named t depth_limit ts e, refl)

  pub new_type_named : (name : ℕ) (ty : IrType) (ts : List Tok) → IsNewType c name ty ts → IsNewType naming name ty ts
  new_type_named name ty ts (f, b, (t, k, local, ty_name, w3), (f2, b2, equal, (f4, b4, word, (struct, body), w4), w2), w) =
      (f, b, (t, k, local, written_named (Named k) (t ∷ []) ty_name, w3), (f2, b2, equal, (f4, b4, word, (struct, written_named ty b4 body), w4), w2), w)

-- the tokens of a type statement are read as it, whatever follows
pub type_again : (context : Context) (form : TextForm) (places : List Token) (name : ℕ) (ty : IrType) (ts us : List Tok) → IsNewType context name ty ts → statement_at context form places nothing_defined (ts ++ us) ≡ Ok (statements.Type name ty, us)
type_again context form places name ty ts us (f, b, (t, k, l, p, g), r, w) =
    let n = local_name_is t.kind t.name name l in
    let whole : ts ++ us ≡ t ∷ (b ++ us) = rw (w, g) refl in
    let read = new_type_again context name ty ts us (f, b, (t, k, l, p, g), r, w) in
    let here = subst (λ v. new_type_at context v ≡ Ok (statements.Type name ty, us)) whole read in
    ap (statement_at context form places nothing_defined) whole ∙ ap (λ v. statement_by context form places nothing_defined v (t ∷ (b ++ us))) n.0 ∙ here
