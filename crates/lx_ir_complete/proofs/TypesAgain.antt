-- The types that statements define, read again by a context that knows the names of types.
use Rattle.std.proofs.Common.{◌≡◌, ◌⊎◌, inl, inr, ℕ, zero, suc, Bool, true, false, List, [], ◌∷◌, ◌++◌, length, Ok, refl, sym, ap, ◌∙◌, subst, true≢false, Option, Some, None, slice_get, append_assoc}
use Rattle.std.specs.Prelude.{if◌then◌else◌, fold, option_to_list}
use Rattle.std.specs.List.{AllZip, AllByRecursion}
use Rattle.std.proofs.lemmas.List.{append-nil}
use Rattle.lx_words.specs.declared.token.Token.{Token}
use Rattle.lx_ir.specs.declared.types.Scalar.{Scalar}
use Rattle.lx_ir.specs.declared.types.NamedType.{NamedType}
use Rattle.lx_ir.specs.declared.module.GlobalVar.{GlobalVar}
use Rattle.lx_ir.specs.declared.module.Function.{Function}
use Rattle.lx_ir.specs.IrType.{IrType, One, Array, Struct, Packed, Named, IrTypes, none, also}
use Rattle.lx_ir_tokens.specs.declared.token.Tok.{Tok}
use Rattle.lx_ir_tokens.specs.declared.token.Kind.{Kind}
use Rattle.lx_ir_tokens.specs.declared.token.Kind.TheVariants as kinds
use Rattle.lx_ir_terms.specs.Context.{Context, bytes_of, entry, nothing, unless_complete, type_number}
use Rattle.lx_ir_terms.specs.Reading.{Read}
use Rattle.lx_ir_terms.specs.Types.{named_type, flat_of, depth_limit}
use Rattle.lx_ir_terms.specs.Grammar.{IsType, AreTypes, AreMore, IsWritten}
use Rattle.lx_ir_calls.specs.declared.intrinsics.TextForm.{TextForm}
use Rattle.lx_ir_statements.specs.declared.form.Statement.{Statement}
use Rattle.lx_ir_statements.specs.declared.form.Statement.TheVariants as statements
use Rattle.lx_ir_statements.specs.declared.defined.Defined.{Defined}
use Rattle.lx_ir_statements.specs.Defined.{nothing_defined, with_statement}
use Rattle.lx_ir_statements.specs.Statements.{statement_at}
use Rattle.lx_ir_statements.specs.Grammar.{IsStatement}
use Rattle.lx_ir_statements.specs.Laws.{may_follow, StatementsAreRead}
use Rattle.lx_ir_lawful.specs.Alike.{AlikeStatements}
use Rattle.lx_ir_complete.proofs.PrintedInits.{said_bytes}
use Rattle.lx_ir_complete.specs.Statements.{Own, OfType, OfGlobal, OfFunction}
use Rattle.lx_ir_read.specs.declared.first.Found.{Found}
use Rattle.lx_ir_read.specs.Tables.{tokens_left, naming_types, is_type, type_in, type_read, type_again, with_type_again}
use Rattle.lx_ir_lawful.proofs.SizedTypes.{left_there}
use Rattle.lx_ir_complete.specs.KnownLaws.{unknown}
use Rattle.lx_ir_complete.specs.First.{AreFound}
use Rattle.lx_ir_complete.proofs.Again.{found_follows}

-- Types by a context that knows the names of types alone.

module _ (c : Context) (whole : c.complete ≡ true) where
  abbrev pub naming : Context
  naming = naming_types c.names c.types []

  number_kept : (o : Option ℕ) (k : ℕ) → unless_complete c.complete nothing o ≡ Some k → unless_complete false nothing o ≡ Some k
  number_kept (Some j) k e = ap (λ b. unless_complete b nothing (Some j)) (sym whole) ∙ e
  number_kept None k e = absurd (apart (sym (ap (λ b. unless_complete b nothing None) whole) ∙ e))
    where
      apart : None ≡ Some k → ⊥
      apart h = cc

  named_kept : (o p : Option ℕ) (k : ℕ) → ((j : ℕ) → o ≡ Some j → p ≡ Some j) → named_type o ≡ Some (Named k) → named_type p ≡ Some (Named k)
  named_kept (Some j) p k f e = ap named_type (f j refl) ∙ e
  named_kept None p k f e = cc

  named_one : (o : Option ℕ) (s : Scalar) → named_type o ≡ Some (One s) → ⊥
  named_one (Some k) s e = cc
  named_one None s e = cc

  flat_one : (k : Kind) (n : ℕ) (s : Scalar) → flat_of c k n ≡ Some (One s) → flat_of naming k n ≡ Some (One s)
  flat_one (kinds.Word w) n s e = e
  flat_one kinds.Local n s e = absurd (named_one (type_number c n) s e)
  flat_one k n s e = cc

  flat_named : (k : Kind) (n j : ℕ) → flat_of c k n ≡ Some (Named j) → flat_of naming k n ≡ Some (Named j)
  flat_named (kinds.Word w) n j e = e
  flat_named kinds.Local n j e = named_kept (type_number c n) (type_number naming n) j (number_kept (entry c.types n)) e
  flat_named k n j e = cc

  mutual
    type_named : (t : IrType) (depth : ℕ) (ts : List Tok) → IsType c t depth ts → IsType naming t depth ts
    type_named (One s) depth ts (t, e, w) = (t, flat_one t.kind t.name s e, w)
    type_named (Named k) depth ts (t, e, w) = (t, flat_named t.kind t.name k e, w)
    type_named (Array n t) zero ts h = absurd h
    type_named (Array n t) (suc depth) ts (f, b, o, (f2, b2, p, (f3, b3, x, (f4, b4, ty, m, w4), w3), w2), w) =
        (f, b, o, (f2, b2, p, (f3, b3, x, (f4, b4, type_named t depth f4 ty, m, w4), w3), w2), w)
    type_named (Struct fields) zero ts h = absurd h
    type_named (Struct fields) (suc depth) ts (f, b, o, (f2, b2, ty, m, w2), w) = (f, b, o, (f2, b2, types_named fields depth f2 ty, m, w2), w)
    type_named (Packed fields) zero ts h = absurd h
    type_named (Packed fields) (suc depth) ts (f, b, l, (f2, b2, o, (f3, b3, (f4, b4, ty, m, w4), g, w3), w2), w) =
        (f, b, l, (f2, b2, o, (f3, b3, (f4, b4, types_named fields depth f4 ty, m, w4), g, w3), w2), w)

    types_named : (ts : IrTypes) (depth : ℕ) (us : List Tok) → AreTypes c ts depth us → AreTypes naming ts depth us
    types_named none depth us h = h
    types_named (also t ts) depth us (f, b, ty, more, w) = (f, b, type_named t depth f ty, more_named ts depth b more, w)

    more_named : (ts : IrTypes) (depth : ℕ) (us : List Tok) → AreMore c ts depth us → AreMore naming ts depth us
    more_named none depth us h = h
    more_named (also t ts) depth us (f, b, m, (f2, b2, ty, more, w2), w) = (f, b, m, (f2, b2, type_named t depth f2 ty, more_named ts depth b2 more, w2), w)

  written_named : (t : IrType) (ts : List Tok) → IsWritten c t ts → IsWritten naming t ts
  written_named t ts (e, h) = (type_named t depth_limit ts e, refl)

  pub statement_named : (form : TextForm) (places : List Token) (defined : Defined) (name : ℕ) (ty : IrType) (ts us : List Tok) → IsStatement c form places defined (statements.Type name ty) ts us → IsStatement naming form places nothing_defined (statements.Type name ty) ts us
  statement_named form places defined name ty ts us (fresh, (f, b, (t, k, local, ty_name, w3), (f2, b2, equal, (f4, b4, word, (struct, body), w4), w2), w)) =
      (refl, (f, b, (t, k, local, written_named (Named k) (t ∷ []) ty_name, w3), (f2, b2, equal, (f4, b4, word, (struct, written_named ty b4 body), w4), w2), w))

-- a statement that defines no type
abbrev pub IsNoType : Own → Type 0
IsNoType s = is_type s.statement ≡ false

abbrev as_named : List ℕ → IrType → NamedType
as_named name ty = record { name = name; ty = ty }

-- The types of the statements that were found.

module _ (read : StatementsAreRead) (form : TextForm) (places : List Token) (c : Context) (whole : c.complete ≡ true) (toks : List Tok) where
  abbrev d : Context
  d = naming c whole

  abbrev step : List NamedType → Found → List NamedType
  step types f = with_type_again d form places toks types f

  a_type_is : (e : Context) (n : ℕ) (ty : IrType) (t : Statement) → AlikeStatements c e (statements.Type n ty) t → is_type t ≡ true
  a_type_is e n ty (statements.Type k u) same = refl
  a_type_is e n ty t same = absurd same

  one_type : (t : NamedType) (n : ℕ) (f : Found) (defined : Defined) (before front back : List Tok) → slice_get c.names n ≡ Some t.name → IsStatement c form places defined (statements.Type n t.ty) front back
      → AlikeStatements c (unknown c.names) (statements.Type n t.ty) f.statement → may_follow back ≡ true → f.left ≡ length (front ++ back) → toks ≡ before ++ (front ++ back) → (types : List NamedType) → step types f ≡ types ++ t ∷ []
  one_type t n f defined before front back at is alike follow left w types =
      let there = left_there before (front ++ back) toks f.left left w in
      let it : statement_at d form places nothing_defined (tokens_left f.left toks) ≡ Ok (statements.Type n t.ty, back) =
      ap (statement_at d form places nothing_defined) there ∙ read d form places nothing_defined (statements.Type n t.ty) front back follow (statement_named c whole form places defined n t.ty front back is) in
      let name : bytes_of d n ≡ t.name = said_bytes d n t.name at in
      let found : type_again d form places toks f ≡ Some t =
      ap (λ b. if b then type_read d (statement_at d form places nothing_defined (tokens_left f.left toks)) else None) (a_type_is (unknown c.names) n t.ty f.statement alike)
      ∙ ap (λ (r : Read Statement). type_read d r) it ∙ ap (λ x. Some (as_named x t.ty)) name in
      ap (λ o. types ++ option_to_list o) found

  no_type : (f : Found) → is_type f.statement ≡ false → (types : List NamedType) → step types f ≡ types
  no_type f e types =
      ap (λ b. types ++ option_to_list (if b then type_read d (statement_at d form places nothing_defined (tokens_left f.left toks)) else None)) e ∙ append-nil types

  alike_no_type : (a e : Context) (s t : Statement) → is_type s ≡ false → AlikeStatements a e s t → is_type t ≡ false
  alike_no_type a e (statements.Type n u) t h same = absurd (true≢false h)
  alike_no_type a e (statements.Global n b u i) (statements.Global k b2 u2 j) h same = refl
  alike_no_type a e (statements.Import n r ps) (statements.Import k r2 qs) h same = refl
  alike_no_type a e (statements.Function n r ps bs) (statements.Function k r2 qs ds) h same = refl
  alike_no_type a e s t h same = absurd same

  rest_types : (ss : List Own) (fs : List Found) (defined : Defined) (ts : List Tok) → AllByRecursion IsNoType ss → AreFound form places c.names defined ss fs ts → (types : List NamedType) → fold step types fs ≡ types
  rest_types [] [] defined ts quiet are types = refl
  rest_types [] (f ∷ fs) defined ts quiet are types = absurd are
  rest_types (s ∷ ss) [] defined ts quiet are types = absurd are
  rest_types (s ∷ ss) (f ∷ fs) defined ts quiet (front, back, is, alike, left, more, w) types =
      ap (λ x. fold step x fs) (no_type f (alike_no_type s.context (unknown c.names) s.statement f.statement quiet.0 alike) types) ∙ rest_types ss fs (with_statement s.context defined s.statement) back quiet.1 more types

  pub all_types : (ts : List NamedType) (xs rest : List Own) (fs : List Found) (defined : Defined) (before us : List Tok) → AllZip (OfType c) ts xs → AllByRecursion IsNoType rest → AreFound form places c.names defined (xs ++ rest) fs us → toks ≡ before ++ us
      → (types : List NamedType) → fold step types fs ≡ types ++ ts
  all_types [] [] rest fs defined before us h quiet are w types = rest_types rest fs defined us quiet are types ∙ sym (append-nil types)
  all_types [] (x ∷ xs) rest fs defined before us h quiet are w types = absurd h
  all_types (t ∷ ts) [] rest fs defined before us h quiet are w types = absurd h
  all_types (t ∷ ts) (x ∷ xs) rest [] defined before us h quiet are w types = absurd are
  all_types (t ∷ ts) (x ∷ xs) rest (f ∷ fs) defined before us ((n, at, is), more_types) quiet (front, back, says, alike, left, more, e) w types =
      let there : toks ≡ before ++ (front ++ back) = w ∙ ap (λ v. before ++ v) e in
      let says_it = subst (λ (o : Own). IsStatement o.context form places defined o.statement front back) is says in
      let alike_it = subst (λ (o : Own). AlikeStatements o.context (unknown c.names) o.statement f.statement) is alike in
      let follow = found_follows form places c.names (with_statement x.context defined x.statement) (xs ++ rest) fs back more in
      let one = one_type t n f defined before front back at says_it alike_it follow (left ∙ ap length e) there types in
      ap (λ v. fold step v fs) one ∙ all_types ts xs rest fs (with_statement x.context defined x.statement) (before ++ front) back more_types quiet more (there ∙ sym (append_assoc before front back)) (types ++ t ∷ []) ∙ append_assoc types (t ∷ []) ts
