-- Calls by a context that knows no names but those of registers.
use Rattle.std.proofs.Common.{◌≡◌, ℕ, Bool, true, false, Option, Some, None, List, [], ◌∷◌, ◌++◌, refl, subst}
use Rattle.std.specs.Prelude.{option_map}
use Rattle.std.specs.List.{AllZip}
use Rattle.lx_words.specs.declared.word.Width.{Width}
use Rattle.lx_words.specs.declared.word.Width.TheVariants.{W8}
use Rattle.lx_ir_tokens.specs.declared.token.Tok.{Tok}
use Rattle.lx_ir_tokens.specs.declared.token.Kind.{Kind}
use Rattle.lx_ir_tokens.specs.declared.token.Kind.TheVariants as kinds
use Rattle.lx_ir.specs.declared.types.Scalar.{Scalar}
use Rattle.lx_ir.specs.declared.types.Scalar.TheVariants.{Int, Ptr}
use Rattle.lx_ir.specs.declared.module.Symbol.{Symbol}
use Rattle.lx_ir.specs.declared.module.Symbol.TheVariants.{Global}
use Rattle.lx_ir.specs.declared.module.Value.{Value}
use Rattle.lx_ir.specs.declared.instr.Argument.{Argument}
use Rattle.lx_ir.specs.declared.instr.Callee.{Callee}
use Rattle.lx_ir.specs.declared.instr.Callee.TheVariants as callee
use Rattle.lx_ir.specs.declared.instr.Op.{Op}
use Rattle.lx_ir.specs.declared.instr.Op.TheVariants as op
use Rattle.lx_ir.specs.Operands.{guard_width, callee_operands}
use Rattle.lx_ir_terms.specs.Context.{Context, nothing, register_number, symbol_of}
use Rattle.lx_ir_operands.specs.Operands.{argument}
use Rattle.lx_ir_calls.specs.declared.intrinsics.TextForm.{TextForm}
use Rattle.lx_ir_calls.specs.ImageLines.{symbol_in}
use Rattle.lx_ir_calls.specs.Calls.{callee_of}
use Rattle.lx_ir_calls.specs.Grammar.{IsArgument, IsGivenArgument, IsNextArgument, IsSymbolArgument, IsCopy, IsFill, IsGuard, IsCheck, IsCrossing, IsActionOf, IsCallee, IsPlainCall}
use Rattle.lx_ir_lawful.specs.Alike.{knowing_registers, AlikeValues, AlikeArguments}
use Rattle.lx_ir_lawful.proofs.SeenConstants.{Something, value_seen}
use Rattle.lx_ir_lawful.proofs.SeenInits.{Sees, SeesAll, listed_seen}

module _ (c : Context) (registers : List (Option ℕ)) where
  abbrev d : Context
  d = knowing_registers c.names registers

  -- Arguments.

  argument_seen : Sees (IsArgument c) (IsArgument d) (AlikeArguments c d)
  argument_seen a ts (f, b, s, (f2, b2, p, v, w2), w) = let u = value_seen c registers a.ty a.value b2 v in (argument a.ty u.0, (f, b, s, (f2, b2, p, u.1, w2), w), u.2)

  given_argument_seen : (ty : Scalar) → Sees (IsGivenArgument c ty) (IsGivenArgument d ty) (AlikeValues c d)
  given_argument_seen ty a ts (f, b, s, (f2, b2, p, v, w2), w) = let u = value_seen c registers ty a b2 v in (u.0, (f, b, s, (f2, b2, p, u.1, w2), w), u.2)

  next_argument_seen : (ty : Scalar) → Sees (IsNextArgument c ty) (IsNextArgument d ty) (AlikeValues c d)
  next_argument_seen ty a ts (f, b, m, x, w) = let u = given_argument_seen ty a b x in (u.0, (f, b, m, u.1, w), u.2)

  symbol_seen : (k : Kind) (n : ℕ) (s : Symbol) → symbol_in c k n ≡ Some s → symbol_in d k n ≡ Some (Global nothing)
  symbol_seen kinds.Global n s e = refl
  symbol_seen k n s e = cc

  symbol_argument_seen : (s : Symbol) (ts : List Tok) → IsSymbolArgument c s ts → IsSymbolArgument d (Global nothing) ts
  symbol_argument_seen s ts (f, b, x, (f2, b2, p, (t, e, w3), w2), w) = (f, b, x, (f2, b2, p, (t, symbol_seen t.kind t.name s e, w3), w2), w)

  -- Block writes and the lines of images.

  pub copy_seen : (v : Width) (x y n : Value) (ts : List Tok) → IsCopy c v x y n ts → (x2 : Value) × (y2 : Value) × (n2 : Value) × IsCopy d v x2 y2 n2 ts × AlikeValues c d x x2 × AlikeValues c d y y2 × AlikeValues c d n n2
  copy_seen v x y n ts (f, b, o, (f2, b2, p, (f3, b3, q, (f4, b4, r, rest, w4), w3), w2), w) =
      let p2 = given_argument_seen Ptr x f2 p in
      let q2 = next_argument_seen Ptr y f3 q in
      let r2 = next_argument_seen (Int v) n f4 r in
      (p2.0, q2.0, r2.0, (f, b, o, (f2, b2, p2.1, (f3, b3, q2.1, (f4, b4, r2.1, rest, w4), w3), w2), w), p2.2, q2.2, r2.2)

  pub fill_seen : (v : Width) (x y n : Value) (ts : List Tok) → IsFill c v x y n ts → (x2 : Value) × (y2 : Value) × (n2 : Value) × IsFill d v x2 y2 n2 ts × AlikeValues c d x x2 × AlikeValues c d y y2 × AlikeValues c d n n2
  fill_seen v x y n ts (f, b, o, (f2, b2, p, (f3, b3, q, (f4, b4, r, rest, w4), w3), w2), w) =
      let p2 = given_argument_seen Ptr x f2 p in
      let q2 = next_argument_seen (Int W8) y f3 q in
      let r2 = next_argument_seen (Int v) n f4 r in
      (p2.0, q2.0, r2.0, (f, b, o, (f2, b2, p2.1, (f3, b3, q2.1, (f4, b4, r2.1, rest, w4), w3), w2), w), p2.2, q2.2, r2.2)

  pub guard_seen : (narrow : Bool) (x n : Value) (ts : List Tok) → IsGuard c narrow x n ts → (x2 : Value) × (n2 : Value) × IsGuard d narrow x2 n2 ts × AlikeValues c d x x2 × AlikeValues c d n n2
  guard_seen narrow x n ts (f, b, o, (f2, b2, p, (f3, b3, q, rest, w3), w2), w) =
      let p2 = given_argument_seen Ptr x f2 p in
      let q2 = next_argument_seen (Int (guard_width narrow)) n f3 q in
      (p2.0, q2.0, (f, b, o, (f2, b2, p2.1, (f3, b3, q2.1, rest, w3), w2), w), p2.2, q2.2)

  pub check_seen : Sees (IsCheck c) (IsCheck d) (AlikeValues c d)
  check_seen x ts (f, b, o, (f2, b2, p, rest, w2), w) = let p2 = given_argument_seen Ptr x f2 p in (p2.0, (f, b, o, (f2, b2, p2.1, rest, w2), w), p2.2)

  pub crossing_seen : (s : Symbol) (ts : List Tok) → IsCrossing c s ts → IsCrossing d (Global nothing) ts
  crossing_seen s ts (f, b, o, (f2, b2, p, rest, w2), w) = (f, b, o, (f2, b2, symbol_argument_seen s f2 p, rest, w2), w)

  pub action_seen : (s : Symbol) (k : ℕ) (ts : List Tok) → IsActionOf c s k ts → IsActionOf d (Global nothing) k ts
  action_seen s k ts (f, b, o, (f2, b2, p, rest, w2), w) = (f, b, o, (f2, b2, symbol_argument_seen s f2 p, rest, w2), w)

  -- Other calls.

  abbrev AlikeCallees : Callee → Callee → Type 0
  AlikeCallees f g = AllZip (AlikeArguments c d) (callee_operands f) (callee_operands g)

  named_callee : (o : Option Symbol) (f : Callee) → option_map callee.Symbol o ≡ Some f → AlikeCallees f (callee.Symbol (Global nothing))
  named_callee (Some s) f e = let same : callee.Symbol s ≡ f = cc in subst (λ x. AlikeCallees x (callee.Symbol (Global nothing))) same tt
  named_callee None f e = cc

  callee_of_seen : (k : Kind) (n : ℕ) (f : Callee) → callee_of c k n ≡ Some f → (g : Callee) × (callee_of d k n ≡ Some g) × AlikeCallees f g
  callee_of_seen kinds.Local n f e =
      let same : callee.Register (register_number c n) ≡ f = cc in
      (callee.Register (register_number d n), refl, subst (λ x. AlikeCallees x (callee.Register (register_number d n))) same ((n, refl, refl), tt))
  callee_of_seen kinds.Global n f e = (callee.Symbol (Global nothing), refl, named_callee (symbol_of c n) f e)
  callee_of_seen k n f e = cc

  joined : (ws zs xs ys : List Argument) → AllZip (AlikeArguments c d) ws zs → AllZip (AlikeArguments c d) xs ys → AllZip (AlikeArguments c d) (ws ++ xs) (zs ++ ys)
  joined [] [] xs ys h k = k
  joined [] (z ∷ zs) xs ys h k = absurd h
  joined (w ∷ ws) [] xs ys h k = absurd h
  joined (w ∷ ws) (z ∷ zs) xs ys h k = (h.0, joined ws zs xs ys h.1 k)

  pub plain_call_seen : (form : TextForm) (f : Callee) (args : List Argument) (ts : List Tok) → IsPlainCall c form f args ts
      → (g : Callee) × (xs : List Argument) × IsPlainCall d form g xs ts × AllZip (AlikeArguments c d) (callee_operands f ++ args) (callee_operands g ++ xs)
  plain_call_seen form f args ts (f1, b1, (t, e, i, w3), (f2, b2, o, (f4, b4, all, m, w4), w2), w1) =
      let g = callee_of_seen t.kind t.name f e in
      let xs = listed_seen (IsArgument c) (IsArgument d) (AlikeArguments c d) argument_seen args f4 all in
      (g.0, xs.0, (f1, b1, (t, g.1, i, w3), (f2, b2, o, (f4, b4, xs.1, m, w4), w2), w1), joined (callee_operands f) (callee_operands g.0) args xs.0 g.2 xs.2)
