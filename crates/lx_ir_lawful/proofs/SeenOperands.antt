-- Operands by a context that knows no names but those of registers.
use Rattle.std.proofs.Common.{◌≡◌, ℕ, Bool, true, false, Option, Some, None, List, [], ◌∷◌, map, refl, subst}
use Rattle.std.specs.Prelude.{if◌then◌else◌}
use Rattle.std.specs.List.{AllZip}
use Rattle.lx_ir_tokens.specs.declared.token.Tok.{Tok}
use Rattle.lx_ir.specs.declared.types.Scalar.{Scalar}
use Rattle.lx_ir.specs.declared.types.Scalar.TheVariants.{Ptr}
use Rattle.lx_ir.specs.declared.module.Value.{Value}
use Rattle.lx_ir.specs.declared.module.Value.TheVariants as values
use Rattle.lx_ir.specs.declared.instr.Argument.{Argument}
use Rattle.lx_ir.specs.declared.instr.Edge.{Edge}
use Rattle.lx_ir.specs.declared.instr.SwitchCase.{SwitchCase}
use Rattle.lx_ir.specs.Lawful.{same_scalar}
use Rattle.lx_ir_terms.specs.Context.{Context}
use Rattle.lx_ir_terms.specs.Types.{depth_limit}
use Rattle.lx_ir_terms.specs.Grammar.{Part}
use Rattle.lx_ir_operands.specs.Operands.{argument, misfit, kept_constant, kept_value}
use Rattle.lx_ir_operands.specs.Grammar.{AreInRow, IsTyped, IsSecond, IsAddress, IsAgain, IsEdge, IsCase}
use Rattle.lx_ir_lawful.specs.Alike.{knowing_registers, AlikeValues, AlikeArguments}
use Rattle.lx_ir_lawful.proofs.SeenConstants.{constant_seen, value_seen}
use Rattle.lx_ir_lawful.proofs.SeenInits.{Sees, SeesAll}

pub row_seen : {A B : Type 0} (p : A → Part) (q : B → Part) (R : A → B → Type 0) → Sees p q R → SeesAll (AreInRow p) (AreInRow q) R
row_seen p q R seen [] ts h = ([], h, tt)
row_seen p q R seen (x ∷ xs) ts (f, b, one, more, w) =
    let y = seen x f one in
    let ys = row_seen p q R seen xs b more in
    (y.0 ∷ ys.0, (f, b, y.1, ys.1, w), (y.2, ys.2))

module _ (c : Context) (registers : List (Option ℕ)) where
  abbrev d : Context
  d = knowing_registers c.names registers

  abbrev pub AlikeEdges : Edge → Edge → Type 0
  AlikeEdges e f = AlikeValues c d e.value f.value

  abbrev pub AlikeCases : SwitchCase → SwitchCase → Type 0
  AlikeCases e f = AlikeValues c d e.value f.value

  pub typed_seen : Sees (IsTyped c) (IsTyped d) (AlikeArguments c d)
  typed_seen a ts (f, b, s, v, w) = let u = value_seen c registers a.ty a.value b v in (argument a.ty u.0, (f, b, s, u.1, w), u.2)

  -- the same, by its type and value
  pub value_typed : (ty : Scalar) (v : Value) (ts : List Tok) → IsTyped c (argument ty v) ts → (u : Value) × IsTyped d (argument ty u) ts × AlikeValues c d v u
  value_typed ty v ts (f, b, s, x, w) = let u = value_seen c registers ty v b x in (u.0, (f, b, s, u.1, w), u.2)

  pub second_seen : (ty : Scalar) → Sees (IsSecond c ty) (IsSecond d ty) (AlikeValues c d)
  second_seen ty v ts (f, b, m, x, w) = let u = value_seen c registers ty v b x in (u.0, (f, b, m, u.1, w), u.2)

  pub address_seen : Sees (IsAddress c) (IsAddress d) (AlikeValues c d)
  address_seen v ts (f, b, m, (f2, b2, p, x, w2), w) = let u = value_seen c registers Ptr v b2 x in (u.0, (f, b, m, (f2, b2, p, u.1, w2), w), u.2)

  kept_alike : (fits : Bool) (ty : Scalar) (v u : Value) → AlikeValues c d v u → AlikeValues c d (if fits then v else values.Constant (misfit ty)) (if fits then u else values.Constant (misfit ty))
  kept_alike true ty v u h = h
  kept_alike false ty v u h = tt

  pub again_seen : (ty : Scalar) → Sees (IsAgain c ty) (IsAgain d ty) (AlikeValues c d)
  again_seen ty v ts (a, (f, b, m, x, w), e) =
      let u = value_typed a.ty a.value b x in
      (kept_value ty a.ty u.0, (argument a.ty u.0, (f, b, m, u.1, w), refl), subst (λ z. AlikeValues c d z (kept_value ty a.ty u.0)) e (kept_alike (same_scalar a.ty ty) ty a.value u.0 u.2))

  pub edge_seen : (ty : Scalar) → Sees (IsEdge c ty) (IsEdge d ty) AlikeEdges
  edge_seen ty e ts (f, b, o, (f2, b2, v, rest, w2), w) =
      let u = value_seen c registers ty e.value f2 v in
      (record { value = u.0; label = e.label }, (f, b, o, (f2, b2, u.1, rest, w2), w), u.2)

  pub case_seen : (ty : Scalar) → Sees (IsCase c ty) (IsCase d ty) AlikeCases
  case_seen ty k ts (other, x, (f, b, s, (f2, b2, v, l, w2), w), e) =
      let y = constant_seen c registers depth_limit other x f2 v in
      (record { value = values.Constant (kept_constant ty other y.0); label = k.label }, (other, y.0, (f, b, s, (f2, b2, y.1, l, w2), w), refl), subst (λ z. AlikeValues c d z (values.Constant (kept_constant ty other y.0))) e tt)

  -- as arguments of one type

  pub edges_read : (ty : Scalar) (es fs : List Edge) → AllZip AlikeEdges es fs → AllZip (AlikeArguments c d) (map (λ e. argument ty e.value) es) (map (λ e. argument ty e.value) fs)
  edges_read ty [] [] h = tt
  edges_read ty [] (f ∷ fs) h = absurd h
  edges_read ty (e ∷ es) [] h = absurd h
  edges_read ty (e ∷ es) (f ∷ fs) h = (h.0, edges_read ty es fs h.1)

  pub cases_read : (ty : Scalar) (es fs : List SwitchCase) → AllZip AlikeCases es fs → AllZip (AlikeArguments c d) (map (λ e. argument ty e.value) es) (map (λ e. argument ty e.value) fs)
  cases_read ty [] [] h = tt
  cases_read ty [] (f ∷ fs) h = absurd h
  cases_read ty (e ∷ es) [] h = absurd h
  cases_read ty (e ∷ es) (f ∷ fs) h = (h.0, cases_read ty es fs h.1)
