-- What tokens say as an instruction has what its form asks.
use Rattle.std.proofs.Common.{◌≡◌, Bool, true, false, ◌&&◌, List, [], ◌∷◌, map, refl, sym, ap, subst, nat_le, nat_lt, length}
use Rattle.std.specs.Prelude.{if◌then◌else◌}
use Rattle.std.specs.List.{list_all}
use Rattle.std.proofs.lemmas.Bool.{le-leb, and_from}
use Rattle.lx_words.proofs.Tests.{some_below}
use Rattle.lx_ir_tokens.specs.declared.token.Tok.{Tok}
use Rattle.lx_ir.specs.declared.types.Scalar.{Scalar}
use Rattle.lx_ir.specs.declared.types.Scalar.TheVariants.{Int, Ptr}
use Rattle.lx_ir.specs.declared.module.Constant.{Constant}
use Rattle.lx_ir.specs.declared.module.Value.{Value}
use Rattle.lx_ir.specs.declared.module.Value.TheVariants as values
use Rattle.lx_ir.specs.declared.module.Module.{Module}
use Rattle.lx_ir.specs.declared.instr.Argument.{Argument}
use Rattle.lx_ir.specs.declared.instr.Edge.{Edge}
use Rattle.lx_ir.specs.declared.instr.SwitchCase.{SwitchCase}
use Rattle.lx_ir.specs.Operands.{argument}
use Rattle.lx_ir.specs.Lawful.{same_scalar, is_lawful_constant, nesting_of_constant, is_constant}
use Rattle.lx_ir.proofs.Equality.{scalar_is}
use Rattle.lx_ir_terms.specs.Context.{Context}
use Rattle.lx_ir_constants.specs.Grammar.{AreFurther, AreItems, IsValue}
use Rattle.lx_ir_operands.specs.Operands.{misfit, kept_value}
use Rattle.lx_ir_operands.specs.Grammar.{IsTyped, IsSecond, IsAddress, IsAgain, IsEdge, IsCase, AreInRow}
use Rattle.lx_ir_lawful.specs.Tells.{Tells}
use Rattle.lx_ir_lawful.proofs.Constants.{constant_lawful}
use Rattle.lx_ir_lawful.specs.Said.{is_said}

-- Types that are the same.

misfit_said : (m : Module) (ty : Scalar) → is_said m ty (values.Constant (misfit ty)) ≡ true
misfit_said m (Int w) = refl
misfit_said m Ptr = refl

kept_by : (m : Module) (ty other : Scalar) (v : Value) (b : Bool) → same_scalar other ty ≡ b → is_said m other v ≡ true → is_said m ty (if b then v else values.Constant (misfit ty)) ≡ true
kept_by m ty other v true e h = subst (λ t. is_said m t v ≡ true) (scalar_is other ty e) h
kept_by m ty other v false e h = misfit_said m ty

constant_by : (m : Module) (ty other : Scalar) (c : Constant) (b : Bool) → same_scalar other ty ≡ b → is_said m other (values.Constant c) ≡ true → is_said m ty (values.Constant (if b then c else misfit ty)) ≡ true
constant_by m ty other c true e h = subst (λ t. is_said m t (values.Constant c) ≡ true) (scalar_is other ty e) h
constant_by m ty other c false e h = misfit_said m ty

kept_said : (m : Module) (ty other : Scalar) (v : Value) → is_said m other v ≡ true → is_said m ty (kept_value ty other v) ≡ true
kept_said m ty other v h = kept_by m ty other v (same_scalar other ty) refl h

-- so many operands

pub one : (a : Bool) → a ≡ true → (a && true) ≡ true
one a h = and_from a true h refl

pub two : (a b : Bool) → a ≡ true → b ≡ true → (a && (b && true)) ≡ true
two a b h g = and_from a (b && true) h (one b g)

pub three : (a b c : Bool) → a ≡ true → b ≡ true → c ≡ true → (a && (b && (c && true))) ≡ true
three a b c h g f = and_from a (b && (c && true)) h (two b c g f)

module _ (m : Module) (context : Context) (tells : Tells m context) where
  pub value_said : (ty : Scalar) (v : Value) (ts : List Tok) → IsValue context ty v ts → is_said m ty v ≡ true
  value_said ty (values.Register r) ts h = refl
  value_said ty (values.Constant c) ts h =
      let l = constant_lawful m context tells 64 ty c ts h in
      and_from (is_lawful_constant m ty c) (nat_le (nesting_of_constant c) 64) l.lawful (le-leb (nesting_of_constant c) 64 l.nesting)

  pub typed_said : (a : Argument) (ts : List Tok) → IsTyped context a ts → is_said m a.ty a.value ≡ true
  typed_said a ts h = value_said a.ty a.value _ h.3

  pub second_said : (ty : Scalar) (b : Value) (ts : List Tok) → IsSecond context ty b ts → is_said m ty b ≡ true
  second_said ty b ts h = value_said ty b _ h.3

  pub address_said : (p : Value) (ts : List Tok) → IsAddress context p ts → is_said m Ptr p ≡ true
  address_said p ts h = value_said Ptr p _ h.3.3

  pub again_said : (ty : Scalar) (b : Value) (ts : List Tok) → IsAgain context ty b ts → is_said m ty b ≡ true
  again_said ty b ts (a, h, e) = subst (λ v. is_said m ty v ≡ true) e (kept_said m ty a.ty a.value (typed_said a _ h.3))

  -- lists of operands

  edges_said : (ty : Scalar) (es : List Edge) (ts : List Tok) → AreFurther (IsEdge context ty) es ts → list_all (λ a. is_said m a.ty a.value) (map (λ (e : Edge). argument ty e.value) es) ≡ true
  edges_said ty [] ts h = refl
  edges_said ty (e ∷ es) ts h = and_from (is_said m ty e.value) _ (value_said ty e.value _ h.3.2.3.2) (edges_said ty es _ h.3.3)

  pub all_edges_said : (ty : Scalar) (es : List Edge) (ts : List Tok) → AreItems (IsEdge context ty) es ts → (nat_lt 0 (length es) ≡ true) × (list_all (λ a. is_said m a.ty a.value) (map (λ (e : Edge). argument ty e.value) es) ≡ true)
  all_edges_said ty [] ts h = absurd h
  all_edges_said ty (e ∷ es) ts h = (some_below (length es), and_from (is_said m ty e.value) _ (value_said ty e.value _ h.2.3.2) (edges_said ty es _ h.3))

  indices_said : (is : List Argument) (ts : List Tok) → AreFurther (IsTyped context) is ts → list_all (λ a. is_said m a.ty a.value) is ≡ true
  indices_said [] ts h = refl
  indices_said (i ∷ is) ts h = and_from (is_said m i.ty i.value) _ (typed_said i _ h.3.2) (indices_said is _ h.3.3)

  pub all_indices_said : (is : List Argument) (ts : List Tok) → AreItems (IsTyped context) is ts → (nat_lt 0 (length is) ≡ true) × (list_all (λ a. is_said m a.ty a.value) is ≡ true)
  all_indices_said [] ts h = absurd h
  all_indices_said (i ∷ is) ts h = (some_below (length is), and_from (is_said m i.ty i.value) _ (typed_said i _ h.2) (indices_said is _ h.3))

  case_said : (ty : Scalar) (k : SwitchCase) (ts : List Tok) → IsCase context ty k ts → (is_constant k.value ≡ true) × (is_said m ty k.value ≡ true)
  case_said ty k ts (other, c, h, e) =
      let l = value_said other (values.Constant c) _ h.3.2 in
      (ap is_constant (sym e), subst (λ v. is_said m ty v ≡ true) e (constant_by m ty other c (same_scalar other ty) refl l))

  pub cases_said : (ty : Scalar) (ks : List SwitchCase) (ts : List Tok) → AreInRow (IsCase context ty) ks ts
      → (list_all (λ k. is_constant k.value) ks ≡ true) × (list_all (λ a. is_said m a.ty a.value) (map (λ (k : SwitchCase). argument ty k.value) ks) ≡ true)
  cases_said ty [] ts h = (refl, refl)
  cases_said ty (k ∷ ks) ts h =
      let a = case_said ty k _ h.2 in
      let b = cases_said ty ks _ h.3 in
      (and_from (is_constant k.value) _ a.0 b.0, and_from (is_said m ty k.value) _ a.1 b.1)
