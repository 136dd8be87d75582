-- Constants and operands by a context that knows no names but those of registers.
use Rattle.std.proofs.Common.{◌≡◌, ◌⊎◌, inl, inr, ℕ, zero, suc, Bool, true, Option, Some, None, List, [], ◌∷◌, refl}
use Rattle.lx_words.specs.Word.{Word}
use Rattle.lx_ir_tokens.specs.declared.token.Tok.{Tok}
use Rattle.lx_ir_tokens.specs.declared.token.Kind.{Kind}
use Rattle.lx_ir_tokens.specs.declared.token.Kind.TheVariants as kinds
use Rattle.lx_ir.specs.declared.types.Scalar.{Scalar}
use Rattle.lx_ir.specs.declared.module.Symbol.TheVariants.{Global}
use Rattle.lx_ir.specs.declared.module.Pointer.{Pointer}
use Rattle.lx_ir.specs.declared.module.Constant.{Constant}
use Rattle.lx_ir.specs.declared.module.Constant.TheVariants as made
use Rattle.lx_ir.specs.declared.module.Value.{Value}
use Rattle.lx_ir.specs.declared.module.Value.TheVariants as values
use Rattle.lx_ir_terms.specs.Context.{Context, nothing, register_number}
use Rattle.lx_ir_terms.specs.Types.{depth_limit}
use Rattle.lx_ir_terms.specs.Grammar.{Part}
use Rattle.lx_ir_constants.specs.declared.element.Element.{Element}
use Rattle.lx_ir_constants.specs.Constants.{symbol_pointer, flat_pointer_of, flat_constant_of, address_of}
use Rattle.lx_ir_constants.specs.Grammar.{IsElement, IsFlatPointer, IsPointerExpression, IsPointer, IsCast, IsAddressConstant, IsExpression, IsConstant, IsValue}
use Rattle.lx_ir_lawful.specs.Alike.{knowing_registers, AlikeValues}
use Rattle.lx_ir_lawful.proofs.SeenTypes.{unnamed, written_seen}

-- something of which these tokens are this part
abbrev pub Something : {A : Type 0} → (A → Part) → List Tok → Type 0
Something {A} part ts = (x : A) × part x ts

module _ (c : Context) (registers : List (Option ℕ)) where
  abbrev d : Context
  d = knowing_registers c.names registers

  flat_pointer_seen : (k : Kind) (n : ℕ) (p : Pointer) → flat_pointer_of c k n ≡ Some p → (q : Pointer) × (flat_pointer_of d k n ≡ Some q)
  flat_pointer_seen (kinds.Word w) n p e = (p, e)
  flat_pointer_seen kinds.Global n p e = (symbol_pointer (Global nothing), refl)
  flat_pointer_seen k n p e = cc

  flat_seen : (p : Pointer) (ts : List Tok) → IsFlatPointer c p ts → Something (IsFlatPointer d) ts
  flat_seen p ts (t, e, w) = let q = flat_pointer_seen t.kind t.name p e in (q.0, (t, q.1, w))

  element_seen : (base other : Pointer → Part) → ((q : Pointer) (us : List Tok) → base q us → Something other us) → (e : Element) (ts : List Tok) → IsElement c base e ts → Something (IsElement d other) ts
  element_seen base other seen e ts (f1, b1, x1, (f2, b2, x2, (f3, b3, x3, (f4, b4, x4, (f5, b5, x5, (f6, b6, x6, rest, w6), w5), w4), w3), w2), w1) =
      let r = seen e.base f6 x6 in
      (record { ty = unnamed e.ty; base = r.0; indices = e.indices }, (f1, b1, x1, (f2, b2, x2, (f3, b3, written_seen c registers e.ty f3 x3, (f4, b4, x4, (f5, b5, x5, (f6, b6, r.1, rest, w6), w5), w4), w3), w2), w1))

  -- a pointer, by what is known of those that are expressions
  pointer_by : (depth : ℕ) → ((p : Pointer) (ts : List Tok) → IsPointerExpression c depth p ts → Something (IsPointerExpression d depth) ts) → (p : Pointer) (ts : List Tok) → IsPointer c depth p ts → Something (IsPointer d depth) ts
  pointer_by depth seen p ts (inl h) = let q = flat_seen p ts h in (q.0, inl q.1)
  pointer_by depth seen p ts (inr h) = let q = seen p ts h in (q.0, inr q.1)

  expression_of_pointer_seen : (depth : ℕ) (p : Pointer) (ts : List Tok) → IsPointerExpression c depth p ts → Something (IsPointerExpression d depth) ts
  expression_of_pointer_seen zero p ts h = absurd h
  expression_of_pointer_seen (suc depth) p ts (inl (e, x, w)) =
      let g = element_seen (λ q us. IsFlatPointer c q us ⊎ IsPointerExpression c depth q us) (λ q us. IsFlatPointer d q us ⊎ IsPointerExpression d depth q us) (pointer_by depth (expression_of_pointer_seen depth)) e ts x in
      (address_of d g.0, inl (g.0, g.1, refl))
  expression_of_pointer_seen (suc depth) p ts (inr (n, x, w)) = (p, inr (n, x, w))

  pointer_seen : (depth : ℕ) (p : Pointer) (ts : List Tok) → IsPointer c depth p ts → Something (IsPointer d depth) ts
  pointer_seen depth p ts h = pointer_by depth (expression_of_pointer_seen depth) p ts h

  cast_seen : (depth : ℕ) (x : Constant) (ts : List Tok) → IsCast c depth x ts → Something (IsCast d depth) ts
  cast_seen depth (made.Cast p v) ts (f1, b1, x1, (f2, b2, x2, (f3, b3, x3, (f4, b4, x4, rest, w4), w3), w2), w1) =
      let q = pointer_seen depth p f4 x4 in
      (made.Cast q.0 v, (f1, b1, x1, (f2, b2, x2, (f3, b3, x3, (f4, b4, q.1, rest, w4), w3), w2), w1))
  cast_seen depth x ts h = absurd h

  address_constant_seen : (depth : ℕ) (x : Constant) (ts : List Tok) → IsAddressConstant c depth x ts → Something (IsAddressConstant d depth) ts
  address_constant_seen depth (made.Pointer p) ts h = let q = expression_of_pointer_seen depth p ts h in (made.Pointer q.0, q.1)
  address_constant_seen depth x ts h = absurd h

  pub expression_seen : (depth : ℕ) (x : Constant) (ts : List Tok) → IsExpression c depth x ts → Something (IsExpression d depth) ts
  expression_seen zero x ts h = absurd h
  expression_seen (suc depth) x ts (inl h) = let y = cast_seen depth x ts h in (y.0, inl y.1)
  expression_seen (suc depth) x ts (inr h) = let y = address_constant_seen (suc depth) x ts h in (y.0, inr y.1)

  flat_constant_seen : (ty : Scalar) (k : Kind) (n : ℕ) (x : Constant) → flat_constant_of c ty k n ≡ Some x → (y : Constant) × (flat_constant_of d ty k n ≡ Some y)
  flat_constant_seen ty (kinds.Word w) n x e = (x, e)
  flat_constant_seen ty kinds.Global n x e = (made.Pointer (symbol_pointer (Global nothing)), refl)
  flat_constant_seen ty (kinds.Number v m) n x e = (x, e)
  flat_constant_seen ty k n x e = cc

  pub constant_seen : (depth : ℕ) (ty : Scalar) (x : Constant) (ts : List Tok) → IsConstant c depth ty x ts → Something (IsConstant d depth ty) ts
  constant_seen depth ty x ts (inl (t, e, w)) = let y = flat_constant_seen ty t.kind t.name x e in (y.0, inl (t, y.1, w))
  constant_seen depth ty x ts (inr h) = let y = expression_seen depth x ts h in (y.0, inr y.1)

  pub value_seen : (ty : Scalar) (v : Value) (ts : List Tok) → IsValue c ty v ts → (w : Value) × IsValue d ty w ts × AlikeValues c d v w
  value_seen ty (values.Register r) ts (t, k, e, w) = (values.Register (register_number d t.name), (t, k, refl, w), (t.name, e, refl))
  value_seen ty (values.Constant x) ts h = let y = constant_seen depth_limit ty x ts h in (values.Constant y.0, y.1, tt)
