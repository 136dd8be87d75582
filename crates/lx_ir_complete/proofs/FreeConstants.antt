-- Constants, values and initialisers where no limits are asked.
use Rattle.std.proofs.Common.{◌⊎◌, inl, inr, ℕ, zero, suc, [], ◌∷◌}
use Rattle.lx_ir.specs.declared.types.Scalar.{Scalar}
use Rattle.lx_ir.specs.declared.module.Pointer.{Pointer}
use Rattle.lx_ir.specs.declared.module.Constant.TheVariants as made
use Rattle.lx_ir.specs.declared.module.Value.TheVariants as values
use Rattle.lx_ir.specs.IrType.{IrType}
use Rattle.lx_ir.specs.Init.{Init}
use Rattle.lx_ir_terms.specs.Context.{Context}
use Rattle.lx_ir_terms.specs.Types.{depth_limit}
use Rattle.lx_ir_terms.specs.Grammar.{Part}
use Rattle.lx_ir_constants.specs.Grammar.{AreItems, AreFurther, IsElement, IsFlatPointer, IsPointerExpression, IsPointer, IsCast, IsAddressConstant, IsExpression, IsConstant, IsValue}
use Rattle.lx_ir_constants.specs.InitGrammar.{IsLeaf, AreListed, IsMember, IsGroup, IsInit}
use Rattle.lx_ir_complete.specs.Unlimited.{unlimited}
use Rattle.lx_ir_complete.proofs.FreeTypes.{Frees, written_free}

-- Lists.

further_free : {A : Type 0} (p q : A → Part) → Frees p q → Frees (AreFurther p) (AreFurther q)
further_free p q free [] ts h = h
further_free p q free (x ∷ xs) ts (f, b, m, (f2, b2, one, more, w2), w) = (f, b, m, (f2, b2, free x f2 one, further_free p q free xs b2 more, w2), w)

pub items_free : {A : Type 0} (p q : A → Part) → Frees p q → Frees (AreItems p) (AreItems q)
items_free p q free [] ts h = h
items_free p q free (x ∷ xs) ts (f, b, one, more, w) = (f, b, free x f one, further_free p q free xs b more, w)

pub listed_free : {A : Type 0} (p q : A → Part) → Frees p q → Frees (AreListed p) (AreListed q)
listed_free p q free [] ts h = h
listed_free p q free (x ∷ xs) ts h = items_free p q free (x ∷ xs) ts h

module _ (c : Context) where
  abbrev d : Context
  d = unlimited c

  -- Constants.

  element_free : (base other : Pointer → Part) → Frees base other → Frees (IsElement c base) (IsElement d other)
  element_free base other free e ts (f1, b1, x1, (f2, b2, x2, (f3, b3, x3, (f4, b4, x4, (f5, b5, x5, (f6, b6, x6, rest, w6), w5), w4), w3), w2), w1) =
      (f1, b1, x1, (f2, b2, x2, (f3, b3, written_free c e.ty f3 x3, (f4, b4, x4, (f5, b5, x5, (f6, b6, free e.base f6 x6, rest, w6), w5), w4), w3), w2), w1)

  -- a pointer, by what is known of those that are expressions
  pointer_by : (depth : ℕ) → Frees (IsPointerExpression c depth) (IsPointerExpression d depth) → Frees (IsPointer c depth) (IsPointer d depth)
  pointer_by depth free p ts (inl h) = inl h
  pointer_by depth free p ts (inr h) = inr (free p ts h)

  pointer_expression_free : (depth : ℕ) → Frees (IsPointerExpression c depth) (IsPointerExpression d depth)
  pointer_expression_free zero p ts h = h
  pointer_expression_free (suc depth) p ts (inl (e, x, w)) =
      inl (e, element_free (λ q us. IsFlatPointer c q us ⊎ IsPointerExpression c depth q us) (λ q us. IsFlatPointer d q us ⊎ IsPointerExpression d depth q us) (pointer_by depth (pointer_expression_free depth)) e ts x, w)
  pointer_expression_free (suc depth) p ts (inr h) = inr h

  cast_free : (depth : ℕ) → Frees (IsCast c depth) (IsCast d depth)
  cast_free depth (made.Cast p v) ts (f1, b1, x1, (f2, b2, x2, (f3, b3, x3, (f4, b4, x4, rest, w4), w3), w2), w1) =
      (f1, b1, x1, (f2, b2, x2, (f3, b3, x3, (f4, b4, pointer_by depth (pointer_expression_free depth) p f4 x4, rest, w4), w3), w2), w1)
  cast_free depth x ts h = absurd h

  address_constant_free : (depth : ℕ) → Frees (IsAddressConstant c depth) (IsAddressConstant d depth)
  address_constant_free depth (made.Pointer p) ts h = pointer_expression_free depth p ts h
  address_constant_free depth x ts h = absurd h

  expression_free : (depth : ℕ) → Frees (IsExpression c depth) (IsExpression d depth)
  expression_free zero x ts h = h
  expression_free (suc depth) x ts (inl h) = inl (cast_free depth x ts h)
  expression_free (suc depth) x ts (inr h) = inr (address_constant_free (suc depth) x ts h)

  pub constant_free : (depth : ℕ) (ty : Scalar) → Frees (IsConstant c depth ty) (IsConstant d depth ty)
  constant_free depth ty x ts (inl h) = inl h
  constant_free depth ty x ts (inr h) = inr (expression_free depth x ts h)

  pub value_free : (ty : Scalar) → Frees (IsValue c ty) (IsValue d ty)
  value_free ty (values.Register r) ts h = h
  value_free ty (values.Constant x) ts h = constant_free depth_limit ty x ts h

  -- Initialisers.

  leaf_free : (depth : ℕ) (ty : IrType) → Frees (IsLeaf c depth ty) (IsLeaf d depth ty)
  leaf_free depth ty i ts (inl h) = inl h
  leaf_free depth ty i ts (inr (x, h, w)) = inr (x, expression_free depth x ts h, w)

  member_free : (init other : IrType → Init → Part) → ((ty : IrType) → Frees (init ty) (other ty)) → Frees (IsMember c init) (IsMember d other)
  member_free init other free m ts (f, b, ty, i, w) = (f, b, written_free c m.ty f ty, free m.ty m.init b i, w)

  group_free : (init other : IrType → Init → Part) → Frees (IsMember c init) (IsMember d other) → Frees (IsGroup (IsMember c init)) (IsGroup (IsMember d other))
  group_free init other free i ts (inl (ms, (f, b, o, (f2, b2, all, m, w2), w), e)) =
      inl (ms, (f, b, o, (f2, b2, listed_free (IsMember c init) (IsMember d other) free ms f2 all, m, w2), w), e)
  group_free init other free i ts (inr (inl (ms, (f, b, o, (f2, b2, all, m, w2), w), e))) =
      inr (inl (ms, (f, b, o, (f2, b2, listed_free (IsMember c init) (IsMember d other) free ms f2 all, m, w2), w), e))
  group_free init other free i ts (inr (inr (ms, (f, b, l, (f2, b2, o, (f3, b3, (f4, b4, all, m, w4), g, w3), w2), w), e))) =
      inr (inr (ms, (f, b, l, (f2, b2, o, (f3, b3, (f4, b4, listed_free (IsMember c init) (IsMember d other) free ms f4 all, m, w4), g, w3), w2), w), e))

  pub init_free : (depth : ℕ) (ty : IrType) → Frees (IsInit c depth ty) (IsInit d depth ty)
  init_free zero ty i ts h = leaf_free zero ty i ts h
  init_free (suc depth) ty i ts (inl h) = inl (leaf_free (suc depth) ty i ts h)
  init_free (suc depth) ty i ts (inr h) = inr (group_free (IsInit c depth) (IsInit d depth) (member_free (IsInit c depth) (IsInit d depth) (init_free depth)) i ts h)
