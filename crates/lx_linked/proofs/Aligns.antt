-- The bytes of an alloca begin within the stack.
use Rattle.std.proofs.Common.{◌≡◌, ℕ, zero, suc, ◌≤◌, max, Bool, true, false, Option, Some, None, ◌⊎◌, inl, inr, refl, sym, subst, arith}
use Rattle.std.specs.Int.{next_multiple_of}
use Rattle.std.specs.Prelude.{List, slice_get}
use Rattle.lx_words.specs.declared.word.Width.TheVariants.{W1, W8, W16, W32, W64}
use Rattle.lx_caps.specs.Regions.{stack_end}
use Rattle.lx_ir.specs.declared.types.Scalar.{Scalar}
use Rattle.lx_ir.specs.declared.types.Scalar.TheVariants.{Int, Ptr}
use Rattle.lx_ir.specs.declared.types.NamedType.{NamedType}
use Rattle.lx_ir.specs.IrType.{IrType, One, Array, Struct, Packed, Named, IrTypes, none, also}
use Rattle.lx_ir.specs.Layout.{Layout, layout, scalar_size, beside, layout_in, fields_in, layout_of_entry, named_layouts, layout_of}

-- what addresses are aligned to
abbrev IsAlign : ℕ → Type 0
IsAlign n = (n ≡ 1) ⊎ ((n ≡ 2) ⊎ ((n ≡ 4) ⊎ (n ≡ 8)))

scalar_align : (s : Scalar) → IsAlign (scalar_size s)
scalar_align (Int W1) = inl refl
scalar_align (Int W8) = inl refl
scalar_align (Int W16) = inr (inl refl)
scalar_align (Int W32) = inr (inr (inl refl))
scalar_align (Int W64) = inr (inr (inr refl))
scalar_align Ptr = inr (inr (inr refl))

either : (a b : ℕ) → (max a b ≡ a) ⊎ (max a b ≡ b)
either a b = grind arith

max_align : (a b : ℕ) → IsAlign a → IsAlign b → IsAlign (max a b)
max_align a b h k = elim (either a b) [ inl e ↦ subst IsAlign (sym e) h | inr e ↦ subst IsAlign (sym e) k ]

beside_align : (packed : Bool) (a b : Layout) → IsAlign a.align → IsAlign b.align → IsAlign (beside packed a b).align
beside_align true a b h k = inl refl
beside_align false a b h k = max_align a.align b.align h k

mutual
  layout_align : (named : ℕ → Layout) → ((k : ℕ) → IsAlign (named k).align) → (t : IrType) → IsAlign (layout_in named t).align
  layout_align named h (One s) = scalar_align s
  layout_align named h (Array n t) = layout_align named h t
  layout_align named h (Struct ts) = fields_align named h false ts (layout 0 1) (inl refl)
  layout_align named h (Packed ts) = fields_align named h true ts (layout 0 1) (inl refl)
  layout_align named h (Named k) = h k

  fields_align : (named : ℕ → Layout) → ((k : ℕ) → IsAlign (named k).align) → (packed : Bool) (ts : IrTypes) (laid : Layout) → IsAlign laid.align → IsAlign (fields_in named packed ts laid).align
  fields_align named h packed none laid a = a
  fields_align named h packed (also t ts) laid a = fields_align named h packed ts (beside packed laid (layout_in named t)) (beside_align packed laid (layout_in named t) a (layout_align named h t))

entry_align : (named : ℕ → Layout) → ((k : ℕ) → IsAlign (named k).align) → (o : Option NamedType) → IsAlign (layout_of_entry named o).align
entry_align named h None = inl refl
entry_align named h (Some e) = layout_align named h e.ty

named_align : (types : List NamedType) (n k : ℕ) → IsAlign (named_layouts types n k).align
named_align types zero k = inl refl
named_align types (suc n) k = entry_align (named_layouts types n) (λ j. named_align types n j) (slice_get types k)

type_align : (types : List NamedType) (t : IrType) → IsAlign (layout_of types t).align
type_align types t = layout_align (named_layouts types 64) (λ k. named_align types 64 k) t

-- the end of a stack is aligned
by_one : (t high : ℕ) → high ≤ stack_end t → next_multiple_of high 1 ≤ stack_end t
by_one t high h = omega (arith, h)

by_two : (t high : ℕ) → high ≤ stack_end t → next_multiple_of high 2 ≤ stack_end t
by_two t high h = omega (arith, h)

by_four : (t high : ℕ) → high ≤ stack_end t → next_multiple_of high 4 ≤ stack_end t
by_four t high h = omega (arith, h)

by_eight : (t high : ℕ) → high ≤ stack_end t → next_multiple_of high 8 ≤ stack_end t
by_eight t high h = omega (arith, h)

within : (t high n : ℕ) → IsAlign n → high ≤ stack_end t → next_multiple_of high n ≤ stack_end t
within t high n (inl e) h = subst (λ (k : ℕ). next_multiple_of high k ≤ stack_end t) (sym e) (by_one t high h)
within t high n (inr (inl e)) h = subst (λ (k : ℕ). next_multiple_of high k ≤ stack_end t) (sym e) (by_two t high h)
within t high n (inr (inr (inl e))) h = subst (λ (k : ℕ). next_multiple_of high k ≤ stack_end t) (sym e) (by_four t high h)
within t high n (inr (inr (inr e))) h = subst (λ (k : ℕ). next_multiple_of high k ≤ stack_end t) (sym e) (by_eight t high h)

pub alloca_within : (types : List NamedType) (ty : IrType) (t high : ℕ) → high ≤ stack_end t → next_multiple_of high (layout_of types ty).align ≤ stack_end t
alloca_within types ty t high h = within t high (layout_of types ty).align (type_align types ty) h
