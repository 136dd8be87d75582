-- Alignments lie between 1 and 8.
use Rattle.std.proofs.Common.{ℕ, zero, suc, ◌<◌, ◌≤◌, Bool, true, false, Option, Some, None, List, arith}
use Rattle.std.specs.Prelude.{slice_get}
use Rattle.lx_words.specs.declared.word.Width.TheVariants.{W1, W8, W16, W32, W64}
use Rattle.lx_ir.specs.declared.types.Scalar.{Scalar}
use Rattle.lx_ir.specs.declared.types.Scalar.TheVariants.{Int, Ptr}
use Rattle.lx_ir.specs.declared.types.NamedType.{NamedType}
use Rattle.lx_ir.specs.IrType.{IrType, One, Array, Struct, Packed, Named, IrTypes, none, also}
use Rattle.lx_ir.specs.Layout.{Layout, layout, beside, layout_in, fields_in, named_layouts, layout_of_entry, align_of, scalar_size}

-- above 0, and at most 8
pub record IsAlignment (n : ℕ) : Type 0 where
  pub above : 0 < n
  pub small : n ≤ 8

scalar_align : (s : Scalar) → IsAlignment (scalar_size s)
scalar_align (Int W1) = record { above = omega arith; small = omega arith }
scalar_align (Int W8) = record { above = omega arith; small = omega arith }
scalar_align (Int W16) = record { above = omega arith; small = omega arith }
scalar_align (Int W32) = record { above = omega arith; small = omega arith }
scalar_align (Int W64) = record { above = omega arith; small = omega arith }
scalar_align Ptr = record { above = omega arith; small = omega arith }

one_align : IsAlignment 1
one_align = record { above = omega arith; small = omega arith }

beside_align : (packed : Bool) (a b : Layout) → IsAlignment a.align → IsAlignment b.align → IsAlignment (beside packed a b).align
beside_align true a b h k = one_align
beside_align false a b h k = record { above = omega (arith, h.above); small = omega (arith, h.small, k.small) }

mutual
  type_aligned : (named : ℕ → Layout) → ((k : ℕ) → IsAlignment (named k).align) → (t : IrType) → IsAlignment (layout_in named t).align
  type_aligned named h (One s) = scalar_align s
  type_aligned named h (Array n t) = type_aligned named h t
  type_aligned named h (Struct ts) = fields_aligned named h false ts (layout 0 1) one_align
  type_aligned named h (Packed ts) = fields_aligned named h true ts (layout 0 1) one_align
  type_aligned named h (Named k) = h k

  fields_aligned : (named : ℕ → Layout) → ((k : ℕ) → IsAlignment (named k).align) → (packed : Bool) (ts : IrTypes) (laid : Layout) → IsAlignment laid.align → IsAlignment (fields_in named packed ts laid).align
  fields_aligned named h packed none laid a = a
  fields_aligned named h packed (also t ts) laid a =
      fields_aligned named h packed ts (beside packed laid (layout_in named t)) (beside_align packed laid (layout_in named t) a (type_aligned named h t))

entry_aligned : (named : ℕ → Layout) → ((k : ℕ) → IsAlignment (named k).align) → (o : Option NamedType) → IsAlignment (layout_of_entry named o).align
entry_aligned named h None = one_align
entry_aligned named h (Some e) = type_aligned named h e.ty

named_aligned : (types : List NamedType) (n k : ℕ) → IsAlignment (named_layouts types n k).align
named_aligned types zero k = one_align
named_aligned types (suc n) k = entry_aligned (named_layouts types n) (λ j. named_aligned types n j) (slice_get types k)

pub alignment_above : (types : List NamedType) (t : IrType) → 0 < align_of types t
alignment_above types t = (type_aligned (named_layouts types 64) (λ k. named_aligned types 64 k) t).above

pub alignment_small : (types : List NamedType) (t : IrType) → align_of types t ≤ 8
alignment_small types t = (type_aligned (named_layouts types 64) (λ k. named_aligned types 64 k) t).small
