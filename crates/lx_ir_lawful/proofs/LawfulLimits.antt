-- A type that is within the limits as it is written is one that a lawful module may have, and its shape is its layout.
use Rattle.std.proofs.Common.{◌≡◌, ℕ, zero, suc, ◌*◌, ◌≤◌, min, max, Bool, true, false, not, ◌&&◌, ◌||◌, Option, None, List, map, nat_le, nat_lt, refl, sym, ap, ◌∙◌, subst, arith}
use Rattle.std.specs.List.{list_all}
use Rattle.std.proofs.lemmas.Bool.{le-leb, ltb-false, and_from, and_parts}
use Rattle.lx_words.specs.declared.word.Width.TheVariants.{W1, W8, W16, W32, W64}
use Rattle.lx_words.proofs.Tests.{next_above, three_true}
use Rattle.lx_words.proofs.Lists.{all_at}
use Rattle.lx_ir.specs.declared.types.Scalar.{Scalar}
use Rattle.lx_ir.specs.declared.types.Scalar.TheVariants.{Int, Ptr}
use Rattle.lx_ir.specs.declared.types.NamedType.{NamedType}
use Rattle.lx_ir.specs.IrType.{IrType, One, Array, Struct, Packed, Named, IrTypes, none, also}
use Rattle.lx_ir.specs.Layout.{Layout, layout, scalar_size, beside, padded, layout_in, fields_in, layout_of, layout_of_entry, named_layouts, size_of, unnamed, entry_or, fields_of, list_of_types, is_struct, is_scalar, names_struct, parts_of, is_type_within}
use Rattle.lx_ir.proofs.Layouts.{same_layout, beside_grows, same_struct}
use Rattle.lx_ir_offsets.specs.Shapes.{Shape, shape, layout_of_shape, with_field, empty_shape, shape_of, fields_shape, named_shapes, is_past_limits, is_outside, is_inside, are_inside}
use Rattle.lx_ir_lawful.specs.LimitLaws.{are_written_inside}
use Rattle.lx_ir_lawful.proofs.StableLimits.{before_nests, field_nests, inner_nests, names_of}

-- Tests.

neither : (a b : Bool) → not (a || b) ≡ true → (a ≡ false) × (b ≡ false)
neither true b h = cc
neither false true h = cc
neither false false h = (refl, refl)

-- Sizes.

-- what is not past the limits
record Small (s : Shape) : Type 0 where
  size : s.size ≤ 4294967296
  nesting : s.nesting ≤ 64

small : (shapes : List Shape) (t : IrType) → not (is_outside shapes t) ≡ true → Small (shape_of shapes t)
small shapes t h =
    let s : Shape = shape_of shapes t in
    let n = neither (nat_lt 4294967296 s.size) (nat_lt 64 s.nesting) h in
    record { size = ltb-false 4294967296 s.size n.0; nesting = ltb-false 64 s.nesting n.1 }

kept : (x : ℕ) → min x 4294967297 ≤ 4294967296 → x ≤ 4294967296
kept x h = omega arith

kept_is : (x : ℕ) → min x 4294967297 ≤ 4294967296 → min x 4294967297 ≡ x
kept_is x h = omega arith

-- the fields before are no larger
before_small : (shapes : List Shape) (packed : Bool) (ts : IrTypes) (s : Shape) → (fields_shape shapes packed ts s).size ≤ 4294967296 → s.size ≤ 4294967296
before_small shapes packed none s h = h
before_small shapes packed (also t ts) s h =
    let next : Layout = beside packed (layout_of_shape s) (layout_of_shape (shape_of shapes t)) in
    let i : min next.size 4294967297 ≤ 4294967296 = before_small shapes packed ts (with_field packed s (shape_of shapes t)) h in
    let j : next.size ≤ 4294967296 = kept next.size i in
    let g : s.size ≤ next.size = beside_grows packed (layout_of_shape s) (layout_of_shape (shape_of shapes t)) in
    omega (arith, g, j)

-- a shape that is made of a layout within the limit has it
made_is : (l : Layout) (d : ℕ) → min l.size 4294967297 ≤ 4294967296 → layout_of_shape (shape l d) ≡ l
made_is l d h = ap (λ x. layout x l.align) (kept_is l.size h)

-- the type is lawful so deep, and its shape is its layout
record Lies (types : List NamedType) (n : ℕ) (t : IrType) : Type 0 where
  deep : is_type_within types n t ≡ true
  same : layout_of_shape (shape_of (named_shapes types) t) ≡ layout_of types t

record FieldsLie (types : List NamedType) (n : ℕ) (s : Shape) (ts : IrTypes) (l : Layout) : Type 0 where
  deep : list_all (is_type_within types n) (list_of_types ts) ≡ true
  same : layout_of_shape s ≡ l

module _ (types : List NamedType) (n : ℕ) (few : n ≤ 64)
    (lies : (t : IrType) → is_inside (named_shapes types) t ≡ true → (shape_of (named_shapes types) t).nesting ≤ n → Lies types n t) where
  fields_lie : (packed : Bool) (ts : IrTypes) (s : Shape) (l : Layout) → are_inside (named_shapes types) ts ≡ true → (fields_shape (named_shapes types) packed ts s).size ≤ 4294967296 → (fields_shape (named_shapes types) packed ts s).nesting ≤ n → layout_of_shape s ≡ l
      → FieldsLie types n (fields_shape (named_shapes types) packed ts s) ts (fields_in (named_layouts types 64) packed ts l)
  fields_lie packed none s l h le d same = record { deep = refl; same = same }
  fields_lie packed (also t ts) s l h le d same =
      let both = and_parts (is_inside (named_shapes types) t) (are_inside (named_shapes types) ts) h in
      let f : Shape = shape_of (named_shapes types) t in
      let i = lies t both.0 (field_nests (named_shapes types) packed t ts s n d few) in
      let next : Layout = beside packed (layout_of_shape s) (layout_of_shape f) in
      let size : min next.size 4294967297 ≤ 4294967296 = before_small (named_shapes types) packed ts (with_field packed s f) le in
      let made : layout_of_shape (with_field packed s f) ≡ beside packed l (layout_of types t) =
      made_is next (max s.nesting f.nesting) size ∙ ap (λ x. beside packed x (layout_of_shape f)) same ∙ ap (λ x. beside packed l x) i.same in
      let r = fields_lie packed ts (with_field packed s f) (beside packed l (layout_of types t)) both.1 le d made in
      record { deep = and_from (is_type_within types n t) (list_all (is_type_within types n) (list_of_types ts)) i.deep r.deep; same = r.same }

  -- a struct, whose fields lie so deep
  record StructLies (t : IrType) : Type 0 where
    deep : list_all (is_type_within types n) (fields_of t) ≡ true
    same : layout_of_shape (shape_of (named_shapes types) t) ≡ layout_of types t

  struct_lies : (t : IrType) → is_struct t ≡ true → is_inside (named_shapes types) t ≡ true → (shape_of (named_shapes types) t).nesting ≤ suc n → suc n ≤ 64 → StructLies t
  struct_lies (One s) e h d few' = absurd (cc e)
  struct_lies (Array c t) e h d few' = absurd (cc e)
  struct_lies (Struct ts) e h d few' =
      let both = and_parts (not (is_outside (named_shapes types) (Struct ts))) (are_inside (named_shapes types) ts) h in
      let s : Shape = fields_shape (named_shapes types) false ts empty_shape in
      let whole : Layout = padded (layout_of_shape s) in
      let size : min whole.size 4294967297 ≤ 4294967296 = (small (named_shapes types) (Struct ts) both.0).size in
      let grown : s.size ≤ whole.size = next_above s.size s.align in
      let fits : whole.size ≤ 4294967296 = kept whole.size size in
      let f = fields_lie false ts empty_shape (layout 0 1) both.1 (omega (arith, grown, fits)) (inner_nests s.nesting n d few') refl in
      record { deep = f.deep; same = made_is whole (suc s.nesting) size ∙ ap padded f.same }
  struct_lies (Packed ts) e h d few' =
      let both = and_parts (not (is_outside (named_shapes types) (Packed ts))) (are_inside (named_shapes types) ts) h in
      let s : Shape = fields_shape (named_shapes types) true ts empty_shape in
      let size : min s.size 4294967297 ≤ 4294967296 = (small (named_shapes types) (Packed ts) both.0).size in
      let f = fields_lie true ts empty_shape (layout 0 1) both.1 (kept s.size size) (inner_nests s.nesting n d few') refl in
      record { deep = f.deep; same = made_is (layout_of_shape s) (suc s.nesting) size ∙ f.same }
  struct_lies (Named k) e h d few' = absurd (cc e)

-- The same layout through 63 names as through 64.

-- Types.

scalar_fits : (s : Scalar) → nat_le (scalar_size s) 4294967296 ≡ true
scalar_fits (Int W1) = refl
scalar_fits (Int W8) = refl
scalar_fits (Int W16) = refl
scalar_fits (Int W32) = refl
scalar_fits (Int W64) = refl
scalar_fits Ptr = refl

scalar_lies : (types : List NamedType) (n : ℕ) (s : Scalar) → is_type_within types n (One s) ≡ true
scalar_lies types zero s = refl
scalar_lies types (suc n) s = and_from (nat_le (scalar_size s) 4294967296) true (scalar_fits s) refl

scalar_same : (s : Scalar) → layout_of_shape (shape (layout (scalar_size s) (scalar_size s)) 0) ≡ layout (scalar_size s) (scalar_size s)
scalar_same (Int W1) = refl
scalar_same (Int W8) = refl
scalar_same (Int W16) = refl
scalar_same (Int W32) = refl
scalar_same (Int W64) = refl
scalar_same Ptr = refl

module _ (types : List NamedType) (written : are_written_inside types ≡ true) where
  -- a name, by what it names
  name_lies : (n k : ℕ) (few : suc n ≤ 64) (lies : (t : IrType) → is_inside (named_shapes types) t ≡ true → (shape_of (named_shapes types) t).nesting ≤ n → Lies types n t) → not (is_outside (named_shapes types) (Named k)) ≡ true → (shape_of (named_shapes types) (Named k)).nesting ≤ suc n → Lies types (suc n) (Named k)
  name_lies n k few lies h d =
      let low = small (named_shapes types) (Named k) h in
      let x = names_of types k low.nesting in
      let both = and_parts (is_struct x.entry.ty) (is_inside (named_shapes types) x.entry.ty) (all_at (λ e. is_struct e.ty && is_inside (named_shapes types) e.ty) types k x.entry written x.is) in
      let shallow : (shape_of (named_shapes types) x.entry.ty).nesting ≤ suc n = subst (λ (s : Shape). s.nesting ≤ suc n) x.same d in
      let f = struct_lies types n (omega (arith, few)) lies x.entry.ty both.0 both.1 shallow few in
      let through : layout_in (named_layouts types 63) x.entry.ty ≡ layout_of types x.entry.ty =
      same_struct (named_layouts types 63) (named_layouts types 64) (is_type_within types n) (λ u g. same_layout types n u 63 64 g (omega (arith, few)) (omega (arith, few))) x.entry.ty both.0 f.deep in
      let here : layout_of types (Named k) ≡ layout_in (named_layouts types 63) x.entry.ty = ap (λ o. layout_of_entry (named_layouts types 63) o) x.is in
      let is : layout_of_shape (shape_of (named_shapes types) (Named k)) ≡ layout_of types (Named k) = ap layout_of_shape x.same ∙ f.same ∙ sym through ∙ sym here in
      let size : (shape_of (named_shapes types) (Named k)).size ≤ 4294967296 = low.size in
      let said : (shape_of (named_shapes types) (Named k)).size ≡ size_of types (Named k) = ap (λ (l : Layout). l.size) is in
      let named : unnamed types (Named k) ≡ x.entry.ty = ap (λ o. entry_or o (Named k)) x.is in
      record {
        deep =
            three_true (names_struct types (Named k)) (nat_le (size_of types (Named k)) 4294967296) (list_all (is_type_within types n) (parts_of types (Named k)))
            (ap is_struct named ∙ both.0)
            (le-leb (size_of types (Named k)) 4294967296 (omega (arith, size, said)))
            (ap (λ t. list_all (is_type_within types n) (fields_of t)) named ∙ f.deep);
        same = is;
      }

  -- a struct nests
  struct_nests : (t : IrType) → is_struct t ≡ true → (shape_of (named_shapes types) t).nesting ≤ 0 → ⊥
  struct_nests (One s) e d = cc e
  struct_nests (Array c t) e d = cc e
  struct_nests (Struct ts) e d = omega (arith, d)
  struct_nests (Packed ts) e d = omega (arith, d)
  struct_nests (Named k) e d = cc e

  no_depth : (k : ℕ) → not (is_outside (named_shapes types) (Named k)) ≡ true → (shape_of (named_shapes types) (Named k)).nesting ≤ 0 → ⊥
  no_depth k h d =
      let x = names_of types k (small (named_shapes types) (Named k) h).nesting in
      let both = and_parts (is_struct x.entry.ty) (is_inside (named_shapes types) x.entry.ty) (all_at (λ e. is_struct e.ty && is_inside (named_shapes types) e.ty) types k x.entry written x.is) in
      struct_nests x.entry.ty both.0 (subst (λ (s : Shape). s.nesting ≤ 0) x.same d)

  group_lies : (n : ℕ) (t : IrType) (few : suc n ≤ 64) (lies : (u : IrType) → is_inside (named_shapes types) u ≡ true → (shape_of (named_shapes types) u).nesting ≤ n → Lies types n u) → is_struct t ≡ true → names_struct types t ≡ true → parts_of types t ≡ fields_of t → is_inside (named_shapes types) t ≡ true → not (is_outside (named_shapes types) t) ≡ true → (shape_of (named_shapes types) t).nesting ≤ suc n → Lies types (suc n) t
  group_lies n t few lies e g p h o d =
      let f = struct_lies types n (omega (arith, few)) lies t e h d few in
      let size : (shape_of (named_shapes types) t).size ≤ 4294967296 = (small (named_shapes types) t o).size in
      let said : (shape_of (named_shapes types) t).size ≡ size_of types t = ap (λ (l : Layout). l.size) f.same in
      record {
        deep =
            three_true (names_struct types t) (nat_le (size_of types t) 4294967296) (list_all (is_type_within types n) (parts_of types t)) g
            (le-leb (size_of types t) 4294967296 (omega (arith, size, said)))
            (ap (list_all (is_type_within types n)) p ∙ f.deep);
        same = f.same;
      }

  type_lies : (n : ℕ) (t : IrType) → n ≤ 64 → is_inside (named_shapes types) t ≡ true → (shape_of (named_shapes types) t).nesting ≤ n → Lies types n t
  type_lies n (One s) few h d = record { deep = scalar_lies types n s; same = scalar_same s }
  type_lies zero (Array c t) few h d = absurd (omega (arith, d))
  type_lies zero (Struct ts) few h d = absurd (omega (arith, d))
  type_lies zero (Packed ts) few h d = absurd (omega (arith, d))
  type_lies zero (Named k) few h d = absurd (no_depth k h d)
  type_lies (suc n) (Array c t) few h d =
      let both = and_parts (not (is_outside (named_shapes types) (Array c t))) (is_inside (named_shapes types) t) h in
      let s : Shape = shape_of (named_shapes types) t in
      let i = type_lies n t (omega (arith, few)) both.1 (inner_nests s.nesting n d few) in
      let size : min (c * s.size) 4294967297 ≤ 4294967296 = (small (named_shapes types) (Array c t) both.0).size in
      let whole : c * s.size ≤ 4294967296 = kept (c * s.size) size in
      let said : c * s.size ≡ size_of types (Array c t) = ap (λ (l : Layout). c * l.size) i.same in
      record {
        deep = and_from (nat_le (size_of types (Array c t)) 4294967296) (is_type_within types n t && true) (le-leb (size_of types (Array c t)) 4294967296 (omega (arith, whole, said))) (and_from (is_type_within types n t) true i.deep refl);
        same = made_is (layout (c * s.size) s.align) (suc s.nesting) size ∙ ap (λ (l : Layout). layout (c * l.size) l.align) i.same;
      }
  type_lies (suc n) (Struct ts) few h d =
      group_lies n (Struct ts) few (λ u g e. type_lies n u (omega (arith, few)) g e) refl refl refl h (and_parts (not (is_outside (named_shapes types) (Struct ts))) (are_inside (named_shapes types) ts) h).0 d
  type_lies (suc n) (Packed ts) few h d =
      group_lies n (Packed ts) few (λ u g e. type_lies n u (omega (arith, few)) g e) refl refl refl h (and_parts (not (is_outside (named_shapes types) (Packed ts))) (are_inside (named_shapes types) ts) h).0 d
  type_lies (suc n) (Named k) few h d = name_lies n k few (λ u g e. type_lies n u (omega (arith, few)) g e) h d

deep_enough : (shapes : List Shape) (t : IrType) → is_inside shapes t ≡ true → (shape_of shapes t).nesting ≤ 64
deep_enough shapes (One s) h = (small shapes (One s) h).nesting
deep_enough shapes (Array c t) h = (small shapes (Array c t) (and_parts (not (is_outside shapes (Array c t))) (is_inside shapes t) h).0).nesting
deep_enough shapes (Struct ts) h = (small shapes (Struct ts) (and_parts (not (is_outside shapes (Struct ts))) (are_inside shapes ts) h).0).nesting
deep_enough shapes (Packed ts) h = (small shapes (Packed ts) (and_parts (not (is_outside shapes (Packed ts))) (are_inside shapes ts) h).0).nesting
deep_enough shapes (Named k) h = (small shapes (Named k) h).nesting

pub lawful : (types : List NamedType) (t : IrType) → are_written_inside types ≡ true → is_inside (named_shapes types) t ≡ true → is_type_within types 64 t ≡ true
lawful types t written h = (type_lies types written 64 t (omega arith) h (deep_enough (named_shapes types) t h)).deep
