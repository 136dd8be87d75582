-- The shape of a type within the limits is its layout, and nests no deeper than the type.
use Rattle.std.proofs.Common.{◌≡◌, ℕ, zero, suc, ◌*◌, ◌≤◌, min, max, List, Bool, true, false, not, ◌||◌, map, nat_lt, refl, sym, ap, ◌∙◌, subst, arith, Option, Some, None, option_map, slice_get}
use Rattle.std.specs.Prelude.{unwrap_or}
use Rattle.std.specs.List.{list_all}
use Rattle.std.proofs.lemmas.Bool.{and_parts, le-ltb, and_from}
use Rattle.std.proofs.lemmas.Option.{slice_get-map}
use Rattle.lx_words.specs.declared.word.Width.TheVariants.{W1, W8, W16, W32, W64}
use Rattle.lx_words.proofs.Tests.{next_above}
use Rattle.lx_ir.specs.declared.types.Scalar.{Scalar}
use Rattle.lx_ir.specs.declared.types.Scalar.TheVariants.{Int, Ptr}
use Rattle.lx_ir.specs.declared.types.NamedType.{NamedType}
use Rattle.lx_ir.specs.IrType.{IrType, One, Array, Struct, Packed, Named, IrTypes, none, also}
use Rattle.lx_ir.specs.Layout.{Layout, layout, scalar_size, beside, padded, layout_in, fields_in, layout_of_entry, named_layouts, size_of, list_of_types, entry_or, fields_of, is_struct, is_type_within}
use Rattle.lx_ir.proofs.Layouts.{fields_grow, within}
use Rattle.lx_ir.proofs.Fits.{size_fits}
use Rattle.lx_ir_offsets.specs.Shapes.{Shape, shape, layout_of_shape, with_field, empty_shape, endless, shape_of, fields_shape, shapes_through, named_shapes, is_past_limits, is_outside, is_inside, are_inside}

-- the shape has this layout, is within the limit on sizes, and nests at most so deep
record Shows (s : Shape) (l : Layout) (n : ℕ) : Type 0 where
  same : layout_of_shape s ≡ l
  size : s.size ≤ 4294967296
  nesting : s.nesting ≤ n

kept_size : (x : ℕ) → x ≤ 4294967296 → min x 4294967297 ≡ x
kept_size x h = omega arith

kept_nesting : (d n : ℕ) → d ≤ n → min d 65 ≤ n
kept_nesting d n h = omega arith

shape_shows : (l : Layout) (d n : ℕ) → l.size ≤ 4294967296 → d ≤ n → Shows (shape l d) l n
shape_shows l d n h le =
    let e : min l.size 4294967297 ≡ l.size = kept_size l.size h in
    record { same = ap (λ x. layout x l.align) e; size = omega (arith, e, h); nesting = kept_nesting d n le }

greater_le : (a b n : ℕ) → a ≤ n → b ≤ n → max a b ≤ n
greater_le a b n h g = omega arith

-- a further field
with_shows : (packed : Bool) (s f : Shape) (l m : Layout) (n : ℕ) → Shows s l n → Shows f m n → (beside packed l m).size ≤ 4294967296 → Shows (with_field packed s f) (beside packed l m) n
with_shows packed s f l m n h g le =
    let e : beside packed l m ≡ beside packed (layout_of_shape s) (layout_of_shape f) = ap (λ x. beside packed x m) (sym h.same) ∙ ap (λ x. beside packed (layout_of_shape s) x) (sym g.same) in
    subst (λ x. Shows (shape x (max s.nesting f.nesting)) (beside packed l m) n) e
    (shape_shows (beside packed l m) (max s.nesting f.nesting) n le (greater_le s.nesting f.nesting n h.nesting g.nesting))

scalar_fits : (s : Scalar) → scalar_size s ≤ 4294967296
scalar_fits (Int W1) = omega arith
scalar_fits (Int W8) = omega arith
scalar_fits (Int W16) = omega arith
scalar_fits (Int W32) = omega arith
scalar_fits (Int W64) = omega arith
scalar_fits Ptr = omega arith

scalar_shows : (s : Scalar) (n : ℕ) → Shows (shape (layout (scalar_size s) (scalar_size s)) 0) (layout (scalar_size s) (scalar_size s)) n
scalar_shows s n = shape_shows (layout (scalar_size s) (scalar_size s)) 0 n (scalar_fits s) (omega arith)

module _ (types : List NamedType) (n j : ℕ)
    (shown : (t : IrType) → is_type_within types n t ≡ true → Shows (shape_of (shapes_through types j) t) (layout_in (named_layouts types j) t) n) where
  fields_show : (packed : Bool) (ts : IrTypes) (s : Shape) (l : Layout) → Shows s l n → list_all (is_type_within types n) (list_of_types ts) ≡ true → (fields_in (named_layouts types j) packed ts l).size ≤ 4294967296
      → Shows (fields_shape (shapes_through types j) packed ts s) (fields_in (named_layouts types j) packed ts l) n
  fields_show packed none s l h p le = h
  fields_show packed (also t ts) s l h p le =
      let both = and_parts (is_type_within types n t) (list_all (is_type_within types n) (list_of_types ts)) p in
      let next : Layout = beside packed l (layout_in (named_layouts types j) t) in
      let grows : next.size ≤ (fields_in (named_layouts types j) packed ts next).size = fields_grow (named_layouts types j) packed ts next in
      let fits : next.size ≤ 4294967296 = omega (arith, grows, le) in
      fields_show packed ts (with_field packed s (shape_of (shapes_through types j) t)) next
      (with_shows packed s (shape_of (shapes_through types j) t) l (layout_in (named_layouts types j) t) n h (shown t both.0) fits) both.1 le

  struct_shows : (t : IrType) → is_struct t ≡ true → list_all (is_type_within types n) (fields_of t) ≡ true → (layout_in (named_layouts types j) t).size ≤ 4294967296 → Shows (shape_of (shapes_through types j) t) (layout_in (named_layouts types j) t) (suc n)
  struct_shows (One s) e p le = cc e
  struct_shows (Array c t) e p le = cc e
  struct_shows (Struct ts) e p le =
      let whole : Layout = fields_in (named_layouts types j) false ts (layout 0 1) in
      let grown : whole.size ≤ (padded whole).size = next_above whole.size whole.align in
      let fits : whole.size ≤ 4294967296 = omega (arith, grown, le) in
      let s : Shape = fields_shape (shapes_through types j) false ts empty_shape in
      let f = fields_show false ts empty_shape (layout 0 1) (shape_shows (layout 0 1) 0 n (omega arith) (omega arith)) p fits in
      let deep : s.nesting ≤ n = f.nesting in
      subst (λ l. Shows (shape (padded l) (suc s.nesting)) (padded whole) (suc n)) (sym f.same) (shape_shows (padded whole) (suc s.nesting) (suc n) le (omega (arith, deep)))
  struct_shows (Packed ts) e p le =
      let whole : Layout = fields_in (named_layouts types j) true ts (layout 0 1) in
      let s : Shape = fields_shape (shapes_through types j) true ts empty_shape in
      let f = fields_show true ts empty_shape (layout 0 1) (shape_shows (layout 0 1) 0 n (omega arith) (omega arith)) p le in
      let deep : s.nesting ≤ n = f.nesting in
      subst (λ l. Shows (shape l (suc s.nesting)) whole (suc n)) (sym f.same) (shape_shows whole (suc s.nesting) (suc n) le (omega (arith, deep)))
  struct_shows (Named k) e p le = cc e

  entry_shows : (k : ℕ) (o : Option NamedType) → is_struct (entry_or o (Named k)) ≡ true → list_all (is_type_within types n) (fields_of (entry_or o (Named k))) ≡ true → (layout_of_entry (named_layouts types j) o).size ≤ 4294967296
      → Shows (unwrap_or (option_map (λ e. shape_of (shapes_through types j) e.ty) o) endless) (layout_of_entry (named_layouts types j) o) (suc n)
  entry_shows k None e p le = cc e
  entry_shows k (Some t) e p le = struct_shows t.ty e p le

type_shows : (types : List NamedType) (n : ℕ) (t : IrType) (j : ℕ) → is_type_within types n t ≡ true → n ≤ j → n ≤ 64 → Shows (shape_of (shapes_through types j) t) (layout_in (named_layouts types j) t) n
type_shows types zero (One s) j h a b = scalar_shows s 0
type_shows types zero (Array c t) j h a b = cc h
type_shows types zero (Struct ts) j h a b = cc h
type_shows types zero (Packed ts) j h a b = cc h
type_shows types zero (Named k) j h a b = cc h
type_shows types (suc n) (One s) j h a b = scalar_shows s (suc n)
type_shows types (suc n) (Array c t) j h a b =
    let p = and_parts (is_type_within types n t) true (within types n (Array c t) h).parts in
    let i = type_shows types n t j p.0 (omega arith) (omega arith) in
    let s : Shape = shape_of (shapes_through types j) t in
    let whole : Layout = layout_in (named_layouts types j) (Array c t) in
    let deep : s.nesting ≤ n = i.nesting in
    subst (λ l. Shows (shape (layout (c * l.size) l.align) (suc s.nesting)) whole (suc n)) (sym i.same) (shape_shows whole (suc s.nesting) (suc n) (size_fits types n (Array c t) j h a b) (omega (arith, deep)))
type_shows types (suc n) (Struct ts) j h a b =
    struct_shows types n j (λ u g. type_shows types n u j g (omega arith) (omega arith)) (Struct ts) refl (within types n (Struct ts) h).parts (size_fits types n (Struct ts) j h a b)
type_shows types (suc n) (Packed ts) j h a b =
    struct_shows types n j (λ u g. type_shows types n u j g (omega arith) (omega arith)) (Packed ts) refl (within types n (Packed ts) h).parts (size_fits types n (Packed ts) j h a b)
type_shows types (suc n) (Named k) zero h a b = absurd (omega arith)
type_shows types (suc n) (Named k) (suc j) h a b =
    let w = within types n (Named k) h in
    let there = entry_shows types n j (λ u g. type_shows types n u j g (omega arith) (omega arith)) k (slice_get types k) w.names w.parts (size_fits types n (Named k) (suc j) h a b) in
    subst (λ o. Shows (unwrap_or o endless) (layout_of_entry (named_layouts types j) (slice_get types k)) (suc n)) (sym (slice_get-map (λ e. shape_of (shapes_through types j) e.ty) types k)) there

passes : (a b : Bool) → a ≡ false → b ≡ false → not (a || b) ≡ true
passes a b p q = rw (p, q) refl

not_outside : (types : List NamedType) (n : ℕ) (t : IrType) → is_type_within types n t ≡ true → n ≤ 64 → not (is_outside (named_shapes types) t) ≡ true
not_outside types n t h b =
    let s : Shape = shape_of (named_shapes types) t in
    let f = type_shows types n t 64 h b b in
    let deep : s.nesting ≤ n = f.nesting in
    passes (nat_lt 4294967296 s.size) (nat_lt 64 s.nesting) (le-ltb 4294967296 s.size f.size) (le-ltb 64 s.nesting (omega (arith, deep, b)))

fields_inside : (types : List NamedType) (n : ℕ) → ((t : IrType) → is_type_within types n t ≡ true → is_inside (named_shapes types) t ≡ true) → (ts : IrTypes) → list_all (is_type_within types n) (list_of_types ts) ≡ true → are_inside (named_shapes types) ts ≡ true
fields_inside types n f none p = refl
fields_inside types n f (also t ts) p =
    let both = and_parts (is_type_within types n t) (list_all (is_type_within types n) (list_of_types ts)) p in
    and_from (is_inside (named_shapes types) t) (are_inside (named_shapes types) ts) (f t both.0) (fields_inside types n f ts both.1)

-- A type that nests at most so deep is within the limits, and so is each that is written in it.
pub inside : (types : List NamedType) (n : ℕ) (t : IrType) → is_type_within types n t ≡ true → n ≤ 64 → is_inside (named_shapes types) t ≡ true
inside types zero (One s) h b = not_outside types zero (One s) h b
inside types zero (Array c t) h b = cc h
inside types zero (Struct ts) h b = cc h
inside types zero (Packed ts) h b = cc h
inside types zero (Named k) h b = cc h
inside types (suc n) (One s) h b = not_outside types (suc n) (One s) h b
inside types (suc n) (Array c t) h b =
    let p = and_parts (is_type_within types n t) true (within types n (Array c t) h).parts in
    and_from (not (is_outside (named_shapes types) (Array c t))) (is_inside (named_shapes types) t) (not_outside types (suc n) (Array c t) h b) (inside types n t p.0 (omega arith))
inside types (suc n) (Struct ts) h b =
    and_from (not (is_outside (named_shapes types) (Struct ts))) (are_inside (named_shapes types) ts) (not_outside types (suc n) (Struct ts) h b)
    (fields_inside types n (λ t g. inside types n t g (omega arith)) ts (within types n (Struct ts) h).parts)
inside types (suc n) (Packed ts) h b =
    and_from (not (is_outside (named_shapes types) (Packed ts))) (are_inside (named_shapes types) ts) (not_outside types (suc n) (Packed ts) h b)
    (fields_inside types n (λ t g. inside types n t g (omega arith)) ts (within types n (Packed ts) h).parts)
inside types (suc n) (Named k) h b = not_outside types (suc n) (Named k) h b
