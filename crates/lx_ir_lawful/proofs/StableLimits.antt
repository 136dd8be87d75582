-- The shape of a type that does not nest past the limit is the same through one name more.
use Rattle.std.proofs.Common.{◌≡◌, ℕ, zero, suc, ◌*◌, ◌≤◌, min, max, Bool, true, false, Option, Some, None, List, map, refl, sym, ap, ◌∙◌, subst, arith, slice_get, option_map}
use Rattle.std.specs.Prelude.{unwrap_or}
use Rattle.std.proofs.lemmas.Option.{slice_get-map}
use Rattle.lx_ir.specs.declared.types.NamedType.{NamedType}
use Rattle.lx_ir.specs.IrType.{IrType, One, Array, Struct, Packed, Named, IrTypes, none, also}
use Rattle.lx_ir.specs.Layout.{layout, padded}
use Rattle.lx_ir_offsets.specs.Shapes.{Shape, shape, layout_of_shape, with_field, endless, empty_shape, shape_of, fields_shape, shapes_through, named_shapes}

-- fields nest at least as deep as those before them, and as each of them
pub before_nests : (shapes : List Shape) (packed : Bool) (ts : IrTypes) (s : Shape) (n : ℕ) → (fields_shape shapes packed ts s).nesting ≤ n → n ≤ 64 → s.nesting ≤ n
before_nests shapes packed none s n h few = h
before_nests shapes packed (also t ts) s n h few =
    let i : min (max s.nesting (shape_of shapes t).nesting) 65 ≤ n = before_nests shapes packed ts (with_field packed s (shape_of shapes t)) n h few in
    omega (arith, i, few)

pub field_nests : (shapes : List Shape) (packed : Bool) (t : IrType) (ts : IrTypes) (s : Shape) (n : ℕ) → (fields_shape shapes packed (also t ts) s).nesting ≤ n → n ≤ 64 → (shape_of shapes t).nesting ≤ n
field_nests shapes packed t ts s n h few =
    let i : min (max s.nesting (shape_of shapes t).nesting) 65 ≤ n = before_nests shapes packed ts (with_field packed s (shape_of shapes t)) n h few in
    omega (arith, i, few)

pub inner_nests : (d n : ℕ) → min (suc d) 65 ≤ suc n → suc n ≤ 64 → d ≤ n
inner_nests d n h few = omega arith

within_65 : (d : ℕ) → min (suc d) 65 ≤ 64 → d ≤ 64
within_65 d h = omega arith

module _ (a b : List Shape) (names : (k : ℕ) → (shape_of a (Named k)).nesting ≤ 64 → shape_of a (Named k) ≡ shape_of b (Named k)) where
  mutual
    same_shape : (t : IrType) → (shape_of a t).nesting ≤ 64 → shape_of a t ≡ shape_of b t
    same_shape (One s) h = refl
    same_shape (Array c t) h =
        ap (λ (s : Shape). shape (layout (c * s.size) s.align) (suc s.nesting)) (same_shape t (within_65 (shape_of a t).nesting h))
    same_shape (Struct ts) h =
        ap (λ (s : Shape). shape (padded (layout_of_shape s)) (suc s.nesting)) (same_fields false ts empty_shape (within_65 (fields_shape a false ts empty_shape).nesting h))
    same_shape (Packed ts) h =
        ap (λ (s : Shape). shape (layout_of_shape s) (suc s.nesting)) (same_fields true ts empty_shape (within_65 (fields_shape a true ts empty_shape).nesting h))
    same_shape (Named k) h = names k h

    same_fields : (packed : Bool) (ts : IrTypes) (s : Shape) → (fields_shape a packed ts s).nesting ≤ 64 → fields_shape a packed ts s ≡ fields_shape b packed ts s
    same_fields packed none s h = refl
    same_fields packed (also t ts) s h =
        same_fields packed ts (with_field packed s (shape_of a t)) h
        ∙ ap (λ f. fields_shape b packed ts (with_field packed s f)) (same_shape t (field_nests a packed t ts s 64 h (omega arith)))

-- the shape that is kept of a name
pub entry_shape : (types : List NamedType) (j k : ℕ) → shape_of (shapes_through types (suc j)) (Named k) ≡ unwrap_or (option_map (λ e. shape_of (shapes_through types j) e.ty) (slice_get types k)) endless
entry_shape types j k = ap (λ o. unwrap_or o endless) (slice_get-map (λ e. shape_of (shapes_through types j) e.ty) types k)

no_entry : (o : Option NamedType) → (unwrap_or (option_map (λ e. endless) o) endless).nesting ≤ 64 → ⊥
no_entry None h = omega (arith, h)
no_entry (Some e) h = omega (arith, h)

same_entry : (types : List NamedType) (j : ℕ) → ((t : IrType) → (shape_of (shapes_through types j) t).nesting ≤ 64 → shape_of (shapes_through types j) t ≡ shape_of (shapes_through types (suc j)) t) → (o : Option NamedType)
    → (unwrap_or (option_map (λ e. shape_of (shapes_through types j) e.ty) o) endless).nesting ≤ 64
    → unwrap_or (option_map (λ e. shape_of (shapes_through types j) e.ty) o) endless ≡ unwrap_or (option_map (λ e. shape_of (shapes_through types (suc j)) e.ty) o) endless
same_entry types j same None h = refl
same_entry types j same (Some e) h = same e.ty h

same_names : (types : List NamedType) (j k : ℕ) → (shape_of (shapes_through types j) (Named k)).nesting ≤ 64 → shape_of (shapes_through types j) (Named k) ≡ shape_of (shapes_through types (suc j)) (Named k)
same_names types zero k h = absurd (no_entry (slice_get types k) (subst (λ o. (unwrap_or o endless).nesting ≤ 64) (slice_get-map (λ e. endless) types k) h))
same_names types (suc j) k h =
    entry_shape types j k
    ∙ same_entry types j (λ t g. same_shape (shapes_through types j) (shapes_through types (suc j)) (λ m d. same_names types j m d) t g) (slice_get types k) (subst (λ (s : Shape). s.nesting ≤ 64) (entry_shape types j k) h)
    ∙ sym (entry_shape types (suc j) k)

pub stable : (types : List NamedType) (j : ℕ) (t : IrType) → (shape_of (shapes_through types j) t).nesting ≤ 64 → shape_of (shapes_through types j) t ≡ shape_of (shapes_through types (suc j)) t
stable types j t h = same_shape (shapes_through types j) (shapes_through types (suc j)) (same_names types j) t h

-- the shape of a name is that of the type that it names
pub record Names (types : List NamedType) (k : ℕ) : Type 0 where
  pub entry : NamedType
  pub is : slice_get types k ≡ Some entry
  pub same : shape_of (named_shapes types) (Named k) ≡ shape_of (named_shapes types) entry.ty

names_by : (types : List NamedType) (k : ℕ) (o : Option NamedType) → slice_get types k ≡ o → shape_of (named_shapes types) (Named k) ≡ unwrap_or (option_map (λ e. shape_of (shapes_through types 63) e.ty) o) endless → (shape_of (named_shapes types) (Named k)).nesting ≤ 64 → Names types k
names_by types k None e same h = absurd (let n : (shape_of (named_shapes types) (Named k)).nesting ≡ 65 = ap (λ (s : Shape). s.nesting) same in omega (arith, n, h))
names_by types k (Some t) e same h =
    record { entry = t; is = e; same = same ∙ stable types 63 t.ty (subst (λ (s : Shape). s.nesting ≤ 64) same h) }

pub names_of : (types : List NamedType) (k : ℕ) → (shape_of (named_shapes types) (Named k)).nesting ≤ 64 → Names types k
names_of types k h = names_by types k (slice_get types k) refl (entry_shape types 63 k) h
