-- A path through a lawful type leads to somewhere between its start and its end.
use Rattle.std.proofs.Common.{◌≡◌, ◌∙◌, sym, ap, subst, ℕ, zero, suc, ◌+◌, ◌*◌, ◌≤◌, Bool, true, false, Some, List, arith}
use Rattle.std.specs.Prelude.{nat_abs}
use Rattle.std.specs.List.{list_all}
use Rattle.std.proofs.Math.Nat.{mul-le-mul_right}
use Rattle.std.proofs.lemmas.Bool.{and_parts}
use Rattle.lx_words.proofs.Tests.{next_above}
use Rattle.lx_ir.specs.declared.types.NamedType.{NamedType}
use Rattle.lx_ir.specs.IrType.{IrType, One, Array, Struct, Packed, Named, IrTypes, none, also}
use Rattle.lx_ir.specs.Layout.{Layout, Part, layout, beside, fields_in, named_layouts, layout_of, size_of, unnamed, list_of_types, fields_of, parts_of, is_type_within, field_after, field_of}
use Rattle.lx_ir.proofs.Layouts.{within, name_layout, fields_grow}
use Rattle.lx_slot_types.specs.Sites.{FieldName, start_of}
use Rattle.lx_linked.specs.Paths.{LeadsTo, to_field, in_field, in_element, part}
use Rattle.lx_linked.proofs.Paths.{at_zero, at_suc}

pub same_start : (a b : ℕ) (t u : IrType) → Some (part a t) ≡ Some (part b u) → a ≡ b
same_start a b t u e = let p : part a t ≡ part b u = cc in ap (λ (x : Part). nat_abs x.offset) p

pub same_type : (a b : ℕ) (t u : IrType) → Some (part a t) ≡ Some (part b u) → t ≡ u
same_type a b t u e = let p : part a t ≡ part b u = cc in ap (λ (x : Part). x.ty) p

-- a field ends within its struct

field_room : (types : List NamedType) (packed : Bool) (laid : Layout) (t : IrType) → start_of types packed t laid + size_of types t ≤ (beside packed laid (layout_of types t)).size
field_room types true laid t = omega arith
field_room types false laid t = omega arith

field_end : (types : List NamedType) (packed : Bool) (ts : IrTypes) (laid : Layout) (k start : ℕ) (u : IrType) → field_after types packed laid ts k ≡ Some (part start u) → start + size_of types u ≤ (fields_in (named_layouts types 64) packed ts laid).size
field_end types packed none laid k start u e = absurd (cc)
field_end types packed (also t ts) laid zero start u e =
    let p = sym (at_zero types packed laid t ts) ∙ e in
    let a : start_of types packed t laid ≡ start = same_start (start_of types packed t laid) start t u p in
    let b : size_of types t ≡ size_of types u = ap (size_of types) (same_type (start_of types packed t laid) start t u p) in
    let c : start_of types packed t laid + size_of types t ≤ (beside packed laid (layout_of types t)).size = field_room types packed laid t in
    let d : (beside packed laid (layout_of types t)).size ≤ (fields_in (named_layouts types 64) packed ts (beside packed laid (layout_of types t))).size = fields_grow (named_layouts types 64) packed ts (beside packed laid (layout_of types t)) in
    omega (arith, a, b, c, d)
field_end types packed (also t ts) laid (suc k) start u e = field_end types packed ts (beside packed laid (layout_of types t)) k start u (sym (at_suc types packed laid t ts k) ∙ e)

part_end : (types : List NamedType) (t : IrType) (k start : ℕ) (u : IrType) → field_of types t k ≡ Some (part start u) → start + size_of types u ≤ size_of types t
part_end types (One s) k start u e = absurd (cc)
part_end types (Array c t) k start u e = absurd (cc)
part_end types (Struct ts) k start u e =
    let l = fields_in (named_layouts types 64) false ts (layout 0 1) in
    let a : start + size_of types u ≤ l.size = field_end types false ts (layout 0 1) k start u e in
    omega (arith, a, next_above l.size l.align)
part_end types (Packed ts) k start u e = field_end types true ts (layout 0 1) k start u e
part_end types (Named n) k start u e = absurd (cc)

-- a field of a type within the limits is within them

field_passes : (types : List NamedType) (ok : IrType → Bool) (packed : Bool) (ts : IrTypes) (laid : Layout) (k start : ℕ) (u : IrType) → list_all ok (list_of_types ts) ≡ true → field_after types packed laid ts k ≡ Some (part start u) → ok u ≡ true
field_passes types ok packed none laid k start u h e = absurd (cc)
field_passes types ok packed (also t ts) laid zero start u h e =
    let a = and_parts (ok t) (list_all ok (list_of_types ts)) h in
    subst (λ x. ok x ≡ true) (same_type (start_of types packed t laid) start t u (sym (at_zero types packed laid t ts) ∙ e)) a.0
field_passes types ok packed (also t ts) laid (suc k) start u h e =
    let a = and_parts (ok t) (list_all ok (list_of_types ts)) h in
    field_passes types ok packed ts (beside packed laid (layout_of types t)) k start u a.1 (sym (at_suc types packed laid t ts k) ∙ e)

part_passes : (types : List NamedType) (ok : IrType → Bool) (t : IrType) (k start : ℕ) (u : IrType) → list_all ok (fields_of t) ≡ true → field_of types t k ≡ Some (part start u) → ok u ≡ true
part_passes types ok (One s) k start u h e = absurd (cc)
part_passes types ok (Array c t) k start u h e = absurd (cc)
part_passes types ok (Struct ts) k start u h e = field_passes types ok false ts (layout 0 1) k start u h e
part_passes types ok (Packed ts) k start u h e = field_passes types ok true ts (layout 0 1) k start u h e
part_passes types ok (Named n) k start u h e = absurd (cc)

pub part_within : (types : List NamedType) (n : ℕ) (t : IrType) (k start : ℕ) (u : IrType) → list_all (is_type_within types n) (parts_of types t) ≡ true → field_of types (unnamed types t) k ≡ Some (part start u) → is_type_within types n u ≡ true
part_within types n (One s) k start u h e = absurd (cc)
part_within types n (Array c t) k start u h e = absurd (cc)
part_within types n (Struct ts) k start u h e = part_passes types (is_type_within types n) (Struct ts) k start u h e
part_within types n (Packed ts) k start u h e = part_passes types (is_type_within types n) (Packed ts) k start u h e
part_within types n (Named m) k start u h e = part_passes types (is_type_within types n) (unnamed types (Named m)) k start u h e

-- what does not nest has no fields
pub shallow : (types : List NamedType) (t : IrType) (k : ℕ) (p : Part) → is_type_within types zero t ≡ true → field_of types (unnamed types t) k ≡ Some p → ⊥
shallow types (One s) k p h e = cc
shallow types (Array c t) k p h e = cc
shallow types (Struct ts) k p h e = cc
shallow types (Packed ts) k p h e = cc
shallow types (Named m) k p h e = cc

pub element_within : (types : List NamedType) (n c : ℕ) (t : IrType) → is_type_within types (suc n) (Array c t) ≡ true → is_type_within types n t ≡ true
element_within types n c t h = (and_parts (is_type_within types n t) true (within types n (Array c t) h).parts).0

pub bounded : (types : List NamedType) (name : FieldName) (n : ℕ) (t : IrType) (o : ℕ) → is_type_within types n t ≡ true → n ≤ 64 → LeadsTo types name t o → o ≤ size_of types t
bounded types name zero _ _ h few (to_field m k start t e f) = absurd (cc)
bounded types name zero _ _ h few (in_field t u k start o f l) = absurd (shallow types t k (part start u) h f)
bounded types name zero _ _ h few (in_element t c i o less l) = absurd (cc)
bounded types name (suc n) _ _ h few (to_field m k start t e f) =
    let a : start + size_of types t ≤ size_of types (unnamed types (Named m)) = part_end types (unnamed types (Named m)) k start t f in
    let b : size_of types (unnamed types (Named m)) ≡ size_of types (Named m) = ap (λ (x : Layout). x.size) (name_layout types n (Named m) h (omega (arith, few))) in
    omega (arith, a, b)
bounded types name (suc n) _ _ h few (in_field t u k start o f l) =
    let g = part_within types n t k start u (within types n t h).parts f in
    let a : start + size_of types u ≤ size_of types (unnamed types t) = part_end types (unnamed types t) k start u f in
    let b : size_of types (unnamed types t) ≡ size_of types t = ap (λ (x : Layout). x.size) (name_layout types n t h (omega (arith, few))) in
    let c : o ≤ size_of types u = bounded types name n u o g (omega (arith, few)) l in
    omega (arith, a, b, c)
bounded types name (suc n) _ _ h few (in_element t c i o less l) =
    let a : o ≤ size_of types t = bounded types name n t o (element_within types n c t h) (omega (arith, few)) l in
    let b : suc i * size_of types t ≤ c * size_of types t = mul-le-mul_right (size_of types t) (omega (arith, less)) in
    let d : suc i * size_of types t ≡ i * size_of types t + size_of types t = omega arith in
    omega (arith, a, b, d)
