-- A type within the limits has a layout, and indices that name parts of it can be followed.
use Rattle.std.proofs.Common.{◌≡◌, ℕ, zero, suc, ◌+◌, ◌%◌, ◌^◌, ◌≤◌, Bool, true, false, Option, Some, None, List, [], ◌∷◌, refl, sym, ap, ◌∙◌, arith, slice_get}
use Rattle.std.specs.List.{list_all}
use Rattle.std.proofs.lemmas.Bool.{and_parts}
use Rattle.std.proofs.lemmas.Option.{same_Some}
use Rattle.lx_words.specs.Word.{Word}
use Rattle.lx_words.proofs.Tests.{next_above}
use Rattle.lx_ir.specs.declared.types.NamedType.{NamedType}
use Rattle.lx_ir.specs.IrType.{IrType, One, Array, Struct, Packed, Named, IrTypes, none, also}
use Rattle.lx_ir.specs.Layout.{Layout, layout, beside, padded, field_start, fields_in, layout_of, named_layouts, unnamed, is_struct, fields_of, list_of_types, is_type_within}
use Rattle.lx_ir.proofs.Layouts.{fields_grow, within, name_layout}
use Rattle.lx_ir.proofs.Fits.{limited_is, within_fits, lawful_fits}
use Rattle.lx_ir.specs.Fitting.{◌>>?◌, laid_beside, fit_type, fitting_layouts}
use Rattle.lx_ir_offsets.specs.Offsets.{scaled, field_number, part_type, part_at, field_after, part_of, moved, distance, Part, part}

-- Indices.

some_bind : {A B : Type 0} (o : Option A) (f : A → Option B) (y : B) → (o >>? f) ≡ Some y → (x : A) × (o ≡ Some x) × (f x ≡ Some y)
some_bind (Some x) f y e = (x, refl, e)
some_bind None f y e = cc

-- a part of this type, which nests at most so deep
record Found (types : List NamedType) (n : ℕ) (o : Option Part) (u : IrType) : Type 0 where
  start : ℕ
  is : o ≡ Some (part start u)
  deep : is_type_within types n u ≡ true

module _ (types : List NamedType) (n : ℕ) (few : n ≤ 64) where
  fit : (t : IrType) → is_type_within types n t ≡ true → fit_type (fitting_layouts types) t ≡ Some (layout_of types t)
  fit t h = within_fits types n few t h

  field_found : (packed : Bool) (ts : IrTypes) (laid : Layout) (k : ℕ) (u : IrType) → list_all (is_type_within types n) (list_of_types ts) ≡ true → (fields_in (named_layouts types 64) packed ts laid).size ≤ 4294967296 → slice_get (list_of_types ts) k ≡ Some u
      → Found types n (field_after (fitting_layouts types) packed ts laid k) u
  field_found packed none laid zero u h le e = absurd (cc e)
  field_found packed none laid (suc k) u h le e = absurd (cc e)
  field_found packed (also t ts) laid zero u h le e =
      let both = and_parts (is_type_within types n t) (list_all (is_type_within types n) (list_of_types ts)) h in
      let same : t ≡ u = same_Some t u e in
      record {
        start = field_start packed laid (layout_of types t);
        is = ap (λ o. o >>? λ l. Some (part (field_start packed laid l) t)) (fit t both.0) ∙ ap (λ x. Some (part (field_start packed laid (layout_of types t)) x)) same;
        deep = ap (is_type_within types n) (sym same) ∙ both.0;
      }
  field_found packed (also t ts) laid (suc k) u h le e =
      let both = and_parts (is_type_within types n t) (list_all (is_type_within types n) (list_of_types ts)) h in
      let next : Layout = beside packed laid (layout_of types t) in
      let grows : next.size ≤ (fields_in (named_layouts types 64) packed ts next).size = fields_grow (named_layouts types 64) packed ts next in
      let f = field_found packed ts next k u both.1 le e in
      record {
        start = f.start;
        is =
            ap (λ o. o >>? λ l. laid_beside packed laid l >>? λ more. field_after (fitting_layouts types) packed ts more k) (fit t both.0)
            ∙ ap (λ o. o >>? λ more. field_after (fitting_layouts types) packed ts more k) (limited_is next (omega (arith, grows, le)))
            ∙ f.is;
        deep = f.deep;
      }

  numbered_found : (packed : Bool) (ts : IrTypes) (o : Option ℕ) (u : IrType) → list_all (is_type_within types n) (list_of_types ts) ≡ true → (fields_in (named_layouts types 64) packed ts (layout 0 1)).size ≤ 4294967296 → (o >>? λ k. slice_get (list_of_types ts) k) ≡ Some u
      → Found types n (o >>? λ k. field_after (fitting_layouts types) packed ts (layout 0 1) k) u
  numbered_found packed ts (Some k) u h le e = field_found packed ts (layout 0 1) k u h le e
  numbered_found packed ts None u h le e = absurd (cc e)

  struct_found : (t : IrType) (i : Word) (u : IrType) → is_struct t ≡ true → list_all (is_type_within types n) (fields_of t) ≡ true → (layout_of types t).size ≤ 4294967296 → part_type t i ≡ Some u → Found types n (part_of (fitting_layouts types) t i) u
  struct_found (One s) i u h p le e = absurd (cc h)
  struct_found (Array c t) i u h p le e = absurd (cc h)
  struct_found (Struct ts) i u h p le e =
      let whole : Layout = fields_in (named_layouts types 64) false ts (layout 0 1) in
      let grown : whole.size ≤ (padded whole).size = next_above whole.size whole.align in
      numbered_found false ts (field_number i) u p (omega (arith, grown, le)) e
  struct_found (Packed ts) i u h p le e = numbered_found true ts (field_number i) u p le e
  struct_found (Named k) i u h p le e = absurd (cc h)

  part_found : (t : IrType) (i : Word) (u : IrType) → is_type_within types (suc n) t ≡ true → n ≤ 63 → part_type (unnamed types t) i ≡ Some u → Found types n (part_of (fitting_layouts types) (unnamed types t) i) u
  part_found (One s) i u h few' e = absurd (cc e)
  part_found (Array c t) i u h few' e =
      let p = and_parts (is_type_within types n t) true (within types n (Array c t) h).parts in
      let same : t ≡ u = same_Some t u e in
      record {
        start = scaled i (layout_of types t).size;
        is = ap (λ o. o >>? λ l. Some (part (scaled i l.size) t)) (fit t p.0) ∙ ap (λ x. Some (part (scaled i (layout_of types t).size) x)) same;
        deep = ap (is_type_within types n) (sym same) ∙ p.0;
      }
  part_found (Struct ts) i u h few' e = let w = within types n (Struct ts) h in struct_found (Struct ts) i u refl w.parts w.size e
  part_found (Packed ts) i u h few' e = let w = within types n (Packed ts) h in struct_found (Packed ts) i u refl w.parts w.size e
  part_found (Named k) i u h few' e =
      let w = within types n (Named k) h in
      let same : (layout_of types (unnamed types (Named k))).size ≡ (layout_of types (Named k)).size = ap (λ l. l.size) (name_layout types n (Named k) h few') in
      let size : (layout_of types (Named k)).size ≤ 4294967296 = w.size in
      struct_found (unnamed types (Named k)) i u w.names w.parts (omega (arith, same, size)) e

pub moved_found : (types : List NamedType) (n before : ℕ) (t : IrType) (is : List Word) (u : IrType) → is_type_within types n t ≡ true → n ≤ 64 → part_at types t is ≡ Some u → (m : ℕ) × (moved types (fitting_layouts types) before t is ≡ Some m)
moved_found types n before t [] u h few e = (before, refl)
moved_found types zero before (One s) (i ∷ is) u h few e = absurd (cc e)
moved_found types zero before (Array c t) (i ∷ is) u h few e = absurd (cc h)
moved_found types zero before (Struct ts) (i ∷ is) u h few e = absurd (cc h)
moved_found types zero before (Packed ts) (i ∷ is) u h few e = absurd (cc h)
moved_found types zero before (Named k) (i ∷ is) u h few e = absurd (cc h)
moved_found types (suc n) before t (i ∷ is) u h few e =
    let a = some_bind (part_type (unnamed types t) i) (λ v. part_at types v is) u e in
    let f = part_found types n (omega arith) t i a.0 h (omega arith) a.1 in
    let r = moved_found types n ((before + f.start) % 2 ^ 64) a.0 is u f.deep (omega arith) a.2 in
    (r.0, ap (λ o. o >>? λ p. moved types (fitting_layouts types) ((before + p.offset) % 2 ^ 64) p.ty is) f.is ∙ r.1)

pub distance_found : (types : List NamedType) (t u : IrType) (i : Word) (is : List Word) → is_type_within types 64 t ≡ true → part_at types t is ≡ Some u → (m : ℕ) × (distance types (fitting_layouts types) t (i ∷ is) ≡ Some m)
distance_found types t u i is h e =
    let r = moved_found types 64 (scaled i (layout_of types t).size) t is u h (omega arith) e in
    (r.0, ap (λ o. o >>? λ l. moved types (fitting_layouts types) (scaled i l.size) t is) (lawful_fits types t h) ∙ r.1)
