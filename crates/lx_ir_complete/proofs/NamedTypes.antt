-- The name of a type of a lawful module is a lawful type.
use Rattle.std.proofs.Common.{◌≡◌, ℕ, ◌<◌, ◌≤◌, List, Bool, true, false, ◌&&◌, Option, Some, None, refl, sym, ap, ◌∙◌, subst, arith, slice_get}
use Rattle.std.specs.Prelude.{nat_le}
use Rattle.std.specs.List.{list_all}
use Rattle.std.proofs.lemmas.Bool.{and_parts}
use Rattle.lx_words.proofs.Tests.{three_true}
use Rattle.lx_ir.specs.declared.types.NamedType.{NamedType}
use Rattle.lx_ir.specs.IrType.{IrType, One, Array, Struct, Packed, Named, IrTypes, none, also}
use Rattle.lx_ir.specs.Layout.{Layout, layout, beside, padded, layout_in, fields_in, layout_of_entry, named_layouts, size_of, list_of_types, entry_or, fields_of, is_struct, names_struct, is_type_within, is_lawful_type}
use Rattle.lx_ir.proofs.Layouts.{same_layout}

-- fields lie alike through 63 names and through 64
fields_alike : (types : List NamedType) (packed : Bool) (ts : IrTypes) (laid : Layout) → list_all (is_type_within types 63) (list_of_types ts) ≡ true → fields_in (named_layouts types 63) packed ts laid ≡ fields_in (named_layouts types 64) packed ts laid
fields_alike types packed none laid h = refl
fields_alike types packed (also t ts) laid h =
    let both = and_parts (is_type_within types 63 t) (list_all (is_type_within types 63) (list_of_types ts)) h in
    ap (λ l. fields_in (named_layouts types 63) packed ts (beside packed laid l)) (same_layout types 63 t 63 64 both.0 (omega arith) (omega arith))
    ∙ fields_alike types packed ts (beside packed laid (layout_in (named_layouts types 64) t)) both.1

-- what the limits say of a type that is written with its fields
parts_within : (types : List NamedType) (t : IrType) (parts : Bool) → (names_struct types t && nat_le (size_of types t) 4294967296 && parts) ≡ true → (nat_le (size_of types t) 4294967296 ≡ true) × (parts ≡ true)
parts_within types t parts h =
    let both = and_parts (names_struct types t && nat_le (size_of types t) 4294967296) parts h in
    ((and_parts (names_struct types t) (nat_le (size_of types t) 4294967296) both.0).1, both.1)

struct_alike : (types : List NamedType) (t : IrType) → is_struct t ≡ true → list_all (is_type_within types 63) (fields_of t) ≡ true → layout_in (named_layouts types 63) t ≡ layout_in (named_layouts types 64) t
struct_alike types (One s) e h = cc e
struct_alike types (Array n t) e h = cc e
struct_alike types (Struct ts) e h = ap padded (fields_alike types false ts (layout 0 1) h)
struct_alike types (Packed ts) e h = fields_alike types true ts (layout 0 1) h
struct_alike types (Named k) e h = cc e

-- the fields of a lawful struct, and its size
struct_within : (types : List NamedType) (t : IrType) → is_struct t ≡ true → is_lawful_type types t ≡ true → (nat_le (size_of types t) 4294967296 ≡ true) × (list_all (is_type_within types 63) (fields_of t) ≡ true)
struct_within types (One s) e h = cc e
struct_within types (Array n t) e h = cc e
struct_within types (Struct ts) e h = parts_within types (Struct ts) (list_all (is_type_within types 63) (list_of_types ts)) h
struct_within types (Packed ts) e h = parts_within types (Packed ts) (list_all (is_type_within types 63) (list_of_types ts)) h
struct_within types (Named k) e h = cc e

-- the limits, by the entry that a name has
abbrev entry_within : List NamedType → ℕ → Option NamedType → Bool
entry_within types k entry =
    is_struct (entry_or entry (Named k)) && nat_le (layout_of_entry (named_layouts types 63) entry).size 4294967296 && list_all (is_type_within types 63) (fields_of (entry_or entry (Named k)))

entry_lawful : (types : List NamedType) (k : ℕ) (t : NamedType) → is_struct t.ty ≡ true → is_lawful_type types t.ty ≡ true → entry_within types k (Some t) ≡ true
entry_lawful types k t e h =
    let w = struct_within types t.ty e h in
    three_true (is_struct t.ty) (nat_le (layout_in (named_layouts types 63) t.ty).size 4294967296) (list_all (is_type_within types 63) (fields_of t.ty))
    e (ap (λ l. nat_le l.size 4294967296) (struct_alike types t.ty e w.1) ∙ w.0) w.1

-- A name of a lawful struct is a lawful type.
pub name_is_lawful : (types : List NamedType) (k : ℕ) (t : NamedType) → slice_get types k ≡ Some t → is_struct t.ty ≡ true → is_lawful_type types t.ty ≡ true → is_lawful_type types (Named k) ≡ true
name_is_lawful types k t at e h = ap (entry_within types k) at ∙ entry_lawful types k t e h
