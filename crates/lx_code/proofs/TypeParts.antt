-- The parts of types within the limits.
use Rattle.std.proofs.Common.{◌≡◌, ℕ, zero, suc, ◌+◌, ◌≤◌, Bool, true, false, ◌&&◌, Option, Some, None, List, [], ◌∷◌, IsTrue, ℤ, pos, refl, sym, ap, ◌∙◌, subst, arith}
use Rattle.std.specs.Prelude.{slice_get, option_map, nat_le, nat_abs, ◌*ℤ◌}
use Rattle.std.specs.List.{list_all}
use Rattle.std.proofs.lemmas.Bool.{and_parts}
use Rattle.lx_ir.specs.declared.types.NamedType.{NamedType}
use Rattle.lx_ir.specs.IrType.{IrType, One, Array, Struct, Packed, Named, IrTypes, none, also}
use Rattle.lx_ir.specs.Layout.{Layout, layout, beside, layout_of, size_of, align_of, unnamed, fields_of, list_of_types, parts_of, is_struct, names_struct, is_lawful_type, is_type_within, Part, field_after, field_of, offset_of, part_or, part_of}
use Rattle.lx_ir.proofs.TypesWithin.{all_more, within_more}
use Rattle.lx_code.specs.Parts.{IsPart, element_in}

-- a type that nests less deep is within more room

-- what the limits say of a type

pub record Limits (types : List NamedType) (t : IrType) : Type 0 where
  pub names : names_struct types t ≡ true
  pub parts : list_all (is_lawful_type types) (parts_of types t) ≡ true

limits_at : (types : List NamedType) (n : ℕ) (t : IrType) → ((u : IrType) → is_type_within types n u ≡ true → is_lawful_type types u ≡ true) → is_type_within types (suc n) t ≡ true → Limits types t
limits_at types n t more w =
    let a = and_parts (names_struct types t && nat_le (size_of types t) 4294967296) (list_all (is_type_within types n) (parts_of types t)) w in
    record {
      names = (and_parts (names_struct types t) (nat_le (size_of types t) 4294967296) a.0).0;
      parts = all_more (is_type_within types n) (is_lawful_type types) more (parts_of types t) a.1;
    }

pub limits_of : (types : List NamedType) (t : IrType) → IsTrue (is_lawful_type types t) → Limits types t
limits_of types t h = limits_at types 63 t (λ u w. within_more types 63 u w) h

-- fields

field_type : (types : List NamedType) (packed : Bool) (laid : Layout) (ts : IrTypes) (k : ℕ) (part : Part) → field_after types packed laid ts k ≡ Some part → slice_get (list_of_types ts) k ≡ Some part.ty
field_type types true laid none k part e = absurd (cc)
field_type types false laid none k part e = absurd (cc)
field_type types true laid (also t ts) zero part e = ap (option_map (λ (x : Part). x.ty)) e
field_type types false laid (also t ts) zero part e = ap (option_map (λ (x : Part). x.ty)) e
field_type types true laid (also t ts) (suc k) part e = field_type types true (beside true laid (layout_of types t)) ts k part e
field_type types false laid (also t ts) (suc k) part e = field_type types false (beside false laid (layout_of types t)) ts k part e

field_is : (types : List NamedType) (t : IrType) (k : ℕ) (part : Part) → field_of types t k ≡ Some part → slice_get (fields_of t) k ≡ Some part.ty
field_is types (One s) k part e = absurd (cc)
field_is types (Array n t) k part e = absurd (cc)
field_is types (Struct ts) k part e = field_type types false (layout 0 1) ts k part e
field_is types (Packed ts) k part e = field_type types true (layout 0 1) ts k part e
field_is types (Named n) k part e = absurd (cc)

struct_stays : (types : List NamedType) (t : IrType) → is_struct t ≡ true → unnamed types t ≡ t
struct_stays types (One s) h = refl
struct_stays types (Array n t) h = refl
struct_stays types (Struct ts) h = refl
struct_stays types (Packed ts) h = refl
struct_stays types (Named k) h = absurd (cc)

-- a name that names a struct is written out once
unnamed_once : (types : List NamedType) (t : IrType) → names_struct types t ≡ true → unnamed types (unnamed types t) ≡ unnamed types t
unnamed_once types (One s) h = refl
unnamed_once types (Array n t) h = refl
unnamed_once types (Struct ts) h = refl
unnamed_once types (Packed ts) h = refl
unnamed_once types (Named k) h = struct_stays types (unnamed types (Named k)) h

-- there is no such field: the type stays
none_for : (types : List NamedType) (t : IrType) (o : Option Part) → IsTrue (is_lawful_type types t) → o ≡ None → IsPart types 0 t (part_or o (unnamed types t))
none_for types t o h e =
    subst (λ (x : Option Part). IsPart types 0 t (part_or x (unnamed types t))) (sym e)
    (record { offset = refl; ty = sym (unnamed_once types t (limits_of types t h).names) })

no_part : (o : Option Part) → option_map (λ (x : Part). x.offset) o ≡ None → o ≡ None
no_part None e = refl
no_part (Some part) e = absurd (cc)

pub no_field : (types : List NamedType) (t : IrType) (k : ℕ) → IsTrue (is_lawful_type types t) → None ≡ offset_of types t k →
    IsPart types 0 t (part_or (field_of types (unnamed types t) k) (unnamed types t))
no_field types t k h e = none_for types t (field_of types (unnamed types t) k) h (no_part _ (sym e))

some_part : (types : List NamedType) (t whole : IrType) (k n : ℕ) (u : IrType) (o : Option Part) → field_of types whole k ≡ o → Some (pos n) ≡ option_map (λ (x : Part). x.offset) o →
    Some u ≡ slice_get (fields_of whole) k → IsPart types n u (part_or o whole)
some_part types t whole k n u None is e f = absurd (cc)
some_part types t whole k n u (Some part) is e f =
    let a : pos n ≡ part.offset = cc in
    let g : Some u ≡ Some part.ty = f ∙ field_is types whole k part is in
    let b : u ≡ part.ty = cc in
    record { offset = a; ty = ap (unnamed types) b }

pub found_field : (types : List NamedType) (t : IrType) (k n : ℕ) (u : IrType) → Some (pos n) ≡ offset_of types t k → Some u ≡ slice_get (fields_of (unnamed types t)) k →
    IsPart types n u (part_or (field_of types (unnamed types t) k) (unnamed types t))
found_field types t k n u e f = some_part types t (unnamed types t) k n u (field_of types (unnamed types t) k) refl e f

nothing_there : (types : List NamedType) (whole : IrType) (k n : ℕ) (o : Option Part) → field_of types whole k ≡ o → Some (pos n) ≡ option_map (λ (x : Part). x.offset) o →
    None ≡ slice_get (fields_of whole) k → ⊥
nothing_there types whole k n None is e f = cc
nothing_there types whole k n (Some part) is e f =
    let g : ◌≡◌ {A = Option IrType} None (Some part.ty) = f ∙ field_is types whole k part is in
    cc

pub lost_field : (types : List NamedType) (t : IrType) (k n : ℕ) → Some (pos n) ≡ offset_of types t k → None ≡ slice_get (fields_of (unnamed types t)) k → ⊥
lost_field types t k n e f = nothing_there types (unnamed types t) k n (field_of types (unnamed types t) k) refl e f

all_sized : (types : List NamedType) (ts : List IrType) (k : ℕ) (u : IrType) → list_all (is_lawful_type types) ts ≡ true → slice_get ts k ≡ Some u → is_lawful_type types u ≡ true
all_sized types [] k u h e = absurd (cc)
all_sized types (t ∷ ts) zero u h e =
    let s : t ≡ u = cc in
    subst (λ x. is_lawful_type types x ≡ true) s ((and_parts (is_lawful_type types t) (list_all (is_lawful_type types) ts) h).0)
all_sized types (t ∷ ts) (suc k) u h e = all_sized types ts k u ((and_parts (is_lawful_type types t) (list_all (is_lawful_type types) ts) h).1) e

-- a field of a type within the limits is within them
pub sized_field : (types : List NamedType) (t : IrType) (k : ℕ) (u : IrType) → IsTrue (is_lawful_type types t) → Some u ≡ slice_get (fields_of (unnamed types t)) k → IsTrue (is_lawful_type types u)
sized_field types (Array n t) k u h e = absurd (cc)
sized_field types (One s) k u h e = absurd (cc)
sized_field types (Struct ts) k u h e = all_sized types (fields_of (Struct ts)) k u ((limits_of types (Struct ts) h).parts) (sym e)
sized_field types (Packed ts) k u h e = all_sized types (fields_of (Packed ts)) k u ((limits_of types (Packed ts) h).parts) (sym e)
sized_field types (Named j) k u h e = all_sized types (fields_of (unnamed types (Named j))) k u ((limits_of types (Named j) h).parts) (sym e)

-- and so is an element of an array
abbrev list_of_element : IrType → List IrType
list_of_element (Array n t) = t ∷ []
list_of_element t = []

no_element : (t u : IrType) → is_struct t ≡ true → Some u ≡ element_in t → ⊥
no_element (One s) u h e = cc
no_element (Array n t) u h e = cc
no_element (Struct ts) u h e = cc
no_element (Packed ts) u h e = cc
no_element (Named k) u h e = cc

element_parts : (types : List NamedType) (t u : IrType) → names_struct types t ≡ true → Some u ≡ element_in (unnamed types t) → parts_of types t ≡ u ∷ []
element_parts types (One s) u h e = absurd (cc)
element_parts types (Array m t) u h e =
    let s : u ≡ t = cc in
    ap (λ x. x ∷ []) (sym s)
element_parts types (Struct ts) u h e = absurd (cc)
element_parts types (Packed ts) u h e = absurd (cc)
element_parts types (Named k) u h e = absurd (no_element (unnamed types (Named k)) u h e)

pub sized_element : (types : List NamedType) (t u : IrType) → IsTrue (is_lawful_type types t) → Some u ≡ element_in (unnamed types t) → IsTrue (is_lawful_type types u)
sized_element types t u h e =
    let l = limits_of types t h in
    let a = subst (λ xs. list_all (is_lawful_type types) xs ≡ true) (element_parts types t u l.names e) l.parts in
    (and_parts (is_lawful_type types u) true a).0

-- the part that an index names

pub field_part : (types : List NamedType) (t : IrType) (i : ℤ) → None ≡ element_in t → part_of types t i ≡ part_or (field_of types t (nat_abs i)) t
field_part types (One s) i h = refl
field_part types (Array n t) i h = absurd (cc)
field_part types (Struct ts) i h = refl
field_part types (Packed ts) i h = refl
field_part types (Named k) i h = refl

abbrev element_from : List NamedType → IrType → ℤ → Part
element_from types u i = record { offset = i *ℤ pos (size_of types u); ty = u }

pub element_part : (types : List NamedType) (t u : IrType) (i : ℤ) → Some u ≡ element_in t → part_of types t i ≡ element_from types u i
element_part types (One s) u i e = absurd (cc)
element_part types (Array m t) u i e =
    let s : t ≡ u = cc in
    ap (λ x. element_from types x i) s
element_part types (Struct ts) u i e = absurd (cc)
element_part types (Packed ts) u i e = absurd (cc)
element_part types (Named k) u i e = absurd (cc)
