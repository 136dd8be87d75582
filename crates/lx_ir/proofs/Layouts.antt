-- Lemmas on layouts.
use Rattle.std.proofs.Common.{◌≡◌, ℕ, ◌+◌, ◌*◌, ◌<◌, ◌≤◌, Bool, true, false, List, [], ◌∷◌, ◌++◌, ◌&&◌, length, get_or, take, drop, nat_le, refl, ap, sym, ◌∙◌, subst, zero, suc, Option, Some, None, ◌-◌, arith, slice_get}
use Rattle.std.proofs.lemmas.List.{take_more, take-append-drop}
use borrow.Author.Tests.{leb-true}
use Rattle.std.specs.List.{list_all}
use Rattle.std.proofs.lemmas.Bool.{and_parts}
use Rattle.lx_words.specs.declared.word.Width.TheVariants.{W1, W8, W16, W32, W64}
use Rattle.lx_words.proofs.Tests.{next_above}
use Rattle.lx_ir.specs.declared.types.Scalar.{Scalar}
use Rattle.lx_ir.specs.declared.types.Scalar.TheVariants.{Int, Ptr}
use Rattle.lx_ir.specs.declared.types.NamedType.{NamedType}
use Rattle.lx_ir.specs.IrType.{IrType, One, Array, Struct, Packed, Named, IrTypes, none, also}
use Rattle.lx_ir.specs.Layout.{Layout, layout, beside, padded, layout_in, fields_in, named_layouts, layout_of, layout_of_entry, laid_fields, field_start, size_of, entry_or, scalar_size, unnamed, list_of_types, fields_of, parts_of, is_struct, names_struct, is_scalar, is_type_within}
use Rattle.lx_ir.specs.TypeNodes.{types_of_list}

-- alignments are above 0

pub scalar_align : (s : Scalar) → 0 < scalar_size s
scalar_align (Int W1) = omega arith
scalar_align (Int W8) = omega arith
scalar_align (Int W16) = omega arith
scalar_align (Int W32) = omega arith
scalar_align (Int W64) = omega arith
scalar_align Ptr = omega arith

beside_align : (packed : Bool) (a b : Layout) → 0 < a.align → 0 < (beside packed a b).align
beside_align true a b h = omega arith
beside_align false a b h = omega arith

mutual
  pub layout_align : (named : ℕ → Layout) → ((k : ℕ) → 0 < (named k).align) → (t : IrType) → 0 < (layout_in named t).align
  layout_align named h (One s) = scalar_align s
  layout_align named h (Array n t) = layout_align named h t
  layout_align named h (Struct ts) = fields_align named h false ts (layout 0 1) (omega arith)
  layout_align named h (Packed ts) = fields_align named h true ts (layout 0 1) (omega arith)
  layout_align named h (Named k) = h k

  pub fields_align : (named : ℕ → Layout) → ((k : ℕ) → 0 < (named k).align) → (packed : Bool) (ts : IrTypes) (laid : Layout) → 0 < laid.align → 0 < (fields_in named packed ts laid).align
  fields_align named h packed none laid a = a
  fields_align named h packed (also t ts) laid a = fields_align named h packed ts (beside packed laid (layout_in named t)) (beside_align packed laid (layout_in named t) a)

entry_align : (named : ℕ → Layout) → ((k : ℕ) → 0 < (named k).align) → (o : Option NamedType) → 0 < (layout_of_entry named o).align
entry_align named h None = omega arith
entry_align named h (Some e) = layout_align named h e.ty

pub named_align : (types : List NamedType) (n k : ℕ) → 0 < (named_layouts types n k).align
named_align types zero k = omega arith
named_align types (suc n) k = entry_align (named_layouts types n) (λ j. named_align types n j) (slice_get types k)

pub type_align : (types : List NamedType) (t : IrType) → 0 < (layout_of types t).align
type_align types t = layout_align (named_layouts types 64) (λ k. named_align types 64 k) t

-- fields take room

pub beside_grows : (packed : Bool) (a b : Layout) → a.size ≤ (beside packed a b).size
beside_grows true a b = omega arith
beside_grows false a b = omega (arith, next_above a.size b.align)

pub fields_grow : (named : ℕ → Layout) (packed : Bool) (ts : IrTypes) (laid : Layout) → laid.size ≤ (fields_in named packed ts laid).size
fields_grow named packed none laid = omega arith
fields_grow named packed (also t ts) laid =
    let a : laid.size ≤ (beside packed laid (layout_in named t)).size = beside_grows packed laid (layout_in named t) in
    let b : (beside packed laid (layout_in named t)).size ≤ (fields_in named packed ts (beside packed laid (layout_in named t))).size =
    fields_grow named packed ts (beside packed laid (layout_in named t)) in
    omega arith

pub fields_append : (named : ℕ → Layout) (packed : Bool) (xs ys : List IrType) (laid : Layout) → fields_in named packed (types_of_list (xs ++ ys)) laid ≡ fields_in named packed (types_of_list ys) (fields_in named packed (types_of_list xs) laid)
fields_append named packed [] ys laid = refl
fields_append named packed (x ∷ xs) ys laid = fields_append named packed xs ys (beside packed laid (layout_in named x))

-- the fields before the next one, and that one
pub fields_more : (types : List NamedType) (packed : Bool) (xs : List IrType) (i : ℕ) (x : IrType) → i < length xs → x ≡ get_or xs i x → laid_fields types packed (types_of_list (take (i + 1) xs)) ≡ beside packed (laid_fields types packed (types_of_list (take i xs))) (layout_of types x)
fields_more types packed xs i x h e =
    ap (λ zs. laid_fields types packed (types_of_list zs)) (take_more xs i x h)
    ∙ (fields_append (named_layouts types 64) packed (take i xs) (get_or xs i x ∷ []) (layout 0 1)
    ∙ ap (λ y. beside packed (laid_fields types packed (types_of_list (take i xs))) (layout_of types y)) (sym e))

-- so many fields take no more room than all
pub front_le : (types : List NamedType) (packed : Bool) (xs : List IrType) (i : ℕ) → (laid_fields types packed (types_of_list (take i xs))).size ≤ (laid_fields types packed (types_of_list xs)).size
front_le types packed xs i =
    let a : (laid_fields types packed (types_of_list (take i xs))).size ≤ (fields_in (named_layouts types 64) packed (types_of_list (drop i xs)) (laid_fields types packed (types_of_list (take i xs)))).size =
    fields_grow (named_layouts types 64) packed (types_of_list (drop i xs)) (laid_fields types packed (types_of_list (take i xs))) in
    let e : laid_fields types packed (types_of_list xs) ≡ fields_in (named_layouts types 64) packed (types_of_list (drop i xs)) (laid_fields types packed (types_of_list (take i xs))) =
    ap (λ zs. laid_fields types packed (types_of_list zs)) (sym (take-append-drop i xs)) ∙ fields_append (named_layouts types 64) packed (take i xs) (drop i xs) (layout 0 1) in
    omega (arith, a, ap (λ l. l.size) e)

-- a type has the same layout through any number of names that is enough

pub same_fields : (a b : ℕ → Layout) (ok : IrType → Bool) → ((t : IrType) → ok t ≡ true → layout_in a t ≡ layout_in b t) → (packed : Bool) (ts : IrTypes) (laid : Layout) → list_all ok (list_of_types ts) ≡ true → fields_in a packed ts laid ≡ fields_in b packed ts laid
same_fields a b ok same packed none laid h = refl
same_fields a b ok same packed (also t ts) laid h =
    let p = and_parts (ok t) (list_all ok (list_of_types ts)) h in
    ap (λ l. fields_in a packed ts (beside packed laid l)) (same t p.0) ∙ same_fields a b ok same packed ts (beside packed laid (layout_in b t)) p.1

pub same_struct : (a b : ℕ → Layout) (ok : IrType → Bool) → ((t : IrType) → ok t ≡ true → layout_in a t ≡ layout_in b t) → (t : IrType) → is_struct t ≡ true → list_all ok (fields_of t) ≡ true → layout_in a t ≡ layout_in b t
same_struct a b ok same (One s) s' h = cc
same_struct a b ok same (Array n t) s' h = cc
same_struct a b ok same (Struct ts) s' h = ap padded (same_fields a b ok same false ts (layout 0 1) h)
same_struct a b ok same (Packed ts) s' h = same_fields a b ok same true ts (layout 0 1) h
same_struct a b ok same (Named k) s' h = cc

-- what the limits say of a type that is no scalar
pub record Within (types : List NamedType) (n : ℕ) (t : IrType) : Type 0 where
  pub names : names_struct types t ≡ true
  pub size : size_of types t ≤ 4294967296
  pub parts : list_all (is_type_within types n) (parts_of types t) ≡ true

pub within : (types : List NamedType) (n : ℕ) (t : IrType) → is_type_within types (suc n) t ≡ true → Within types n t
within types n t h =
    let p = and_parts (names_struct types t && nat_le (size_of types t) 4294967296) (list_all (is_type_within types n) (parts_of types t)) h in
    let q = and_parts (names_struct types t) (nat_le (size_of types t) 4294967296) p.0 in
    record { names = q.0; size = leb-true _ _ q.1; parts = p.1 }

same_entry : (types : List NamedType) (n q j k : ℕ) → ((t : IrType) → is_type_within types n t ≡ true → layout_in (named_layouts types j) t ≡ layout_in (named_layouts types k) t) → (o : Option NamedType) → is_struct (entry_or o (Named q)) ≡ true → list_all (is_type_within types n) (fields_of (entry_or o (Named q))) ≡ true → layout_of_entry (named_layouts types j) o ≡ layout_of_entry (named_layouts types k) o
same_entry types n q j k same None s h = cc
same_entry types n q j k same (Some e) s h = same_struct (named_layouts types j) (named_layouts types k) (is_type_within types n) same e.ty s h

pub same_layout : (types : List NamedType) (n : ℕ) (t : IrType) (j k : ℕ) → is_type_within types n t ≡ true → n ≤ j → n ≤ k → layout_in (named_layouts types j) t ≡ layout_in (named_layouts types k) t
same_layout types zero (One s) j k h a b = refl
same_layout types zero (Array n t) j k h a b = cc
same_layout types zero (Struct ts) j k h a b = cc
same_layout types zero (Packed ts) j k h a b = cc
same_layout types zero (Named q) j k h a b = cc
same_layout types (suc n) (One s) j k h a b = refl
same_layout types (suc n) (Array c t) j k h a b =
    let w = within types n (Array c t) h in
    let p = and_parts (is_type_within types n t) true w.parts in
    ap (λ l. layout (c * l.size) l.align) (same_layout types n t j k p.0 (omega arith) (omega arith))
same_layout types (suc n) (Struct ts) j k h a b =
    same_struct (named_layouts types j) (named_layouts types k) (is_type_within types n) (λ u g. same_layout types n u j k g (omega arith) (omega arith)) (Struct ts) refl (within types n (Struct ts) h).parts
same_layout types (suc n) (Packed ts) j k h a b =
    same_struct (named_layouts types j) (named_layouts types k) (is_type_within types n) (λ u g. same_layout types n u j k g (omega arith) (omega arith)) (Packed ts) refl (within types n (Packed ts) h).parts
same_layout types (suc n) (Named q) zero k h a b = absurd (omega arith)
same_layout types (suc n) (Named q) (suc j) zero h a b = absurd (omega arith)
same_layout types (suc n) (Named q) (suc j) (suc k) h a b =
    same_entry types n q j k (λ u g. same_layout types n u j k g (omega arith) (omega arith)) (slice_get types q) (within types n (Named q) h).names (within types n (Named q) h).parts

-- a name lies as the struct that it names

named_struct : (types : List NamedType) (n q : ℕ) → n ≤ 63 → (o : Option NamedType) → is_struct (entry_or o (Named q)) ≡ true → list_all (is_type_within types n) (fields_of (entry_or o (Named q))) ≡ true → layout_of_entry (named_layouts types 63) o ≡ layout_of types (entry_or o (Named q))
named_struct types n q a None s h = cc
named_struct types n q a (Some e) s h = same_struct (named_layouts types 63) (named_layouts types 64) (is_type_within types n) (λ u g. same_layout types n u 63 64 g (omega arith) (omega arith)) e.ty s h

pub name_layout : (types : List NamedType) (n : ℕ) (t : IrType) → is_type_within types (suc n) t ≡ true → n ≤ 63 → layout_of types (unnamed types t) ≡ layout_of types t
name_layout types n (One s) h a = refl
name_layout types n (Array c t) h a = refl
name_layout types n (Struct ts) h a = refl
name_layout types n (Packed ts) h a = refl
name_layout types n (Named q) h a = sym (named_struct types n q a (slice_get types q) (within types n (Named q) h).names (within types n (Named q) h).parts)

-- what the limits say of a type by its node

abbrev is_array : IrType → Bool
is_array (Array n t) = true
is_array _ = false

-- a struct, with its name or without it, that lies within the limits
pub record StructFacts (types : List NamedType) (depth : ℕ) (t u : IrType) : Type 0 where
  pub struct : is_struct u ≡ true
  pub parts : list_all (is_type_within types (depth - 1)) (fields_of u) ≡ true
  pub nests : 0 < depth
  pub size : size_of types u ≤ 4294967296
  pub same : layout_of types u ≡ layout_of types t

down : (types : List NamedType) (d : ℕ) (us : List IrType) → list_all (is_type_within types d) us ≡ true → list_all (is_type_within types (suc d - 1)) us ≡ true
down types d us h = let e : d ≡ suc d - 1 = omega arith in subst (λ k. list_all (is_type_within types k) us ≡ true) e h

struct_facts : (types : List NamedType) (depth : ℕ) (t : IrType) → is_scalar t ≡ false → is_array t ≡ false → is_type_within types depth t ≡ true → depth ≤ 64 → StructFacts types depth t (unnamed types t)
struct_facts types zero t s a h l = cc
struct_facts types (suc d) (One x) s a h l = cc
struct_facts types (suc d) (Array n t) s a h l = cc
struct_facts types (suc d) (Struct ts) s a h l =
    let w = within types d (Struct ts) h in record { struct = refl; parts = down types d (list_of_types ts) w.parts; nests = omega arith; size = w.size; same = refl }
struct_facts types (suc d) (Packed ts) s a h l =
    let w = within types d (Packed ts) h in record { struct = refl; parts = down types d (list_of_types ts) w.parts; nests = omega arith; size = w.size; same = refl }
struct_facts types (suc d) (Named q) s a h l =
    let w = within types d (Named q) h in
    let e = name_layout types d (Named q) h (omega arith) in
    record {
      struct = w.names;
      parts = down types d (fields_of (unnamed types (Named q))) w.parts;
      nests = omega arith;
      size = subst (λ (x : Layout). x.size ≤ 4294967296) (sym e) w.size;
      same = e;
    }

pub record ArrayFacts (types : List NamedType) (depth n : ℕ) (e : IrType) : Type 0 where
  pub nests : 0 < depth
  pub part : is_type_within types (depth - 1) e ≡ true
  pub size : n * size_of types e ≤ 4294967296

array_facts : (types : List NamedType) (depth n : ℕ) (e : IrType) → is_type_within types depth (Array n e) ≡ true → ArrayFacts types depth n e
array_facts types zero n e h = cc
array_facts types (suc d) n e h =
    let w = within types d (Array n e) h in
    let p = and_parts (is_type_within types d e) true w.parts in
    let k : d ≡ suc d - 1 = omega arith in
    record { nests = omega arith; part = subst (λ j. is_type_within types j e ≡ true) k p.0; size = w.size }

pub array_within : (types : List NamedType) (depth n : ℕ) (e t : IrType) → Array n e ≡ t → is_type_within types depth t ≡ true → ArrayFacts types depth n e
array_within types depth n e t p h = array_facts types depth n e (subst (λ x. is_type_within types depth x ≡ true) (sym p) h)

pub list_back : (ts : List IrType) → list_of_types (types_of_list ts) ≡ ts
list_back [] = refl
list_back (t ∷ ts) = ap (λ us. t ∷ us) (list_back ts)

abbrev pub group : Bool → IrTypes → IrType
group true ts = Packed ts
group false ts = Struct ts

group_parts : (types : List NamedType) (depth : ℕ) (packed : Bool) (xs : List IrType) → list_all (is_type_within types depth) (fields_of (group packed (types_of_list xs))) ≡ true → list_all (is_type_within types depth) xs ≡ true
group_parts types depth true xs h = subst (λ us. list_all (is_type_within types depth) us ≡ true) (list_back xs) h
group_parts types depth false xs h = subst (λ us. list_all (is_type_within types depth) us ≡ true) (list_back xs) h

group_size : (types : List NamedType) (packed : Bool) (xs : List IrType) → size_of types (group packed (types_of_list xs)) ≤ 4294967296 → (laid_fields types packed (types_of_list xs)).size ≤ 4294967296
group_size types true xs h = h
group_size types false xs h = let l = laid_fields types false (types_of_list xs) in omega (arith, next_above l.size l.align, h)

-- the fields of a struct lie within the limits
pub fields_within : (types : List NamedType) (depth : ℕ) (packed : Bool) (xs ys : List IrType) (t : IrType) → group packed (types_of_list xs) ≡ t → ys ≡ xs → list_all (is_type_within types depth) (fields_of t) ≡ true → size_of types t ≤ 4294967296 → (list_all (is_type_within types depth) ys ≡ true) × ((laid_fields types packed (types_of_list ys)).size ≤ 4294967296)
fields_within types depth packed xs ys t e f h s =
    let a = group_parts types depth packed xs (subst (λ x. list_all (is_type_within types depth) (fields_of x) ≡ true) (sym e) h) in
    let b = group_size types packed xs (subst (λ x. size_of types x ≤ 4294967296) (sym e) s) in
    (subst (λ us. list_all (is_type_within types depth) us ≡ true) (sym f) a, subst (λ us. (laid_fields types packed (types_of_list us)).size ≤ 4294967296) (sym f) b)

-- a struct that a lawful type is, with its name or without it
lawful_struct : (types : List NamedType) (t : IrType) → is_type_within types 64 t ≡ true → is_struct (unnamed types t) ≡ true → StructFacts types 64 t (unnamed types t)
lawful_struct types (One x) h s = cc
lawful_struct types (Array n t) h s = cc
lawful_struct types (Struct ts) h s = struct_facts types 64 (Struct ts) refl refl h (omega arith)
lawful_struct types (Packed ts) h s = struct_facts types 64 (Packed ts) refl refl h (omega arith)
lawful_struct types (Named q) h s = struct_facts types 64 (Named q) refl refl h (omega arith)

group_is_struct : (packed : Bool) (ts : IrTypes) → is_struct (group packed ts) ≡ true
group_is_struct true ts = refl
group_is_struct false ts = refl

-- the fields of a struct that a lawful type is
pub lawful_fields : (types : List NamedType) (packed : Bool) (xs ys : List IrType) (t u : IrType) → group packed (types_of_list xs) ≡ u → ys ≡ xs → u ≡ unnamed types t → is_type_within types 64 t ≡ true → (list_all (is_type_within types 63) ys ≡ true) × ((laid_fields types packed (types_of_list ys)).size ≤ 4294967296)
lawful_fields types packed xs ys t u e f g h =
    let s : is_struct (unnamed types t) ≡ true = subst (λ x. is_struct x ≡ true) (e ∙ g) (group_is_struct packed (types_of_list xs)) in
    let k = lawful_struct types t h s in
    fields_within types 63 packed xs ys (unnamed types t) (e ∙ g) f k.parts k.size

-- where fields begin

start_le : (packed : Bool) (a b : Layout) → field_start packed a b ≤ (beside packed a b).size
start_le true a b = omega arith
start_le false a b = omega arith

-- a field begins within its struct
pub start_within : (types : List NamedType) (packed : Bool) (xs : List IrType) (i : ℕ) (x : IrType) → i < length xs → x ≡ get_or xs i x → (laid_fields types packed (types_of_list xs)).size ≤ 4294967296 → field_start packed (laid_fields types packed (types_of_list (take i xs))) (layout_of types x) ≤ 4294967296
start_within types packed xs i x h e s =
    let a = start_le packed (laid_fields types packed (types_of_list (take i xs))) (layout_of types x) in
    let b = fields_more types packed xs i x h e in
    omega (arith, a, ap (λ (l : Layout). l.size) b, front_le types packed xs (i + 1))
