-- A type has the same fields through any number of names that is enough, and what the limits say of its parts.
use Rattle.std.proofs.Common.{◌≡◌, ◌∙◌, refl, sym, ap, subst, ℕ, zero, suc, ◌+◌, ◌-◌, ◌<◌, ◌≤◌, Bool, true, false, ◌&&◌, Option, Some, None, List, [], ◌∷◌, ◌++◌, IsTrue, arith, option_map, slice_get}
use Rattle.std.specs.List.{list_all}
use Rattle.std.proofs.lemmas.Bool.{and_parts}
use Rattle.lx_ir.specs.declared.types.NamedType.{NamedType}
use Rattle.lx_ir.specs.IrType.{IrType, One, Array, Struct, Packed, Named, IrTypes, none, also}
use Rattle.lx_ir.specs.Layout.{Layout, layout, beside, layout_of, size_of, unnamed, entry_or, list_of_types, fields_of, parts_of, is_type_within, is_lawful_type}
use Rattle.lx_ir.specs.TypeNodes.{types_of_list}
use Rattle.lx_ir.proofs.Layouts.{within, array_within, fields_within, group, name_layout}
use Rattle.lx_ir.proofs.TypesWithin.{within_more}
use Rattle.lx_slot_types.specs.Sites.{FieldName, names_of, start_of, field_here, fields_at, array_fields_at, struct_fields_at, entry_fields, fields_of_entry, named_fields_at}
use Rattle.lx_slot_sums.specs.Within.{AreFields, IsEntry}

-- more room

within_far : (types : List NamedType) (d n : ℕ) (t : IrType) → is_type_within types n t ≡ true → is_type_within types (d + n) t ≡ true
within_far types zero n t h = let e : n ≡ 0 + n = omega arith in subst (λ k. is_type_within types k t ≡ true) e h
within_far types (suc d) n t h = let e : suc (d + n) ≡ suc d + n = omega arith in subst (λ k. is_type_within types k t ≡ true) e (within_more types (d + n) t (within_far types d n t h))

pub within_most : (types : List NamedType) (n m : ℕ) (t : IrType) → n ≤ m → is_type_within types n t ≡ true → is_type_within types m t ≡ true
within_most types n m t l h = let e : (m - n) + n ≡ m = omega (arith, l) in subst (λ k. is_type_within types k t ≡ true) e (within_far types (m - n) n t h)

pub lawful : (types : List NamedType) (n : ℕ) (t : IrType) → n ≤ 64 → is_type_within types n t ≡ true → IsTrue (is_lawful_type types t)
lawful types n t l h = within_most types n 64 t l h

-- the same fields through more names

module _ (types : List NamedType) (a b : ℕ → ℕ → List FieldName) (ok : IrType → Bool) (same : (t : IrType) → ok t ≡ true → (o : ℕ) → fields_at types a t o ≡ fields_at types b t o) where
  same_struct : (name : Option ℕ) (packed : Bool) (ts : IrTypes) (k : ℕ) (laid : Layout) (o : ℕ) → list_all ok (list_of_types ts) ≡ true → struct_fields_at types a name packed ts k laid o ≡ struct_fields_at types b name packed ts k laid o
  same_struct name packed none k laid o h = refl
  same_struct name packed (also t ts) k laid o h =
      let p = and_parts (ok t) (list_all ok (list_of_types ts)) h in
      let rest = same_struct name packed ts (suc k) (beside packed laid (layout_of types t)) o p.1 in
      λ j. field_here (names_of name k) (λ x. same t p.0 x j) (start_of types packed t laid) (size_of types t) o ++ rest j

  same_entry : (n : ℕ) (t : IrType) (o : ℕ) → list_all ok (fields_of t) ≡ true → entry_fields types a n t o ≡ entry_fields types b n t o
  same_entry n (One s) o h = refl
  same_entry n (Array c t) o h = refl
  same_entry n (Struct ts) o h = same_struct (Some n) false ts 0 (layout 0 1) o h
  same_entry n (Packed ts) o h = same_struct (Some n) true ts 0 (layout 0 1) o h
  same_entry n (Named k) o h = refl

  same_found : (n : ℕ) (e : Option NamedType) (o : ℕ) → list_all ok (fields_of (entry_or e (Named n))) ≡ true → fields_of_entry types a n e o ≡ fields_of_entry types b n e o
  same_found n None o h = refl
  same_found n (Some e) o h = same_entry n e.ty o h

pub alike : (types : List NamedType) (n : ℕ) (t : IrType) (j k : ℕ) → is_type_within types n t ≡ true → n ≤ j → n ≤ k → (o : ℕ) → fields_at types (named_fields_at types j) t o ≡ fields_at types (named_fields_at types k) t o
alike types zero (One s) j k h p q o = refl
alike types zero (Array c t) j k h p q o = absurd (cc)
alike types zero (Struct ts) j k h p q o = absurd (cc)
alike types zero (Packed ts) j k h p q o = absurd (cc)
alike types zero (Named m) j k h p q o = absurd (cc)
alike types (suc n) (One s) j k h p q o = refl
alike types (suc n) (Array c t) j k h p q o =
    let w = and_parts (is_type_within types n t) true (within types n (Array c t) h).parts in
    λ i. array_fields_at (λ x. alike types n t j k w.0 (omega (arith, p)) (omega (arith, q)) x i) c (size_of types t) o
alike types (suc n) (Struct ts) j k h p q o =
    same_struct types (named_fields_at types j) (named_fields_at types k) (is_type_within types n) (λ u g x. alike types n u j k g (omega (arith, p)) (omega (arith, q)) x) None false ts 0 (layout 0 1) o (within types n (Struct ts) h).parts
alike types (suc n) (Packed ts) j k h p q o =
    same_struct types (named_fields_at types j) (named_fields_at types k) (is_type_within types n) (λ u g x. alike types n u j k g (omega (arith, p)) (omega (arith, q)) x) None true ts 0 (layout 0 1) o (within types n (Packed ts) h).parts
alike types (suc n) (Named m) zero k h p q o = absurd (omega (arith, p))
alike types (suc n) (Named m) (suc j) zero h p q o = absurd (omega (arith, q))
alike types (suc n) (Named m) (suc j) (suc k) h p q o =
    same_found types (named_fields_at types j) (named_fields_at types k) (is_type_within types n) (λ u g x. alike types n u j k g (omega (arith, p)) (omega (arith, q)) x) m (slice_get types m) o (within types n (Named m) h).parts

-- what a name names, through as many names as the name itself
pub entry_is : (types : List NamedType) (d n : ℕ) (t : IrType) (o : ℕ) → d ≤ 63 → list_all (is_type_within types d) (fields_of t) ≡ true → Some t ≡ option_map (λ (e : NamedType). e.ty) (slice_get types n) → entry_fields types (named_fields_at types 64) n t o ≡ named_fields_at types 64 n o
entry_is types d n t o few h e =
    sym (same_entry types (named_fields_at types 63) (named_fields_at types 64) (is_type_within types d) (λ u g x. alike types d u 63 64 g few (omega (arith, few)) x) n t o h)
    ∙ found (slice_get types n) e
  where
    found : (f : Option NamedType) → Some t ≡ option_map (λ (x : NamedType). x.ty) f → entry_fields types (named_fields_at types 63) n t o ≡ fields_of_entry types (named_fields_at types 63) n f o
    found None e = absurd (cc)
    found (Some x) e = let k : t ≡ x.ty = cc in ap (λ u. entry_fields types (named_fields_at types 63) n u o) k

-- the parts of a type

pub record Element (types : List NamedType) (depth : ℕ) (u : IrType) : Type 0 where
  pub nests : 0 < depth
  pub part : IsTrue (is_type_within types (depth - 1) u)

pub element : (types : List NamedType) (depth n : ℕ) (e u t : IrType) → Array n e ≡ t → u ≡ e → IsTrue (is_type_within types depth t) → Element types depth u
element types depth n e u t p q h =
    let a = array_within types depth n e t p h in
    record { nests = a.nests; part = subst (λ x. IsTrue (is_type_within types (depth - 1) x)) (sym q) a.part }

pub record Group (types : List NamedType) (depth : ℕ) (packed : Bool) (ys : List IrType) : Type 0 where
  pub nests : 0 < depth
  pub fields : AreFields types (depth - 1) packed ys

group_scalar : (types : List NamedType) (packed : Bool) (ts : IrTypes) → is_type_within types zero (group packed ts) ≡ false
group_scalar types true ts = refl
group_scalar types false ts = refl

group_parts : (types : List NamedType) (packed : Bool) (ts : IrTypes) → parts_of types (group packed ts) ≡ fields_of (group packed ts)
group_parts types true ts = refl
group_parts types false ts = refl

fields_here : (types : List NamedType) (depth : ℕ) (packed : Bool) (xs ys : List IrType) → ys ≡ xs → is_type_within types depth (group packed (types_of_list xs)) ≡ true → Group types depth packed ys
fields_here types zero packed xs ys q h = let a = group_scalar types packed (types_of_list xs) in absurd (cc (a, h))
fields_here types (suc d) packed xs ys q h =
    let w = within types d (group packed (types_of_list xs)) h in
    let k : suc d - 1 ≡ d = omega arith in
    let f = fields_within types d packed xs ys (group packed (types_of_list xs)) refl q (subst (λ us. list_all (is_type_within types d) us ≡ true) (group_parts types packed (types_of_list xs)) w.parts) w.size in
    record { nests = omega arith; fields = record { each = subst (λ n. list_all (is_type_within types n) ys ≡ true) (sym k) f.0; size = f.1 } }

pub group_fields : (types : List NamedType) (depth : ℕ) (packed : Bool) (xs ys : List IrType) (t : IrType) → group packed (types_of_list xs) ≡ t → ys ≡ xs → IsTrue (is_type_within types depth t) → Group types depth packed ys
group_fields types depth packed xs ys t e q h = fields_here types depth packed xs ys q (subst (λ u. is_type_within types depth u ≡ true) (sym e) h)

pub entry_group : (types : List NamedType) (depth : ℕ) (packed : Bool) (xs ys : List IrType) (t : IrType) → group packed (types_of_list xs) ≡ t → ys ≡ xs → IsEntry types depth t → AreFields types depth packed ys
entry_group types depth packed xs ys t e q h =
    let f = fields_within types depth packed xs ys t e q h.parts h.size in
    record { each = f.0; size = f.1 }

-- what a name names

pub record Entry (types : List NamedType) (depth : ℕ) (t : IrType) : Type 0 where
  pub nests : 0 < depth
  pub entry : IsEntry types (depth - 1) t

named_found : (types : List NamedType) (d n : ℕ) (t : IrType) (e : Option NamedType) → Some t ≡ option_map (λ (x : NamedType). x.ty) e → list_all (is_type_within types d) (fields_of (entry_or e (Named n))) ≡ true → size_of types (entry_or e (Named n)) ≤ 4294967296 → IsEntry types (suc d - 1) t
named_found types d n t None p a b = absurd (cc)
named_found types d n t (Some e) p a b =
    let q : e.ty ≡ t = cc in
    let k : d ≡ suc d - 1 = omega arith in
    record {
      parts = subst (λ j. list_all (is_type_within types j) (fields_of t) ≡ true) k (subst (λ u. list_all (is_type_within types d) (fields_of u) ≡ true) q a);
      size = subst (λ u. size_of types u ≤ 4294967296) q b;
    }

pub named_entry : (types : List NamedType) (depth n : ℕ) (t : IrType) → depth ≤ 64 → Some t ≡ option_map (λ (x : NamedType). x.ty) (slice_get types n) → IsTrue (is_type_within types depth (Named n)) → Entry types depth t
named_entry types zero n t few p h = absurd (cc)
named_entry types (suc d) n t few p h =
    let w = within types d (Named n) h in
    let l : (layout_of types (unnamed types (Named n))).size ≡ (layout_of types (Named n)).size = ap (λ (x : Layout). x.size) (name_layout types d (Named n) h (omega (arith, few))) in
    let s : size_of types (Named n) ≤ 4294967296 = w.size in
    record { nests = omega arith; entry = named_found types d n t (slice_get types n) p w.parts (omega (arith, l, s)) }
