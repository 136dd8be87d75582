-- Each field that a path through a lawful type leads to is in the lists.
use Rattle.std.proofs.Common.{◌≡◌, ◌∙◌, refl, sym, ap, subst, ℕ, zero, suc, ◌+◌, ◌*◌, ◌-◌, ◌/◌, ◌%◌, ◌<◌, ◌≤◌, Bool, true, false, ◌&&◌, if◌then◌else◌, nat_eq, nat_lt, nat_le, Option, Some, None, List, [], ◌∷◌, ◌++◌, inl, arith, slice_get}
use Rattle.std.proofs.lemmas.Bool.Decides.{nat_tests}
use Rattle.std.proofs.lemmas.Nat.{div-mul-add, mod-mul-add}
use Rattle.std.proofs.lemmas.Bool.{and_from}
use Rattle.lx_words.proofs.Tests.{less_true, eq_true, le_true}
use Rattle.lx_ir.specs.declared.types.NamedType.{NamedType}
use Rattle.lx_ir.specs.IrType.{IrType, One, Array, Struct, Packed, Named, IrTypes, none, also}
use Rattle.lx_ir.specs.Layout.{Layout, layout, beside, layout_of, size_of, unnamed, entry_or, is_type_within, field_after, field_of}
use Rattle.lx_ir.proofs.Layouts.{within}
use Rattle.lx_slot_types.specs.Sites.{FieldName, field_name, names_of, start_of, field_here, fields_at, array_fields_at, struct_fields_at, entry_fields, fields_of_entry, named_fields_at}
use Rattle.lx_linked.specs.Members.{In}
use Rattle.lx_linked.specs.Paths.{LeadsTo, to_field, in_field, in_element, part}
use Rattle.lx_linked.proofs.Members.{in_left, in_right}
use Rattle.lx_linked.proofs.Paths.{at_zero, at_suc}
use Rattle.lx_linked.proofs.Bounds.{bounded, element_within, part_within, same_start, same_type, shallow}

-- where a field begins, and within it

begins_by : (names : List FieldName) (inside : ℕ → List FieldName) (name : FieldName) (start size : ℕ) (a b c : Bool) → nat_lt start start ≡ a → nat_eq start start ≡ b → In name names
    → In name (if a then [] else (if b then names ++ inside 0 else (if c then inside (start - start) else [])))
begins_by names inside name start size true b c p q h = absurd (grind (arith, nat_tests, p))
begins_by names inside name start size false true c p q h = in_left name names (inside 0) h
begins_by names inside name start size false false c p q h = absurd (grind (arith, nat_tests, q))

begins : (names : List FieldName) (inside : ℕ → List FieldName) (name : FieldName) (start size : ℕ) → In name names → In name (field_here names inside start size start)
begins names inside name start size h = begins_by names inside name start size (nat_lt start start) (nat_eq start start) (nat_le start (start + size)) refl refl h

behind_by : (names : List FieldName) (inside : ℕ → List FieldName) (name : FieldName) (start size x : ℕ) (a b c : Bool) → nat_lt (start + x) start ≡ a → nat_eq (start + x) start ≡ b → nat_le (start + x) (start + size) ≡ c → x ≤ size → In name (inside x)
    → In name (if a then [] else (if b then names ++ inside 0 else (if c then inside ((start + x) - start) else [])))
behind_by names inside name start size x true b c p q r l h = absurd (grind (arith, nat_tests, p))
behind_by names inside name start size x false true c p q r l h =
    let e : x ≡ 0 = grind (arith, nat_tests, q) in
    in_right name names (inside 0) (subst (λ y. In name (inside y)) e h)
behind_by names inside name start size x false false true p q r l h =
    let e : x ≡ (start + x) - start = omega arith in
    subst (λ y. In name (inside y)) e h
behind_by names inside name start size x false false false p q r l h = absurd (grind (arith, nat_tests, r, l))

behind : (names : List FieldName) (inside : ℕ → List FieldName) (name : FieldName) (start size x : ℕ) → x ≤ size → In name (inside x) → In name (field_here names inside start size (start + x))
behind names inside name start size x l h = behind_by names inside name start size x (nat_lt (start + x) start) (nat_eq (start + x) start) (nat_le (start + x) (start + size)) refl refl refl l h

-- within an element of an array

yes : (b : Bool) (xs ys : List FieldName) (name : FieldName) → b ≡ true → In name xs → In name (if b then xs else ys)
yes true xs ys name e h = h
yes false xs ys name e h = absurd (cc)

of_no_bytes : (inside : ℕ → List FieldName) (name : FieldName) (n i x : ℕ) → i < n → x ≤ 0 → In name (inside x) → In name (array_fields_at inside n zero (i * zero + x))
of_no_bytes inside name n i x l m h =
    let z : x ≡ 0 = omega (arith, m) in
    let o : i * zero + x ≡ 0 = omega (arith, m) in
    yes (nat_lt 0 n && nat_eq (i * zero + x) 0) (inside 0) [] name (and_from (nat_lt 0 n) (nat_eq (i * zero + x) 0) (less_true 0 n (omega (arith, l))) (eq_true (i * zero + x) 0 o))
    (subst (λ y. In name (inside y)) z h)

in_element_of : (inside : ℕ → List FieldName) (name : FieldName) (n s i x : ℕ) → i < n → x < suc s → In name (inside x) → In name (array_fields_at inside n (suc s) (i * suc s + x))
in_element_of inside name n s i x l m h =
    let o = i * suc s + x in
    let q : o / suc s ≡ i = div-mul-add i (suc s) x m in
    let r : o % suc s ≡ x = mod-mul-add i (suc s) x m in
    in_left name (if nat_lt (o / suc s) n then inside (o % suc s) else []) (if nat_lt 0 o && (nat_eq (o % suc s) 0 && nat_le (o / suc s) n) then inside (suc s) else [])
    (yes (nat_lt (o / suc s) n) (inside (o % suc s)) [] name (less_true (o / suc s) n (omega (arith, q, l))) (subst (λ y. In name (inside y)) (sym r) h))

at_end_of : (inside : ℕ → List FieldName) (name : FieldName) (n s i o : ℕ) → i < n → o ≡ suc i * suc s + 0 → In name (inside (suc s)) → In name (array_fields_at inside n (suc s) o)
at_end_of inside name n s i o l e h =
    let q : o / suc s ≡ suc i = ap (λ y. y / suc s) e ∙ div-mul-add (suc i) (suc s) 0 (omega arith) in
    let r : o % suc s ≡ 0 = ap (λ y. y % suc s) e ∙ mod-mul-add (suc i) (suc s) 0 (omega arith) in
    let f : suc i * suc s ≡ i * suc s + suc s = omega arith in
    in_right name (if nat_lt (o / suc s) n then inside (o % suc s) else []) (if nat_lt 0 o && (nat_eq (o % suc s) 0 && nat_le (o / suc s) n) then inside (suc s) else [])
    (yes (nat_lt 0 o && (nat_eq (o % suc s) 0 && nat_le (o / suc s) n)) (inside (suc s)) [] name
    (and_from (nat_lt 0 o) (nat_eq (o % suc s) 0 && nat_le (o / suc s) n) (less_true 0 o (omega (arith, e, f)))
    (and_from (nat_eq (o % suc s) 0) (nat_le (o / suc s) n) (eq_true (o % suc s) 0 r) (le_true (o / suc s) n (omega (arith, q, l))))) h)

of_bytes : (inside : ℕ → List FieldName) (name : FieldName) (n s i x : ℕ) (b : Bool) → nat_lt x (suc s) ≡ b → i < n → x ≤ suc s → In name (inside x) → In name (array_fields_at inside n (suc s) (i * suc s + x))
of_bytes inside name n s i x true e l m h = in_element_of inside name n s i x l (grind (arith, nat_tests, e)) h
of_bytes inside name n s i x false e l m h =
    let p : x ≡ suc s = grind (arith, nat_tests, e, m) in
    let f : suc i * suc s ≡ i * suc s + suc s = omega arith in
    let o : i * suc s + x ≡ suc i * suc s + 0 = omega (arith, p, f) in
    at_end_of inside name n s i (i * suc s + x) l o (subst (λ y. In name (inside y)) p h)

in_array : (inside : ℕ → List FieldName) (name : FieldName) (n size i x : ℕ) → i < n → x ≤ size → In name (inside x) → In name (array_fields_at inside n size (i * size + x))
in_array inside name n zero i x l m h = of_no_bytes inside name n i x l m h
in_array inside name n (suc s) i x l m h = of_bytes inside name n s i x (nat_lt x (suc s)) refl l m h

-- in a field of a struct

module _ (types : List NamedType) (name : FieldName) (named : ℕ → ℕ → List FieldName) where
  abbrev Here : Option ℕ → ℕ → ℕ → IrType → ℕ → Type 0
  Here number k start u o = In name (field_here (names_of number k) (fields_at types named u) start (size_of types u) o)

  listed_first : (number : Option ℕ) (k a b o : ℕ) (t u : IrType) → a ≡ b → t ≡ u → Here number (k + 0) b u o → Here number k a t o
  listed_first number k a b o t u p q h =
      let z : k + 0 ≡ k = omega arith in
      subst (λ x. Here number k x t o) (sym p) (subst (λ v. Here number k b v o) (sym q) (subst (λ x. Here number x b u o) z h))

  field_listed : (number : Option ℕ) (packed : Bool) (ts : IrTypes) (k : ℕ) (laid : Layout) (j start : ℕ) (u : IrType) (o : ℕ) → field_after types packed laid ts j ≡ Some (part start u) → Here number (k + j) start u o → In name (struct_fields_at types named number packed ts k laid o)
  field_listed number packed none k laid j start u o e h = absurd (cc)
  field_listed number packed (also t ts) k laid zero start u o e h =
      let p = sym (at_zero types packed laid t ts) ∙ e in
      in_left name (field_here (names_of number k) (fields_at types named t) (start_of types packed t laid) (size_of types t) o) (struct_fields_at types named number packed ts (suc k) (beside packed laid (layout_of types t)) o)
      (listed_first number k (start_of types packed t laid) start o t u (same_start (start_of types packed t laid) start t u p) (same_type (start_of types packed t laid) start t u p) h)
  field_listed number packed (also t ts) k laid (suc j) start u o e h =
      let n : k + suc j ≡ suc k + j = omega arith in
      in_right name (field_here (names_of number k) (fields_at types named t) (start_of types packed t laid) (size_of types t) o) (struct_fields_at types named number packed ts (suc k) (beside packed laid (layout_of types t)) o)
      (field_listed number packed ts (suc k) (beside packed laid (layout_of types t)) j start u o (sym (at_suc types packed laid t ts j) ∙ e) (subst (λ x. Here number x start u o) n h))

  all_listed : (number : Option ℕ) (packed : Bool) (ts : IrTypes) (j start : ℕ) (u : IrType) (o : ℕ) → field_after types packed (layout 0 1) ts j ≡ Some (part start u) → Here number j start u o → In name (struct_fields_at types named number packed ts 0 (layout 0 1) o)
  all_listed number packed ts j start u o e h = let z : j ≡ 0 + j = omega arith in field_listed number packed ts 0 (layout 0 1) j start u o e (subst (λ x. Here number x start u o) z h)

  entry_listed : (n : ℕ) (t : IrType) (k start : ℕ) (u : IrType) (o : ℕ) → field_of types t k ≡ Some (part start u) → Here (Some n) k start u o → In name (entry_fields types named n t o)
  entry_listed n (One s) k start u o e h = absurd (cc)
  entry_listed n (Array c t) k start u o e h = absurd (cc)
  entry_listed n (Struct ts) k start u o e h = all_listed (Some n) false ts k start u o e h
  entry_listed n (Packed ts) k start u o e h = all_listed (Some n) true ts k start u o e h
  entry_listed n (Named m) k start u o e h = absurd (cc)

  found_listed : (n : ℕ) (e : Option NamedType) (k start : ℕ) (u : IrType) (o : ℕ) → field_of types (entry_or e (Named n)) k ≡ Some (part start u) → Here (Some n) k start u o → In name (fields_of_entry types named n e o)
  found_listed n None k start u o f h = absurd (cc)
  found_listed n (Some e) k start u o f h = entry_listed n e.ty k start u o f h

-- the field itself
itself : (types : List NamedType) (name : FieldName) (d n k start : ℕ) (u : IrType) → name ≡ field_name n k → field_of types (unnamed types (Named n)) k ≡ Some (part start u) → In name (named_fields_at types (suc d) n start)
itself types name d n k start u e f =
    found_listed types name (named_fields_at types d) n (slice_get types n) k start u start f
    (begins (field_name n k ∷ []) (fields_at types (named_fields_at types d) u) name start (size_of types u) (inl e))

-- through a field
through : (types : List NamedType) (name : FieldName) (n d : ℕ) (t u : IrType) (k start o : ℕ) → n < d → field_of types (unnamed types t) k ≡ Some (part start u) → o ≤ size_of types u
    → ((e : ℕ) → n ≤ e → In name (fields_at types (named_fields_at types e) u o)) → In name (fields_at types (named_fields_at types d) t (start + o))
through types name n d (One s) u k start o l f m inner = absurd (cc)
through types name n d (Array c t) u k start o l f m inner = absurd (cc)
through types name n d (Struct ts) u k start o l f m inner =
    all_listed types name (named_fields_at types d) None false ts k start u (start + o) f
    (behind [] (fields_at types (named_fields_at types d) u) name start (size_of types u) o m (inner d (omega (arith, l))))
through types name n d (Packed ts) u k start o l f m inner =
    all_listed types name (named_fields_at types d) None true ts k start u (start + o) f
    (behind [] (fields_at types (named_fields_at types d) u) name start (size_of types u) o m (inner d (omega (arith, l))))
through types name n zero (Named c) u k start o l f m inner = absurd (omega (arith, l))
through types name n (suc d) (Named c) u k start o l f m inner =
    found_listed types name (named_fields_at types d) c (slice_get types c) k start u (start + o) f
    (behind (field_name c k ∷ []) (fields_at types (named_fields_at types d) u) name start (size_of types u) o m (inner d (omega (arith, l))))

-- a field that a path leads to is listed, through any number of names that is enough
pub listed : (types : List NamedType) (name : FieldName) (n d : ℕ) (t : IrType) (o : ℕ) → is_type_within types n t ≡ true → n ≤ 64 → n ≤ d → LeadsTo types name t o → In name (fields_at types (named_fields_at types d) t o)
listed types name zero d _ _ h few l (to_field m k start u e f) = absurd (cc)
listed types name zero d _ _ h few l (in_field t u k start o f p) = absurd (shallow types t k (part start u) h f)
listed types name zero d _ _ h few l (in_element t c i o q p) = absurd (cc)
listed types name (suc n) zero _ _ h few l (to_field m k start u e f) = absurd (omega (arith, l))
listed types name (suc n) (suc d) _ _ h few l (to_field m k start u e f) = itself types name d m k start u e f
listed types name (suc n) d _ _ h few l (in_field t u k start o f p) =
    let g = part_within types n t k start u (within types n t h).parts f in
    let r : n ≤ 64 = omega (arith, few) in
    through types name n d t u k start o (omega (arith, l)) f (bounded types name n u o g r p) (λ e m. listed types name n e u o g r m p)
listed types name (suc n) d _ _ h few l (in_element t c i o q p) =
    let g = element_within types n c t h in
    let r : n ≤ 64 = omega (arith, few) in
    in_array (fields_at types (named_fields_at types d) t) name c (size_of types t) i o q (bounded types name n t o g r p) (listed types name n d t o g r (omega (arith, l)) p)
