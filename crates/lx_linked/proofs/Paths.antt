-- Each field in the lists is led to by a path.
use Rattle.std.proofs.Common.{◌≡◌, ◌∙◌, refl, sym, ap, subst, ℕ, zero, suc, ◌+◌, ◌*◌, ◌-◌, ◌/◌, ◌%◌, ◌<◌, ◌≤◌, Bool, true, false, ◌&&◌, if◌then◌else◌, nat_eq, nat_lt, nat_le, Option, Some, None, List, [], ◌++◌, inl, inr, arith, slice_get}
use Rattle.std.specs.Prelude.{◌⊎◌}
use Rattle.std.proofs.lemmas.Bool.{and_parts}
use Rattle.std.proofs.lemmas.Bool.Decides.{nat_tests}
use Rattle.std.proofs.lemmas.Nat.{div-add-mod'}
use Rattle.lx_ir.specs.declared.types.NamedType.{NamedType}
use Rattle.lx_ir.specs.IrType.{IrType, One, Array, Struct, Packed, Named, IrTypes, none, also}
use Rattle.lx_ir.specs.Layout.{Layout, layout, beside, layout_of, size_of, unnamed, entry_or, field_after, field_of}
use Rattle.lx_slot_types.specs.Sites.{FieldName, field_name, names_of, start_of, field_here, fields_at, array_fields_at, struct_fields_at, entry_fields, fields_of_entry, named_fields_at}
use Rattle.lx_linked.specs.Members.{In}
use Rattle.lx_linked.specs.Paths.{LeadsTo, to_field, in_field, in_element, part}
use Rattle.lx_linked.proofs.Members.{in_either}

-- what begins within a field

pub record Inner (inside : ℕ → List FieldName) (name : FieldName) (start o : ℕ) : Type 0 where
  pub behind : ℕ
  pub stands : In name (inside behind)
  pub is : o ≡ start + behind

abbrev Here : List FieldName → (ℕ → List FieldName) → FieldName → ℕ → ℕ → Type 0
Here names inside name start o = (In name names × (o ≡ start)) ⊎ Inner inside name start o

begins : (names : List FieldName) (inside : ℕ → List FieldName) (name : FieldName) (start o : ℕ) → o ≡ start → In name names ⊎ In name (inside 0) → Here names inside name start o
begins names inside name start o e (inl h) = inl (h, e)
begins names inside name start o e (inr h) = inr (record { behind = 0; stands = h; is = omega (arith, e) })

here_by : (names : List FieldName) (inside : ℕ → List FieldName) (name : FieldName) (start size o : ℕ) (a b c : Bool) → nat_lt o start ≡ a → nat_eq o start ≡ b
    → In name (if a then [] else (if b then names ++ inside 0 else (if c then inside (o - start) else []))) → Here names inside name start o
here_by names inside name start size o true b c p q h = absurd h
here_by names inside name start size o false true c p q h =
    let e : o ≡ start = grind (arith, nat_tests, q) in
    begins names inside name start o e (in_either name names (inside 0) h)
here_by names inside name start size o false false true p q h =
    let e : o ≡ start + (o - start) = grind (arith, nat_tests, p) in
    inr (record { behind = o - start; stands = h; is = e })
here_by names inside name start size o false false false p q h = absurd h

here : (names : List FieldName) (inside : ℕ → List FieldName) (name : FieldName) (start size o : ℕ) → In name (field_here names inside start size o) → Here names inside name start o
here names inside name start size o h = here_by names inside name start size o (nat_lt o start) (nat_eq o start) (nat_le o (start + size)) refl refl h

-- what begins within an element of an array

pub record Element (inside : ℕ → List FieldName) (name : FieldName) (n size o : ℕ) : Type 0 where
  pub number : ℕ
  pub behind : ℕ
  pub few : number < n
  pub stands : In name (inside behind)
  pub is : o ≡ number * size + behind

first_by : (inside : ℕ → List FieldName) (name : FieldName) (n o : ℕ) (b : Bool) → (nat_lt 0 n && nat_eq o 0) ≡ b → In name (if b then inside 0 else []) → Element inside name n zero o
first_by inside name n o true e h =
    let a = and_parts (nat_lt 0 n) (nat_eq o 0) e in
    let p : 0 < n = grind (arith, nat_tests, a.0) in
    let q : o ≡ 0 = grind (arith, nat_tests, a.1) in
    record { number = 0; behind = 0; few = p; stands = h; is = omega (arith, q) }
first_by inside name n o false e h = absurd h

within_by : (inside : ℕ → List FieldName) (name : FieldName) (n s o : ℕ) (b : Bool) → nat_lt (o / suc s) n ≡ b → In name (if b then inside (o % suc s) else []) → Element inside name n (suc s) o
within_by inside name n s o true e h =
    let p : o / suc s < n = grind (arith, nat_tests, e) in
    record { number = o / suc s; behind = o % suc s; few = p; stands = h; is = sym (div-add-mod' o (suc s)) }
within_by inside name n s o false e h = absurd h

-- an element before the one that begins there ends there
step_back : (q s : ℕ) → 0 < q → q * s ≡ (q - 1) * s + s
step_back zero s h = absurd (omega (arith, h))
step_back (suc q) s h = let e : suc q - 1 ≡ q = omega arith in let f : suc q * s ≡ q * s + s = omega arith in f ∙ ap (λ k. k * s + s) (sym e)

end_by : (inside : ℕ → List FieldName) (name : FieldName) (n s o : ℕ) (b : Bool) → (nat_lt 0 o && (nat_eq (o % suc s) 0 && nat_le (o / suc s) n)) ≡ b → In name (if b then inside (suc s) else []) → Element inside name n (suc s) o
end_by inside name n s o true e h =
    let a = and_parts (nat_lt 0 o) (nat_eq (o % suc s) 0 && nat_le (o / suc s) n) e in
    let b = and_parts (nat_eq (o % suc s) 0) (nat_le (o / suc s) n) a.1 in
    let p : 0 < o = grind (arith, nat_tests, a.0) in
    let q : o % suc s ≡ 0 = grind (arith, nat_tests, b.0) in
    let r : o / suc s ≤ n = grind (arith, nat_tests, b.1) in
    let d : o / suc s * suc s + o % suc s ≡ o = div-add-mod' o (suc s) in
    let some = above (o / suc s) (suc s) o p (omega (arith, d, q)) in
    let f : o / suc s * suc s ≡ (o / suc s - 1) * suc s + suc s = step_back (o / suc s) (suc s) some in
    record { number = o / suc s - 1; behind = suc s; few = omega (arith, r, some); stands = h; is = omega (arith, d, q, f) }
  where
    above : (q s o : ℕ) → 0 < o → q * s ≡ o → 0 < q
    above zero s o p e = absurd (omega (arith, p, e))
    above (suc q) s o p e = omega arith
end_by inside name n s o false e h = absurd h

either : {A : Type 0} (name : FieldName) (xs ys : List FieldName) → (In name xs → A) → (In name ys → A) → In name xs ⊎ In name ys → A
either name xs ys f g (inl h) = f h
either name xs ys f g (inr h) = g h

element : (inside : ℕ → List FieldName) (name : FieldName) (n size o : ℕ) → In name (array_fields_at inside n size o) → Element inside name n size o
element inside name n zero o h = first_by inside name n o (nat_lt 0 n && nat_eq o 0) refl h
element inside name n (suc s) o h =
    let xs = if nat_lt (o / suc s) n then inside (o % suc s) else [] in
    let ys = if nat_lt 0 o && (nat_eq (o % suc s) 0 && nat_le (o / suc s) n) then inside (suc s) else [] in
    either name xs ys (within_by inside name n s o (nat_lt (o / suc s) n) refl) (end_by inside name n s o (nat_lt 0 o && (nat_eq (o % suc s) 0 && nat_le (o / suc s) n)) refl) (in_either name xs ys h)

-- the fields of a struct

pub at_zero : (types : List NamedType) (packed : Bool) (laid : Layout) (t : IrType) (ts : IrTypes) → field_after types packed laid (also t ts) zero ≡ Some (part (start_of types packed t laid) t)
at_zero types true laid t ts = refl
at_zero types false laid t ts = refl

pub at_suc : (types : List NamedType) (packed : Bool) (laid : Layout) (t : IrType) (ts : IrTypes) (k : ℕ) → field_after types packed laid (also t ts) (suc k) ≡ field_after types packed (beside packed laid (layout_of types t)) ts k
at_suc types true laid t ts k = refl
at_suc types false laid t ts k = refl

-- the field itself, or what a path through it leads to
pub data Leads (types : List NamedType) (name : FieldName) (number : Option ℕ) (first start : ℕ) (t : IrType) (o : ℕ) : Type 0 where
  itself : (n : ℕ) → number ≡ Some n → name ≡ field_name n first → o ≡ start → Leads types name number first start t o
  through : (x : ℕ) → LeadsTo types name t x → o ≡ start + x → Leads types name number first start t o

pub record Field (types : List NamedType) (name : FieldName) (number : Option ℕ) (packed : Bool) (ts : IrTypes) (k : ℕ) (laid : Layout) (o : ℕ) : Type 0 where
  pub index : ℕ
  pub start : ℕ
  pub ty : IrType
  pub is : field_after types packed laid ts index ≡ Some (part start ty)
  pub leads : Leads types name number (k + index) start ty o

named_here : (types : List NamedType) (name : FieldName) (number : Option ℕ) (k start o : ℕ) (t : IrType) → In name (names_of number k) → o ≡ start → Leads types name number (k + 0) start t o
named_here types name None k start o t h e = absurd h
named_here types name (Some n) k start o t (inl p) e = let z : k ≡ k + 0 = omega arith in itself n refl (p ∙ ap (field_name n) z) e
named_here types name (Some n) k start o t (inr p) e = absurd p

leads_next : (types : List NamedType) (name : FieldName) (number : Option ℕ) (a b start o : ℕ) (t : IrType) → a ≡ b → Leads types name number a start t o → Leads types name number b start t o
leads_next types name number a b start o t e l = subst (λ k. Leads types name number k start t o) e l

field_next : (types : List NamedType) (name : FieldName) (number : Option ℕ) (packed : Bool) (t : IrType) (ts : IrTypes) (k : ℕ) (laid : Layout) (o : ℕ) → Field types name number packed ts (suc k) (beside packed laid (layout_of types t)) o → Field types name number packed (also t ts) k laid o
field_next types name number packed t ts k laid o f =
    let n : suc k + f.index ≡ k + suc f.index = omega arith in
    record {
      index = suc f.index;
      start = f.start;
      ty = f.ty;
      is = at_suc types packed laid t ts f.index ∙ f.is;
      leads = leads_next types name number (suc k + f.index) (k + suc f.index) f.start o f.ty n f.leads;
    }

path_by : (types : List NamedType) (name : FieldName) (number : Option ℕ) (t u : IrType) (k start o : ℕ) → ((n : ℕ) → number ≡ Some n → t ≡ Named n) → field_of types (unnamed types t) k ≡ Some (part start u) → Leads types name number (0 + k) start u o → LeadsTo types name t o
path_by types name number t u k start o is_named f (itself n e p q) =
    let z : 0 + k ≡ k = omega arith in
    let g : field_of types (unnamed types (Named n)) k ≡ Some (part start u) = subst (λ v. field_of types (unnamed types v) k ≡ Some (part start u)) (is_named n e) f in
    subst (λ v. LeadsTo types name v o) (sym (is_named n e)) (subst (λ x. LeadsTo types name (Named n) x) (sym q) (to_field n k start u (p ∙ ap (field_name n) z) g))
path_by types name number t u k start o is_named f (through x l q) = subst (λ y. LeadsTo types name t y) (sym q) (in_field t u k start x f l)

path : (types : List NamedType) (name : FieldName) (number : Option ℕ) (packed : Bool) (ts : IrTypes) (t : IrType) (o : ℕ) → ((n : ℕ) → number ≡ Some n → t ≡ Named n) → ((k : ℕ) → field_of types (unnamed types t) k ≡ field_after types packed (layout 0 1) ts k) → Field types name number packed ts 0 (layout 0 1) o → LeadsTo types name t o
path types name number packed ts t o is_named same f = path_by types name number t f.ty f.index f.start o is_named (same f.index ∙ f.is) f.leads

no_name : (t : IrType) (n : ℕ) → None ≡ Some n → t ≡ Named n
no_name t n e = absurd (cc)

own_name : (k n : ℕ) → Some k ≡ Some n → Named k ≡ Named n
own_name k n e = let q : k ≡ n = cc in ap Named q

module _ (types : List NamedType) (name : FieldName) (named : ℕ → ℕ → List FieldName) where
  field_by : (number : Option ℕ) (packed : Bool) (t : IrType) (ts : IrTypes) (k : ℕ) (laid : Layout) (o : ℕ) → ((x : ℕ) → In name (fields_at types named t x) → LeadsTo types name t x)
      → Here (names_of number k) (fields_at types named t) name (start_of types packed t laid) o → Field types name number packed (also t ts) k laid o
  field_by number packed t ts k laid o inner (inl h) =
      record { index = 0; start = start_of types packed t laid; ty = t; is = at_zero types packed laid t ts; leads = named_here types name number k (start_of types packed t laid) o t h.0 h.1 }
  field_by number packed t ts k laid o inner (inr i) =
      record { index = 0; start = start_of types packed t laid; ty = t; is = at_zero types packed laid t ts; leads = through i.behind (inner i.behind i.stands) i.is }

  fields_by : (number : Option ℕ) (packed : Bool) (t : IrType) (ts : IrTypes) (k : ℕ) (laid : Layout) (o : ℕ) → ((x : ℕ) → In name (fields_at types named t x) → LeadsTo types name t x)
      → (In name (struct_fields_at types named number packed ts (suc k) (beside packed laid (layout_of types t)) o) → Field types name number packed ts (suc k) (beside packed laid (layout_of types t)) o)
      → In name (field_here (names_of number k) (fields_at types named t) (start_of types packed t laid) (size_of types t) o) ⊎ In name (struct_fields_at types named number packed ts (suc k) (beside packed laid (layout_of types t)) o)
      → Field types name number packed (also t ts) k laid o
  fields_by number packed t ts k laid o inner rest (inl h) =
      field_by number packed t ts k laid o inner (here (names_of number k) (fields_at types named t) name (start_of types packed t laid) (size_of types t) o h)
  fields_by number packed t ts k laid o inner rest (inr h) = field_next types name number packed t ts k laid o (rest h)

module _ (types : List NamedType) (name : FieldName) (named : ℕ → ℕ → List FieldName) (led : (n o : ℕ) → In name (named n o) → LeadsTo types name (Named n) o) where
  mutual
    type_led : (t : IrType) (o : ℕ) → In name (fields_at types named t o) → LeadsTo types name t o
    type_led (One s) o h = absurd h
    type_led (Array n t) o h =
        let e = element (fields_at types named t) name n (size_of types t) o h in
        subst (λ x. LeadsTo types name (Array n t) x) (sym e.is) (in_element t n e.number e.behind e.few (type_led t e.behind e.stands))
    type_led (Struct ts) o h = path types name None false ts (Struct ts) o (no_name (Struct ts)) (λ k. refl) (fields_led None false ts 0 (layout 0 1) o h)
    type_led (Packed ts) o h = path types name None true ts (Packed ts) o (no_name (Packed ts)) (λ k. refl) (fields_led None true ts 0 (layout 0 1) o h)
    type_led (Named n) o h = led n o h

    fields_led : (number : Option ℕ) (packed : Bool) (ts : IrTypes) (k : ℕ) (laid : Layout) (o : ℕ) → In name (struct_fields_at types named number packed ts k laid o) → Field types name number packed ts k laid o
    fields_led number packed none k laid o h = absurd h
    fields_led number packed (also t ts) k laid o h =
        fields_by types name named number packed t ts k laid o (type_led t) (fields_led number packed ts (suc k) (beside packed laid (layout_of types t)) o)
        (in_either name (field_here (names_of number k) (fields_at types named t) (start_of types packed t laid) (size_of types t) o) (struct_fields_at types named number packed ts (suc k) (beside packed laid (layout_of types t)) o) h)

  entry_led : (n : ℕ) (t : IrType) (o : ℕ) → unnamed types (Named n) ≡ t → In name (entry_fields types named n t o) → LeadsTo types name (Named n) o
  entry_led n (One s) o e h = absurd h
  entry_led n (Array c t) o e h = absurd h
  entry_led n (Struct ts) o e h = path types name (Some n) false ts (Named n) o (own_name n) (λ k. ap (λ u. field_of types u k) e) (fields_led (Some n) false ts 0 (layout 0 1) o h)
  entry_led n (Packed ts) o e h = path types name (Some n) true ts (Named n) o (own_name n) (λ k. ap (λ u. field_of types u k) e) (fields_led (Some n) true ts 0 (layout 0 1) o h)
  entry_led n (Named k) o e h = absurd h

  found_led : (n o : ℕ) (e : Option NamedType) → slice_get types n ≡ e → In name (fields_of_entry types named n e o) → LeadsTo types name (Named n) o
  found_led n o None p h = absurd h
  found_led n o (Some e) p h = entry_led n e.ty o (ap (λ x. entry_or x (Named n)) p) h

pub name_led : (types : List NamedType) (name : FieldName) (depth n o : ℕ) → In name (named_fields_at types depth n o) → LeadsTo types name (Named n) o
name_led types name zero n o h = absurd h
name_led types name (suc depth) n o h = found_led types name (named_fields_at types depth) (name_led types name depth) n o (slice_get types n) refl h

-- each field in the list at an offset of a type is led to
pub led : (types : List NamedType) (name : FieldName) (depth : ℕ) (t : IrType) (o : ℕ) → In name (fields_at types (named_fields_at types depth) t o) → LeadsTo types name t o
led types name depth t o h = type_led types name (named_fields_at types depth) (name_led types name depth) t o h
