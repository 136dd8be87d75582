-- A function gets the slot types of the fields where it stands, and the first of them is the least.
use Rattle.std.proofs.Common.{◌≡◌, ◌∙◌, refl, sym, ap, subst, ℕ, zero, suc, ◌<◌, ◌≤◌, Bool, true, false, ◌&&◌, ◌||◌, if◌then◌else◌, nat_eq, Option, Some, None, List, [], ◌∷◌, length, inl, inr, arith, slice_get}
use Rattle.std.specs.Prelude.{find}
use Rattle.std.specs.List.{list_any}
use Rattle.std.specs.Option.{option_or}
use Rattle.std.proofs.lemmas.Bool.{and_parts, and_from, or_left, or_right}
use Rattle.std.proofs.lemmas.Bool.Decides.{nat_tests}
use Rattle.std.proofs.lemmas.List.Folds.{find-append}
use Rattle.std.proofs.lemmas.Slice.Eq.{bytes_eq-Decides}
use Rattle.lx_words.proofs.Tests.{true_eq, eq_true}
use Rattle.lx_ir.specs.declared.types.NamedType.{NamedType}
use Rattle.lx_ir.specs.declared.module.Module.{Module}
use Rattle.lx_annot.specs.declared.interface.Field.{Field}
use Rattle.lx_annot.specs.declared.interface.Interface.{Interface}
use Rattle.lx_slot_types.specs.Sites.{FieldName, Site, site, sites_of}
use Rattle.lx_slot_types.specs.Gets.{below, gets, has_name, slot_of, types_field}
use Rattle.lx_linked.specs.Members.{In, Exactly}
use Rattle.lx_linked.specs.Paths.{HasLawfulGlobals}
use Rattle.lx_linked.specs.Stands.{StandsIn}
use Rattle.lx_linked.specs.Typed.{GetsType, IsFirstType, IsTyped}
use Rattle.lx_linked.proofs.Stores.{all_sites}

-- what passes a test

pub record Passes {A : Type 0} (p : A → Bool) (xs : List A) : Type 0 where
  pub one : A
  pub stands : In one xs
  pub does : p one ≡ true

passes_by : {A : Type 0} (p : A → Bool) (x : A) (xs : List A) (b : Bool) → p x ≡ b → (list_any p xs ≡ true → Passes p xs) → (b || list_any p xs) ≡ true → Passes p (x ∷ xs)
passes_by p x xs true e rest h = record { one = x; stands = inl refl; does = e }
passes_by p x xs false e rest h = let r = rest h in record { one = r.one; stands = inr r.stands; does = r.does }

passes : {A : Type 0} (p : A → Bool) (xs : List A) → list_any p xs ≡ true → Passes p xs
passes p [] h = absurd (cc)
passes p (x ∷ xs) h = passes_by p x xs (p x) refl (passes p xs) h

passed : {A : Type 0} (p : A → Bool) (x : A) (xs : List A) → In x xs → p x ≡ true → list_any p xs ≡ true
passed p x [] h e = absurd h
passed p x (y ∷ xs) (inl q) e = or_left (p y) (list_any p xs) (ap p (sym q) ∙ e)
passed p x (y ∷ xs) (inr h) e = or_right (p y) (list_any p xs) (passed p x xs h e)

-- the field is typed

abbrev is_statement : Module → FieldName → ℕ → Field → Bool
is_statement m name s x = has_name (slice_get m.types name.struct_number) x.name && (nat_eq x.index name.index && nat_eq x.slot s)

pub record Named (types : Option NamedType) (name : List ℕ) : Type 0 where
  pub struct : NamedType
  pub found : types ≡ Some struct
  pub is : struct.name ≡ name

is_named : (o : Option NamedType) (name : List ℕ) → has_name o name ≡ true → Named o name
is_named None name h = absurd (cc)
is_named (Some t) name h = record { struct = t; found = refl; is = (bytes_eq-Decides t.name name).0 h }

named : (o : Option NamedType) (t : NamedType) (name : List ℕ) → o ≡ Some t → t.name ≡ name → has_name o name ≡ true
named o t name e f = subst (λ x. has_name x name ≡ true) (sym e) ((bytes_eq-Decides t.name name).1 f)

is_typed : (i : Interface) (m : Module) (name : FieldName) (s : ℕ) → types_field i m name s ≡ true → IsTyped i m name s
is_typed i m name s h =
    let p = passes (is_statement m name s) i.fields h in
    let a = and_parts (has_name (slice_get m.types name.struct_number) p.one.name) (nat_eq p.one.index name.index && nat_eq p.one.slot s) p.does in
    let b = and_parts (nat_eq p.one.index name.index) (nat_eq p.one.slot s) a.1 in
    let n = is_named (slice_get m.types name.struct_number) p.one.name a.0 in
    record {
      statement = p.one;
      struct = n.struct;
      said = p.stands;
      found = n.found;
      named = n.is;
      index = true_eq p.one.index name.index b.0;
      slot = true_eq p.one.slot s b.1;
    }

typed : (i : Interface) (m : Module) (name : FieldName) (s : ℕ) → IsTyped i m name s → types_field i m name s ≡ true
typed i m name s t =
    let a = named (slice_get m.types name.struct_number) t.struct t.statement.name t.found t.named in
    let b = and_from (nat_eq t.statement.index name.index) (nat_eq t.statement.slot s) (eq_true t.statement.index name.index t.index) (eq_true t.statement.slot s t.slot) in
    passed (is_statement m name s) t.statement i.fields t.said
    (and_from (has_name (slice_get m.types name.struct_number) t.statement.name) (nat_eq t.statement.index name.index && nat_eq t.statement.slot s) a b)

-- the function gets the type

abbrev is_giver : Interface → Module → ℕ → ℕ → Site → Bool
is_giver i m f s x = nat_eq x.function f && types_field i m x.at s

is_got : (i : Interface) (m : Module) → HasLawfulGlobals m → (f s : ℕ) → gets i m f s ≡ true → GetsType i m f s
is_got i m l f s h =
    let p = passes (is_giver i m f s) (sites_of m) h in
    let a = and_parts (nat_eq p.one.function f) (types_field i m p.one.at s) p.does in
    let e = true_eq p.one.function f a.0 in
    record {
      name = p.one.at;
      stands = subst (λ g. StandsIn m p.one.at g) e ((all_sites m l p.one.at p.one.function).0 p.stands);
      typed = is_typed i m p.one.at s a.1;
    }

got : (i : Interface) (m : Module) → HasLawfulGlobals m → (f s : ℕ) → GetsType i m f s → gets i m f s ≡ true
got i m l f s g =
    passed (is_giver i m f s) (site g.name f) (sites_of m) ((all_sites m l g.name f).1 g.stands)
    (and_from (nat_eq f f) (types_field i m g.name s) (eq_true f f refl) (typed i m g.name s g.typed))

pub gets_types : (i : Interface) (m : Module) → HasLawfulGlobals m → (f s : ℕ) → Exactly (gets i m f s ≡ true) (GetsType i m f s)
gets_types i m l f s = (is_got i m l f s, got i m l f s)

-- the least number below a bound

abbrev Least : (ℕ → Bool) → ℕ → Option ℕ → Type 0
Least p n None = (t : ℕ) → p t ≡ true → n ≤ t
Least p n (Some s) = (s < n) × (p s ≡ true) × ((t : ℕ) → p t ≡ true → s ≤ t)

not_here : (p : ℕ → Bool) (n t : ℕ) → n ≤ t → p n ≡ false → p t ≡ true → (b : Bool) → nat_eq n t ≡ b → suc n ≤ t
not_here p n t l e h true q = let same : n ≡ t = true_eq n t q in absurd (cc (ap p same, e, h))
not_here p n t l e h false q = grind (arith, nat_tests, q, l)

least_more : (p : ℕ → Bool) (n : ℕ) (o : Option ℕ) (b : Bool) → p n ≡ b → Least p n o → Least p (suc n) (option_or o (if b then Some n else None))
least_more p n None true e l = (omega arith, e, l)
least_more p n None false e l = λ t h. not_here p n t (l t h) e h (nat_eq n t) refl
least_more p n (Some s) b e l = let a : s < n = l.0 in (omega (arith, a), l.1, l.2)

least : (p : ℕ → Bool) (n : ℕ) → Least p n (find p (below n))
least p zero = λ t h. omega arith
least p (suc n) = subst (Least p (suc n)) (sym (find-append p (below n) (n ∷ []))) (least_more p n (find p (below n)) (p n) refl (least p n))

found : (p : ℕ → Bool) (n s : ℕ) (o : Option ℕ) → Least p n o → o ≡ Some s → Least p n (Some s)
found p n s o l e = subst (Least p n) e l

least_is : (p : ℕ → Bool) (n s : ℕ) (o : Option ℕ) → Least p n o → Least p n (Some s) → o ≡ Some s
least_is p n s None l k = let a : n ≤ s = l s k.1 in let b : s < n = k.0 in absurd (omega (arith, a, b))
least_is p n s (Some r) l k = let a : r ≤ s = l.2 s k.1 in let b : s ≤ r = k.2 r l.1 in let e : r ≡ s = omega (arith, a, b) in ap Some e

none_least : (p : ℕ → Bool) (n : ℕ) (o : Option ℕ) → Least p n o → o ≡ None → (s : ℕ) → s < n → p s ≡ true → ⊥
none_least p n None l e s a h = let b : n ≤ s = l s h in omega (arith, a, b)
none_least p n (Some r) l e s a h = cc

least_none : (p : ℕ → Bool) (n : ℕ) (o : Option ℕ) → Least p n o → ((s : ℕ) → s < n → p s ≡ true → ⊥) → o ≡ None
least_none p n None l h = refl
least_none p n (Some r) l h = absurd (h r l.0 l.1)

-- the first slot type

is_first : (i : Interface) (m : Module) → HasLawfulGlobals m → (f s : ℕ) → slot_of i m f ≡ Some s → IsFirstType i m f s
is_first i m l f s e =
    let k = found (gets i m f) (length i.slots) s (slot_of i m f) (least (gets i m f) (length i.slots)) e in
    record { below = k.0; gets = is_got i m l f s k.1; least = λ t g. k.2 t (got i m l f t g) }

first : (i : Interface) (m : Module) → HasLawfulGlobals m → (f s : ℕ) → IsFirstType i m f s → slot_of i m f ≡ Some s
first i m l f s x =
    least_is (gets i m f) (length i.slots) s (slot_of i m f) (least (gets i m f) (length i.slots)) (x.below, got i m l f s x.gets, λ t h. x.least t (is_got i m l f t h))

pub first_type : (i : Interface) (m : Module) → HasLawfulGlobals m → (f s : ℕ) → Exactly (slot_of i m f ≡ Some s) (IsFirstType i m f s)
first_type i m l f s = (is_first i m l f s, first i m l f s)

pub no_type : (i : Interface) (m : Module) → HasLawfulGlobals m → (f : ℕ) → Exactly (slot_of i m f ≡ None) ((s : ℕ) → s < length i.slots → GetsType i m f s → ⊥)
no_type i m l f = (
  λ e s a g. none_least (gets i m f) (length i.slots) (slot_of i m f) (least (gets i m f) (length i.slots)) e s a (got i m l f s g),
  λ h. least_none (gets i m f) (length i.slots) (slot_of i m f) (least (gets i m f) (length i.slots)) (λ s a g. h s a (is_got i m l f s g)),
)
