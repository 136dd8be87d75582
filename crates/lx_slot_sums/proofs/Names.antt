-- Types go through no more names, one in another, than there are: so as many as there are is as good as 64.
use Rattle.std.proofs.Common.{◌≡◌, ◌∙◌, refl, sym, ap, subst, ℕ, zero, suc, ◌+◌, ◌-◌, ◌<◌, ◌≤◌, Bool, true, false, ◌&&◌, Option, Some, None, List, ◌++◌, length, IsTrue, nat_le, nat_lt, if◌then◌else◌, inl, inr, arith, slice_get}
use Rattle.std.specs.List.{list_all}
use Rattle.std.specs.Prelude.{◌⊎◌}
use Rattle.std.proofs.lemmas.Bool.{and_parts, and_from}
use Rattle.std.proofs.lemmas.Bool.Decides.{nat_tests}
use Rattle.std.proofs.lemmas.Option.{slice_get_past}
use Rattle.lx_words.proofs.Tests.{true_less}
use Rattle.lx_ir.specs.declared.types.NamedType.{NamedType}
use Rattle.lx_ir.specs.IrType.{IrType, One, Array, Struct, Packed, Named, IrTypes, none, also}
use Rattle.lx_ir.specs.Layout.{Layout, layout, beside, layout_of, size_of, entry_or, list_of_types, fields_of, is_struct, is_type_within, is_lawful_type}
use Rattle.lx_ir.proofs.Layouts.{within}
use Rattle.lx_slot_types.specs.Sites.{FieldName, names_of, start_of, field_here, fields_at, array_fields_at, struct_fields_at, entry_fields, fields_of_entry, named_fields_at}

-- each name in the type passes a test
abbrev mutual
  goes : (ℕ → Bool) → IrType → Bool
  goes named (One s) = true
  goes named (Array n t) = goes named t
  goes named (Struct ts) = goes_all named ts
  goes named (Packed ts) = goes_all named ts
  goes named (Named k) = named k

  goes_all : (ℕ → Bool) → IrTypes → Bool
  goes_all named none = true
  goes_all named (also t ts) = goes named t && goes_all named ts

abbrev goes_entry : (ℕ → Bool) → Option NamedType → Bool
goes_entry named None = false
goes_entry named (Some e) = goes named e.ty

-- the name goes through at most so many names, itself among them
abbrev through : List NamedType → ℕ → ℕ → Bool
through types zero k = false
through types (suc d) k = goes_entry (through types d) (slice_get types k)

abbrev Implies : (ℕ → Bool) → (ℕ → Bool) → Type 0
Implies p q = (k : ℕ) → p k ≡ true → q k ≡ true

mutual
  goes_more : (p q : ℕ → Bool) → Implies p q → (t : IrType) → goes p t ≡ true → goes q t ≡ true
  goes_more p q h (One s) g = refl
  goes_more p q h (Array n t) g = goes_more p q h t g
  goes_more p q h (Struct ts) g = all_more p q h ts g
  goes_more p q h (Packed ts) g = all_more p q h ts g
  goes_more p q h (Named k) g = h k g

  all_more : (p q : ℕ → Bool) → Implies p q → (ts : IrTypes) → goes_all p ts ≡ true → goes_all q ts ≡ true
  all_more p q h none g = refl
  all_more p q h (also t ts) g =
      let a = and_parts (goes p t) (goes_all p ts) g in
      and_from (goes q t) (goes_all q ts) (goes_more p q h t a.0) (all_more p q h ts a.1)

entry_more : (p q : ℕ → Bool) → Implies p q → (e : Option NamedType) → goes_entry p e ≡ true → goes_entry q e ≡ true
entry_more p q h None g = absurd (cc)
entry_more p q h (Some e) g = goes_more p q h e.ty g

module _ (types : List NamedType) where
  one_more : (d : ℕ) → Implies (through types d) (through types (suc d))
  one_more zero k g = absurd (cc)
  one_more (suc d) k g = entry_more (through types d) (through types (suc d)) (one_more d) (slice_get types k) g

  far_more : (e d : ℕ) → Implies (through types d) (through types (e + d))
  far_more zero d k g = let h : d ≡ 0 + d = omega arith in subst (λ n. through types n k ≡ true) h g
  far_more (suc e) d k g = let h : suc (e + d) ≡ suc e + d = omega arith in subst (λ n. through types n k ≡ true) h (one_more (e + d) k (far_more e d k g))

  -- where one name more gives nothing more, no number of names does
  stays : (d : ℕ) → Implies (through types (suc d)) (through types d) → (e : ℕ) → Implies (through types (e + d)) (through types d)
  stays d h zero k g = let q : 0 + d ≡ d = omega arith in subst (λ n. through types n k ≡ true) q g
  stays d h (suc e) k g =
      let q : suc e + d ≡ suc (e + d) = omega arith in
      h k (entry_more (through types (e + d)) (through types d) (stays d h e) (slice_get types k) (subst (λ n. through types n k ≡ true) q g))

-- How many numbers pass a test.

abbrev count : (ℕ → Bool) → ℕ → ℕ
count p zero = 0
count p (suc n) = count p n + (if p n then 1 else 0)

one_le : (b : Bool) → (if b then 1 else 0) ≤ 1
one_le true = omega arith
one_le false = omega arith

count_le : (p : ℕ → Bool) (n : ℕ) → count p n ≤ n
count_le p zero = omega arith
count_le p (suc n) = let a = count_le p n in let b = one_le (p n) in omega (arith, a, b)

same_last : (k n : ℕ) (b : Bool) → nat_lt k n ≡ b → k < suc n → b ≡ false → n ≡ k
same_last k n true e h f = absurd (cc)
same_last k n false e h f = grind (arith, nat_tests, e, h)

one_only : (b : Bool) → 1 ≤ (if b then 1 else 0) → b ≡ true
one_only true h = refl
one_only false h = absurd (omega (arith, h))

-- where as many pass as there are, each does
full : (p : ℕ → Bool) (n : ℕ) → n ≤ count p n → (k : ℕ) → k < n → p k ≡ true
full p zero h k l = absurd (omega (arith, l))
full p (suc n) h k l = by (nat_lt k n) refl (λ a b. full p n a k b)
  where
    by : (b : Bool) → nat_lt k n ≡ b → (n ≤ count p n → k < n → p k ≡ true) → p k ≡ true
    by true e before = let b = one_le (p n) in before (omega (arith, h, b)) (true_less k n e)
    by false e before = let c = count_le p n in subst (λ j. p j ≡ true) (same_last k n false e l refl) (one_only (p n) (omega (arith, h, c)))

-- a weaker test passes more numbers, or the same ones

abbrev Back : (ℕ → Bool) → (ℕ → Bool) → ℕ → Type 0
Back p q n = (k : ℕ) → k < n → q k ≡ true → p k ≡ true

count_more : (p q : ℕ → Bool) → Implies p q → (n : ℕ) → count p n ≤ count q n
count_more p q h zero = omega arith
count_more p q h (suc n) = let a = count_more p q h n in by (p n) (q n) (h n) a
  where
    by : (b c : Bool) → (b ≡ true → c ≡ true) → count p n ≤ count q n → count p n + (if b then 1 else 0) ≤ count q n + (if c then 1 else 0)
    by true true g a = omega (arith, a)
    by true false g a = let e : false ≡ true = g refl in absurd (cc)
    by false true g a = omega (arith, a)
    by false false g a = omega (arith, a)

grows_or : (p q : ℕ → Bool) → Implies p q → (n : ℕ) → Back p q n ⊎ (count p n < count q n)
grows_or p q h zero = inl (λ k l g. absurd (omega (arith, l)))
grows_or p q h (suc n) = by (p n) (q n) refl refl (grows_or p q h n)
  where
    last : (b : Bool) → p n ≡ b → (q n ≡ true → b ≡ true) → Back p q n → Back p q (suc n)
    last b e g back k l qk = at (nat_lt k n) refl
      where
        at : (c : Bool) → nat_lt k n ≡ c → p k ≡ true
        at true f = back k (true_less k n f) qk
        at false f =
            let s : n ≡ k = same_last k n false f l refl in
            subst (λ j. p j ≡ true) s (e ∙ g (subst (λ j. q j ≡ true) (sym s) qk))

    by : (b c : Bool) → p n ≡ b → q n ≡ c → Back p q n ⊎ (count p n < count q n) → Back p q (suc n) ⊎ (count p (suc n) < count q (suc n))
    by true c e f (inl back) = inl (last true e (λ g. refl) back)
    by false true e f (inl back) =
        let a = count_more p q h n in
        let x : ◌≡◌ {A = ℕ} (if p n then 1 else 0) 0 = ap (λ b. if b then 1 else 0) e in
        let y : ◌≡◌ {A = ℕ} (if q n then 1 else 0) 1 = ap (λ b. if b then 1 else 0) f in
        inr (omega (arith, a, x, y))
    by false false e f (inl back) = inl (last false e (λ g. absurd (cc (f, g))) back)
    by b c e f (inr less) =
        let x : (if p n then 1 else 0) ≤ (if q n then 1 else 0) = single (p n) (q n) (h n) in
        inr (omega (arith, less, x))
      where
        single : (b c : Bool) → (b ≡ true → c ≡ true) → (if b then 1 else 0) ≤ (if c then 1 else 0)
        single true true g = omega arith
        single true false g = let e : false ≡ true = g refl in absurd (cc)
        single false c g = omega arith

beyond : (types : List NamedType) (d k : ℕ) → length types ≤ k → through types d k ≡ false
beyond types zero k h = refl
beyond types (suc d) k h = ap (goes_entry (through types d)) (slice_get_past types k h)

module _ (types : List NamedType) where
  abbrev Enough : ℕ → Type 0
  Enough d = Implies (through types 64) (through types d)

  enough_by : (d : ℕ) → Implies (through types (suc d)) (through types d) → (b : Bool) → nat_le d 64 ≡ b → Enough d
  enough_by d h true e k g =
      let q : 64 ≡ (64 - d) + d = grind (arith, nat_tests, e) in
      stays types d h (64 - d) k (subst (λ n. through types n k ≡ true) q g)
  enough_by d h false e k g =
      let q : (d - 64) + 64 ≡ d = grind (arith, nat_tests, e) in
      subst (λ n. through types n k ≡ true) q (far_more types (d - 64) 64 k g)

  -- numbers past the types go through nothing
  all_back : (d : ℕ) → Back (through types d) (through types (suc d)) (length types) → Implies (through types (suc d)) (through types d)
  all_back d back k g = by (nat_lt k (length types)) refl
    where
      by : (b : Bool) → nat_lt k (length types) ≡ b → through types d k ≡ true
      by true e = back k (true_less k (length types) e) g
      by false e =
          let p : length types ≤ k = grind (arith, nat_tests, e) in
          let f = beyond types (suc d) k p in
          absurd (cc (f, g))

  -- either so many names are enough, or as many types go through no more
  enough_or : (d : ℕ) → Enough d ⊎ (d ≤ count (through types d) (length types))
  enough_or zero = inr (omega arith)
  enough_or (suc d) = by (enough_or d)
    where
      one : d ≤ count (through types d) (length types) → Back (through types d) (through types (suc d)) (length types) ⊎ (count (through types d) (length types) < count (through types (suc d)) (length types)) → Enough (suc d) ⊎ (suc d ≤ count (through types (suc d)) (length types))
      one a (inl back) = inl (λ k g. one_more types d k (enough_by d (all_back d back) (nat_le d 64) refl k g))
      one a (inr less) = inr (omega (arith, a, less))

      by : Enough d ⊎ (d ≤ count (through types d) (length types)) → Enough (suc d) ⊎ (suc d ≤ count (through types (suc d)) (length types))
      by (inl e) = inl (λ k g. one_more types d k (e k g))
      by (inr a) = one a (grows_or (through types d) (through types (suc d)) (one_more types d) (length types))

  enough : Enough (length types)
  enough k g = by (enough_or (length types))
    where
      there : length types ≤ count (through types (length types)) (length types) → (b : Bool) → nat_lt k (length types) ≡ b → through types (length types) k ≡ true
      there a true e = full (through types (length types)) (length types) a k (true_less k (length types) e)
      there a false e =
          let p : length types ≤ k = grind (arith, nat_tests, e) in
          let f = beyond types 64 k p in
          absurd (cc (f, g))

      by : Enough (length types) ⊎ (length types ≤ count (through types (length types)) (length types)) → through types (length types) k ≡ true
      by (inl e) = e k g
      by (inr a) = there a (nat_lt k (length types)) refl

-- a type that nests at most so deep goes through at most as many names

module _ (ok : IrType → Bool) (named : ℕ → Bool) (here : (t : IrType) → ok t ≡ true → goes named t ≡ true) where
  all_go : (ts : IrTypes) → list_all ok (list_of_types ts) ≡ true → goes_all named ts ≡ true
  all_go none h = refl
  all_go (also t ts) h =
      let a = and_parts (ok t) (list_all ok (list_of_types ts)) h in
      and_from (goes named t) (goes_all named ts) (here t a.0) (all_go ts a.1)

  struct_goes : (t : IrType) → is_struct t ≡ true → list_all ok (fields_of t) ≡ true → goes named t ≡ true
  struct_goes (One x) s h = absurd (cc)
  struct_goes (Array c t) s h = absurd (cc)
  struct_goes (Struct ts) s h = all_go ts h
  struct_goes (Packed ts) s h = all_go ts h
  struct_goes (Named k) s h = absurd (cc)

  entry_goes : (k : ℕ) (e : Option NamedType) → is_struct (entry_or e (Named k)) ≡ true → list_all ok (fields_of (entry_or e (Named k))) ≡ true → goes_entry named e ≡ true
  entry_goes k None s h = absurd (cc)
  entry_goes k (Some e) s h = struct_goes e.ty s h

within_goes : (types : List NamedType) (n : ℕ) (t : IrType) → is_type_within types n t ≡ true → goes (through types n) t ≡ true
within_goes types zero (One s) h = refl
within_goes types zero (Array c t) h = absurd (cc)
within_goes types zero (Struct ts) h = absurd (cc)
within_goes types zero (Packed ts) h = absurd (cc)
within_goes types zero (Named k) h = absurd (cc)
within_goes types (suc n) (One s) h = refl
within_goes types (suc n) (Array c t) h =
    let a = and_parts (is_type_within types n t) true (within types n (Array c t) h).parts in
    goes_more (through types n) (through types (suc n)) (one_more types n) t (within_goes types n t a.0)
within_goes types (suc n) (Struct ts) h =
    all_more (through types n) (through types (suc n)) (one_more types n) ts (all_go (is_type_within types n) (through types n) (λ u g. within_goes types n u g) ts (within types n (Struct ts) h).parts)
within_goes types (suc n) (Packed ts) h =
    all_more (through types n) (through types (suc n)) (one_more types n) ts (all_go (is_type_within types n) (through types n) (λ u g. within_goes types n u g) ts (within types n (Packed ts) h).parts)
within_goes types (suc n) (Named k) h =
    let w = within types n (Named k) h in
    entry_goes (is_type_within types n) (through types n) (λ u g. within_goes types n u g) k (slice_get types k) w.names w.parts

-- the same fields through any number of names that is enough

module _ (types : List NamedType) (a b : ℕ → ℕ → List FieldName) (named : ℕ → Bool) (same : (k : ℕ) → named k ≡ true → (o : ℕ) → a k o ≡ b k o) where
  mutual
    same_type : (t : IrType) → goes named t ≡ true → (o : ℕ) → fields_at types a t o ≡ fields_at types b t o
    same_type (One s) h o = refl
    same_type (Array n t) h o = λ j. array_fields_at (λ x. same_type t h x j) n (size_of types t) o
    same_type (Struct ts) h o = same_fields None false ts h 0 (layout 0 1) o
    same_type (Packed ts) h o = same_fields None true ts h 0 (layout 0 1) o
    same_type (Named k) h o = same k h o

    same_fields : (name : Option ℕ) (packed : Bool) (ts : IrTypes) → goes_all named ts ≡ true → (k : ℕ) (laid : Layout) (o : ℕ) → struct_fields_at types a name packed ts k laid o ≡ struct_fields_at types b name packed ts k laid o
    same_fields name packed none h k laid o = refl
    same_fields name packed (also t ts) h k laid o =
        let p = and_parts (goes named t) (goes_all named ts) h in
        λ j. field_here (names_of name k) (λ x. same_type t p.0 x j) (start_of types packed t laid) (size_of types t) o ++ same_fields name packed ts p.1 (suc k) (beside packed laid (layout_of types t)) o j

  same_entry : (n : ℕ) (e : Option NamedType) → goes_entry named e ≡ true → (o : ℕ) → fields_of_entry types a n e o ≡ fields_of_entry types b n e o
  same_entry n None h o = refl
  same_entry n (Some e) h o = by e.ty h
    where
      by : (t : IrType) → goes named t ≡ true → entry_fields types a n t o ≡ entry_fields types b n t o
      by (One s) g = refl
      by (Array c t) g = refl
      by (Struct ts) g = same_fields (Some n) false ts g 0 (layout 0 1) o
      by (Packed ts) g = same_fields (Some n) true ts g 0 (layout 0 1) o
      by (Named k) g = refl

same_named : (types : List NamedType) (d j k : ℕ) → d ≤ j → d ≤ k → (n : ℕ) → through types d n ≡ true → (o : ℕ) → named_fields_at types j n o ≡ named_fields_at types k n o
same_named types zero j k p q n h o = absurd (cc)
same_named types (suc d) zero k p q n h o = absurd (omega (arith, p))
same_named types (suc d) (suc j) zero p q n h o = absurd (omega (arith, q))
same_named types (suc d) (suc j) (suc k) p q n h o =
    same_entry types (named_fields_at types j) (named_fields_at types k) (through types d) (λ m g x. same_named types d j k (omega (arith, p)) (omega (arith, q)) m g x) n (slice_get types n) h o

alike_by : (types : List NamedType) (d j k : ℕ) (t : IrType) (o : ℕ) → d ≤ j → d ≤ k → goes (through types d) t ≡ true → fields_at types (named_fields_at types j) t o ≡ fields_at types (named_fields_at types k) t o
alike_by types d j k t o p q h = same_type types (named_fields_at types j) (named_fields_at types k) (through types d) (λ n g x. same_named types d j k p q n g x) t h o

-- through as many names as there are types, a lawful type has the fields that it has through 64
pub deep_enough : (types : List NamedType) (t : IrType) (o : ℕ) → IsTrue (is_lawful_type types t) → fields_at types (named_fields_at types 64) t o ≡ fields_at types (named_fields_at types (length types)) t o
deep_enough types t o h = by (nat_le (length types) 64) refl
  where
    by : (b : Bool) → nat_le (length types) 64 ≡ b → fields_at types (named_fields_at types 64) t o ≡ fields_at types (named_fields_at types (length types)) t o
    by true e =
        alike_by types (length types) 64 (length types) t o (grind (arith, nat_tests, e)) (omega arith)
        (goes_more (through types 64) (through types (length types)) (enough types) t (within_goes types 64 t h))
    by false e = alike_by types 64 64 (length types) t o (omega arith) (grind (arith, nat_tests, e)) (within_goes types 64 t h)
