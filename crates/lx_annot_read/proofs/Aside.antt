-- Statements that differ in lines alone.
use Rattle.std.proofs.Common.{◌≡◌, ℕ, Bool, true, false, List, [], ◌∷◌, ◌++◌, map, Ok, Err, refl, sym, ap, ◌∙◌, subst, codes}
use Rattle.std.specs.Prelude.{if◌then◌else◌, ◌||◌}
use Rattle.std.specs.List.{list_any}
use Rattle.lx_words.proofs.Lists.{map_one_more}
use Rattle.lx_annot.specs.declared.interface.CapIterator.{CapIterator}
use Rattle.lx_annot.specs.declared.interface.Slot.{Slot}
use Rattle.lx_annot.specs.declared.interface.Field.{Field}
use Rattle.lx_annot.specs.declared.interface.Export.{Export}
use Rattle.lx_annot.specs.declared.interface.Interface.{Interface}
use Rattle.lx_annot_expressions.specs.declared.fault.FaultKind.TheVariants.{Twice}
use Rattle.lx_annot_expressions.specs.Tokens.{Tok}
use Rattle.lx_annot_expressions.specs.Reading.{Read, ◌>>=◌, at, behind, has, next_at, number_at}
use Rattle.lx_annot_expressions.specs.Names.{fresh_at, known_at}
use Rattle.lx_annot_terms.specs.Lists.{Known}
use Rattle.lx_annot_read.specs.declared.head.Version.{Version}
use Rattle.lx_annot_read.specs.Head.{may_lend}
use Rattle.lx_annot_read.specs.Interfaces.{iterator_names, slot_names, export_names, known_in, is_field, is_typed, with_reftype, with_iterator, with_slot, with_field, with_export, reftype_at, iterator_body_at, iterator_at, callable_at, slot_at, export_at, struct_at, greatest_index, untyped, index_at, field_at, statement_at}
use Rattle.lx_annot_read.specs.Aside.{iterator_aside, slot_aside, field_aside, export_aside, lines_aside}

-- the same, lines aside
abbrev pub Same : Interface → Interface → Type 0
Same i j = lines_aside i ≡ lines_aside j

-- Names do not hang on lines.

map_aside : {A B : Type 0} (f : A → B) (g : A → A) → ((x : A) → f (g x) ≡ f x) → (xs : List A) → map f (map g xs) ≡ map f xs
map_aside f g h [] = refl
map_aside f g h (x ∷ xs) = λ i. h x i ∷ map_aside f g h xs i

any_aside : {A : Type 0} (p : A → Bool) (g : A → A) → ((x : A) → p (g x) ≡ p x) → (xs : List A) → list_any p (map g xs) ≡ list_any p xs
any_aside p g h [] = refl
any_aside p g h (x ∷ xs) = λ i. h x i || any_aside p g h xs i

pub same_reftypes : (i j : Interface) → Same i j → i.reftypes ≡ j.reftypes
same_reftypes i j s = ap (λ (k : Interface). k.reftypes) s

pub same_iterators : (i j : Interface) → Same i j → iterator_names i ≡ iterator_names j
same_iterators i j s =
    sym (map_aside (λ (x : CapIterator). x.name) iterator_aside (λ x. refl) i.iterators) ∙ ap (λ (k : Interface). map (λ (x : CapIterator). x.name) k.iterators) s ∙ map_aside (λ (x : CapIterator). x.name) iterator_aside (λ x. refl) j.iterators

pub same_slots : (i j : Interface) → Same i j → slot_names i ≡ slot_names j
same_slots i j s =
    sym (map_aside (λ (x : Slot). x.name) slot_aside (λ x. refl) i.slots) ∙ ap (λ (k : Interface). map (λ (x : Slot). x.name) k.slots) s ∙ map_aside (λ (x : Slot). x.name) slot_aside (λ x. refl) j.slots

pub same_exports : (i j : Interface) → Same i j → export_names i ≡ export_names j
same_exports i j s =
    sym (map_aside (λ (x : Export). x.name) export_aside (λ x. refl) i.exports) ∙ ap (λ (k : Interface). map (λ (x : Export). x.name) k.exports) s ∙ map_aside (λ (x : Export). x.name) export_aside (λ x. refl) j.exports

pub same_typed : (i j : Interface) (struct : List ℕ) (n : ℕ) → Same i j → is_typed i struct n ≡ is_typed j struct n
same_typed i j struct n s =
    sym (any_aside (is_field struct n) field_aside (λ x. refl) i.fields) ∙ ap (λ (k : Interface). list_any (is_field struct n) k.fields) s ∙ any_aside (is_field struct n) field_aside (λ x. refl) j.fields

same_known : (v : Version) (i j : Interface) → Same i j → known_in v i ≡ known_in v j
same_known v i j s = λ k. record { reftypes = same_reftypes i j s k; iterators = same_iterators i j s k; lends = may_lend v }

-- One more of a kind.

make : List (List ℕ) → List CapIterator → List Slot → List Field → List Export → Interface
make a b c d e = record { reftypes = a; iterators = b; slots = c; fields = d; exports = e }

pub same_by : (i j : Interface) → i.reftypes ≡ j.reftypes → i.iterators ≡ j.iterators → i.slots ≡ j.slots → i.fields ≡ j.fields → i.exports ≡ j.exports → i ≡ j
same_by i j a b c d e = λ k. record { reftypes = a k; iterators = b k; slots = c k; fields = d k; exports = e k }

iterators_aside : (i j : Interface) → Same i j → map iterator_aside i.iterators ≡ map iterator_aside j.iterators
iterators_aside i j s = ap (λ (k : Interface). k.iterators) s

slots_aside : (i j : Interface) → Same i j → map slot_aside i.slots ≡ map slot_aside j.slots
slots_aside i j s = ap (λ (k : Interface). k.slots) s

fields_aside : (i j : Interface) → Same i j → map field_aside i.fields ≡ map field_aside j.fields
fields_aside i j s = ap (λ (k : Interface). k.fields) s

exports_aside : (i j : Interface) → Same i j → map export_aside i.exports ≡ map export_aside j.exports
exports_aside i j s = ap (λ (k : Interface). k.exports) s

reftype_more : (i j : Interface) (n : List ℕ) → Same i j → Same (with_reftype i n) (with_reftype j n)
reftype_more i j n s = same_by _ _ (ap (λ ns. ns ++ n ∷ []) (same_reftypes i j s)) (iterators_aside i j s) (slots_aside i j s) (fields_aside i j s) (exports_aside i j s)

iterator_more : (i j : Interface) (x y : CapIterator) → Same i j → iterator_aside x ≡ iterator_aside y → Same (with_iterator i x) (with_iterator j y)
iterator_more i j x y s e = same_by _ _ (same_reftypes i j s) (map_one_more iterator_aside i.iterators j.iterators x y (iterators_aside i j s) e) (slots_aside i j s) (fields_aside i j s) (exports_aside i j s)

slot_more : (i j : Interface) (x y : Slot) → Same i j → slot_aside x ≡ slot_aside y → Same (with_slot i x) (with_slot j y)
slot_more i j x y s e = same_by _ _ (same_reftypes i j s) (iterators_aside i j s) (map_one_more slot_aside i.slots j.slots x y (slots_aside i j s) e) (fields_aside i j s) (exports_aside i j s)

field_more : (i j : Interface) (x y : Field) → Same i j → field_aside x ≡ field_aside y → Same (with_field i x) (with_field j y)
field_more i j x y s e = same_by _ _ (same_reftypes i j s) (iterators_aside i j s) (slots_aside i j s) (map_one_more field_aside i.fields j.fields x y (fields_aside i j s) e) (exports_aside i j s)

export_more : (i j : Interface) (x y : Export) → Same i j → export_aside x ≡ export_aside y → Same (with_export i x) (with_export j y)
export_more i j x y s e = same_by _ _ (same_reftypes i j s) (iterators_aside i j s) (slots_aside i j s) (fields_aside i j s) (map_one_more export_aside i.exports j.exports x y (exports_aside i j s) e)

-- Reading.

abbrev pub SameRead : Read Interface → Read Interface → Type 0
SameRead (Ok x) (Ok y) = Same x.0 y.0 × (x.1 ≡ y.1)
SameRead (Ok x) (Err f) = ⊥
SameRead (Err e) (Ok y) = ⊥
SameRead (Err e) (Err f) = e ≡ f

bind_same : {A : Type 0} (r : Read A) (g h : A × List Tok → Read Interface) → ((x : A × List Tok) → SameRead (g x) (h x)) → SameRead (r >>= g) (r >>= h)
bind_same (Ok x) g h s = s x
bind_same (Err e) g h s = refl

if_same : (b : Bool) (a c a' c' : Read Interface) → SameRead a a' → SameRead c c' → SameRead (if b then a else c) (if b then a' else c')
if_same true a c a' c' s t = s
if_same false a c a' c' s t = t

reftype_same : (i j : Interface) (ts : List Tok) → Same i j → SameRead (reftype_at i ts) (reftype_at j ts)
unfolding reftype_at
reftype_same i j ts s =
    subst (λ ns. SameRead (fresh_at i.reftypes ts >>= λ n. Ok (with_reftype i n.0, n.1)) (fresh_at ns ts >>= λ n. Ok (with_reftype j n.0, n.1))) (same_reftypes i j s)
    (bind_same (fresh_at i.reftypes ts) (λ n. Ok (with_reftype i n.0, n.1)) (λ n. Ok (with_reftype j n.0, n.1)) (λ n. (reftype_more i j n.0 s, refl)))

abbrev iterator_by : List (List ℕ) → Known → ℕ → Interface → List Tok → Read Interface
iterator_by names known line i ts = do
  n ← fresh_at names ts
  items ← iterator_body_at known n.1
  Ok (with_iterator i (record { name = n.0; items = items.0; line = line }), items.1)

iterator_by_same : (names : List (List ℕ)) (known : Known) (l m : ℕ) (i j : Interface) (ts : List Tok) → Same i j → SameRead (iterator_by names known l i ts) (iterator_by names known m j ts)
iterator_by_same names known l m i j ts s =
    bind_same (fresh_at names ts) _ _ (λ n. bind_same (iterator_body_at known n.1) _ _ (λ x. (iterator_more i j _ _ s refl, refl)))

iterator_same : (v : Version) (l m : ℕ) (i j : Interface) (ts : List Tok) → Same i j → SameRead (iterator_at v l i ts) (iterator_at v m j ts)
unfolding iterator_at
iterator_same v l m i j ts s =
    subst (λ ns. SameRead (iterator_by (iterator_names i) (known_in v i) l i ts) (iterator_by ns (known_in v j) m j ts)) (same_iterators i j s)
    (subst (λ k. SameRead (iterator_by (iterator_names i) (known_in v i) l i ts) (iterator_by (iterator_names i) k m j ts)) (same_known v i j s)
    (iterator_by_same (iterator_names i) (known_in v i) l m i j ts s))

abbrev slot_by : List (List ℕ) → Known → ℕ → Interface → List Tok → Read Interface
slot_by names known line i ts = do
  n ← fresh_at names ts
  f ← callable_at known n.1
  Ok (with_slot i (record { name = n.0; params = f.0.signature.params; ret = f.0.signature.ret; annotation = f.0.annotation; line = line }), f.1)

slot_by_same : (names : List (List ℕ)) (known : Known) (l m : ℕ) (i j : Interface) (ts : List Tok) → Same i j → SameRead (slot_by names known l i ts) (slot_by names known m j ts)
slot_by_same names known l m i j ts s =
    bind_same (fresh_at names ts) _ _ (λ n. bind_same (callable_at known n.1) _ _ (λ f. (slot_more i j _ _ s refl, refl)))

slot_same : (v : Version) (l m : ℕ) (i j : Interface) (ts : List Tok) → Same i j → SameRead (slot_at v l i ts) (slot_at v m j ts)
unfolding slot_at
slot_same v l m i j ts s =
    subst (λ ns. SameRead (slot_by (slot_names i) (known_in v i) l i ts) (slot_by ns (known_in v j) m j ts)) (same_slots i j s)
    (subst (λ k. SameRead (slot_by (slot_names i) (known_in v i) l i ts) (slot_by (slot_names i) k m j ts)) (same_known v i j s)
    (slot_by_same (slot_names i) (known_in v i) l m i j ts s))

abbrev export_by : List (List ℕ) → Known → ℕ → Interface → List Tok → Read Interface
export_by names known line i ts = do
  n ← fresh_at names ts
  f ← callable_at known n.1
  Ok (with_export i (record { name = n.0; params = f.0.signature.params; ret = f.0.signature.ret; annotation = f.0.annotation; line = line }), f.1)

export_by_same : (names : List (List ℕ)) (known : Known) (l m : ℕ) (i j : Interface) (ts : List Tok) → Same i j → SameRead (export_by names known l i ts) (export_by names known m j ts)
export_by_same names known l m i j ts s =
    bind_same (fresh_at names ts) _ _ (λ n. bind_same (callable_at known n.1) _ _ (λ f. (export_more i j _ _ s refl, refl)))

export_same : (v : Version) (l m : ℕ) (i j : Interface) (ts : List Tok) → Same i j → SameRead (export_at v l i ts) (export_at v m j ts)
unfolding export_at
export_same v l m i j ts s =
    subst (λ ns. SameRead (export_by (export_names i) (known_in v i) l i ts) (export_by ns (known_in v j) m j ts)) (same_exports i j s)
    (subst (λ k. SameRead (export_by (export_names i) (known_in v i) l i ts) (export_by (export_names i) k m j ts)) (same_known v i j s)
    (export_by_same (export_names i) (known_in v i) l m i j ts s))

same_index : (i j : Interface) (place : List Tok) (struct : List ℕ) (n : ℕ × List Tok) → Same i j → untyped i place struct n ≡ untyped j place struct n
same_index i j place struct n s = ap (λ b. if b then Err (at Twice place) else Ok (n.0, n.1)) (same_typed i j struct n.0 s)

bind_alike : {A B : Type 0} (r : Read A) (g h : A × List Tok → Read B) → ((x : A × List Tok) → g x ≡ h x) → (r >>= g) ≡ (r >>= h)
bind_alike (Ok x) g h s = s x
bind_alike (Err e) g h s = refl

abbrev field_by : List (List ℕ) → Read ℕ → ℕ → Interface → List ℕ → Read Interface
field_by names index line i struct = do
  k ← index
  c ← next_at (codes ":") k.1
  t ← known_at names c.1
  Ok (with_field i (record { name = struct; index = k.0; slot = t.0; line = line }), t.1)

field_by_same : (names : List (List ℕ)) (index : Read ℕ) (l m : ℕ) (i j : Interface) (struct : List ℕ) → Same i j → SameRead (field_by names index l i struct) (field_by names index m j struct)
field_by_same names index l m i j struct s =
    bind_same index _ _ (λ k. bind_same (next_at (codes ":") k.1) _ _ (λ c. bind_same (known_at names c.1) _ _ (λ t. (field_more i j _ _ s refl, refl))))

field_same : (l m : ℕ) (i j : Interface) (ts : List Tok) → Same i j → SameRead (field_at l i ts) (field_at m j ts)
unfolding field_at
field_same l m i j ts s =
    bind_same (struct_at ts) (λ x. field_by (slot_names i) (index_at i ts x.0 x.1) l i x.0) (λ x. field_by (slot_names j) (index_at j ts x.0 x.1) m j x.0)
    (λ x. subst (λ ns. SameRead (field_by (slot_names i) (index_at i ts x.0 x.1) l i x.0) (field_by ns (index_at j ts x.0 x.1) m j x.0)) (same_slots i j s)
    (subst (λ r. SameRead (field_by (slot_names i) (index_at i ts x.0 x.1) l i x.0) (field_by (slot_names i) r m j x.0)) (bind_alike (number_at greatest_index x.1) (untyped i ts x.0) (untyped j ts x.0) (λ n. same_index i j ts x.0 n s))
    (field_by_same (slot_names i) (index_at i ts x.0 x.1) l m i j x.0 s)))

pub statement_same : (v : Version) (l m : ℕ) (i j : Interface) (ts : List Tok) → Same i j → SameRead (statement_at v l i ts) (statement_at v m j ts)
unfolding statement_at
statement_same v l m i j ts s =
    if_same (has (codes "reftype") ts) _ _ _ _ (reftype_same i j (behind ts) s)
    (if_same (has (codes "iterator") ts) _ _ _ _ (iterator_same v l m i j (behind ts) s)
    (if_same (has (codes "slot") ts) _ _ _ _ (slot_same v l m i j (behind ts) s)
    (if_same (has (codes "field") ts) _ _ _ _ (field_same l m i j (behind ts) s)
    (if_same (has (codes "export") ts) _ _ _ _ (export_same v l m i j (behind ts) s) refl))))
