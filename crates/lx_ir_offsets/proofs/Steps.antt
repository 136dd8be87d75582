-- One index after the other.
use Rattle.std.proofs.Common.{◌≡◌, ℕ, zero, suc, ◌+◌, ◌*◌, ◌%◌, ◌^◌, ◌<◌, Bool, true, false, Option, Some, None, List, [], ◌∷◌, map, ℤ, pos, refl, sym, ap, ◌∙◌, subst, arith, nat_le}
use Rattle.std.specs.Prelude.{◌*ℤ◌, option_map, if◌then◌else◌}
use Rattle.std.proofs.lemmas.Nat.{mul-mod_second}
use Rattle.std.proofs.lemmas.Bool.Decides.{nat_tests}
use Rattle.std.proofs.lemmas.Option.{same_Some}
use Rattle.lx_words.specs.declared.word.Width.TheVariants.{W1, W8, W16, W32, W64}
use Rattle.lx_words.specs.declared.word.Width.{Width}
use Rattle.lx_words.specs.Width.{modulus}
use Rattle.lx_words.specs.Word.{Word, signed, modulo, is_negative}
use Rattle.lx_ir.specs.declared.types.NamedType.{NamedType}
use Rattle.lx_ir.specs.IrType.{IrType, One, Array, Struct, Packed, Named, IrTypes, none, also}
use Rattle.lx_ir.specs.Layout.{Layout, layout, beside, field_start, layout_of, named_layouts, unnamed, is_struct, Part, field_after, field_of, offset_of, part_or, part_of, part_at, size_of, element_offset}
use Rattle.lx_ir.specs.Fitting.{◌>>?◌, Layouts, laid_beside, fit_type}
use Rattle.lx_ir_offsets.specs.Offsets.{scaled, numbered, field_number, distance, moved}
use Rattle.lx_ir_offsets.specs.Offsets as offsets
use Rattle.lx_ir_offsets.specs.Laws.{AreThese, FitsAreLayouts}
use Rattle.lx_ir_offsets.specs.DistanceLaws.{CountFields, CountParts}
use Rattle.lx_ir_offsets.proofs.Moduli.{modulo_below, modulo_sum, modulo_product}
use Rattle.lx_ir_offsets.proofs.FitLaws.{within}

some_bind : {A B : Type 0} (o : Option A) (f : A → Option B) (y : B) → (o >>? f) ≡ Some y → (x : A) × (o ≡ Some x) × (f x ≡ Some y)
some_bind (Some x) f y e = (x, refl, e)
some_bind None f y e = cc

abbrev begins : ℕ → IrType → Part
begins n t = record { offset = pos n; ty = t }

-- an index that names a field is its own number
number_is : (w : Width) (n k : ℕ) → numbered w n ≡ Some k → (n ≡ k) × (w ≡ W32)
number_is W1 n k e = cc
number_is W8 n k e = cc
number_is W16 n k e = cc
number_is W32 n k e = (same_Some n k e, refl)
number_is W64 n k e = cc

positive : (b : Bool) (z y : ℤ) → b ≡ false → (if b then z else y) ≡ y
positive true z y e = cc
positive false z y e = refl

small_is : (n : ℕ) → n < 2 ^ 31 → nat_le (2 ^ 32) (2 * n) ≡ false
small_is n h = grind (arith, nat_tests)

unsigned : (i : Word) → i.width ≡ W32 → i.bits < 2 ^ 31 → signed i ≡ pos i.bits
unsigned i e h =
    let m : modulus i.width ≡ 2 ^ 32 = ap modulus e in
    positive (is_negative i) _ (pos i.bits) (ap (λ n. nat_le n (2 * i.bits)) m ∙ small_is i.bits h)

again : (n : ℕ) (z : ℤ) → n ≡ modulo z (2 ^ 64) → n % 2 ^ 64 ≡ modulo z (2 ^ 64)
again n z e = let h : modulo z (2 ^ 64) < 2 ^ 64 = modulo_below z in omega (arith, e, h)

module _ (laws : FitsAreLayouts) (types : List NamedType) (layouts : Layouts) (these : AreThese layouts (named_layouts types 64)) where
  layout_is : (t : IrType) (l : Layout) → fit_type layouts t ≡ Some l → l ≡ layout_of types t
  layout_is t l e = laws layouts (named_layouts types 64) these t l e

  next_laid : (packed : Bool) (laid l more : Layout) (t : IrType) → fit_type layouts t ≡ Some l → laid_beside packed laid l ≡ Some more → more ≡ beside packed laid (layout_of types t)
  next_laid packed laid l more t e g = within (nat_le (beside packed laid l).size 4294967296) (beside packed laid l) more g ∙ ap (beside packed laid) (layout_is t l e)

  -- a field begins where the layout says
  pub field_is : (packed : Bool) (ts : IrTypes) (laid : Layout) (k : ℕ) (p : offsets.Part) → offsets.field_after layouts packed ts laid k ≡ Some p → field_after types packed laid ts k ≡ Some (begins p.offset p.ty)
  field_is packed none laid k p e = cc
  field_is true (also t ts) laid zero p e =
      let a = some_bind (fit_type layouts t) (λ l. Some (offsets.part (field_start true laid l) t)) p e in
      ap (λ (q : offsets.Part). Some (begins q.offset q.ty)) (same_Some (offsets.part laid.size t) p a.2)
  field_is false (also t ts) laid zero p e =
      let a = some_bind (fit_type layouts t) (λ l. Some (offsets.part (field_start false laid l) t)) p e in
      ap (λ (l : Layout). Some (begins (field_start false laid l) t)) (sym (layout_is t a.0 a.1))
      ∙ ap (λ (q : offsets.Part). Some (begins q.offset q.ty)) (same_Some (offsets.part (field_start false laid a.0) t) p a.2)
  field_is packed (also t ts) laid (suc k) p e =
      let a = some_bind (fit_type layouts t) (λ l. laid_beside packed laid l >>? λ more. offsets.field_after layouts packed ts more k) p e in
      let b = some_bind (laid_beside packed laid a.0) (λ more. offsets.field_after layouts packed ts more k) p a.2 in
      ap (λ m. field_after types packed m ts k) (sym (next_laid packed laid a.0 b.0 t a.1 b.1)) ∙ field_is packed ts b.0 k p b.2

  -- a field of a struct, by its number
  pub struct_field : (t : IrType) (i : Word) (p : offsets.Part) → is_struct t ≡ true → offsets.part_of layouts t i ≡ Some p → (k : ℕ) × (field_number i ≡ Some k) × (field_of types t k ≡ Some (begins p.offset p.ty))
  struct_field (One s) i p h e = absurd (cc h)
  struct_field (Array n t) i p h e = absurd (cc h)
  struct_field (Struct ts) i p h e =
      let a = some_bind (field_number i) (λ k. offsets.field_after layouts false ts (layout 0 1) k) p e in
      (a.0, a.1, field_is false ts (layout 0 1) a.0 p a.2)
  struct_field (Packed ts) i p h e =
      let a = some_bind (field_number i) (λ k. offsets.field_after layouts true ts (layout 0 1) k) p e in
      (a.0, a.1, field_is true ts (layout 0 1) a.0 p a.2)
  struct_field (Named k) i p h e = absurd (cc h)

  -- so many values
  pub scaled_is : (t : IrType) (i : Word) (l : Layout) → fit_type layouts t ≡ Some l → scaled i l.size ≡ modulo (signed i *ℤ pos (size_of types t)) (2 ^ 64)
  scaled_is t i l e =
      ap (λ (m : Layout). scaled i m.size) (layout_is t l e)
      ∙ sym (mul-mod_second (modulo (signed i) (2 ^ 64)) (size_of types t) (2 ^ 64))
      ∙ modulo_product (signed i) (pos (size_of types t))

  same_part : (t : IrType) (z : ℤ) (n k : ℕ) (q : Part) → is_struct t ≡ true → z ≡ pos n → n ≡ k → field_of types t k ≡ Some q → part_of types t z ≡ q
  same_part (One s) z n k q h a b e = absurd (cc h)
  same_part (Array c t) z n k q h a b e = absurd (cc h)
  same_part (Struct ts) z n k q h a b e = ap (part_of types (Struct ts)) a ∙ ap (λ j. part_or (field_of types (Struct ts) j) (Struct ts)) b ∙ ap (λ o. part_or o (Struct ts)) e
  same_part (Packed ts) z n k q h a b e = ap (part_of types (Packed ts)) a ∙ ap (λ j. part_or (field_of types (Packed ts) j) (Packed ts)) b ∙ ap (λ o. part_or o (Packed ts)) e
  same_part (Named m) z n k q h a b e = absurd (cc h)

  -- the part that an index names begins where the layout says, and is of the type that it says
  record Begins (t : IrType) (i : Word) (p : offsets.Part) : Type 0 where
    offset : p.offset % 2 ^ 64 ≡ modulo (part_of types t (signed i)).offset (2 ^ 64)
    ty : p.ty ≡ (part_of types t (signed i)).ty

  struct_begins : (t : IrType) (i : Word) (p : offsets.Part) → is_struct t ≡ true → i.bits < 2 ^ 31 → offsets.part_of layouts t i ≡ Some p → Begins t i p
  struct_begins t i p h small e =
      let f = struct_field t i p h e in
      let n = number_is i.width i.bits f.0 f.1 in
      let q : part_of types t (signed i) ≡ begins p.offset p.ty = same_part t (signed i) i.bits f.0 (begins p.offset p.ty) h (unsigned i n.1 small) n.0 f.2 in
      record { offset = ap (λ (x : Part). modulo x.offset (2 ^ 64)) (sym q); ty = ap (λ (x : Part). x.ty) (sym q) }

  part_begins : (t : IrType) (i : Word) (p : offsets.Part) → (is_struct t ≡ true → i.bits < 2 ^ 31) → offsets.part_of layouts t i ≡ Some p → Begins t i p
  part_begins (One s) i p small e = absurd (cc e)
  part_begins (Array c t) i p small e =
      let a = some_bind (fit_type layouts t) (λ l. Some (offsets.part (scaled i l.size) t)) p e in
      let q : offsets.part (scaled i a.0.size) t ≡ p = same_Some (offsets.part (scaled i a.0.size) t) p a.2 in
      record {
        offset = ap (λ (x : offsets.Part). x.offset % 2 ^ 64) (sym q) ∙ again (scaled i a.0.size) (signed i *ℤ pos (size_of types t)) (scaled_is t i a.0 a.1);
        ty = ap (λ (x : offsets.Part). x.ty) (sym q);
      }
  part_begins (Struct ts) i p small e = struct_begins (Struct ts) i p refl (small refl) e
  part_begins (Packed ts) i p small e = struct_begins (Packed ts) i p refl (small refl) e
  part_begins (Named k) i p small e = absurd (cc e)

  sum_on : (a b z : ℕ) → ((a + b) % 2 ^ 64 + z) % 2 ^ 64 ≡ (a + (b % 2 ^ 64 + z) % 2 ^ 64) % 2 ^ 64
  sum_on a b z = omega arith

  pub moved_is : (before n : ℕ) (t : IrType) (is : List Word) → CountFields types t is → before < 2 ^ 64 → moved types layouts before t is ≡ Some n → n ≡ (before + modulo (part_at types t (map signed is)).offset (2 ^ 64)) % 2 ^ 64
  moved_is before n t [] counts h e = let s : before ≡ n = same_Some before n e in omega (arith, s, h)
  moved_is before n t (i ∷ is) counts h e =
      let a = some_bind (offsets.part_of layouts (unnamed types t) i) (λ p. moved types layouts ((before + p.offset) % 2 ^ 64) p.ty is) n e in
      let b = part_begins (unnamed types t) i a.0 counts.0 a.1 in
      let outer : Part = part_of types (unnamed types t) (signed i) in
      let rest : CountFields types a.0.ty is = subst (λ u. CountFields types u is) (sym b.ty) counts.1 in
      moved_is ((before + a.0.offset) % 2 ^ 64) n a.0.ty is rest (omega arith) a.2
      ∙ ap (λ u. ((before + a.0.offset) % 2 ^ 64 + modulo (part_at types u (map signed is)).offset (2 ^ 64)) % 2 ^ 64) b.ty
      ∙ sum_on before a.0.offset (modulo (part_at types outer.ty (map signed is)).offset (2 ^ 64))
      ∙ ap (λ x. (before + (x + modulo (part_at types outer.ty (map signed is)).offset (2 ^ 64)) % 2 ^ 64) % 2 ^ 64) b.offset
      ∙ ap (λ x. (before + x) % 2 ^ 64) (modulo_sum outer.offset (part_at types outer.ty (map signed is)).offset)

  pub distance_is : (t : IrType) (is : List Word) (n : ℕ) → CountParts types t is → distance types layouts t is ≡ Some n → n ≡ modulo (element_offset types t (map signed is)) (2 ^ 64)
  distance_is t [] n counts e = sym (same_Some 0 n e)
  distance_is t (i ∷ is) n counts e =
      let a = some_bind (fit_type layouts t) (λ l. moved types layouts (scaled i l.size) t is) n e in
      let s = scaled_is t i a.0 a.1 in
      moved_is (scaled i a.0.size) n t is counts (omega arith) a.2
      ∙ ap (λ x. (x + modulo (part_at types t (map signed is)).offset (2 ^ 64)) % 2 ^ 64) s
      ∙ modulo_sum (signed i *ℤ pos (size_of types t)) (part_at types t (map signed is)).offset

  pub offset_is : (t : IrType) (i : Word) (k : ℕ) (p : offsets.Part) → is_struct (unnamed types t) ≡ true → field_number i ≡ Some k → offsets.part_of layouts (unnamed types t) i ≡ Some p → offset_of types t k ≡ Some (pos p.offset)
  offset_is t i k p h e g =
      let f = struct_field (unnamed types t) i p h g in
      let same : f.0 ≡ k = same_Some f.0 k (sym f.1 ∙ e) in
      ap (λ j. option_map (λ (x : Part). x.offset) (field_of types (unnamed types t) j)) (sym same) ∙ ap (option_map (λ (x : Part). x.offset)) f.2
