-- An interface that can be said can be with one thing more.
use Rattle.std.proofs.Common.{◌≡◌, ℕ, ◌+◌, ◌==◌, ◌&&◌, false, List, [], ◌∷◌, ◌++◌, length, All, refl, sym, ap, ◌∙◌, bytes_eq, arith}
use Rattle.std.specs.Cmp.{IsEquivalence}
use Rattle.std.specs.List.{IsDistinct, list_any}
use Rattle.std.proofs.lemmas.List.{length-append, map-append, append-nil}
use Rattle.std.proofs.lemmas.List.Elements.{All-nil, All-push, All-weaker}
use Rattle.std.proofs.lemmas.Map.Keys.{IsDistinct-push}
use Rattle.lx_words.proofs.Tests.{same_tests as same_test}
use Rattle.lx_words.proofs.Lists.{bytes_same}
use Rattle.lx_annot.specs.declared.interface.CapIterator.{CapIterator}
use Rattle.lx_annot.specs.declared.interface.Slot.{Slot}
use Rattle.lx_annot.specs.declared.interface.Field.{Field}
use Rattle.lx_annot.specs.declared.interface.Export.{Export}
use Rattle.lx_annot.specs.declared.interface.Interface.{Interface}
use Rattle.lx_annot.specs.Lawful.{same_field}
use Rattle.lx_annot_terms.specs.Lists.{Known}
use Rattle.lx_annot_read.specs.declared.head.Version.{Version}
use Rattle.lx_annot_read.specs.declared.head.Version.TheVariants as versions
use Rattle.lx_annot_read.specs.Interfaces.{iterator_names, slot_names, export_names, known_in, is_typed, with_reftype, with_iterator, with_slot, with_field, with_export, empty}
use Rattle.lx_annot_laws.proofs.Lawful.{iterator_name, slot_name, export_name, differs_more, field_means, field_from}
use Rattle.lx_annot_laws.specs.Says.{IsWord}
use Rattle.lx_annot_laws.specs.Grows.{Grows}
use Rattle.lx_annot_laws.specs.Sayable.{IsSayable, IsSayableSlot, IsSayableExport, IsSayableIterator, IsSayableField}
use Rattle.lx_annot_laws.proofs.SayableParts.{callable_grows, iterator_grows}

-- what may be used
abbrev pub uses : Interface → Known
uses i = known_in versions.Two i

-- Tests of names and of fields.

pub fields_same : IsEquivalence same_field
fields_same = record {
  refl = λ x. field_from x x refl refl;
  symm = λ x y. same_test (same_field x y) (same_field y x) (λ h. let k = field_means x y h in field_from y x (sym k.0) (sym k.1)) (λ h. let k = field_means y x h in field_from x y (sym k.0) (sym k.1));
  congr = λ x y z h. let k = field_means x y h in ap (λ n. (z.index == n) && bytes_eq z.name x.name) (sym k.0) ∙ ap (λ m. (z.index == y.index) && bytes_eq z.name m) (sym k.1);
}

-- What may be used grows.

pub of_two : (v : Version) (i : Interface) → Grows (known_in v i) (uses i)
of_two v i = record { reftypes = ([], sym (append-nil i.reftypes)); iterators = ([], sym (append-nil (iterator_names i))); lends = λ h. refl }

reftype_more : (i : Interface) (name : List ℕ) → Grows (uses i) (uses (with_reftype i name))
reftype_more i name = record { reftypes = (name ∷ [], refl); iterators = ([], sym (append-nil (iterator_names i))); lends = λ h. refl }

iterator_more : (i : Interface) (x : CapIterator) → Grows (uses i) (uses (with_iterator i x))
iterator_more i x = record { reftypes = ([], sym (append-nil i.reftypes)); iterators = (x.name ∷ [], map-append iterator_name i.iterators (x ∷ [])); lends = λ h. refl }

-- what stood there before, where more may be used
record Before (i : Interface) (known : Known) : Type 0 where
  iterators : All (IsSayableIterator known) i.iterators
  slots : All (IsSayableSlot known) i.slots
  exports : All (IsSayableExport known) i.exports

before : (i : Interface) (known : Known) → Grows (uses i) known → IsSayable i → Before i known
before i known grows s = record {
  iterators = All-weaker (IsSayableIterator (uses i)) (IsSayableIterator known) (λ x. iterator_grows (uses i) known grows x) i.iterators s.iterators;
  slots = All-weaker (IsSayableSlot (uses i)) (IsSayableSlot known) (λ x. callable_grows (uses i) known grows x.name (record { ret = x.ret; params = x.params }) x.annotation) i.slots s.slots;
  exports = All-weaker (IsSayableExport (uses i)) (IsSayableExport known) (λ x. callable_grows (uses i) known grows x.name (record { ret = x.ret; params = x.params }) x.annotation) i.exports s.exports;
}

-- One thing more.

pub reftype_kept : (i : Interface) (name : List ℕ) → IsSayable i → IsWord name → list_any (bytes_eq name) i.reftypes ≡ false → IsSayable (with_reftype i name)
reftype_kept i name s word new =
    let old = before i (uses (with_reftype i name)) (reftype_more i name) s in
    record {
      reftypes = All-push IsWord i.reftypes name s.reftypes word;
      iterators = old.iterators;
      slots = old.slots;
      fields = s.fields;
      exports = old.exports;
      reftypes_differ = IsDistinct-push bytes_same i.reftypes name s.reftypes_differ new;
      iterators_differ = s.iterators_differ;
      slots_differ = s.slots_differ;
      fields_differ = s.fields_differ;
      exports_differ = s.exports_differ;
    }

pub iterator_kept : (i : Interface) (x : CapIterator) → IsSayable i → IsSayableIterator (uses i) x → list_any (bytes_eq x.name) (iterator_names i) ≡ false → IsSayable (with_iterator i x)
iterator_kept i x s is new =
    let known = uses (with_iterator i x) in
    let old = before i known (iterator_more i x) s in
    record {
      reftypes = s.reftypes;
      iterators = All-push (IsSayableIterator known) i.iterators x old.iterators (iterator_grows (uses i) known (iterator_more i x) x is);
      slots = old.slots;
      fields = s.fields;
      exports = old.exports;
      reftypes_differ = s.reftypes_differ;
      iterators_differ = differs_more iterator_name i.iterators x s.iterators_differ new;
      slots_differ = s.slots_differ;
      fields_differ = s.fields_differ;
      exports_differ = s.exports_differ;
    }

field_later : (m n : ℕ) (f : Field) → n ≡ m + 1 → IsSayableField m f → IsSayableField n f
field_later m n f e is = record { struct = is.struct; index = is.index; slot = omega (arith, is.slot, e) }

pub slot_kept : (i : Interface) (x : Slot) → IsSayable i → IsSayableSlot (uses i) x → list_any (bytes_eq x.name) (slot_names i) ≡ false → IsSayable (with_slot i x)
slot_kept i x s is new =
    let more : length (i.slots ++ x ∷ []) ≡ length i.slots + 1 = length-append i.slots (x ∷ []) in
    record {
      reftypes = s.reftypes;
      iterators = s.iterators;
      slots = All-push (IsSayableSlot (uses i)) i.slots x s.slots is;
      fields = All-weaker (IsSayableField (length i.slots)) (IsSayableField (length (i.slots ++ x ∷ []))) (λ f. field_later (length i.slots) (length (i.slots ++ x ∷ [])) f more) i.fields s.fields;
      exports = s.exports;
      reftypes_differ = s.reftypes_differ;
      iterators_differ = s.iterators_differ;
      slots_differ = differs_more slot_name i.slots x s.slots_differ new;
      fields_differ = s.fields_differ;
      exports_differ = s.exports_differ;
    }

pub field_kept : (i : Interface) (x : Field) → IsSayable i → IsSayableField (length i.slots) x → is_typed i x.name x.index ≡ false → IsSayable (with_field i x)
field_kept i x s is new = record {
  reftypes = s.reftypes;
  iterators = s.iterators;
  slots = s.slots;
  fields = All-push (IsSayableField (length i.slots)) i.fields x s.fields is;
  exports = s.exports;
  reftypes_differ = s.reftypes_differ;
  iterators_differ = s.iterators_differ;
  slots_differ = s.slots_differ;
  fields_differ = IsDistinct-push fields_same i.fields x s.fields_differ new;
  exports_differ = s.exports_differ;
}

pub export_kept : (i : Interface) (x : Export) → IsSayable i → IsSayableExport (uses i) x → list_any (bytes_eq x.name) (export_names i) ≡ false → IsSayable (with_export i x)
export_kept i x s is new = record {
  reftypes = s.reftypes;
  iterators = s.iterators;
  slots = s.slots;
  fields = s.fields;
  exports = All-push (IsSayableExport (uses i)) i.exports x s.exports is;
  reftypes_differ = s.reftypes_differ;
  iterators_differ = s.iterators_differ;
  slots_differ = s.slots_differ;
  fields_differ = s.fields_differ;
  exports_differ = differs_more export_name i.exports x s.exports_differ new;
}

pub empty_sayable : IsSayable empty
unfolding IsDistinct
empty_sayable = record {
  reftypes = All-nil IsWord;
  iterators = All-nil (IsSayableIterator (uses empty));
  slots = All-nil (IsSayableSlot (uses empty));
  fields = All-nil (IsSayableField 0);
  exports = All-nil (IsSayableExport (uses empty));
  reftypes_differ = tt;
  iterators_differ = tt;
  slots_differ = tt;
  fields_differ = tt;
  exports_differ = tt;
}
