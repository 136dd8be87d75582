-- Interfaces with other names in the place of names, and the canonical texts of interfaces.
use Rattle.std.specs.Prelude.{◌≡◌, ℕ, List, map}
use Rattle.lx_annot.specs.declared.interface.Parameter.{Parameter}
use Rattle.lx_annot.specs.declared.interface.CapIterator.{CapIterator}
use Rattle.lx_annot.specs.declared.interface.Slot.{Slot}
use Rattle.lx_annot.specs.declared.interface.Field.{Field}
use Rattle.lx_annot.specs.declared.interface.Export.{Export}
use Rattle.lx_annot.specs.declared.interface.Interface.{Interface}
use Rattle.lx_annot.specs.Canonical.{Text, canonical}
use Rattle.lx_annot_read.specs.Interfaces.{iterator_names}
use Rattle.lx_annot_terms.specs.Signatures.{Signature}

-- What is declared, with its names given anew and without its line.

-- a parameter
abbrev pub anew_param : (List ℕ → List ℕ) → Parameter → Parameter
anew_param r p = record { name = r p.name; ty = p.ty }

-- what a slot or an export takes and gives
abbrev pub anew_signature : (List ℕ → List ℕ) → Signature → Signature
anew_signature r sig = record { ret = sig.ret; params = map (anew_param r) sig.params }

-- an iterator; its items name its parameter by number
abbrev pub anew_iterator : (List ℕ → List ℕ) → CapIterator → CapIterator
anew_iterator r x = record { name = r x.name; items = x.items; line = 0 }

-- a slot; its annotation names parameters by number
abbrev pub anew_slot : (List ℕ → List ℕ) → Slot → Slot
anew_slot r x = record { name = r x.name; params = map (anew_param r) x.params; ret = x.ret; annotation = x.annotation; line = 0 }

-- an export, likewise
abbrev pub anew_export : (List ℕ → List ℕ) → Export → Export
anew_export r x = record { name = r x.name; params = map (anew_param r) x.params; ret = x.ret; annotation = x.annotation; line = 0 }

-- What is declared, without its line.

-- an iterator
abbrev pub unlined_iterator : CapIterator → CapIterator
unlined_iterator x = record { name = x.name; items = x.items; line = 0 }

-- a slot
abbrev pub unlined_slot : Slot → Slot
unlined_slot x = record { name = x.name; params = x.params; ret = x.ret; annotation = x.annotation; line = 0 }

-- a field of a struct
abbrev pub unlined_field : Field → Field
unlined_field x = record { name = x.name; index = x.index; slot = x.slot; line = 0 }

-- an export
abbrev pub unlined_export : Export → Export
unlined_export x = record { name = x.name; params = x.params; ret = x.ret; annotation = x.annotation; line = 0 }

-- The second interface is the first with its names given anew, in whatever lines: its annotations are the same values.
pub record IsAnew (r : List ℕ → List ℕ) (i j : Interface) : Type 0 where
  pub reftypes : j.reftypes ≡ map r i.reftypes
  pub iterators : map unlined_iterator j.iterators ≡ map (anew_iterator r) i.iterators
  pub slots : map unlined_slot j.slots ≡ map (anew_slot r) i.slots
  pub fields : map unlined_field j.fields ≡ map unlined_field i.fields
  pub exports : map unlined_export j.exports ≡ map (anew_export r) i.exports

-- A renaming keeps the names that canonical texts have: of reference types and of iterators.
pub record KeepsListNames (r : List ℕ → List ℕ) (i : Interface) : Type 0 where
  pub reftypes : map r i.reftypes ≡ i.reftypes
  pub iterators : map r (iterator_names i) ≡ iterator_names i

-- the canonical texts of the slots, in their order
abbrev pub slot_texts : Interface → List Text
slot_texts i = map (λ (s : Slot). canonical i s.annotation) i.slots

-- those of the exports
abbrev pub export_texts : Interface → List Text
export_texts i = map (λ (e : Export). canonical i e.annotation) i.exports

-- The slots and the exports of two interfaces have the same canonical texts.
pub record HaveSameTexts (i j : Interface) : Type 0 where
  pub slots : slot_texts j ≡ slot_texts i
  pub exports : export_texts j ≡ export_texts i
