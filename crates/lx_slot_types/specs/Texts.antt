-- The annotations of slot types, compared by their texts.
use Rattle.std.specs.Prelude.{ℕ, Bool, not, Option, Some, None, [], bytes_eq, slice_get}
use Rattle.lx_annot.specs.Canonical.{Text, canonical}
use Rattle.lx_annot.specs.declared.interface.Interface.{Interface}
use Rattle.lx_annot.specs.declared.interface.Slot.{Slot}

abbrev pub text_of_slot : Interface → Option Slot → Text
text_of_slot i None = []
text_of_slot i (Some s) = canonical i s.annotation

-- the canonical text of a slot type's annotation
abbrev pub slot_text : Interface → ℕ → Text
slot_text i s = text_of_slot i (slice_get i.slots s)

-- the annotations of two slot types are not the same
abbrev pub differ : Interface → ℕ → ℕ → Bool
differ i s t = not (bytes_eq (slot_text i s) (slot_text i t))
