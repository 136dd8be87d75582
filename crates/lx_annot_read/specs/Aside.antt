-- What a text says hangs on its tokens: spaces and comments move lines alone.
use Rattle.std.specs.Prelude.{◌≡◌, ℕ, List, map, None, Ok}
use Rattle.lx_words.specs.declared.token.Token.{Token}
use Rattle.lx_annot.specs.declared.interface.CapIterator.{CapIterator}
use Rattle.lx_annot.specs.declared.interface.Slot.{Slot}
use Rattle.lx_annot.specs.declared.interface.Field.{Field}
use Rattle.lx_annot.specs.declared.interface.Export.{Export}
use Rattle.lx_annot.specs.declared.interface.Interface.{Interface}
use Rattle.lx_annot_expressions.specs.Tokens.{toks_of}
use Rattle.lx_annot_read.specs.Texts.{interface_at}

-- an interface whose lines are all 0

abbrev pub iterator_aside : CapIterator → CapIterator
iterator_aside x = record { name = x.name; items = x.items; line = 0 }

abbrev pub slot_aside : Slot → Slot
slot_aside x = record { name = x.name; params = x.params; ret = x.ret; annotation = x.annotation; line = 0 }

abbrev pub field_aside : Field → Field
field_aside x = record { name = x.name; index = x.index; slot = x.slot; line = 0 }

abbrev pub export_aside : Export → Export
export_aside x = record { name = x.name; params = x.params; ret = x.ret; annotation = x.annotation; line = 0 }

abbrev pub lines_aside : Interface → Interface
lines_aside i =
    record {
      reftypes = i.reftypes;
      iterators = map iterator_aside i.iterators;
      slots = map slot_aside i.slots;
      fields = map field_aside i.fields;
      exports = map export_aside i.exports;
    }

-- Two texts with the same tokens say the same interface, lines aside.
abbrev pub TokensSayAll : Type 0
TokensSayAll =
    (text other : List ℕ) (tokens others : List Token) (i : Interface) → toks_of text tokens ≡ toks_of other others → interface_at text None tokens ≡ Ok i → (j : Interface) × (interface_at other None others ≡ Ok j) × (lines_aside i ≡ lines_aside j)
