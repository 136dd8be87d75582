-- The bytes that were gathered, by parts.
use Rattle.std.specs.Prelude.{◌+◌, ◌*◌, ◌^◌, ◌<◌, Bool, true, false, List}
use Rattle.lx_cap_lists.specs.Parts.{is_among}
use Rattle.lx_cap_lists.specs.declared.PartBytes.{PartBytes}
use Rattle.lx_caps.specs.declared.Atom.{Atom}
use Rattle.lx_caps.specs.declared.Atom.TheVariants as atom

abbrev pub is_byte : Atom → Bool
is_byte (atom.Byte b) = true
is_byte (atom.Call a) = false
is_byte (atom.Ref t a) = false

-- the atom is a byte of one of the parts
abbrev pub has_part : List PartBytes → Atom → Bool
has_part xs (atom.Byte b) = is_among b xs
has_part xs (atom.Call a) = false
has_part xs (atom.Ref t a) = false

-- the part's bytes have addresses
abbrev pub PartFits : PartBytes → Type 0
PartFits x = x.part * 64 + 64 < 2 ^ 64
