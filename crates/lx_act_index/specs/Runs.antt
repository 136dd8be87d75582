-- Runs of bits that are alike.
use Rattle.std.specs.Prelude.{ℕ, Bool, Option, Some, None, if◌then◌else◌}
use Rattle.lx_caps.specs.declared.Atom.{Atom}
use Rattle.lx_caps.specs.declared.Atom.TheVariants as atom
use Rattle.lx_cap_nodes.specs.Bits.{is_set}

-- the byte that was found, or the end of the part
abbrev pub byte_or_end : Option Atom → ℕ
byte_or_end None = 64
byte_or_end (Some (atom.Byte b)) = b
byte_or_end (Some (atom.Call a)) = 64
byte_or_end (Some (atom.Ref t a)) = 64

-- what is said of a bit, where something is said of those of a mask
abbrev pub said_at : Option Bool → ℕ → ℕ → Option Bool
said_at said mask k = if is_set mask k then said else None
