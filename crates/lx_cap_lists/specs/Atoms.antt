-- The atoms of entries.
use Rattle.std.specs.Prelude.{ℕ, ◌/◌, ◌%◌, Bool, true, false, ◌&&◌, ◌||◌, nat_eq, nat_lt, List, [], ◌∷◌}
use Rattle.lx_caps.specs.declared.Principal.{Principal}
use Rattle.lx_cap_lists.specs.Holders.{held_by}
use Rattle.lx_caps.specs.declared.Atom.{Atom}
use Rattle.lx_caps.specs.declared.Atom.TheVariants as atom
use Rattle.lx_cap_lists.specs.declared.entry.Entry.{Entry}
use Rattle.lx_cap_lists.specs.declared.entry.Spot.{Spot}
use Rattle.lx_cap_lists.specs.declared.entry.Spot.TheVariants as spot
use Rattle.lx_cap_nodes.specs.Bits.{is_set}
pub use Rattle.lx_caps.specs.Order.{same_atom}

-- the atom is a byte of the part that has its bit
abbrev pub part_atom : ℕ → ℕ → Atom → Bool
part_atom part bits (atom.Byte b) = nat_eq part (b / 64) && is_set bits (b % 64)
part_atom part bits (atom.Call a) = false
part_atom part bits (atom.Ref t a) = false

abbrev pub spot_atom : Spot → ℕ → Atom → Bool
spot_atom (spot.Part part) mask x = part_atom part mask x
spot_atom (spot.Call a) mask x = is_set mask 0 && same_atom (atom.Call a) x
spot_atom (spot.Ref t a) mask x = is_set mask 0 && same_atom (atom.Ref t a) x

-- the atom is one of the entry's
abbrev pub entry_atom : Entry → Atom → Bool
entry_atom e x = spot_atom e.spot e.mask x

-- a part's bytes have addresses
abbrev pub spot_fits : Spot → Bool
spot_fits (spot.Part part) = nat_lt part 0x100000
spot_fits (spot.Call a) = true
spot_fits (spot.Ref t a) = true

-- the entry gives the principal the atom
abbrev pub gives_atom : Principal → Atom → Entry → Bool
gives_atom who x e = held_by who e.holder && entry_atom e x

-- some node gives the principal the atom
abbrev pub atom_among : Principal → List (ℕ × Entry) → Atom → Bool
atom_among who [] x = false
atom_among who (e ∷ es) x = gives_atom who x e.1 || atom_among who es x
