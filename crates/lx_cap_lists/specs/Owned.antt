-- What the lists of owners and of loans say of atoms.
use Rattle.std.specs.Prelude.{◌≡◌, ℕ, ◌/◌, ◌%◌, Bool, true, false, ◌&&◌, nat_eq, nat_le, List, Option, Some, None, if◌then◌else◌}
use Rattle.lx_caps.specs.declared.Principal.{Principal}
use Rattle.lx_caps.specs.declared.Atom.{Atom}
use Rattle.lx_caps.specs.declared.Atom.TheVariants as atom
use Rattle.lx_cap_nodes.specs.Words.{nodes_at}
use Rattle.lx_cap_lists.specs.declared.entry.Entry.{Entry}
use Rattle.lx_cap_lists.specs.declared.entry.Spot.{Spot}
use Rattle.lx_cap_lists.specs.declared.entry.Spot.TheVariants as spot
use Rattle.lx_cap_nodes.specs.Bits.{is_set}
use Rattle.lx_cap_lists.specs.Atoms.{atom_among, spot_fits}
use Rattle.lx_cap_lists.specs.Kept.{all_nodes}
use Rattle.lx_cap_lists.specs.Lists.{some_below}
use Rattle.lx_cap_lists.specs.Holders.{held_by}
use Rattle.lx_cap_lists.specs.Tables.{Key, loan_key, place_in, shown_at}
use Rattle.lx_cap_nodes.specs.Pieces.{part_list}

-- the list, if there is one, gives the principal the atom
abbrev pub given_in : List (List (ℕ × Entry)) → Principal → Atom → Option ℕ → Bool
given_in lists who x None = false
given_in lists who x (Some o) = atom_among who (nodes_at lists o) x

-- the list with this key does
abbrev pub listed_atom : List (List (ℕ × Entry)) → List Key → Principal → Atom → Key → Bool
listed_atom lists owners who x key = given_in lists who x (place_in owners key)

-- one of so many loans of the thread does
abbrev pub lent_atom : List (List (ℕ × Entry)) → List Key → Principal → Atom → ℕ → ℕ → Bool
lent_atom lists owners who x t count = some_below count (λ d. listed_atom lists owners who x (loan_key t d))

-- the call or the reference at the spot, if it is there
abbrev pub alone : Spot → Bool → Option Atom
alone (spot.Part part) there = None
alone (spot.Call a) there = if there then Some (atom.Call a) else None
alone (spot.Ref t a) there = if there then Some (atom.Ref t a) else None

-- the call or the reference that the entry gives the principal
abbrev pub alone_by : Principal → Entry → Option Atom
alone_by who e = if held_by who e.holder then alone e.spot (is_set e.mask 0) else None

-- the atom is a byte of the part, from one of its places on, and the principal owns it
abbrev pub owned_from : List (List (ℕ × Entry)) → Principal → ℕ → ℕ → Atom → Bool
owned_from places who part from (atom.Byte b) = nat_eq part (b / 64) && (nat_le from (b % 64) && shown_at places (part_list (b / 64)) (held_by who) (b % 64))
owned_from places who part from (atom.Call a) = false
owned_from places who part from (atom.Ref t a) = false

-- the parts of each list have addresses
unfoldable pub AllFit : List (List (ℕ × Entry)) → Type 0
AllFit lists = (o : ℕ) → all_nodes (λ e. spot_fits e.spot) (nodes_at lists o) ≡ true
