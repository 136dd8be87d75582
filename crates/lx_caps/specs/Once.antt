-- Atoms in order, each once.
use Rattle.std.specs.Prelude.{Bool, true, false, List, [], ◌∷◌, Option, Some, None}
use Rattle.lx_caps.specs.declared.Atom.{Atom}
use Rattle.lx_caps.specs.Order.{is_behind, same_atom}

-- the atoms that come behind the given one and behind all that are kept before them
abbrev pub rising : Option Atom → List Atom → List Atom
rising last [] = []
rising last (x ∷ xs) = elim (is_behind last x) [ false ↦ rising last xs | true ↦ x ∷ rising (Some x) xs ]

-- the atom is the one found, if one is found
abbrev pub is_atom : Option Atom → Atom → Bool
is_atom None x = false
is_atom (Some y) x = same_atom y x
