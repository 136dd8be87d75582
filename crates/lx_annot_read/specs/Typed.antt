-- The fields that are typed, by the names of their structs and their numbers there.
use Rattle.std.specs.Prelude.{ℕ, ◌==◌, Bool, ◌&&◌, List, map, bytes_eq}
use Rattle.lx_annot.specs.declared.interface.Field.{Field}
use Rattle.lx_annot.specs.declared.interface.Interface.{Interface}

-- the field of this number of a struct
abbrev pub is_place : List ℕ → ℕ → List ℕ × ℕ → Bool
is_place struct index place = bytes_eq struct place.0 && index == place.1

-- the fields of an interface
abbrev pub field_places : Interface → List (List ℕ × ℕ)
field_places i = map (λ (f : Field). (f.name, f.index)) i.fields
