-- The slot types that a function gets.
use Rattle.std.specs.Prelude.{ℕ, zero, suc, Bool, ◌&&◌, Option, Some, None, List, [], ◌∷◌, ◌++◌, nat_eq, bytes_eq, find, length, slice_get}
use Rattle.std.specs.List.{list_any}
use Rattle.lx_ir.specs.declared.types.NamedType.{NamedType}
use Rattle.lx_ir.specs.declared.module.Module.{Module}
use Rattle.lx_annot.specs.declared.interface.Interface.{Interface}
use Rattle.lx_slot_types.specs.Sites.{FieldName, sites_of}

abbrev pub has_name : Option NamedType → List ℕ → Bool
has_name None name = Rattle.std.specs.Prelude.false
has_name (Some t) name = bytes_eq t.name name

-- the interface types the field with the slot type
abbrev pub types_field : Interface → Module → FieldName → ℕ → Bool
types_field i m name s =
    list_any (λ f. has_name (slice_get m.types name.struct_number) f.name && (nat_eq f.index name.index && nat_eq f.slot s)) i.fields

-- the function gets the slot type
abbrev pub gets : Interface → Module → ℕ → ℕ → Bool
gets i m f s = list_any (λ site. nat_eq site.function f && types_field i m site.at s) (sites_of m)

-- the numbers below this one
abbrev pub below : ℕ → List ℕ
below zero = []
below (suc n) = below n ++ n ∷ []

-- the first slot type in interface order that the function gets
abbrev pub slot_of : Interface → Module → ℕ → Option ℕ
slot_of i m f = find (gets i m f) (below (length i.slots))
