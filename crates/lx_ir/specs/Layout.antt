-- How types lie in memory.
use Rattle.std.specs.Prelude.{ℕ, zero, suc, ◌+◌, ◌*◌, max, Bool, true, false, Option, Some, None, List, [], ◌∷◌, slice_get, option_map, nat_lt, nat_le, ◌&&◌, ◌^◌, ℤ, pos, ◌+ℤ◌, ◌*ℤ◌, nat_abs}
use Rattle.std.specs.Int.{next_multiple_of}
use Rattle.std.specs.List.{list_all}
use Rattle.lx_words.specs.declared.word.Width.{Width}
use Rattle.lx_words.specs.declared.word.Width.TheVariants.{W64}
use Rattle.lx_words.specs.Width.{byte_count}
use Rattle.lx_ir.specs.declared.types.Scalar.{Scalar}
use Rattle.lx_ir.specs.declared.types.Scalar.TheVariants.{Int, Ptr}
use Rattle.lx_ir.specs.declared.types.NamedType.{NamedType}
use Rattle.lx_ir.specs.IrType.{IrType, One, Array, Struct, Packed, Named, IrTypes, none, also}

-- the width of a register of the type
abbrev pub width_of : Scalar → Width
width_of (Int w) = w
width_of Ptr = W64

abbrev pub scalar_size : Scalar → ℕ
scalar_size s = byte_count (width_of s)

-- how many bytes a type takes, and what its addresses are divisible by
pub record Layout : Type 0 where
  pub size : ℕ
  pub align : ℕ

abbrev pub layout : ℕ → ℕ → Layout
layout s a = record { size = s; align = a }

-- a struct with a further field; a packed one leaves no room before it
abbrev pub beside : Bool → Layout → Layout → Layout
beside true fields field = layout (fields.size + field.size) 1
beside false fields field = layout (next_multiple_of fields.size field.align + field.size) (max fields.align field.align)

-- where a further field begins
abbrev pub field_start : Bool → Layout → Layout → ℕ
field_start true fields field = fields.size
field_start false fields field = next_multiple_of fields.size field.align

-- a struct, padded to its greatest alignment
abbrev pub padded : Layout → Layout
padded fields = layout (next_multiple_of fields.size fields.align) fields.align

abbrev mutual
  -- the layout of a type, where that of each named type is known
  pub layout_in : (ℕ → Layout) → IrType → Layout
  layout_in named (One s) = layout (scalar_size s) (scalar_size s)
  layout_in named (Array n t) = layout (n * (layout_in named t).size) (layout_in named t).align
  layout_in named (Struct ts) = padded (fields_in named false ts (layout 0 1))
  layout_in named (Packed ts) = fields_in named true ts (layout 0 1)
  layout_in named (Named k) = named k

  -- fields behind those that are laid
  pub fields_in : (ℕ → Layout) → Bool → IrTypes → Layout → Layout
  fields_in named packed none laid = laid
  fields_in named packed (also t ts) laid = fields_in named packed ts (beside packed laid (layout_in named t))

abbrev pub layout_of_entry : (ℕ → Layout) → Option NamedType → Layout
layout_of_entry named None = layout 0 1
layout_of_entry named (Some t) = layout_in named t.ty

-- the layouts of the named types, through at most so many names
abbrev pub named_layouts : List NamedType → ℕ → ℕ → Layout
named_layouts types zero k = layout 0 1
named_layouts types (suc n) k = layout_of_entry (named_layouts types n) (slice_get types k)

-- a type nests at most 64 deep, so that it goes through at most 64 names, one in another
abbrev pub layout_of : List NamedType → IrType → Layout
layout_of types t = layout_in (named_layouts types 64) t

-- the fields of a struct, one behind another
abbrev pub laid_fields : List NamedType → Bool → IrTypes → Layout
laid_fields types packed ts = fields_in (named_layouts types 64) packed ts (layout 0 1)

abbrev pub size_of : List NamedType → IrType → ℕ
size_of types t = (layout_of types t).size

abbrev pub align_of : List NamedType → IrType → ℕ
align_of types t = (layout_of types t).align

abbrev pub entry_or : Option NamedType → IrType → IrType
entry_or None t = t
entry_or (Some e) t = e.ty

-- the type that a named one names
abbrev pub unnamed : List NamedType → IrType → IrType
unnamed types (Named k) = entry_or (slice_get types k) (Named k)
unnamed types t = t

abbrev pub list_of_types : IrTypes → List IrType
list_of_types none = []
list_of_types (also t ts) = t ∷ list_of_types ts

-- the fields of a struct
abbrev pub fields_of : IrType → List IrType
fields_of (Struct ts) = list_of_types ts
fields_of (Packed ts) = list_of_types ts
fields_of _ = []

abbrev pub is_struct : IrType → Bool
is_struct (Struct ts) = true
is_struct (Packed ts) = true
is_struct _ = false

-- the types that stand in a type: the elements of an array, or the fields of a struct, whose name is written out
abbrev pub parts_of : List NamedType → IrType → List IrType
parts_of types (Array n t) = t ∷ []
parts_of types t = fields_of (unnamed types t)

-- a name names a struct
abbrev pub names_struct : List NamedType → IrType → Bool
names_struct types (Named k) = is_struct (unnamed types (Named k))
names_struct types t = true

abbrev pub is_scalar : IrType → Bool
is_scalar (One s) = true
is_scalar _ = false

-- the type nests at most so deep, with its names written out, and no type in it is larger than 2^32 bytes
abbrev pub is_type_within : List NamedType → ℕ → IrType → Bool
is_type_within types zero t = is_scalar t
is_type_within types (suc n) t =
    names_struct types t && nat_le (size_of types t) 4294967296 && list_all (is_type_within types n) (parts_of types t)

-- a type within the limits, which does not hold itself
abbrev pub is_lawful_type : List NamedType → IrType → Bool
is_lawful_type types t = is_type_within types 64 t

-- a part of a type: where it begins in it, and its type
pub record Part : Type 0 where
  pub offset : ℤ
  pub ty : IrType

-- a field, behind the fields that are laid
abbrev pub field_after : List NamedType → Bool → Layout → IrTypes → ℕ → Option Part
field_after types packed laid none k = None
field_after types true laid (also t ts) zero = Some (record { offset = pos laid.size; ty = t })
field_after types false laid (also t ts) zero =
    Some (record { offset = pos (next_multiple_of laid.size (align_of types t)); ty = t })
field_after types packed laid (also t ts) (suc k) =
    field_after types packed (beside packed laid (layout_of types t)) ts k

-- a field of a struct whose name is written out
abbrev pub field_of : List NamedType → IrType → ℕ → Option Part
field_of types (Struct ts) k = field_after types false (layout 0 1) ts k
field_of types (Packed ts) k = field_after types true (layout 0 1) ts k
field_of types (One s) k = None
field_of types (Array n t) k = None
field_of types (Named n) k = None

-- where a field begins, if there is such a field
abbrev pub offset_of : List NamedType → IrType → ℕ → Option ℤ
offset_of types t k = option_map (λ part. part.offset) (field_of types (unnamed types t) k)

abbrev pub part_or : Option Part → IrType → Part
part_or None t = record { offset = pos 0; ty = t }
part_or (Some part) t = part

-- the part that an index names: an element of an array, or a field of a struct
abbrev pub part_of : List NamedType → IrType → ℤ → Part
part_of types (Array n t) i = record { offset = i *ℤ pos (size_of types t); ty = t }
part_of types t i = part_or (field_of types t (nat_abs i)) t

-- the part that further indices name
abbrev pub part_at : List NamedType → IrType → List ℤ → Part
part_at types t [] = record { offset = pos 0; ty = t }
part_at types t (i ∷ is) =
    let outer = part_of types (unnamed types t) i in
    let inner = part_at types outer.ty is in
    record { offset = outer.offset +ℤ inner.offset; ty = inner.ty }

-- how far a `getelementptr` goes: its first index counts whole values of the type
abbrev pub element_offset : List NamedType → IrType → List ℤ → ℤ
element_offset types t [] = pos 0
element_offset types t (i ∷ is) = (i *ℤ pos (size_of types t)) +ℤ (part_at types t is).offset
