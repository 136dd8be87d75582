-- How far constant indices go, by the layout of types.
use Rattle.std.specs.Prelude.{◌≡◌, ℕ, ◌^◌, ◌<◌, true, IsTrue, Some, List, [], ◌∷◌, map, pos, ⊤}
use Rattle.lx_words.specs.Word.{Word, signed, modulo}
use Rattle.lx_ir.specs.declared.types.NamedType.{NamedType}
use Rattle.lx_ir.specs.IrType.{IrType}
use Rattle.lx_ir.specs.Layout.{layout_of, named_layouts, unnamed, is_struct, is_lawful_type, offset_of, part_of, element_offset}
use Rattle.lx_ir.specs.Fitting.{fitting_layouts, fit_type}
use Rattle.lx_ir_offsets.specs.Offsets.{field_number, part_at, distance}
use Rattle.lx_ir_offsets.specs.Offsets as offsets
use Rattle.lx_ir_offsets.specs.Laws.{AreThese}

-- the layout that is kept of a named type is that of the definition
abbrev pub LayoutsAreKept : Type 0
LayoutsAreKept = (types : List NamedType) → AreThese (fitting_layouts types) (named_layouts types 64)

-- and so is that of each type within the limits
abbrev pub LawfulTypesFit : Type 0
LawfulTypesFit = (types : List NamedType) (t : IrType) → IsTrue (is_lawful_type types t) → fit_type (fitting_layouts types) t ≡ Some (layout_of types t)

-- where a field of a struct is found, it begins where the layout says
abbrev pub FieldsAreOffsets : Type 0
FieldsAreOffsets = (types : List NamedType) (t : IrType) (i : Word) (k : ℕ) (p : offsets.Part) → is_struct (unnamed types t) ≡ true → field_number i ≡ Some k → offsets.part_of (fitting_layouts types) (unnamed types t) i ≡ Some p
    → offset_of types t k ≡ Some (pos p.offset)

-- An index into a struct has no sign: the number of a field is below 2^31, as in every text that is read.
abbrev pub CountFields : List NamedType → IrType → List Word → Type 0
CountFields types t [] = ⊤
CountFields types t (i ∷ is) = (is_struct (unnamed types t) ≡ true → i.bits < 2 ^ 31) × CountFields types (part_of types (unnamed types t) (signed i)).ty is

-- behind the first index, which counts whole values
abbrev pub CountParts : List NamedType → IrType → List Word → Type 0
CountParts types t [] = ⊤
CountParts types t (i ∷ is) = CountFields types t is

-- where indices are followed, they go as far as the layout says, modulo 2^64
abbrev pub DistancesAreOffsets : Type 0
DistancesAreOffsets = (types : List NamedType) (t : IrType) (is : List Word) (n : ℕ) → CountParts types t is → distance types (fitting_layouts types) t is ≡ Some n → n ≡ modulo (element_offset types t (map signed is)) (2 ^ 64)

-- indices that name parts of a type within the limits can be followed
abbrev pub DistancesAreFound : Type 0
DistancesAreFound = (types : List NamedType) (t u : IrType) (i : Word) (is : List Word) → IsTrue (is_lawful_type types t) → part_at types t is ≡ Some u → (n : ℕ) × (distance types (fitting_layouts types) t (i ∷ is) ≡ Some n)
