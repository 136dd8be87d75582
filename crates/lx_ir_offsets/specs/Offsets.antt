-- How far constant indices go, where types may lie outside the limits.
use Rattle.std.specs.Prelude.{ℕ, zero, suc, ◌+◌, ◌*◌, ◌%◌, ◌^◌, Bool, true, false, Option, Some, None, List, [], ◌∷◌, slice_get, option_and_then}
use Rattle.lx_words.specs.declared.word.Width.{Width}
use Rattle.lx_words.specs.declared.word.Width.TheVariants.{W32, W64}
use Rattle.lx_words.specs.Word.{Word, resize}
use Rattle.lx_ir.specs.declared.types.NamedType.{NamedType}
use Rattle.lx_ir.specs.IrType.{IrType, One, Array, Struct, Packed, Named, IrTypes, none, also}
use Rattle.lx_ir.specs.Fitting.{◌>>?◌, Layouts, laid_beside, fit_type, named_starts}
use Rattle.lx_ir.specs.Layout.{Layout, layout, field_start, unnamed, list_of_types}

-- how far an index goes, counted in values of so many bytes, modulo 2^64
abbrev pub scaled : Word → ℕ → ℕ
scaled i size = ((resize i W64 true).bits * size) % 2 ^ 64

-- a part of a type: where it begins in it, and its type
pub record Part : Type 0 where
  pub offset : ℕ
  pub ty : IrType

abbrev pub part : ℕ → IrType → Part
part n t = record { offset = n; ty = t }

-- a field, behind the fields that are laid
abbrev pub field_after : Layouts → Bool → IrTypes → Layout → ℕ → Option Part
field_after layouts packed none laid k = None
field_after layouts packed (also t ts) laid zero =
    fit_type layouts t >>? λ l. Some (part (field_start packed laid l) t)
field_after layouts packed (also t ts) laid (suc k) =
    fit_type layouts t >>? λ l. laid_beside packed laid l >>? λ more. field_after layouts packed ts more k

abbrev pub numbered : Width → ℕ → Option ℕ
numbered W32 n = Some n
numbered _ n = None

-- the number of the field that an index names: it is an `i32`
abbrev pub field_number : Word → Option ℕ
field_number i = numbered i.width i.bits

-- a field, where it has a start and a type
abbrev pub begun : Option ℕ → Option IrType → Option Part
begun None t = None
begun (Some n) None = None
begun (Some n) (Some t) = Some (part n t)

-- where a field of the type with a number begins
abbrev pub start_kept : List NamedType → ℕ → ℕ → Option ℕ
start_kept types number k = option_and_then (λ starts. slice_get starts k) (slice_get (named_starts types) number)

-- the field that an index names of the type with a number, whose fields these are, by where they begin
abbrev pub field_kept : List NamedType → ℕ → List IrType → Word → Option Part
field_kept types number ts i = field_number i >>? λ k. begun (start_kept types number k) (slice_get ts k)

-- the part that an index names: an element of an array, or a field of a struct
abbrev pub part_of : Layouts → IrType → Word → Option Part
part_of layouts (Array n t) i = fit_type layouts t >>? λ l. Some (part (scaled i l.size) t)
part_of layouts (Struct ts) i = field_number i >>? λ k. field_after layouts false ts (layout 0 1) k
part_of layouts (Packed ts) i = field_number i >>? λ k. field_after layouts true ts (layout 0 1) k
part_of layouts (One s) i = None
part_of layouts (Named k) i = None

-- how far indices go behind an offset, each into the part that those before it name
abbrev pub moved : List NamedType → Layouts → ℕ → IrType → List Word → Option ℕ
moved named layouts offset t [] = Some offset
moved named layouts offset t (i ∷ is) =
    part_of layouts (unnamed named t) i >>? λ p. moved named layouts ((offset + p.offset) % 2 ^ 64) p.ty is

-- how far the indices of a `getelementptr` go: the first counts whole values of the type
abbrev pub distance : List NamedType → Layouts → IrType → List Word → Option ℕ
distance named layouts t [] = Some 0
distance named layouts t (i ∷ is) = fit_type layouts t >>? λ l. moved named layouts (scaled i l.size) t is

-- the type of the field that an index names
abbrev pub field_type : IrTypes → Word → Option IrType
field_type ts i = field_number i >>? λ k. slice_get (list_of_types ts) k

-- the type of the part that an index names. What is behind a name that is not known is not looked at
abbrev pub part_type : IrType → Word → Option IrType
part_type (Array n t) i = Some t
part_type (Struct ts) i = field_type ts i
part_type (Packed ts) i = field_type ts i
part_type (One s) i = None
part_type (Named k) i = Some (Named k)

-- the type of the part that indices name, where each names one
abbrev pub part_at : List NamedType → IrType → List Word → Option IrType
part_at named t [] = Some t
part_at named t (i ∷ is) = part_type (unnamed named t) i >>? λ u. part_at named u is
