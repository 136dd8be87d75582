-- Where a function stands as the value of a field of a named struct.
use Rattle.std.specs.Prelude.{ℕ, zero, suc, ◌+◌, ◌-◌, ◌/◌, ◌%◌, Bool, true, false, Option, Some, None, List, [], ◌∷◌, ◌++◌, nat_eq, nat_lt, nat_le, ◌&&◌, if◌then◌else◌, length, slice_get, map, flat_map, ℤ, pos, nat_abs}
use Rattle.std.specs.Int.{next_multiple_of}
use Rattle.lx_words.specs.Word.{signed}
use Rattle.lx_ir.specs.declared.types.NamedType.{NamedType}
use Rattle.lx_ir.specs.declared.module.Symbol.TheVariants.{Function, Global}
use Rattle.lx_ir.specs.declared.module.Pointer.TheVariants as pointer
use Rattle.lx_ir.specs.declared.module.Constant.{Constant}
use Rattle.lx_ir.specs.declared.module.Constant.TheVariants as constant
use Rattle.lx_ir.specs.declared.module.Value.{Value}
use Rattle.lx_ir.specs.declared.module.Value.TheVariants as value
use Rattle.lx_ir.specs.declared.module.GlobalVar.{GlobalVar}
use Rattle.lx_ir.specs.declared.module.Module.{Module}
use Rattle.lx_ir.specs.declared.instr.Instr.{Instr}
use Rattle.lx_ir.specs.declared.instr.Argument.{Argument}
use Rattle.lx_ir.specs.declared.instr.Op.{Op}
use Rattle.lx_ir.specs.declared.instr.Op.TheVariants.{Store, GetElementPtr}
use Rattle.lx_ir.specs.IrType.{IrType, One, Array, Struct, Packed, Named, IrTypes, none, also}
use Rattle.lx_ir.specs.Init.{Init, Plain, Empty, Bytes, Group, Inits, no_more, more}
use Rattle.lx_ir.specs.Layout.{Layout, layout, beside, layout_of, size_of, align_of, part_at}
use Rattle.lx_ir.specs.Lookup.{instrs_of}

-- a field of a named struct
pub record FieldName : Type 0 where
  pub struct_number : ℕ
  pub index : ℕ

-- a function that stands in a field
pub record Site : Type 0 where
  pub at : FieldName
  pub function : ℕ

abbrev pub site : FieldName → ℕ → Site
site name f = record { at = name; function = f }

abbrev pub field_name : ℕ → ℕ → FieldName
field_name n k = record { struct_number = n; index = k }

-- the function that a constant is
abbrev pub function_in : Constant → Option ℕ
function_in (constant.Pointer (pointer.Symbol (Function f) zero)) = Some f
function_in _ = None

abbrev pub function_value : Value → Option ℕ
function_value (value.Constant c) = function_in c
function_value (value.Register r) = None

abbrev pub sites_at : List FieldName → Option ℕ → List Site
sites_at names None = []
sites_at names (Some f) = map (λ name. site name f) names

-- (a) in initialisers

-- the field, where the type is a named struct
abbrev pub field_if_named : IrType → ℕ → List FieldName
field_if_named (Named n) k = field_name n k ∷ []
field_if_named _ k = []

abbrev pub function_init : Init → Option ℕ
function_init (Plain c) = function_in c
function_init _ = None

abbrev mutual
  pub init_sites : IrType → Init → List Site
  init_sites t (Plain c) = []
  init_sites t (Empty b) = []
  init_sites t (Bytes bs) = []
  init_sites t (Group k ts is) = items_sites t 0 ts is

  -- the sites in the items of a group of type t, from the one with this number on
  pub items_sites : IrType → ℕ → List IrType → Inits → List Site
  items_sites t k ts no_more = []
  items_sites t k [] (more i is) = []
  items_sites t k (u ∷ ts) (more i is) =
      sites_at (field_if_named t k) (function_init i) ++ init_sites u i ++ items_sites t (suc k) ts is

-- (b) in stores to a global and an offset

-- a field that begins there, and what begins there in it
abbrev pub field_here : List FieldName → (ℕ → List FieldName) → ℕ → ℕ → ℕ → List FieldName
field_here names inside start size o =
    if nat_lt o start
    then []
    else (if nat_eq o start then names ++ inside 0 else (if nat_le o (start + size) then inside (o - start) else []))

abbrev pub names_of : Option ℕ → ℕ → List FieldName
names_of None k = []
names_of (Some n) k = field_name n k ∷ []

abbrev pub start_of : List NamedType → Bool → IrType → Layout → ℕ
start_of types true t laid = laid.size
start_of types false t laid = next_multiple_of laid.size (align_of types t)

-- those of an array of so many elements of a size; a field without bytes may stand where an element ends
abbrev pub array_fields_at : (ℕ → List FieldName) → ℕ → ℕ → ℕ → List FieldName
array_fields_at inside n zero o = if nat_lt 0 n && nat_eq o 0 then inside 0 else []
array_fields_at inside n (suc s) o =
    (if nat_lt (o / suc s) n then inside (o % suc s) else [])
    ++ (if nat_lt 0 o && (nat_eq (o % suc s) 0 && nat_le (o / suc s) n) then inside (suc s) else [])

abbrev mutual
  -- the fields of named structs that begin at an offset of a type
  pub fields_at : List NamedType → (ℕ → ℕ → List FieldName) → IrType → ℕ → List FieldName
  fields_at types named (One s) o = []
  fields_at types named (Array n t) o = array_fields_at (fields_at types named t) n (size_of types t) o
  fields_at types named (Struct ts) o = struct_fields_at types named None false ts 0 (layout 0 1) o
  fields_at types named (Packed ts) o = struct_fields_at types named None true ts 0 (layout 0 1) o
  fields_at types named (Named n) o = named n o

  -- those of a struct, with its number where it has one, behind the fields that are laid
  pub struct_fields_at : List NamedType → (ℕ → ℕ → List FieldName) → Option ℕ → Bool → IrTypes → ℕ → Layout → ℕ → List FieldName
  struct_fields_at types named name packed none k laid o = []
  struct_fields_at types named name packed (also t ts) k laid o =
      field_here (names_of name k) (fields_at types named t) (start_of types packed t laid) (size_of types t) o
      ++ struct_fields_at types named name packed ts (suc k) (beside packed laid (layout_of types t)) o

abbrev pub entry_fields : List NamedType → (ℕ → ℕ → List FieldName) → ℕ → IrType → ℕ → List FieldName
entry_fields types named n (Struct ts) o = struct_fields_at types named (Some n) false ts 0 (layout 0 1) o
entry_fields types named n (Packed ts) o = struct_fields_at types named (Some n) true ts 0 (layout 0 1) o
entry_fields types named n _ o = []

-- the fields of the named struct with this number that begin at an offset, through at most so many names
abbrev pub fields_of_entry : List NamedType → (ℕ → ℕ → List FieldName) → ℕ → Option NamedType → ℕ → List FieldName
fields_of_entry types named n None o = []
fields_of_entry types named n (Some e) o = entry_fields types named n e.ty o

abbrev pub named_fields_at : List NamedType → ℕ → ℕ → ℕ → List FieldName
named_fields_at types zero n o = []
named_fields_at types (suc depth) n o = fields_of_entry types (named_fields_at types depth) n (slice_get types n) o

abbrev pub fields_of_global : Module → Option GlobalVar → ℕ → List FieldName
fields_of_global m None o = []
fields_of_global m (Some g) o = fields_at m.types (named_fields_at m.types (length m.types)) g.ty o

abbrev pub global_fields_at : Module → ℕ → ℕ → List FieldName
global_fields_at m g o = fields_of_global m (slice_get m.globals g) o

-- the fields that an address names, where it is a constant
abbrev pub address_fields : Module → Value → List FieldName
address_fields m (value.Constant (constant.Pointer (pointer.Symbol (Global g) o))) = global_fields_at m g o
address_fields m _ = []

-- (c) in stores to what a `getelementptr` of the same function gave

-- the number of a constant index
abbrev pub index_of_value : Value → ℤ
index_of_value (value.Constant (constant.Number w)) = signed w
index_of_value _ = pos 0

abbrev pub index_number : Argument → ℤ
index_number a = index_of_value a.value

abbrev pub last_field : List NamedType → IrType → List ℤ → List FieldName
last_field types t [] = []
last_field types t (i ∷ []) = field_if_named t (nat_abs i)
last_field types t (i ∷ j ∷ is) = last_field types (part_at types t (i ∷ [])).ty (j ∷ is)

abbrev pub behind_first : List ℤ → List ℤ
behind_first [] = []
behind_first (i ∷ is) = is

-- the field that the instruction names, where it gives this register
abbrev pub element_fields : List NamedType → ℕ → Op → List FieldName
element_fields types r (GetElementPtr to ty base indices) =
    if nat_eq to r then last_field types ty (behind_first (map index_number indices)) else []
element_fields types r _ = []

abbrev pub register_fields : Module → List Instr → Value → List FieldName
register_fields m instrs (value.Register r) = flat_map (λ i. element_fields m.types r i.op) instrs
register_fields m instrs (value.Constant c) = []

abbrev pub store_sites : Module → List Instr → Op → List Site
store_sites m instrs (Store ty v at) = sites_at (address_fields m at ++ register_fields m instrs at) (function_value v)
store_sites m instrs _ = []

abbrev pub function_sites : Module → List Instr → List Site
function_sites m instrs = flat_map (λ i. store_sites m instrs i.op) instrs

-- all sites of a module
abbrev pub sites_of : Module → List Site
sites_of m = flat_map (λ g. init_sites g.ty g.init) m.globals ++ flat_map (λ f. function_sites m (instrs_of f)) m.functions
