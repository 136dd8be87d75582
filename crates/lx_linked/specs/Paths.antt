-- Paths through a type to a field of a named struct.
use Rattle.std.specs.Prelude.{◌≡◌, ℕ, ◌+◌, ◌*◌, ◌<◌, IsTrue, Some, List, pos, slice_get}
use Rattle.std.specs.List.{list_all}
use Rattle.lx_ir.specs.declared.types.NamedType.{NamedType}
use Rattle.lx_ir.specs.declared.module.GlobalVar.{GlobalVar}
use Rattle.lx_ir.specs.declared.module.Module.{Module}
use Rattle.lx_ir.specs.IrType.{IrType, Array, Named}
use Rattle.lx_ir.specs.Layout.{Part, field_of, is_lawful_type, size_of, unnamed}
use Rattle.lx_slot_types.specs.Sites.{FieldName, field_name}

-- a part that begins there
abbrev pub part : ℕ → IrType → Part
part start t = record { offset = pos start; ty = t }

-- Some path of indices leads from a type to the field, which begins so many bytes behind the start of the type.
pub data LeadsTo (types : List NamedType) (name : FieldName) : IrType → ℕ → Type 0 where
  -- to a field of a named struct itself, where the field begins
  to_field : (n k start : ℕ) (t : IrType) → name ≡ field_name n k → field_of types (unnamed types (Named n)) k ≡ Some (part start t)
      → LeadsTo types name (Named n) start
  -- through a field of a struct, named or not
  in_field : (t u : IrType) (k start o : ℕ) → field_of types (unnamed types t) k ≡ Some (part start u) → LeadsTo types name u o
      → LeadsTo types name t (start + o)
  -- through an element of an array
  in_element : (t : IrType) (n i o : ℕ) → i < n → LeadsTo types name t o → LeadsTo types name (Array n t) (i * size_of types t + o)

-- the field begins at the offset of the global with this number
pub record BeginsAt (m : Module) (number o : ℕ) (name : FieldName) : Type 0 where
  pub global : GlobalVar
  pub is : slice_get m.globals number ≡ Some global
  pub leads : LeadsTo m.types name global.ty o

-- the types of the globals are within the limits
abbrev pub HasLawfulGlobals : Module → Type 0
HasLawfulGlobals m = IsTrue (list_all (λ g. is_lawful_type m.types g.ty) m.globals)
