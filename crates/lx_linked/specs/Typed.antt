-- The slot types that a function gets, in words of their own.
use Rattle.std.specs.Prelude.{◌≡◌, ℕ, ◌<◌, ◌≤◌, Some, length, slice_get}
use Rattle.lx_ir.specs.declared.types.NamedType.{NamedType}
use Rattle.lx_ir.specs.declared.module.Module.{Module}
use Rattle.lx_annot.specs.declared.interface.Field.{Field}
use Rattle.lx_annot.specs.declared.interface.Interface.{Interface}
use Rattle.lx_slot_types.specs.Sites.{FieldName}
use Rattle.lx_linked.specs.Members.{In}
use Rattle.lx_linked.specs.Stands.{StandsIn}

-- a statement of the interface types the field, by the name of its struct and its number there, with the slot type
pub record IsTyped (i : Interface) (m : Module) (name : FieldName) (s : ℕ) : Type 0 where
  pub statement : Field
  pub struct : NamedType
  pub said : In statement i.fields
  pub found : slice_get m.types name.struct_number ≡ Some struct
  pub named : struct.name ≡ statement.name
  pub index : statement.index ≡ name.index
  pub slot : statement.slot ≡ s

-- the function stands in a field with the slot type
pub record GetsType (i : Interface) (m : Module) (f s : ℕ) : Type 0 where
  pub name : FieldName
  pub stands : StandsIn m name f
  pub typed : IsTyped i m name s

-- the first slot type of the interface that the function gets
pub record IsFirstType (i : Interface) (m : Module) (f s : ℕ) : Type 0 where
  pub below : s < length i.slots
  pub gets : GetsType i m f s
  pub least : (t : ℕ) → GetsType i m f t → s ≤ t
