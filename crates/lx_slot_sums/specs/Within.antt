-- Types within the limits: the fields of a struct, and the types of a module.
use Rattle.std.specs.Prelude.{ℕ, ◌<◌, ◌≤◌, Bool, IsTrue, List, length}
use Rattle.std.specs.List.{list_all}
use Rattle.lx_ir.specs.declared.types.NamedType.{NamedType}
use Rattle.lx_ir.specs.declared.module.Module.{Module}
use Rattle.lx_ir.specs.IrType.{IrType}
use Rattle.lx_ir.specs.Layout.{fields_of, is_lawful_type, is_type_within, laid_fields, size_of}
use Rattle.lx_ir.specs.TypeNodes.{types_of_list}
use Rattle.lx_ir.specs.Lawful.{is_lawful_named}

-- each field is within the limits, and all of them take at most 2^32 bytes
pub record AreWithin (types : List NamedType) (packed : Bool) (fields : List IrType) : Type 0 where
  pub each : IsTrue (list_all (is_lawful_type types) fields)
  pub size : (laid_fields types packed (types_of_list fields)).size ≤ 4294967296

-- What is asked of a module whose functions get slot types: its types are within the limits, whatever its functions are.
pub record HasLawfulTypes (m : Module) : Type 0 where
  pub types : IsTrue (list_all (is_lawful_named m) m.types)
  pub globals : IsTrue (list_all (λ g. is_lawful_type m.types g.ty) m.globals)
  pub few_functions : length m.functions < 4294967295

-- each field nests at most so deep, and all of them take at most 2^32 bytes
pub record AreFields (types : List NamedType) (depth : ℕ) (packed : Bool) (fields : List IrType) : Type 0 where
  pub each : IsTrue (list_all (is_type_within types depth) fields)
  pub size : (laid_fields types packed (types_of_list fields)).size ≤ 4294967296

-- what a name names, of which each field nests at most so deep
pub record IsEntry (types : List NamedType) (depth : ℕ) (t : IrType) : Type 0 where
  pub parts : IsTrue (list_all (is_type_within types depth) (fields_of t))
  pub size : size_of types t ≤ 4294967296
