-- The limits on types as they are written, and those of lawful modules.
use Rattle.std.specs.Prelude.{Bool, ◌&&◌, IsTrue, List}
use Rattle.std.specs.List.{list_all}
use Rattle.lx_ir.specs.declared.types.NamedType.{NamedType}
use Rattle.lx_ir.specs.IrType.{IrType}
use Rattle.lx_ir.specs.Layout.{is_struct, is_lawful_type}
use Rattle.lx_ir_offsets.specs.Shapes.{named_shapes, is_inside}

-- each name names a struct, which is within the limits as it is written
abbrev pub are_written_inside : List NamedType → Bool
are_written_inside types = list_all (λ e. is_struct e.ty && is_inside (named_shapes types) e.ty) types

-- A type that is within the limits as it is written, and each that is written in it, is one that a lawful module may have.
abbrev pub InsideTypesAreLawful : Type 0
InsideTypesAreLawful = (types : List NamedType) (t : IrType) → IsTrue (are_written_inside types) → IsTrue (is_inside (named_shapes types) t) → IsTrue (is_lawful_type types t)
