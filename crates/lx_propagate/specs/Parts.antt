-- Parts of types, as the code takes them apart.
use Rattle.std.specs.Prelude.{Option, Some, None}
use Rattle.lx_ir.specs.IrType.{IrType, Array}

-- the type of an array's elements
abbrev pub element_in : IrType → Option IrType
element_in (Array n t) = Some t
element_in _ = None

abbrev pub field_or : IrType → Option IrType → IrType
field_or t None = t
field_or t (Some u) = u
