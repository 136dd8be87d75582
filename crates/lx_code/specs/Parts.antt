-- Parts of types, as code finds them.
use Rattle.std.specs.Prelude.{◌≡◌, ℕ, Option, Some, None, List, pos}
use Rattle.lx_ir.specs.declared.types.NamedType.{NamedType}
use Rattle.lx_ir.specs.IrType.{IrType, Array}
use Rattle.lx_ir.specs.Layout.{Part, unnamed}

-- a part, by the type that its name stands for
pub record IsPart (types : List NamedType) (n : ℕ) (t : IrType) (part : Part) : Type 0 where
  pub offset : pos n ≡ part.offset
  pub ty : unnamed types t ≡ unnamed types part.ty

-- the type of an array's elements
abbrev pub element_in : IrType → Option IrType
element_in (Array n t) = Some t
element_in t = None
