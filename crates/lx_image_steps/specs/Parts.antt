-- Parts of types, as code finds them.
use Rattle.std.specs.Prelude.{◌≡◌, ℕ, ◌+◌, ◌%◌, ◌^◌, IsTrue, List, ℤ}
use Rattle.lx_words.specs.Word.{modulo}
use Rattle.lx_ir.specs.declared.types.NamedType.{NamedType}
use Rattle.lx_ir.specs.IrType.{IrType}
use Rattle.lx_ir.specs.Layout.{Part, is_lawful_type, part_at, unnamed}

-- a part, by the type that its name stands for, and how far it lies modulo 2^64
pub record IsPartModulo (types : List NamedType) (n : ℕ) (t : IrType) (part : Part) : Type 0 where
  pub offset : n ≡ modulo part.offset (2 ^ 64)
  pub ty : unnamed types t ≡ unnamed types part.ty

-- how far indices go from a type on, where those before have led to an offset and another type
pub record IsOnTheWay (types : List NamedType) (start : IrType) (all : List ℤ) (offset : ℕ) (inner : IrType) (rest : List ℤ) : Type 0 where
  pub sized : IsTrue (is_lawful_type types inner)
  pub offset_is : (offset + modulo (part_at types inner rest).offset (2 ^ 64)) % 2 ^ 64 ≡ modulo (part_at types start all).offset (2 ^ 64)
