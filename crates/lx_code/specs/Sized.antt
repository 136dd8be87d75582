-- Instructions whose types are within the limits.
use Rattle.std.specs.Prelude.{Bool, true, List}
use Rattle.std.specs.List.{list_all}
use Rattle.lx_ir.specs.declared.types.NamedType.{NamedType}
use Rattle.lx_ir.specs.declared.module.Block.{Block}
use Rattle.lx_ir.specs.declared.instr.Instr.{Instr}
use Rattle.lx_ir.specs.declared.instr.Op.{Op}
use Rattle.lx_ir.specs.declared.instr.Op.TheVariants.{Alloca, GetElementPtr}
use Rattle.lx_ir.specs.Layout.{is_lawful_type}

-- the type whose layout an instruction asks for is within the limits
abbrev pub is_sized : List NamedType → Op → Bool
is_sized types (Alloca to ty) = is_lawful_type types ty
is_sized types (GetElementPtr to ty base indices) = is_lawful_type types ty
is_sized types _ = true

abbrev pub are_sized_instrs : List NamedType → List Instr → Bool
are_sized_instrs types instrs = list_all (λ i. is_sized types i.op) instrs

abbrev pub are_sized : List NamedType → List Block → Bool
are_sized types blocks = list_all (λ b. are_sized_instrs types b.instrs) blocks
