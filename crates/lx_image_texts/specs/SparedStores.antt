-- Which stores are spared, in words of its own.
use Rattle.std.specs.Prelude.{◌≡◌, ℕ, ◌≤◌, Some, slice_get, ⊤}
use Rattle.lx_ir.specs.IrType.{IrType}
use Rattle.lx_ir.specs.declared.types.Scalar.{Scalar}
use Rattle.lx_ir.specs.declared.module.Value.{Value}
use Rattle.lx_ir.specs.declared.module.Value.TheVariants as value
use Rattle.lx_ir.specs.declared.module.Function.{Function}
use Rattle.lx_ir.specs.declared.module.Module.{Module}
use Rattle.lx_ir.specs.declared.instr.Argument.{Argument}
use Rattle.lx_ir.specs.declared.instr.Instr.{Instr}
use Rattle.lx_ir.specs.declared.instr.Op.{Op}
use Rattle.lx_ir.specs.declared.instr.Op.TheVariants as op
use Rattle.lx_ir.specs.Layout.{scalar_size, size_of}
use Rattle.lx_ir.specs.Lookup.{instrs_of}
use Rattle.lx_ir.specs.Operands.{operands_of}
use Rattle.lx_image_texts.specs.Named.{AllAre}

-- the operand of this number is the address of a load or of a store, or it stands in a guard
abbrev pub IsAddress : Op → ℕ → Type 0
IsAddress (op.Load to ty at) n = n ≡ 0
IsAddress (op.Store ty v at) n = n ≡ 1
IsAddress (op.Guard at size narrow) n = ⊤
IsAddress o n = ⊥

-- wherever an instruction reads the register, it is such an operand: so it is stored nowhere, and passed, compared and returned nowhere
abbrev pub KeepsAddress : ℕ → Op → Type 0
KeepsAddress r o = AllAre (λ n (a : Argument). a.value ≡ value.Register r → IsAddress o n) (operands_of o)

-- The store goes straight to bytes of the stack, at least so many as it writes, which an instruction of its function allocates, and no
-- instruction of the function lets their address go.
pub record IsToOwnStack (m : Module) (f : Function) (o : Op) : Type 0 where
  pub ty : Scalar
  pub stored : Value
  pub register : ℕ
  pub store : o ≡ op.Store ty stored (value.Register register)
  pub number : ℕ
  pub instr : Instr
  pub bytes : IrType
  pub stands : slice_get (instrs_of f) number ≡ Some instr
  pub allocates : instr.op ≡ op.Alloca register bytes
  pub room : scalar_size ty ≤ size_of m.types bytes
  pub keeps : AllAre (λ n (i : Instr). KeepsAddress register i.op) (instrs_of f)
