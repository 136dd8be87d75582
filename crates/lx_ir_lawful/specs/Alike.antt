-- What a statement says by two contexts, where the names stand for other numbers.
use Rattle.std.specs.Prelude.{◌≡◌, ℕ, false, Option, Some, None, List, []}
use Rattle.std.specs.List.{AllZip}
use Rattle.lx_ir.specs.declared.module.Value.{Value}
use Rattle.lx_ir.specs.declared.module.Value.TheVariants as values
use Rattle.lx_ir.specs.declared.module.Block.{Block}
use Rattle.lx_ir.specs.declared.instr.Argument.{Argument}
use Rattle.lx_ir.specs.declared.instr.Instr.{Instr}
use Rattle.lx_ir.specs.declared.instr.Op.{Op}
use Rattle.lx_ir.specs.Operands.{operands_of, given_by, is_terminator, is_image_line}
use Rattle.lx_ir_terms.specs.Context.{Context, register_number}
use Rattle.lx_ir_statements.specs.declared.form.Statement.{Statement}
use Rattle.lx_ir_statements.specs.declared.form.Statement.TheVariants as statements

-- a context that knows no names but those of registers
abbrev pub knowing_registers : List (List ℕ) → List (Option ℕ) → Context
knowing_registers names registers = record {
  types = [];
  symbols = [];
  registers = registers;
  named = [];
  layouts = [];
  limits = None;
  names = names;
  complete = false;
}

-- one name names both registers
abbrev pub AlikeRegisters : Context → Context → ℕ → ℕ → Type 0
AlikeRegisters c d r s = (name : ℕ) × (register_number c name ≡ r) × (register_number d name ≡ s)

-- both are registers of one name, or both are constants, whatever these are
abbrev pub AlikeValues : Context → Context → Value → Value → Type 0
AlikeValues c d (values.Register r) (values.Register s) = AlikeRegisters c d r s
AlikeValues c d (values.Constant x) (values.Constant y) = Unit {0}
AlikeValues c d _ _ = ⊥

abbrev pub AlikeArguments : Context → Context → Argument → Argument → Type 0
AlikeArguments c d a b = AlikeValues c d a.value b.value

-- both give the register of one name, or none
abbrev pub AlikeGiven : Context → Context → Option ℕ → Option ℕ → Type 0
AlikeGiven c d (Some r) (Some s) = AlikeRegisters c d r s
AlikeGiven c d None None = Unit {0}
AlikeGiven c d _ _ = ⊥

-- instructions that give and read registers of the same names
pub record AlikeOps (c d : Context) (o p : Op) : Type 0 where
  pub given : AlikeGiven c d (given_by o) (given_by p)
  pub read : AllZip (AlikeArguments c d) (operands_of o) (operands_of p)
  pub ends : is_terminator o ≡ is_terminator p
  pub lines : is_image_line o ≡ is_image_line p

abbrev pub AlikeInstrs : Context → Context → Instr → Instr → Type 0
AlikeInstrs c d i j = AlikeOps c d i.op j.op × (i.line ≡ j.line)

abbrev pub AlikeBlocks : Context → Context → Block → Block → Type 0
AlikeBlocks c d a b = (a.name ≡ b.name) × AllZip (AlikeInstrs c d) a.instrs b.instrs

-- statements that define the same name, with the same result, parameters and labels, and whose registers have the same names
abbrev pub AlikeStatements : Context → Context → Statement → Statement → Type 0
AlikeStatements c d (statements.Type n t) (statements.Type k u) = n ≡ k
AlikeStatements c d (statements.Global n a t i) (statements.Global k b u j) = (n ≡ k) × (a ≡ b)
AlikeStatements c d (statements.Import n r ps) (statements.Import k s qs) = (n ≡ k) × (r ≡ s) × (ps ≡ qs)
AlikeStatements c d (statements.Function n r ps bs) (statements.Function k s qs ds) = (n ≡ k) × (r ≡ s) × (ps ≡ qs) × AllZip (AlikeBlocks c d) bs ds
AlikeStatements c d _ _ = ⊥
