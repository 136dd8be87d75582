-- What tokens say is lawful.
use Rattle.std.specs.Prelude.{ℕ, ◌≤◌, IsTrue, List}
use Rattle.lx_ir_tokens.specs.declared.token.Tok.{Tok}
use Rattle.lx_ir.specs.declared.types.Scalar.{Scalar}
use Rattle.lx_ir.specs.declared.module.Constant.{Constant}
use Rattle.lx_ir.specs.declared.module.Module.{Module}
use Rattle.lx_ir.specs.IrType.{IrType}
use Rattle.lx_ir.specs.Init.{Init}
use Rattle.lx_ir.specs.Layout.{is_lawful_type}
use Rattle.lx_ir.specs.Lawful.{is_lawful_constant, nesting_of_constant, is_lawful_init, nesting_of_init}
use Rattle.lx_ir_terms.specs.Context.{Context}
use Rattle.lx_ir_terms.specs.Grammar.{IsWritten}
use Rattle.lx_ir_constants.specs.Grammar.{IsConstant}
use Rattle.lx_ir_constants.specs.InitGrammar.{IsInit}
use Rattle.lx_ir_lawful.specs.Tells.{Tells}

-- a type as it is written is one that the module may have
abbrev pub WrittenAreLawful : Type 0
WrittenAreLawful = (m : Module) (context : Context) → Tells m context → (t : IrType) (ts : List Tok) → IsWritten context t ts → IsTrue (is_lawful_type m.types t)

-- a constant of the type of a register is one that a text with this type before it says, and nests no deeper than it may
abbrev pub ConstantsAreLawful : Type 0
ConstantsAreLawful = (m : Module) (context : Context) → Tells m context → (depth : ℕ) (ty : Scalar) (c : Constant) (ts : List Tok) → IsConstant context depth ty c ts → IsTrue (is_lawful_constant m ty c) × (nesting_of_constant c ≤ depth)

-- and so is an initialiser
abbrev pub InitsAreLawful : Type 0
InitsAreLawful = (m : Module) (context : Context) → Tells m context → (depth : ℕ) (ty : IrType) (i : Init) (ts : List Tok) → IsInit context depth ty i ts → IsTrue (is_lawful_init m ty i) × (nesting_of_init i ≤ depth)
