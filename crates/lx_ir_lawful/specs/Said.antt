-- What an instruction asks of its operands but for its registers and labels.
use Rattle.std.specs.Prelude.{◌≡◌, ℕ, Bool, true, false, ◌&&◌, Some, List, nat_le}
use Rattle.std.specs.List.{list_all}
use Rattle.lx_ir_tokens.specs.declared.token.Tok.{Tok}
use Rattle.lx_ir.specs.declared.types.Scalar.{Scalar}
use Rattle.lx_ir.specs.declared.module.Symbol.{Symbol}
use Rattle.lx_ir.specs.declared.module.Value.{Value}
use Rattle.lx_ir.specs.declared.module.Value.TheVariants as value
use Rattle.lx_ir.specs.declared.module.Module.{Module}
use Rattle.lx_ir.specs.declared.instr.Op.{Op}
use Rattle.lx_ir.specs.Text.{symbol_name}
use Rattle.lx_ir.specs.Operands.{operands_of}
use Rattle.lx_ir.specs.Lawful.{is_lawful_constant, nesting_of_constant, is_image_name, has_form}
use Rattle.lx_ir_terms.specs.Context.{Context, entry, bytes_of}
use Rattle.lx_ir_calls.specs.declared.intrinsics.TextForm.{TextForm}
use Rattle.lx_ir_calls.specs.declared.intrinsics.TextForm.TheVariants as forms
use Rattle.lx_ir_instructions.specs.Grammar.{IsForm}
use Rattle.lx_ir_lawful.specs.Tells.{Tells}

-- an operand, where any register may stand
abbrev pub is_said : Module → Scalar → Value → Bool
is_said m ty (value.Register r) = true
is_said m ty (value.Constant c) = is_lawful_constant m ty c && nat_le (nesting_of_constant c) 64

-- the things that names stand for have these names, and none of a program has the name of a line of images
pub record Names (form : TextForm) (m : Module) (context : Context) : Type 0 where
  pub named : (name : ℕ) (s : Symbol) → entry context.symbols name ≡ Some s → symbol_name m s ≡ bytes_of context name
  pub plain : (name : ℕ) (s : Symbol) → form ≡ forms.Program → entry context.symbols name ≡ Some s → is_image_name (bytes_of context name) ≡ false

pub record Said (m : Module) (o : Op) : Type 0 where
  pub form : has_form m o ≡ true
  pub values : list_all (λ a. is_said m a.ty a.value) (operands_of o) ≡ true

-- what tokens say as an instruction has what its form asks, and its operands are those of a text
abbrev pub OpsAreSaid : Type 0
OpsAreSaid = (m : Module) (context : Context) (form : TextForm) → Tells m context → Names form m context → (o : Op) (ts : List Tok) → IsForm context form o ts → Said m o
