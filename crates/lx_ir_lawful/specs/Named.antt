-- The names from which the registers and labels of an instruction come.
use Rattle.std.specs.Prelude.{◌≡◌, ℕ, Bool, true, IsTrue, List}
use Rattle.std.specs.List.{AllByRecursion}
use Rattle.lx_ir_tokens.specs.declared.token.Tok.{Tok}
use Rattle.lx_ir.specs.declared.module.Value.{Value}
use Rattle.lx_ir.specs.declared.module.Value.TheVariants as values
use Rattle.lx_ir.specs.declared.instr.Argument.{Argument}
use Rattle.lx_ir.specs.declared.instr.Op.{Op}
use Rattle.lx_ir.specs.Operands.{operands_of, labels_of}
use Rattle.lx_ir_terms.specs.Context.{Context, register_number, bytes_of}
use Rattle.lx_ir_constants.specs.Constants.{is_register}
use Rattle.lx_ir_calls.specs.declared.intrinsics.TextForm.{TextForm}
use Rattle.lx_ir_instructions.specs.Grammar.{IsForm}

-- each name behind `%` among the tokens is such a name
abbrev pub AllNamed : (ℕ → Type 0) → List Tok → Type 0
AllNamed IsSuch ts = AllByRecursion (λ t. is_register t.kind ≡ true → IsSuch t.name) ts

-- such a name names the register
abbrev pub FromRegister : (ℕ → Type 0) → Context → ℕ → Type 0
FromRegister IsSuch context r = (n : ℕ) × IsSuch n × (register_number context n ≡ r)

abbrev pub FromValue : (ℕ → Type 0) → Context → Value → Type 0
FromValue IsSuch context (values.Register r) = FromRegister IsSuch context r
FromValue IsSuch context (values.Constant c) = Unit {0}

abbrev pub FromArgument : (ℕ → Type 0) → Context → Argument → Type 0
FromArgument IsSuch context a = FromValue IsSuch context a.value

-- such a name is the label
abbrev pub FromLabel : (ℕ → Type 0) → Context → List ℕ → Type 0
FromLabel IsSuch context l = (n : ℕ) × IsSuch n × (bytes_of context n ≡ l)

-- the registers and labels of an instruction come from such names
pub record FromNames (IsSuch : ℕ → Type 0) (context : Context) (o : Op) : Type 0 where
  pub read : AllByRecursion (FromArgument IsSuch context) (operands_of o)
  pub labels : AllByRecursion (FromLabel IsSuch context) (labels_of o)

-- what an instruction reads, and where it goes, its tokens say
abbrev pub OpsAreNamed : Type 0
OpsAreNamed =
    (such : ℕ → Bool) (context : Context) (form : TextForm) (o : Op) (ts : List Tok)
    → IsForm context form o ts → AllNamed (λ n. IsTrue (such n)) ts → FromNames (λ n. IsTrue (such n)) context o
