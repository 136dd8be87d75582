-- Reading and the grammar of constants, operands and initialisers agree.
use Rattle.std.specs.Prelude.{◌≡◌, ℕ, List, None, Err}
use Rattle.lx_ir.specs.declared.types.Scalar.{Scalar}
use Rattle.lx_ir.specs.declared.module.Constant.{Constant}
use Rattle.lx_ir.specs.declared.module.Value.{Value}
use Rattle.lx_ir_tokens.specs.declared.token.Tok.{Tok}
use Rattle.lx_ir_terms.specs.declared.fault.Fault.{Fault}
use Rattle.lx_ir_terms.specs.Context.{Context}
use Rattle.lx_ir_terms.specs.Laws.{Reads, Finds, Stops}
use Rattle.lx_ir_constants.specs.Constants.{constant_at, value_at}
use Rattle.lx_ir.specs.IrType.{IrType}
use Rattle.lx_ir.specs.Init.{Init}
use Rattle.lx_ir_constants.specs.Inits.{init_at}
use Rattle.lx_ir_constants.specs.InitGrammar.{IsInit}
use Rattle.lx_ir_constants.specs.Grammar.{IsConstant, IsValue}

-- the tokens of a constant are read as it, whatever follows them
abbrev pub ConstantsAreRead : Type 0
ConstantsAreRead = (context : Context) (depth : ℕ) (ty : Scalar) (c : Constant) → Reads (constant_at context depth ty) c (IsConstant context depth ty c)

-- what is read as a constant are its tokens
abbrev pub ConstantsAreFound : Type 0
ConstantsAreFound = (context : Context) (depth : ℕ) (ty : Scalar) → Finds (constant_at context depth ty) (IsConstant context depth ty)

-- the same of operands
abbrev pub ValuesAreRead : Type 0
ValuesAreRead = (context : Context) (ty : Scalar) (v : Value) → Reads (value_at context ty) v (IsValue context ty v)

abbrev pub ValuesAreFound : Type 0
ValuesAreFound = (context : Context) (ty : Scalar) → Finds (value_at context ty) (IsValue context ty)

-- the same of initialisers
abbrev pub InitsAreRead : Type 0
InitsAreRead = (context : Context) (depth : ℕ) (ty : IrType) (i : Init) → Reads (init_at context depth ty) i (IsInit context depth ty i)

abbrev pub InitsAreFound : Type 0
InitsAreFound = (context : Context) (depth : ℕ) (ty : IrType) → Finds (init_at context depth ty) (IsInit context depth ty)

-- A token at which the reading of a constant stops cannot stand there, where no limits are asked: a type that is outside them is refused
-- at its first token by what follows.
abbrev pub ConstantsAreRefused : Type 0
ConstantsAreRefused = (context : Context) → context.limits ≡ None → (depth : ℕ) (ty : Scalar) (ts : List Tok) (fault : Fault) → constant_at context depth ty ts ≡ Err fault → Stops (constant_at context depth ty) ts fault

-- the same of operands
abbrev pub ValuesAreRefused : Type 0
ValuesAreRefused = (context : Context) → context.limits ≡ None → (ty : Scalar) (ts : List Tok) (fault : Fault) → value_at context ty ts ≡ Err fault → Stops (value_at context ty) ts fault

-- the same of initialisers
abbrev pub InitsAreRefused : Type 0
InitsAreRefused = (context : Context) → context.limits ≡ None → (depth : ℕ) (ty : IrType) (ts : List Tok) (fault : Fault) → init_at context depth ty ts ≡ Err fault → Stops (init_at context depth ty) ts fault
