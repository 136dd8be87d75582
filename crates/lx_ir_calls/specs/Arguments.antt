-- Reading the arguments of calls.
use Rattle.std.specs.Prelude.{Bool, false, not, Option, Some, None, List, Ok, Err, if◌then◌else◌}
use Rattle.lx_ir_tokens.specs.declared.token.Tok.{Tok}
use Rattle.lx_ir_tokens.specs.declared.token.Kind.{Kind}
use Rattle.lx_ir_tokens.specs.declared.token.Kind.TheVariants as kinds
use Rattle.lx_ir_tokens.specs.declared.token.Mark.TheVariants.{Comma}
use Rattle.lx_ir_tokens.specs.declared.keyword.Keyword.TheVariants as keywords
use Rattle.lx_ir.specs.declared.types.Scalar.{Scalar}
use Rattle.lx_ir.specs.declared.module.Value.{Value}
use Rattle.lx_ir.specs.declared.instr.Argument.{Argument}
use Rattle.lx_ir.specs.Lawful.{same_scalar}
use Rattle.lx_ir_terms.specs.declared.fault.FaultKind.{FaultKind}
use Rattle.lx_ir_terms.specs.declared.fault.FaultKind.TheVariants.{Statement, OutOfProfile}
use Rattle.lx_ir_terms.specs.Context.{Context}
use Rattle.lx_ir_terms.specs.Reading.{Read, ◌>>=◌, at, pick_at, has, mark_at}
use Rattle.lx_ir_terms.specs.Types.{scalar_in, scalar_refusal, scalar_at}
use Rattle.lx_ir_terms.specs.Words as passing
use Rattle.lx_ir_constants.specs.Constants.{when, begins_expression, value_at}
use Rattle.lx_ir_operands.specs.Operands.{argument}

-- a word that begins no value
abbrev pub is_stray_at_value : Kind → Bool
is_stray_at_value (kinds.Word (keywords.Constant w)) = false
is_stray_at_value (kinds.Word w) = not (begins_expression (kinds.Word w))
is_stray_at_value _ = false

-- a value where words are passed over before it: any other word is outside the profile
abbrev pub strict_value_at : Context → Scalar → List Tok → Read Value
strict_value_at context ty ts = if has is_stray_at_value ts then Err (at OutOfProfile ts) else value_at context ty ts

-- a value behind words that are passed over
abbrev pub passed_value_at : Context → Scalar → List Tok → Read Value
passed_value_at context ty ts = do
  w ← passing.passed_at false ts
  strict_value_at context ty w.1

-- `T a`
abbrev pub argument_at : Context → List Tok → Read Argument
argument_at context ts = do
  t ← scalar_at ts
  v ← passed_value_at context t.0 t.1
  Ok (argument t.0 v.0, v.1)

-- Arguments whose types the called name gives.

abbrev pub fits_scalar : Scalar → Option Scalar → Bool
fits_scalar ty None = false
fits_scalar ty (Some other) = same_scalar other ty

abbrev pub is_scalar_word : Scalar → Kind → Bool
is_scalar_word ty k = fits_scalar ty (scalar_in k)

-- how a token is refused there: the type of another argument cannot stand there, and a type that is none of an argument is outside the profile
abbrev pub given_type_refusal : Kind → FaultKind
given_type_refusal (kinds.Word (keywords.Scalar w)) = Statement
given_type_refusal k = scalar_refusal k

abbrev pub given_type_at : Scalar → List Tok → Read (Unit {0})
given_type_at ty ts = pick_at (λ t. when (is_scalar_word ty t.kind)) given_type_refusal ts

-- `T a` with this type
abbrev pub given_argument_at : Context → Scalar → List Tok → Read Value
given_argument_at context ty ts = do
  t ← given_type_at ty ts
  passed_value_at context ty t.1

-- `, T a` with this type
abbrev pub next_argument_at : Context → Scalar → List Tok → Read Value
next_argument_at context ty ts = do
  c ← mark_at Comma ts
  given_argument_at context ty c.1
