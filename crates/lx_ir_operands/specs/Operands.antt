-- Reading the operands of instructions.
use Rattle.std.specs.Prelude.{ℕ, Bool, true, false, not, Option, Some, None, List, length, Ok, Err, if◌then◌else◌}
use Rattle.lx_ir_tokens.specs.declared.token.Tok.{Tok}
use Rattle.lx_ir_tokens.specs.declared.token.Kind.{Kind}
use Rattle.lx_ir_tokens.specs.declared.token.Kind.TheVariants as kinds
use Rattle.lx_ir_tokens.specs.declared.token.Mark.TheVariants.{Comma, OpenBracket, CloseBracket}
use Rattle.lx_ir_tokens.specs.declared.keyword.InstructionWord.{InstructionWord}
use Rattle.lx_ir_tokens.specs.declared.keyword.ScalarWord.TheVariants as words
use Rattle.lx_ir_tokens.specs.declared.keyword.Keyword.TheVariants as keywords
use Rattle.lx_words.specs.declared.word.Width.TheVariants.{W1}
use Rattle.lx_ir.specs.declared.types.Scalar.{Scalar}
use Rattle.lx_ir.specs.declared.types.Scalar.TheVariants.{Int, Ptr}
use Rattle.lx_ir.specs.declared.module.Pointer.TheVariants as pointers
use Rattle.lx_ir.specs.declared.module.Constant.{Constant}
use Rattle.lx_ir.specs.declared.module.Constant.TheVariants as made
use Rattle.lx_ir.specs.declared.module.Value.{Value}
use Rattle.lx_ir.specs.declared.module.Value.TheVariants as values
use Rattle.lx_ir.specs.declared.instr.Argument.{Argument}
use Rattle.lx_ir.specs.declared.instr.Edge.{Edge}
use Rattle.lx_ir.specs.declared.instr.SwitchCase.{SwitchCase}
use Rattle.lx_ir.specs.IrType.{IrType}
use Rattle.lx_ir.specs.Lawful.{same_scalar}
use Rattle.lx_ir_terms.specs.declared.fault.FaultKind.{FaultKind}
use Rattle.lx_ir_terms.specs.declared.fault.FaultKind.TheVariants.{Statement, OutOfProfile}
use Rattle.lx_ir_terms.specs.Context.{Context, bytes_of}
use Rattle.lx_ir_terms.specs.Reading.{Read, ◌>>=◌, at, pick_at, is_mark, has, next_at, mark_at}
use Rattle.lx_ir_terms.specs.Types.{scalar_in, scalar_at, depth_limit, always_refused, written_type_at}
use Rattle.lx_ir_terms.specs.Words as passing
use Rattle.lx_ir_constants.specs.Constants.{is_flag_word, skipped, when, is_pointer_word, form_type_at, value_at, constant_at}
use Rattle.lx_ir_operands.specs.Steps.{items_while}

-- Types behind the first word of an instruction. Flags are passed over there, and any other word that is not expected is outside the profile.

-- the type of a register behind flags
abbrev pub flagged_scalar_at : List Tok → Read Scalar
flagged_scalar_at ts = pick_at (λ t. scalar_in t.kind) passing.word_refusal (skipped is_flag_word ts)

-- a word that begins no type
abbrev pub is_stray_at_type : Kind → Bool
is_stray_at_type (kinds.Word (keywords.Scalar w)) = false
is_stray_at_type (kinds.Word w) = true
is_stray_at_type _ = false

-- a type where a word that begins none is outside the profile
abbrev pub strict_type_at : Context → List Tok → Read IrType
strict_type_at context ts = if has is_stray_at_type ts then Err (at OutOfProfile ts) else written_type_at context ts

-- any type behind flags
abbrev pub flagged_type_at : Context → List Tok → Read IrType
flagged_type_at context ts = strict_type_at context (skipped is_flag_word ts)

abbrev pub is_truth_word : Kind → Bool
is_truth_word (kinds.Word (keywords.Scalar (words.Int W1))) = true
is_truth_word _ = false

-- how a token is refused where a form names the type behind its flags: another type cannot stand there
abbrev pub named_type_refusal : Kind → FaultKind
named_type_refusal (kinds.Word (keywords.Scalar w)) = Statement
named_type_refusal (kinds.Word keywords.Void) = Statement
named_type_refusal (kinds.Word w) = OutOfProfile
named_type_refusal _ = Statement

-- `i1` where flags stood before
abbrev pub truth_type_at : List Tok → Read (Unit {0})
truth_type_at ts = pick_at (λ t. when (is_truth_word t.kind)) named_type_refusal ts

-- Operands with their types.

-- a value behind its type
abbrev pub argument : Scalar → Value → Argument
argument ty v = record { ty = ty; value = v }

-- `T a`
abbrev pub typed_at : Context → List Tok → Read Argument
typed_at context ts = do
  t ← scalar_at ts
  v ← value_at context t.0 t.1
  Ok (argument t.0 v.0, v.1)

-- flags, and `T a`
abbrev pub flagged_typed_at : Context → List Tok → Read Argument
flagged_typed_at context ts = do
  t ← flagged_scalar_at ts
  v ← value_at context t.0 t.1
  Ok (argument t.0 v.0, v.1)

-- `, a`
abbrev pub second_at : Context → Scalar → List Tok → Read Value
second_at context ty ts = do
  c ← mark_at Comma ts
  value_at context ty c.1

-- `, ptr p`
abbrev pub address_at : Context → List Tok → Read Value
address_at context ts = do
  c ← mark_at Comma ts
  p ← form_type_at is_pointer_word c.1
  value_at context Ptr p.1

-- a constant that is of no type but one that differs from this
abbrev pub misfit : Scalar → Constant
misfit (Int w) = made.Pointer pointers.Null
misfit Ptr = made.Truth true

-- A form may write one type at two places. An operand whose second type differs is kept as one that does not fit the first (own), so that it is a type error as it was written.
abbrev pub kept_constant : Scalar → Scalar → Constant → Constant
kept_constant ty other c = if same_scalar other ty then c else misfit ty

abbrev pub kept_value : Scalar → Scalar → Value → Value
kept_value ty other v = if same_scalar other ty then v else values.Constant (misfit ty)

-- `, T b`, where the form wrote this type before
abbrev pub again_at : Context → Scalar → List Tok → Read Value
again_at context ty ts = do
  c ← mark_at Comma ts
  b ← typed_at context c.1
  Ok (kept_value ty b.0.ty b.0.value, b.1)

-- Labels.

abbrev pub is_label_word : Kind → Bool
is_label_word (kinds.Word keywords.Label) = true
is_label_word _ = false

abbrev pub local_in : Context → Kind → ℕ → Option (List ℕ)
local_in context kinds.Local name = Some (bytes_of context name)
local_in context _ name = None

-- `%l`
abbrev pub local_at : Context → List Tok → Read (List ℕ)
local_at context ts = pick_at (λ t. local_in context t.kind t.name) always_refused ts

-- `label %l`
abbrev pub label_at : Context → List Tok → Read (List ℕ)
label_at context ts = do
  l ← next_at is_label_word ts
  local_at context l.1

-- `, label %l`
abbrev pub next_label_at : Context → List Tok → Read (List ℕ)
next_label_at context ts = do
  c ← mark_at Comma ts
  label_at context c.1

-- `[ a, %l ]`
abbrev pub edge_at : Context → Scalar → List Tok → Read Edge
edge_at context ty ts = do
  o ← mark_at OpenBracket ts
  v ← value_at context ty o.1
  c ← mark_at Comma v.1
  l ← local_at context c.1
  d ← mark_at CloseBracket l.1
  Ok (record { value = v.0; label = l.0 }, d.1)

-- `T c, label %l`, where the switch has this type
abbrev pub case_at : Context → Scalar → List Tok → Read SwitchCase
case_at context ty ts = do
  t ← scalar_at ts
  c ← constant_at context depth_limit t.0 t.1
  l ← next_label_at context c.1
  Ok (record { value = values.Constant (kept_constant ty t.0 c.0); label = l.0 }, l.1)

-- a token stands next that does not close the cases
abbrev pub has_case : List Tok → Bool
has_case ts = has (λ k. not (is_mark CloseBracket k)) ts

-- `T c, label %l ..`, up to what closes them
abbrev pub some_cases_at : Context → Scalar → List Tok → Read (List SwitchCase)
some_cases_at context ty ts = items_while has_case (case_at context ty) (length ts) ts

-- `[ T c, label %l .. ]`
abbrev pub cases_at : Context → Scalar → List Tok → Read (List SwitchCase)
cases_at context ty ts = do
  o ← mark_at OpenBracket ts
  cs ← some_cases_at context ty o.1
  c ← mark_at CloseBracket cs.1
  Ok (cs.0, c.1)

-- First words.

-- the first word of an instruction
abbrev pub instruction_in : Kind → Option InstructionWord
instruction_in (kinds.Word (keywords.Instruction w)) = Some w
instruction_in _ = None
