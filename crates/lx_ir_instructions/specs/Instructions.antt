-- Reading instructions.
use Rattle.std.specs.Prelude.{ℕ, Option, Some, None, List, [], ◌∷◌, Ok, Err, if◌then◌else◌}
use Rattle.lx_ir_tokens.specs.declared.token.Tok.{Tok}
use Rattle.lx_ir_tokens.specs.declared.token.Kind.{Kind}
use Rattle.lx_ir_tokens.specs.declared.token.Kind.TheVariants as kinds
use Rattle.lx_ir_tokens.specs.declared.token.Mark.TheVariants.{Comma, Equal}
use Rattle.lx_ir_tokens.specs.declared.keyword.ConversionWord.{ConversionWord}
use Rattle.lx_ir_tokens.specs.declared.keyword.ConversionWord.TheVariants as conversions
use Rattle.lx_ir_tokens.specs.declared.keyword.InstructionWord.{InstructionWord}
use Rattle.lx_ir_tokens.specs.declared.keyword.InstructionWord.TheVariants as instructions
use Rattle.lx_ir_tokens.specs.declared.keyword.Keyword.TheVariants as keywords
use Rattle.lx_words.specs.declared.word.BinOp.{BinOp}
use Rattle.lx_words.specs.declared.word.Pred.{Pred}
use Rattle.lx_words.specs.declared.word.Width.TheVariants.{W1}
use Rattle.lx_ir.specs.declared.types.Scalar.{Scalar}
use Rattle.lx_ir.specs.declared.types.Scalar.TheVariants.{Int}
use Rattle.lx_ir.specs.declared.instr.Argument.{Argument}
use Rattle.lx_ir.specs.declared.instr.Conversion.{Conversion}
use Rattle.lx_ir.specs.declared.instr.Conversion.TheVariants as conversion
use Rattle.lx_ir.specs.declared.instr.UnaryOp.{UnaryOp}
use Rattle.lx_ir.specs.declared.instr.UnaryOp.TheVariants as unary
use Rattle.lx_ir.specs.declared.instr.Op.{Op}
use Rattle.lx_ir.specs.declared.instr.Op.TheVariants as op
use Rattle.lx_ir_terms.specs.Context.{Context, register_number}
use Rattle.lx_ir_terms.specs.Reading.{Read, ◌>>=◌, at, refusal, refused, behind, pick_at, is_to, has, next_at, mark_at}
use Rattle.lx_ir_terms.specs.Types.{scalar_at, result_in}
use Rattle.lx_ir_terms.specs.Words as passing
use Rattle.lx_ir_constants.specs.Constants.{is_flag_word, skipped, word_refusal, value_at, is_register, first_name}
use Rattle.lx_ir_operands.specs.Steps.{align_at, metadata_at, unbroken_at}
use Rattle.lx_ir_operands.specs.Operands.{address_at, again_at, argument, cases_at, edge_at, flagged_scalar_at, flagged_type_at, flagged_typed_at, instruction_in, is_label_word, local_at, next_label_at, second_at, truth_type_at, typed_at}
use Rattle.lx_ir_calls.specs.declared.intrinsics.TextForm.{TextForm}
use Rattle.lx_ir_calls.specs.Calls.{call_behind, is_tail_word, tail_call_at}

-- Instructions that give a register, each behind its first word.

-- `T a, b`
abbrev pub binary_behind : Context → ℕ → BinOp → List Tok → Read Op
binary_behind context to o ts = do
  a ← flagged_typed_at context ts
  b ← second_at context a.0.ty a.1
  Ok (op.Binary to o a.0.ty a.0.value b.0, b.1)

abbrev pub predicate_in : Kind → Option Pred
predicate_in (kinds.Word (keywords.Predicate p)) = Some p
predicate_in _ = None

-- the comparison behind flags
abbrev pub predicate_at : List Tok → Read Pred
predicate_at ts = pick_at (λ t. predicate_in t.kind) word_refusal (skipped is_flag_word ts)

-- `eq T a, b`
abbrev pub compare_behind : Context → ℕ → List Tok → Read Op
compare_behind context to ts = do
  p ← predicate_at ts
  a ← typed_at context p.1
  b ← second_at context a.0.ty a.1
  Ok (op.Compare to p.0 a.0.ty a.0.value b.0, b.1)

-- the word of an operator on one word
abbrev pub word_of_unary : UnaryOp → InstructionWord
word_of_unary unary.Freeze = instructions.Freeze

abbrev pub conversion_of : ConversionWord → Conversion
conversion_of conversions.Trunc = conversion.Trunc
conversion_of conversions.ZExt = conversion.ZExt
conversion_of conversions.SExt = conversion.SExt
conversion_of conversions.PtrToInt = conversion.PtrToInt
conversion_of conversions.IntToPtr = conversion.IntToPtr

-- `T a to U`
abbrev pub convert_behind : Context → ℕ → Conversion → List Tok → Read Op
convert_behind context to how ts = do
  a ← flagged_typed_at context ts
  t ← next_at is_to a.1
  u ← scalar_at t.1
  Ok (op.Convert to how a.0.ty a.0.value u.0, u.1)

-- `T a`
abbrev pub unary_behind : Context → ℕ → UnaryOp → List Tok → Read Op
unary_behind context to o ts = do
  a ← flagged_typed_at context ts
  Ok (op.Unary to o a.0.ty a.0.value, a.1)

-- `i1 c, T a, T b`
abbrev pub select_behind : Context → ℕ → List Tok → Read Op
select_behind context to ts = do
  i ← truth_type_at (skipped is_flag_word ts)
  c ← value_at context (Int W1) i.1
  d ← mark_at Comma c.1
  a ← typed_at context d.1
  b ← again_at context a.0.ty a.1
  Ok (op.Select to c.0 a.0.ty a.0.value b.0, b.1)

-- `T [ a, %l ], ..`
abbrev pub phi_behind : Context → ℕ → List Tok → Read Op
phi_behind context to ts = do
  t ← flagged_scalar_at ts
  es ← unbroken_at (edge_at context t.0) t.1
  Ok (op.Phi to t.0 es.0, es.1)

-- `T`
abbrev pub alloca_behind : Context → ℕ → List Tok → Read Op
alloca_behind context to ts = do
  t ← flagged_type_at context ts
  a ← align_at t.1
  Ok (op.Alloca to t.0, a.1)

-- `T, ptr p`
abbrev pub load_behind : Context → ℕ → List Tok → Read Op
load_behind context to ts = do
  t ← flagged_scalar_at ts
  p ← address_at context t.1
  a ← align_at p.1
  Ok (op.Load to t.0 p.0, a.1)

-- `T, ptr p, I i, ..`
abbrev pub element_behind : Context → ℕ → List Tok → Read Op
element_behind context to ts = do
  t ← flagged_type_at context ts
  p ← address_at context t.1
  c ← mark_at Comma p.1
  is ← unbroken_at (typed_at context) c.1
  Ok (op.GetElementPtr to t.0 p.0 is.0, is.1)

-- Instructions that give nothing, each behind its first word.

-- `T v, ptr p`
abbrev pub store_behind : Context → List Tok → Read Op
store_behind context ts = do
  v ← flagged_typed_at context ts
  p ← address_at context v.1
  a ← align_at p.1
  Ok (op.Store v.0.ty v.0.value p.0, a.1)

-- a result behind flags
abbrev pub flagged_result_at : List Tok → Read (Option Scalar)
flagged_result_at ts = pick_at (λ t. result_in t.kind) passing.word_refusal (skipped is_flag_word ts)

-- what is returned behind its type
abbrev pub returned_at : Context → Option Scalar → List Tok → Read (Option Argument)
returned_at context None ts = Ok (None, ts)
returned_at context (Some ty) ts = do
  v ← value_at context ty ts
  Ok (Some (argument ty v.0), v.1)

-- `void`, or `T v`
abbrev pub ret_behind : Context → List Tok → Read Op
ret_behind context ts = do
  t ← flagged_result_at ts
  v ← returned_at context t.0 t.1
  Ok (op.Ret v.0, v.1)

-- `%l` behind `label`
abbrev pub jump_behind : Context → List Tok → Read Op
jump_behind context ts = do
  l ← local_at context ts
  Ok (op.Jump l.0, l.1)

-- `i1 c, label %a, label %b`
abbrev pub branch_behind : Context → List Tok → Read Op
branch_behind context ts = do
  i ← truth_type_at ts
  c ← value_at context (Int W1) i.1
  a ← next_label_at context c.1
  b ← next_label_at context a.1
  Ok (op.Branch c.0 a.0 b.0, b.1)

-- where `label` stands next the jump is without condition
abbrev pub br_at : Context → List Tok → Read Op
br_at context ts = if has is_label_word ts then jump_behind context (behind ts) else branch_behind context ts

abbrev pub br_behind : Context → List Tok → Read Op
br_behind context ts = br_at context (skipped is_flag_word ts)

-- `T v, label %d [ T c, label %l .. ]`
abbrev pub switch_behind : Context → List Tok → Read Op
switch_behind context ts = do
  v ← flagged_typed_at context ts
  d ← next_label_at context v.1
  cs ← cases_at context v.0.ty d.1
  Ok (op.Switch v.0.ty v.0.value d.0 cs.0, cs.1)

-- Instructions.

-- an instruction behind `%r =`, at its first word; a word of one that gives nothing cannot stand there
abbrev pub giving_of : Context → TextForm → ℕ → InstructionWord → List Tok → Read Op
giving_of context form to (instructions.Operator o) ts = binary_behind context to o (behind ts)
giving_of context form to instructions.Compare ts = compare_behind context to (behind ts)
giving_of context form to (instructions.Conversion w) ts = convert_behind context to (conversion_of w) (behind ts)
giving_of context form to instructions.Freeze ts = unary_behind context to unary.Freeze (behind ts)
giving_of context form to instructions.Select ts = select_behind context to (behind ts)
giving_of context form to instructions.Phi ts = phi_behind context to (behind ts)
giving_of context form to instructions.Alloca ts = alloca_behind context to (behind ts)
giving_of context form to instructions.Load ts = load_behind context to (behind ts)
giving_of context form to instructions.GetElementPtr ts = element_behind context to (behind ts)
giving_of context form to instructions.Call ts = call_behind context form (Some to) (behind ts)
giving_of context form to _ ts = refused ts

-- an instruction without `%r =`, at its first word; a word of one that gives a register cannot stand there
abbrev pub silent_of : Context → TextForm → InstructionWord → List Tok → Read Op
silent_of context form instructions.Store ts = store_behind context (behind ts)
silent_of context form instructions.Call ts = call_behind context form None (behind ts)
silent_of context form instructions.Ret ts = ret_behind context (behind ts)
silent_of context form instructions.Br ts = br_behind context (behind ts)
silent_of context form instructions.Switch ts = switch_behind context (behind ts)
silent_of context form instructions.Unreachable ts = Ok (op.Unreachable, behind ts)
silent_of context form _ ts = refused ts

abbrev pub by_word : Option InstructionWord → (InstructionWord → List Tok → Read Op) → Kind → List Tok → Read Op
by_word None of k ts = Err (at (refusal k) ts)
by_word (Some w) of k ts = of w ts

-- an instruction by its first word
abbrev pub first_word_at : (InstructionWord → List Tok → Read Op) → List Tok → Read Op
first_word_at of [] = refused []
first_word_at of (t ∷ ts) = by_word (instruction_in t.kind) of t.kind (t ∷ ts)

abbrev pub giving_at : Context → TextForm → ℕ → List Tok → Read Op
giving_at context form to ts = if has is_tail_word ts then tail_call_at context form (Some to) ts else first_word_at (giving_of context form to) ts

abbrev pub silent_at : Context → TextForm → List Tok → Read Op
silent_at context form ts = if has is_tail_word ts then tail_call_at context form None ts else first_word_at (silent_of context form) ts

-- `=` behind a register, and what gives it
abbrev pub given_behind : Context → TextForm → ℕ → List Tok → Read Op
given_behind context form to ts = do
  e ← mark_at Equal ts
  giving_at context form to e.1

-- an instruction without the metadata behind it
abbrev pub form_at : Context → TextForm → List Tok → Read Op
form_at context form ts =
    if has is_register ts then given_behind context form (register_number context (first_name ts)) (behind ts) else silent_at context form ts

-- an instruction, and the metadata behind it, which is passed over
abbrev pub instruction_at : Context → TextForm → List Tok → Read Op
instruction_at context form ts = do
  o ← form_at context form ts
  m ← metadata_at o.1
  Ok (o.0, m.1)
