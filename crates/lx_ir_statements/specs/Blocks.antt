-- Reading the blocks of a function.
use Rattle.std.specs.Prelude.{ℕ, ◌-◌, Bool, true, false, not, ◌&&◌, ◌||◌, Option, Some, None, List, [], ◌∷◌, ◌++◌, length, Ok, Err, if◌then◌else◌, slice_get}
use Rattle.std.specs.Option.{option_map_or}
use Rattle.lx_words.specs.declared.token.Token.{Token}
use Rattle.lx_words.specs.Text.{decimal_text}
use Rattle.lx_ir_tokens.specs.declared.token.Tok.{Tok}
use Rattle.lx_ir_tokens.specs.declared.token.Kind.{Kind}
use Rattle.lx_ir_tokens.specs.declared.token.Kind.TheVariants as kinds
use Rattle.lx_ir_tokens.specs.declared.token.Mark.TheVariants.{Colon, CloseBrace}
use Rattle.lx_ir_tokens.specs.Names.{number_of}
use Rattle.lx_ir.specs.declared.instr.Instr.{Instr}
use Rattle.lx_ir.specs.declared.instr.Op.{Op}
use Rattle.lx_ir.specs.declared.module.Block.{Block}
use Rattle.lx_ir.specs.Operands.{is_terminator}
use Rattle.lx_ir_terms.specs.declared.fault.FaultKind.TheVariants.{Twice}
use Rattle.lx_ir_terms.specs.Context.{Context, bytes_of}
use Rattle.lx_ir_terms.specs.Reading.{Read, ◌>>=◌, at, refused, behind, is_mark, has}
use Rattle.lx_ir_constants.specs.Constants.{first_name}
use Rattle.lx_ir_calls.specs.declared.intrinsics.TextForm.{TextForm}
use Rattle.lx_ir_instructions.specs.Instructions.{instruction_at}
use Rattle.lx_ir_statements.specs.declared.body.Locals.{Locals}
use Rattle.lx_ir_statements.specs.declared.body.Run.{Run}
use Rattle.lx_ir_statements.specs.Numbers.{has_number, with_number, has_some, with_some}
use Rattle.lx_ir_statements.specs.Going.{going_at}
use Rattle.lx_ir_statements.specs.Parameters.{local_name}

-- Lines.

-- the line of the token at which reading stands, among the places of all tokens of the text
abbrev pub line_at : List Token → List Tok → ℕ
line_at places ts = option_map_or (λ t. t.line) (slice_get places (length places - length ts)) 1

-- Labels.

-- a word, or a decimal number without `-`
abbrev pub may_be_label : Kind → Bool
may_be_label (kinds.Word w) = true
may_be_label (kinds.Number v false) = true
may_be_label _ = false

-- `label:` stands next
abbrev pub has_label : List Tok → Bool
has_label [] = false
has_label (t ∷ ts) = may_be_label t.kind && has (is_mark Colon) ts

-- the text ends behind a token that may yet be a label
abbrev pub ends_in_label : List Tok → Bool
ends_in_label (t ∷ []) = may_be_label t.kind
ends_in_label _ = false

-- Instructions of a block.

-- a block ends here: the next begins, the function ends, or the text does
abbrev pub ends_block : List Tok → Bool
ends_block [] = true
ends_block (t ∷ ts) = is_mark CloseBrace t.kind || has_label (t ∷ ts)

-- the name of the register that stands at the start of an instruction, which gives it
abbrev pub given : List Tok → Option ℕ
given [] = None
given (t ∷ ts) = local_name t.kind t.name

-- an instruction with its line
abbrev pub line_of_text : Context → TextForm → List Token → List Tok → Read Instr
line_of_text context form places ts = do
  o ← instruction_at context form ts
  Ok (record { op = o.0; line = line_at places ts }, o.1)

abbrev pub with_register : Locals → Option ℕ → Locals
with_register locals register = record { registers = with_some locals.registers register; labels = locals.labels }

-- An instruction, which gives no register that was given before. Where the text ends behind a word, that may yet be a label.
abbrev pub instr_at : Context → TextForm → List Token → Locals → List Tok → Read (Instr × Locals)
instr_at context form places locals ts =
    if has_some locals.registers (given ts) then Err (at Twice ts)
    else if ends_in_label ts then refused []
    else (line_of_text context form places ts >>= λ i. Ok ((i.0, with_register locals (given ts)), i.1))

-- what was read of a block, and what is defined so far
abbrev pub Going : Type 0
Going = Run × Locals

abbrev pub run_goes_on : Run → List Tok → Bool
run_goes_on run ts = run.goes_on && not (ends_block ts)

abbrev pub with_instr : Run → Instr → Run
with_instr run i = record { instrs = run.instrs ++ i ∷ []; goes_on = not (is_terminator i.op) }

abbrev pub run_step : Context → TextForm → List Token → Going → List Tok → Read Going
run_step context form places g ts = do
  i ← instr_at context form places g.1 ts
  Ok ((with_instr g.0 i.0.0, i.0.1), i.1)

abbrev pub no_instrs : Run
no_instrs = record { instrs = []; goes_on = true }

-- further instructions of a block: up to a terminator, or to where the block ends without one
abbrev pub further_instrs_at : Context → TextForm → List Token → Going → List Tok → Read Going
further_instrs_at context form places g ts = going_at (λ h us. run_goes_on h.0 us) (run_step context form places) (length ts) g ts

-- the instructions of a block
abbrev pub run_at : Context → TextForm → List Token → Locals → List Tok → Read (List Instr × Locals)
run_at context form places locals ts = do
  r ← further_instrs_at context form places (no_instrs, locals) ts
  Ok ((r.0.0.instrs, r.0.1), r.1)

-- Blocks.

-- a block of this name
abbrev pub block_behind : Context → TextForm → List Token → List ℕ → Locals → List Tok → Read (Block × Locals)
block_behind context form places name locals ts = do
  r ← run_at context form places locals ts
  Ok ((record { name = name; instrs = r.0.0 }, r.0.1), r.1)

abbrev pub with_label : Locals → Option ℕ → Locals
with_label locals label = record { registers = locals.registers; labels = with_some locals.labels label }

-- `label:`, which no block before has, and instructions
abbrev pub labelled_block_at : Context → TextForm → List Token → Locals → List Tok → Read (Block × Locals)
labelled_block_at context form places locals ts =
    if has_number locals.labels (first_name ts) then Err (at Twice ts)
    else block_behind context form places (bytes_of context (first_name ts)) (with_label locals (Some (first_name ts))) (behind (behind ts))

-- the first block without a label: its name is the number of the parameters whose name is a number
abbrev pub unlabelled_block_at : Context → TextForm → List Token → ℕ → Locals → List Tok → Read (Block × Locals)
unlabelled_block_at context form places numbered locals ts =
    block_behind context form places (decimal_text numbered) (with_label locals (number_of context.names (decimal_text numbered))) ts

abbrev pub first_block_at : Context → TextForm → List Token → ℕ → Locals → List Tok → Read (Block × Locals)
first_block_at context form places numbered locals ts =
    if has_label ts then labelled_block_at context form places locals ts else unlabelled_block_at context form places numbered locals ts

-- blocks that were read, and what they define
abbrev pub Body : Type 0
Body = List Block × Locals

abbrev pub body_goes_on : Body → List Tok → Bool
body_goes_on body ts = has_label ts

abbrev pub body_step : Context → TextForm → List Token → Body → List Tok → Read Body
body_step context form places body ts = do
  b ← labelled_block_at context form places body.1 ts
  Ok ((body.0 ++ b.0.0 ∷ [], b.0.1), b.1)

-- further blocks, as long as labels stand next
abbrev pub further_blocks_at : Context → TextForm → List Token → Body → List Tok → Read Body
further_blocks_at context form places body ts = going_at body_goes_on (body_step context form places) (length ts) body ts

-- one block or more, where the parameters define these registers
abbrev pub some_blocks_at : Context → TextForm → List Token → ℕ → List ℕ → List Tok → Read (List Block)
some_blocks_at context form places numbered registers ts = do
  b ← first_block_at context form places numbered (record { registers = registers; labels = [] }) ts
  bs ← further_blocks_at context form places (b.0.0 ∷ [], b.0.1) b.1
  Ok (bs.0.0, bs.1)

-- the brace behind the blocks; a word at the text's end may yet be the label of a further one
abbrev pub close_at : List Tok → Read (Unit {0})
close_at ts = if has (is_mark CloseBrace) ts then Ok (tt, behind ts) else if ends_in_label ts then refused [] else refused ts

-- the blocks of a function behind its brace, and the brace behind them
abbrev pub blocks_at : Context → TextForm → List Token → ℕ → List ℕ → List Tok → Read (List Block)
blocks_at context form places numbered registers ts = do
  b ← some_blocks_at context form places numbered registers ts
  c ← close_at b.1
  Ok (b.0, c.1)
