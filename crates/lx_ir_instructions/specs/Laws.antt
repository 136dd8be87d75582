-- Reading and the grammar of instructions agree.
use Rattle.std.specs.Prelude.{◌≡◌, true, false, List, ◌++◌, Ok}
use Rattle.lx_ir_tokens.specs.declared.token.Tok.{Tok}
use Rattle.lx_ir_tokens.specs.declared.token.Mark.TheVariants.{Colon}
use Rattle.lx_ir.specs.declared.instr.Op.{Op}
use Rattle.lx_ir_terms.specs.Context.{Context}
use Rattle.lx_ir_terms.specs.Reading.{has, is_mark}
use Rattle.lx_ir_terms.specs.Laws.{Finds}
use Rattle.lx_ir_operands.specs.Steps.{has_attribute, has_comma}
use Rattle.lx_ir_calls.specs.declared.intrinsics.TextForm.{TextForm}
use Rattle.lx_ir_instructions.specs.Instructions.{instruction_at}
use Rattle.lx_ir_instructions.specs.Grammar.{IsInstr}

-- tokens that do not go on with the instruction before them: there are some, and no comma, no colon and no word of a call is the first
pub record MayFollow (us : List Tok) : Type 0 where
  pub some : has (λ k. true) us ≡ true
  pub no_comma : has_comma us ≡ false
  pub no_colon : has (is_mark Colon) us ≡ false
  pub no_attribute : has_attribute us ≡ false

-- the tokens of an instruction are read as it, whatever follows that does not go on with it
abbrev pub InstrsAreRead : Type 0
InstrsAreRead =
    (context : Context) (form : TextForm) (o : Op) (ts us : List Tok)
    → MayFollow us → IsInstr context form o ts → instruction_at context form (ts ++ us) ≡ Ok (o, us)

-- what is read as an instruction are its tokens
abbrev pub InstrsAreFound : Type 0
InstrsAreFound = (context : Context) (form : TextForm) → Finds (instruction_at context form) (IsInstr context form)
