-- A token at which the reading of calls and instructions stops cannot stand there. All is said where no limits on types are asked: a
-- type that is outside them is refused at its first token by what follows.
use Rattle.std.specs.Prelude.{◌≡◌, ℕ, Option, None, List, Err}
use Rattle.lx_ir_tokens.specs.declared.token.Tok.{Tok}
use Rattle.lx_ir_terms.specs.declared.fault.Fault.{Fault}
use Rattle.lx_ir_terms.specs.Context.{Context}
use Rattle.lx_ir_calls.specs.declared.intrinsics.TextForm.{TextForm}
use Rattle.lx_ir_calls.specs.Calls.{tail_call_at}
use Rattle.lx_ir_instructions.specs.Instructions.{instruction_at}
use Rattle.lx_ir_complete.specs.Alike.{StopsThere}

-- the token at which the reading of a call stops
abbrev pub CallsAreRefused : Type 0
CallsAreRefused =
    (context : Context) → context.limits ≡ None → (form : TextForm) (to : Option ℕ) (ts : List Tok) (fault : Fault)
    → tail_call_at context form to ts ≡ Err fault → StopsThere (tail_call_at context form to) ts fault

-- the same of an instruction
abbrev pub InstructionsAreRefused : Type 0
InstructionsAreRefused =
    (context : Context) → context.limits ≡ None → (form : TextForm) (ts : List Tok) (fault : Fault)
    → instruction_at context form ts ≡ Err fault → StopsThere (instruction_at context form) ts fault
