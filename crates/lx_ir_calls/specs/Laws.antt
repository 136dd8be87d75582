-- Reading and the grammar of calls agree.
use Rattle.std.specs.Prelude.{◌≡◌, ℕ, Option, List, ◌++◌, Ok}
use Rattle.lx_ir_tokens.specs.declared.token.Tok.{Tok}
use Rattle.lx_ir.specs.declared.instr.Op.{Op}
use Rattle.lx_ir_terms.specs.Context.{Context}
use Rattle.lx_ir_terms.specs.Grammar.{Part}
use Rattle.lx_ir_terms.specs.Laws.{Finds}
use Rattle.lx_ir_operands.specs.Laws.{EndsCall}
use Rattle.lx_ir_calls.specs.declared.intrinsics.TextForm.{TextForm}
use Rattle.lx_ir_calls.specs.Calls.{tail_call_at}
use Rattle.lx_ir_calls.specs.Grammar.{given_by, IsCall}

-- the tokens of a call are read as it, whatever follows that does not go on with it
abbrev pub CallsAreRead : Type 0
CallsAreRead =
    (context : Context) (form : TextForm) (o : Op) (ts us : List Tok)
    → EndsCall us → IsCall context form o ts → tail_call_at context form (given_by o) (ts ++ us) ≡ Ok (o, us)

-- a call that gives its result to this register, or to none
abbrev pub IsCallTo : Context → TextForm → Option ℕ → Op → Part
IsCallTo context form to o ts = (given_by o ≡ to) × IsCall context form o ts

-- what is read as a call are its tokens
abbrev pub CallsAreFound : Type 0
CallsAreFound = (context : Context) (form : TextForm) (to : Option ℕ) → Finds (tail_call_at context form to) (IsCallTo context form to)
