-- A token at which the reading of a function's blocks or of a statement stops cannot stand there. All is said where no limits on types
-- are asked: a type that is outside them is refused at its first token by what follows.
use Rattle.std.specs.Prelude.{◌≡◌, ℕ, false, None, List, Err}
use Rattle.lx_words.specs.declared.token.Token.{Token}
use Rattle.lx_ir_tokens.specs.declared.token.Tok.{Tok}
use Rattle.lx_ir_terms.specs.declared.fault.Fault.{Fault}
use Rattle.lx_ir_terms.specs.declared.fault.FaultKind.TheVariants.{Twice}
use Rattle.lx_ir_terms.specs.Context.{Context}
use Rattle.lx_ir_terms.specs.Reading.{has}
use Rattle.lx_ir_calls.specs.declared.intrinsics.TextForm.{TextForm}
use Rattle.lx_ir_statements.specs.Blocks.{blocks_at}
use Rattle.lx_ir_statements.specs.declared.defined.Defined.{Defined}
use Rattle.lx_ir_statements.specs.Statements.{statement_at}
use Rattle.lx_ir_statements.specs.Grammar.{is_define_word}
use Rattle.lx_ir_complete.specs.Alike.{StopsThere}

-- the token at which the reading of blocks and of the brace behind them stops, where the parameters define these registers
abbrev pub BodiesAreRefused : Type 0
BodiesAreRefused =
    (context : Context) → context.limits ≡ None → (form : TextForm) (places : List Token) (numbered : ℕ) (registers : List ℕ) (ts : List Tok) (fault : Fault)
    → blocks_at context form places numbered registers ts ≡ Err fault → StopsThere (blocks_at context form places numbered registers) ts fault

-- The same of a statement. A name that a function defines twice is left out: a parameter without a name whose number is taken is refused
-- at its type, and what follows might have named it.
abbrev pub StatementsAreRefused : Type 0
StatementsAreRefused =
    (context : Context) → context.limits ≡ None → (form : TextForm) (places : List Token) (defined : Defined) (ts : List Tok) (fault : Fault)
    → (fault.kind ≡ Twice → has is_define_word ts ≡ false) → statement_at context form places defined ts ≡ Err fault
    → StopsThere (statement_at context form places defined) ts fault
