-- What a statement says by a context that knows its names, it says by one that knows none, its numbers forgotten.
use Rattle.std.specs.Prelude.{ℕ, Option, List}
use Rattle.lx_words.specs.declared.token.Token.{Token}
use Rattle.lx_ir_tokens.specs.declared.token.Tok.{Tok}
use Rattle.lx_ir_terms.specs.Context.{Context}
use Rattle.lx_ir_calls.specs.declared.intrinsics.TextForm.{TextForm}
use Rattle.lx_ir_statements.specs.declared.form.Statement.{Statement}
use Rattle.lx_ir_statements.specs.declared.defined.Defined.{Defined}
use Rattle.lx_ir_statements.specs.Grammar.{IsStatement}
use Rattle.lx_ir_lawful.specs.Alike.{knowing_registers, AlikeStatements}

-- The tokens of a statement are one also by a context that knows no names but those of registers, and the two are alike.
abbrev pub StatementsAreForgotten : Type 0
StatementsAreForgotten =
    (context : Context) (registers : List (Option ℕ)) (form : TextForm) (places : List Token) (defined : Defined) (s : Statement) (ts us : List Tok)
    → IsStatement context form places defined s ts us
    → (t : Statement) × IsStatement (knowing_registers context.names registers) form places defined t ts us × AlikeStatements context (knowing_registers context.names registers) s t
