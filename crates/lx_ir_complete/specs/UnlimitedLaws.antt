-- What tokens say within limits on types, they say without them.
use Rattle.std.specs.Prelude.{List}
use Rattle.lx_words.specs.declared.token.Token.{Token}
use Rattle.lx_ir_tokens.specs.declared.token.Tok.{Tok}
use Rattle.lx_ir_terms.specs.Context.{Context}
use Rattle.lx_ir_calls.specs.declared.intrinsics.TextForm.{TextForm}
use Rattle.lx_ir_statements.specs.declared.form.Statement.{Statement}
use Rattle.lx_ir_statements.specs.declared.defined.Defined.{Defined}
use Rattle.lx_ir_statements.specs.Grammar.{IsStatement}
use Rattle.lx_ir_complete.specs.Unlimited.{unlimited}

-- The tokens of a statement by a context are that statement also where no limits are asked.
abbrev pub StatementsAreUnlimited : Type 0
StatementsAreUnlimited =
    (context : Context) (form : TextForm) (places : List Token) (defined : Defined) (s : Statement) (ts us : List Tok)
    → IsStatement context form places defined s ts us → IsStatement (unlimited context) form places defined s ts us
