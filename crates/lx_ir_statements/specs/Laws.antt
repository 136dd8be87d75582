-- Reading and the grammar of statements agree.
use Rattle.std.specs.Prelude.{◌≡◌, Bool, true, false, List, [], ◌∷◌, ◌++◌, Ok}
use Rattle.lx_words.specs.declared.token.Token.{Token}
use Rattle.lx_ir_tokens.specs.declared.token.Tok.{Tok}
use Rattle.lx_ir_tokens.specs.declared.token.Kind.{Kind}
use Rattle.lx_ir_tokens.specs.declared.token.Kind.TheVariants as kinds
use Rattle.lx_ir_tokens.specs.declared.keyword.StatementWord.TheVariants as words
use Rattle.lx_ir_tokens.specs.declared.keyword.Keyword.TheVariants as keywords
use Rattle.lx_ir_terms.specs.Context.{Context}
use Rattle.lx_ir_calls.specs.declared.intrinsics.TextForm.{TextForm}
use Rattle.lx_ir_statements.specs.BlockLaws.{FindsBefore}
use Rattle.lx_ir_statements.specs.declared.form.Statement.{Statement}
use Rattle.lx_ir_statements.specs.declared.defined.Defined.{Defined}
use Rattle.lx_ir_statements.specs.Statements.{statement_at}
use Rattle.lx_ir_statements.specs.Grammar.{IsStatement}

-- a statement begins with this token
abbrev pub begins_statement : Kind → Bool
begins_statement kinds.Local = true
begins_statement kinds.Global = true
begins_statement (kinds.Word (keywords.Statement words.Declare)) = true
begins_statement (kinds.Word (keywords.Statement words.Define)) = true
begins_statement _ = false

-- behind a statement the text ends, or the next begins
abbrev pub may_follow : List Tok → Bool
may_follow [] = true
may_follow (t ∷ ts) = begins_statement t.kind

-- the tokens of a statement are read as it, where the text ends behind them or a statement begins there
abbrev pub StatementsAreRead : Type 0
StatementsAreRead =
    (context : Context) (form : TextForm) (places : List Token) (defined : Defined) (s : Statement) (ts us : List Tok)
    → may_follow us ≡ true → IsStatement context form places defined s ts us → statement_at context form places defined (ts ++ us) ≡ Ok (s, us)

-- what is read as a statement are its tokens
abbrev pub StatementsAreFound : Type 0
StatementsAreFound = (context : Context) (form : TextForm) (places : List Token) (defined : Defined) → FindsBefore (statement_at context form places defined) (IsStatement context form places defined)
