-- Reading and the grammar of blocks agree.
use Rattle.std.specs.Prelude.{◌≡◌, ℕ, List, ◌++◌, Ok}
use Rattle.lx_words.specs.declared.token.Token.{Token}
use Rattle.lx_ir_tokens.specs.declared.token.Tok.{Tok}
use Rattle.lx_ir.specs.declared.module.Block.{Block}
use Rattle.lx_ir_terms.specs.Context.{Context}
use Rattle.lx_ir_calls.specs.declared.intrinsics.TextForm.{TextForm}
use Rattle.lx_ir_terms.specs.Reading.{Read}
use Rattle.lx_ir_statements.specs.Blocks.{blocks_at}
use Rattle.lx_ir_statements.specs.BlockGrammar.{Before, IsBody}

-- Laws of parts whose lines depend on what follows.

abbrev pub ReadsBefore : {A : Type 0} → (List Tok → Read A) → A → Before → Type 0
ReadsBefore read x part = (ts us : List Tok) → part ts us → read (ts ++ us) ≡ Ok (x, us)

abbrev pub FindsBefore : {A : Type 0} → (List Tok → Read A) → (A → Before) → Type 0
FindsBefore {A} read part = (ts us : List Tok) (x : A) → read ts ≡ Ok (x, us) → (front : List Tok) × part x front us × (ts ≡ front ++ us)

-- the tokens of blocks and the brace behind them are read as them, whatever follows
abbrev pub BodiesAreRead : Type 0
BodiesAreRead =
    (context : Context) (form : TextForm) (places : List Token) (numbered : ℕ) (registers : List ℕ) (bs : List Block)
    → ReadsBefore (blocks_at context form places numbered registers) bs (IsBody context form places numbered registers bs)

-- what is read as blocks are their tokens
abbrev pub BodiesAreFound : Type 0
BodiesAreFound =
    (context : Context) (form : TextForm) (places : List Token) (numbered : ℕ) (registers : List ℕ)
    → FindsBefore (blocks_at context form places numbered registers) (IsBody context form places numbered registers)
