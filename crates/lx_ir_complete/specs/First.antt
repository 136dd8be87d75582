-- The statements of a text, and those that a first reading finds.
use Rattle.std.specs.Prelude.{◌≡◌, ℕ, List, [], ◌∷◌, ◌++◌, length}
use Rattle.lx_words.specs.declared.token.Token.{Token}
use Rattle.lx_ir_tokens.specs.declared.token.Tok.{Tok}
use Rattle.lx_ir_calls.specs.declared.intrinsics.TextForm.{TextForm}
use Rattle.lx_ir_statements.specs.declared.defined.Defined.{Defined}
use Rattle.lx_ir_statements.specs.Defined.{with_statement}
use Rattle.lx_ir_statements.specs.Grammar.{IsStatement}
use Rattle.lx_ir_lawful.specs.Alike.{AlikeStatements}
use Rattle.lx_ir_complete.specs.Statements.{Own}
use Rattle.lx_ir_read.specs.declared.first.Found.{Found}
use Rattle.lx_ir_complete.specs.KnownLaws.{unknown}

-- Statements one behind the other, each with what a first reading finds in its place: a statement that is alike.
abbrev pub AreFound : TextForm → List Token → List (List ℕ) → Defined → List Own → List Found → List Tok → Type 0
AreFound form places names defined [] [] ts = ts ≡ []
AreFound form places names defined (s ∷ ss) (f ∷ fs) ts =
    (front : List Tok) × (back : List Tok)
    × IsStatement s.context form places defined s.statement front back
    × AlikeStatements s.context (unknown names) s.statement f.statement
    × (f.left ≡ length ts)
    × AreFound form places names (with_statement s.context defined s.statement) ss fs back
    × (ts ≡ front ++ back)
AreFound form places names defined _ _ ts = ⊥
