-- The statements of a module, one behind the other.
use Rattle.std.specs.Prelude.{◌≡◌, ◌⊎◌, ℕ, Some, None, List, [], ◌∷◌, ◌++◌, map, slice_get}
use Rattle.std.specs.List.{AllZip}
use Rattle.lx_words.specs.declared.token.Token.{Token}
use Rattle.lx_ir.specs.declared.types.NamedType.{NamedType}
use Rattle.lx_ir.specs.declared.module.GlobalVar.{GlobalVar}
use Rattle.lx_ir.specs.declared.module.Block.{Block}
use Rattle.lx_ir.specs.declared.module.Function.{Function}
use Rattle.lx_ir.specs.declared.module.Module.{Module}
use Rattle.lx_ir_tokens.specs.declared.token.Tok.{Tok}
use Rattle.lx_ir_terms.specs.Context.{Context}
use Rattle.lx_ir_calls.specs.declared.intrinsics.TextForm.{TextForm}
use Rattle.lx_ir_statements.specs.declared.form.Statement.{Statement}
use Rattle.lx_ir_statements.specs.declared.form.Statement.TheVariants as statements
use Rattle.lx_ir_statements.specs.declared.defined.Defined.{Defined}
use Rattle.lx_ir_statements.specs.Defined.{nothing_defined, with_statement}
use Rattle.lx_ir_statements.specs.Grammar.{IsStatement}
use Rattle.lx_ir_complete.specs.Said.{SameBlocks}

-- a statement, and the context by which it is read
pub record Own : Type 0 where
  pub context : Context
  pub statement : Statement

-- Statements one behind the other, where those before define these names.
abbrev pub AreStatements : TextForm → List Token → Defined → List Own → List Tok → Type 0
AreStatements form places defined [] ts = ts ≡ []
AreStatements form places defined (s ∷ ss) ts =
    (front : List Tok) × (back : List Tok)
    × IsStatement s.context form places defined s.statement front back
    × AreStatements form places (with_statement s.context defined s.statement) ss back
    × (ts ≡ front ++ back)

-- the statement of a type
abbrev pub OfType : Context → NamedType → Own → Type 0
OfType context t s = (n : ℕ) × (slice_get context.names n ≡ Some t.name) × (s ≡ record { context = context; statement = statements.Type n t.ty })

-- the statement of a global
abbrev pub OfGlobal : Context → GlobalVar → Own → Type 0
OfGlobal context g s =
    (n : ℕ) × (slice_get context.names n ≡ Some g.name) × (s ≡ record { context = context; statement = statements.Global n g.constant g.ty g.init })

-- the statement of an import, or of a function with the same blocks, the lines of their instructions aside
abbrev pub OfFunction : Context → Function → Own → Type 0
OfFunction own f s =
    (n : ℕ) × (slice_get own.names n ≡ Some f.name)
    × ((f.blocks ≡ None) × (s ≡ record { context = own; statement = statements.Import n f.ret (map (λ p. p.ty) f.params) })
    ⊎ (bs : List Block) × (ds : List Block) × (f.blocks ≡ Some bs) × SameBlocks ds bs × (s ≡ record { context = own; statement = statements.Function n f.ret f.params ds }))

-- Tokens are the statements of a module, in order.
pub record StateModule (context : Context) (own : Function → Context) (form : TextForm) (places : List Token) (m : Module) (toks : List Tok) : Type 0 where
  pub types : List Own
  pub globals : List Own
  pub functions : List Own
  pub of_types : AllZip (OfType context) m.types types
  pub of_globals : AllZip (OfGlobal context) m.globals globals
  pub of_functions : AllZip (λ f s. OfFunction (own f) f s) m.functions functions
  pub are : AreStatements form places nothing_defined (types ++ (globals ++ functions)) toks
