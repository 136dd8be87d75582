-- Which texts modules are: the grammar, apart from how a text is read.
use Rattle.std.specs.Prelude.{◌≡◌, ℕ, true, None, List, [], ◌∷◌, ◌++◌, length}
use Rattle.lx_words.specs.declared.token.Token.{Token}
use Rattle.lx_ir_tokens.specs.declared.token.Tok.{Tok}
use Rattle.lx_ir_tokens.specs.declared.read.IrTokens.{IrTokens}
use Rattle.lx_ir_tokens.specs.Reading.{ReadsAs}
use Rattle.lx_ir.specs.declared.module.Module.{Module}
use Rattle.lx_ir_terms.specs.Context.{Context}
use Rattle.lx_ir_calls.specs.declared.intrinsics.TextForm.{TextForm}
use Rattle.lx_ir_statements.specs.declared.form.Statement.{Statement}
use Rattle.lx_ir_statements.specs.declared.defined.Defined.{Defined}
use Rattle.lx_ir_statements.specs.Defined.{nothing_defined, with_statement}
use Rattle.lx_ir_statements.specs.Grammar.{IsStatement}
use Rattle.lx_ir_tables.specs.Numbering.{table_of}
use Rattle.lx_ir_read.specs.declared.first.Found.{Found}
use Rattle.lx_ir_read.specs.declared.draft.Draft.{Draft}
use Rattle.lx_ir_read.specs.First.{unknown_context}
use Rattle.lx_ir_read.specs.Tables.{tokens_left}
use Rattle.lx_ir_read.specs.Again.{no_draft, registers_in, with_registers, with_defined, kept, module_of}
use Rattle.lx_ir_read.specs.Fault.{line_shown}
use Rattle.lx_ir_read.specs.Reading.{first_early, early_context, tables_of, full_context}

-- Tokens fall into these statements, each of which stands behind those before it and defines no name that they define.
abbrev pub AreStatements : Context → TextForm → List Token → Defined → List Found → List Tok → Type 0
AreStatements context form places defined [] ts = ts ≡ []
AreStatements context form places defined (f ∷ fs) ts =
    (front : List Tok) × (back : List Tok)
    × (f.left ≡ length ts)
    × IsStatement context form places defined f.statement front back
    × AreStatements context form places (with_statement context defined f.statement) fs back
    × (ts ≡ front ++ back)

-- What a statement that stands there says by this context, with the registers of its own, makes one module of another.
abbrev pub Adds : Context → TextForm → List Token → List Tok → Draft → Found → Draft → Type 0
Adds context form places toks d f e =
    (s : Statement) × (front : List Tok) × (back : List Tok)
    × IsStatement (with_registers context (table_of (registers_in context.names f.statement))) form places d.defined s front back
    × (tokens_left f.left toks ≡ front ++ back)
    × (kept context (registers_in context.names f.statement) (line_shown places f.left) (with_defined context d s) s ≡ e)

abbrev pub AddAll : Context → TextForm → List Token → List Tok → Draft → List Found → Draft → Type 0
AddAll context form places toks d [] e = d ≡ e
AddAll context form places toks d (f ∷ fs) e = (m : Draft) × Adds context form places toks d f m × AddAll context form places toks m fs e

-- The text is this module. Its statements, as their tokens say by a context that knows no names, tell what each name stands for;
-- by a context that knows this, and the limits on types, they say the module.
pub record IsModule (form : TextForm) (text : List ℕ) (m : Module) : Type 0 where
  pub ir : IrTokens
  pub reads : ReadsAs text ir
  -- each byte stands in a token or between two
  pub whole : ir.stop ≡ None
  pub statements : List Found
  pub falls : AreStatements (unknown_context ir.names) form ir.places nothing_defined statements ir.toks
  -- no name is an image's own in a program, and the indices of each constant `getelementptr` name parts
  pub sound : first_early form (early_context form ir statements) 0 ir.toks ≡ None
  pub draft : Draft
  pub says : AddAll (full_context ir (tables_of form ir statements) true) form ir.places ir.toks no_draft statements draft
  pub is : module_of draft ≡ m
