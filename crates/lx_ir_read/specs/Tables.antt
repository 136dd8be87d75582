-- What the statements of a text define, by number.
use Rattle.std.specs.Prelude.{ℕ, ◌-◌, Bool, true, false, not, Option, Some, None, List, [], ◌∷◌, length, ◌++◌, drop, fold, option_to_list, Result, Ok, Err, if◌then◌else◌}
use Rattle.lx_words.specs.declared.token.Token.{Token}
use Rattle.lx_ir_tokens.specs.declared.token.Tok.{Tok}
use Rattle.lx_ir.specs.declared.types.NamedType.{NamedType}
use Rattle.lx_ir.specs.declared.module.Symbol.{Symbol}
use Rattle.lx_ir_terms.specs.declared.fault.Fault.{Fault}
use Rattle.lx_ir_terms.specs.Context.{Context, bytes_of}
use Rattle.lx_ir_terms.specs.Reading.{Read}
use Rattle.lx_ir_calls.specs.declared.intrinsics.TextForm.{TextForm}
use Rattle.lx_ir_statements.specs.declared.form.Statement.{Statement}
use Rattle.lx_ir_statements.specs.declared.form.Statement.TheVariants as statements
use Rattle.lx_ir_statements.specs.Defined.{nothing_defined, is_block_write}
use Rattle.lx_ir_statements.specs.Statements.{statement_at}
use Rattle.lx_ir_tables.specs.Numbering.{Numbering, numbering, with_thing, table_of, symbols_by}
use Rattle.lx_ir_read.specs.declared.first.Found.{Found}

-- Types.

abbrev pub with_type : Numbering → Statement → Numbering
with_type t (statements.Type name ty) = with_thing t (Some name)
with_type t _ = t

-- the types that statements define, in the order of the text
abbrev pub types_of : ℕ → List Found → Numbering
types_of count found = fold (λ t f. with_type t f.statement) (numbering count []) found

-- Globals and functions.

abbrev pub with_global : Numbering → Statement → Numbering
with_global t (statements.Global name constant ty init) = with_thing t (Some name)
with_global t _ = t

abbrev pub globals_of : ℕ → List Found → Numbering
globals_of count found = fold (λ t f. with_global t f.statement) (numbering count []) found

-- the import of a block write is none
abbrev pub with_import : Context → Numbering → Statement → Numbering
with_import context t (statements.Import name ret params) = if is_block_write context name then t else with_thing t (Some name)
with_import context t _ = t

abbrev pub with_function : Numbering → Statement → Numbering
with_function t (statements.Function name ret params blocks) = with_thing t (Some name)
with_function t _ = t

-- the imports in the order of the text, and then the functions that are defined
abbrev pub functions_of : Context → ℕ → List Found → Numbering
functions_of context count found =
    fold (λ t f. with_function t f.statement) (fold (λ t f. with_import context t f.statement) (numbering count []) found) found

abbrev pub symbols_of : Context → ℕ → List Found → List (Option Symbol)
symbols_of context count found = symbols_by (table_of (globals_of count found)) (table_of (functions_of context count found))

-- The types, once their names have numbers.

-- the last so many tokens
abbrev pub tokens_left : ℕ → List Tok → List Tok
tokens_left left toks = drop (length toks - left) toks

-- a context in which names of types have their numbers
abbrev pub naming_types : List (List ℕ) → List (Option ℕ) → List NamedType → Context
naming_types names types named = record {
  types = types;
  symbols = [];
  registers = [];
  named = named;
  layouts = [];
  limits = None;
  names = names;
  complete = false;
}

abbrev pub is_type : Statement → Bool
is_type (statements.Type name ty) = true
is_type _ = false

abbrev pub type_in : Context → Statement → Option NamedType
type_in context (statements.Type name ty) = Some (record { name = bytes_of context name; ty = ty })
type_in context _ = None

abbrev pub type_read : Context → Read Statement → Option NamedType
type_read context (Ok s) = type_in context s.0
type_read context (Err f) = None

-- the type that a statement defines, read again
abbrev pub type_again : Context → TextForm → List Token → List Tok → Found → Option NamedType
type_again context form places toks f =
    if is_type f.statement then type_read context (statement_at context form places nothing_defined (tokens_left f.left toks)) else None

abbrev pub with_type_again : Context → TextForm → List Token → List Tok → List NamedType → Found → List NamedType
with_type_again context form places toks types f = types ++ option_to_list (type_again context form places toks f)

-- the types that the statements define, by their numbers
abbrev pub named_types : TextForm → List (List ℕ) → List Token → List Tok → List Found → List NamedType
named_types form names places toks found =
    fold (with_type_again (naming_types names (table_of (types_of (length names) found)) []) form places toks) [] found
