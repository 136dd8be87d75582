-- Reading statements.
use Rattle.std.specs.Prelude.{ℕ, Bool, true, false, Option, Some, None, List, [], ◌∷◌, Ok, Err, if◌then◌else◌}
use Rattle.lx_words.specs.declared.token.Token.{Token}
use Rattle.lx_ir_tokens.specs.declared.token.Tok.{Tok}
use Rattle.lx_ir_tokens.specs.declared.token.Kind.{Kind}
use Rattle.lx_ir_tokens.specs.declared.token.Kind.TheVariants as kinds
use Rattle.lx_ir_tokens.specs.declared.token.Mark.TheVariants.{Comma, Equal, OpenBrace, Less}
use Rattle.lx_ir_tokens.specs.declared.keyword.StatementWord.TheVariants as words
use Rattle.lx_ir_tokens.specs.declared.keyword.Keyword.TheVariants as keywords
use Rattle.lx_ir.specs.IrType.{IrType}
use Rattle.lx_ir_terms.specs.declared.fault.FaultKind.TheVariants.{Twice, OutOfProfile}
use Rattle.lx_ir_terms.specs.Context.{Context}
use Rattle.lx_ir_terms.specs.Reading.{Read, ◌>>=◌, at, refusal, refused, behind, pick_at, is_mark, has, next_at, mark_at}
use Rattle.lx_ir_terms.specs.Types.{always_refused, depth_limit, written_type_at}
use Rattle.lx_ir_terms.specs.Words.{passed_result_at}
use Rattle.lx_ir_constants.specs.Constants.{skipped, word_refusal, first_name}
use Rattle.lx_ir_constants.specs.Inits.{init_at}
use Rattle.lx_ir_operands.specs.Steps.{one_align_at}
use Rattle.lx_ir_calls.specs.declared.intrinsics.TextForm.{TextForm}
use Rattle.lx_ir_statements.specs.Numbers.{has_number, has_some}
use Rattle.lx_ir_statements.specs.Words.{is_linkage_word, import_attributes_at, function_attributes_at}
use Rattle.lx_ir_statements.specs.Parameters.{parameters_at}
use Rattle.lx_ir_statements.specs.Imports.{import_parameters_at}
use Rattle.lx_ir_statements.specs.Blocks.{blocks_at}
use Rattle.lx_ir_statements.specs.declared.form.Statement.{Statement}
use Rattle.lx_ir_statements.specs.declared.form.Statement.TheVariants as statements
use Rattle.lx_ir_statements.specs.declared.defined.Defined.{Defined}
use Rattle.lx_ir_statements.specs.Defined.{is_imported_twice, names_block_write}

-- Types with names.

abbrev pub is_type_word : Kind → Bool
is_type_word (kinds.Word (keywords.Statement words.NamedType)) = true
is_type_word _ = false

-- a struct is opened here, perhaps a packed one
abbrev pub opens_struct : Kind → Bool
opens_struct k = if is_mark OpenBrace k then true else is_mark Less k

-- how the next token is refused where a type has to stand
abbrev pub refused_here : {A : Type 0} → List Tok → Read A
refused_here [] = refused []
refused_here (t ∷ ts) = Err (at (refusal t.kind) (t ∷ ts))

-- the struct that a name names
abbrev pub struct_at : Context → List Tok → Read IrType
struct_at context ts = if has opens_struct ts then written_type_at context ts else refused_here ts

-- `%name = type {..}`; the name is a type in the text too
abbrev pub new_type_at : Context → List Tok → Read Statement
new_type_at context ts = do
  n ← written_type_at context ts
  e ← mark_at Equal n.1
  w ← next_at is_type_word e.1
  t ← struct_at context w.1
  Ok (statements.Type (first_name ts) t.0, t.1)

-- a type whose name no statement before defines
abbrev pub type_statement_at : Context → Defined → List Tok → Read Statement
type_statement_at context defined ts = if has_number defined.types (first_name ts) then Err (at Twice ts) else new_type_at context ts

-- Names behind `@`.

abbrev pub symbol_name : Kind → ℕ → Option ℕ
symbol_name kinds.Global name = Some name
symbol_name _ name = None

abbrev pub next_symbol : List Tok → Option ℕ
next_symbol [] = None
next_symbol (t ∷ ts) = symbol_name t.kind t.name

-- a name behind `@`
abbrev pub symbol_at : List Tok → Read ℕ
symbol_at ts = pick_at (λ t. symbol_name t.kind t.name) always_refused ts

-- a name that no statement before defines
abbrev pub new_symbol_at : Defined → List Tok → Read ℕ
new_symbol_at defined ts = if has_some defined.symbols (next_symbol ts) then Err (at Twice ts) else symbol_at ts

-- the same of an import
abbrev pub import_name_at : Context → Defined → List Tok → Read ℕ
import_name_at context defined ts = if is_imported_twice context defined (next_symbol ts) then Err (at Twice ts) else symbol_at ts

-- the same of a function with a body, which is no block write: no text defines one
abbrev pub new_function_name_at : Context → Defined → List Tok → Read ℕ
new_function_name_at context defined ts =
    if has_some defined.symbols (next_symbol ts) then Err (at Twice ts)
    else if names_block_write context (next_symbol ts) then Err (at OutOfProfile ts)
    else symbol_at ts

-- Globals.

-- whether a global is constant
abbrev pub storage_in : Kind → Option Bool
storage_in (kinds.Word (keywords.Statement words.Global)) = Some false
storage_in (kinds.Word (keywords.Statement words.Constant)) = Some true
storage_in _ = None

-- `global` or `constant` behind words that are passed over
abbrev pub storage_at : List Tok → Read Bool
storage_at ts = pick_at (λ t. storage_in t.kind) word_refusal (skipped is_linkage_word ts)

-- `, align N` behind a global, or nothing
abbrev pub global_align_at : List Tok → Read (Unit {0})
global_align_at ts = if has (is_mark Comma) ts then one_align_at (behind ts) else Ok (tt, ts)

-- `@name = global T C`
abbrev pub global_at : Context → Defined → List Tok → Read Statement
global_at context defined ts = do
  n ← new_symbol_at defined ts
  e ← mark_at Equal n.1
  k ← storage_at e.1
  t ← written_type_at context k.1
  i ← init_at context depth_limit t.0 t.1
  a ← global_align_at i.1
  Ok (statements.Global n.0 k.0 t.0 i.0, a.1)

-- Imports.

-- `R @name(T, ..)` behind `declare`
abbrev pub import_behind : Context → Defined → List Tok → Read Statement
import_behind context defined ts = do
  r ← passed_result_at true ts
  n ← import_name_at context defined r.1
  ps ← import_parameters_at n.1
  a ← import_attributes_at ps.1
  Ok (statements.Import n.0 r.0 ps.0, a.1)

-- Functions.

-- `R @name(T %a, ..) { blocks }` behind `define`
abbrev pub function_behind : Context → TextForm → List Token → Defined → List Tok → Read Statement
function_behind context form places defined ts = do
  r ← passed_result_at true ts
  n ← new_function_name_at context defined r.1
  h ← parameters_at context n.1
  a ← function_attributes_at h.1
  o ← mark_at OpenBrace a.1
  bs ← blocks_at context form places h.0.numbered h.0.registers o.1
  Ok (statements.Function n.0 r.0 h.0.params bs.0, bs.1)

-- Statements.

-- a statement by its first token
abbrev pub statement_by : Context → TextForm → List Token → Defined → Kind → List Tok → Read Statement
statement_by context form places defined kinds.Local ts = type_statement_at context defined ts
statement_by context form places defined kinds.Global ts = global_at context defined ts
statement_by context form places defined (kinds.Word (keywords.Statement words.Declare)) ts = import_behind context defined (behind ts)
statement_by context form places defined (kinds.Word (keywords.Statement words.Define)) ts = function_behind context form places defined (behind ts)
statement_by context form places defined k ts = Err (at (refusal k) ts)

-- a statement, where the statements before define these names
abbrev pub statement_at : Context → TextForm → List Token → Defined → List Tok → Read Statement
statement_at context form places defined [] = refused []
statement_at context form places defined (t ∷ ts) = statement_by context form places defined t.kind (t ∷ ts)
