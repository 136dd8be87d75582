-- The further readings of a text, by a context that knows all its names: what its statements say.
use Rattle.std.specs.Prelude.{ℕ, Option, Some, None, List, [], ◌∷◌, ◌++◌, length, drop, map, slice_get, unwrap_or, Result, Ok, Err, if◌then◌else◌}
use Rattle.lx_words.specs.declared.token.Token.{Token}
use Rattle.lx_ir_tokens.specs.declared.token.Tok.{Tok}
use Rattle.lx_ir.specs.declared.types.Scalar.{Scalar}
use Rattle.lx_ir.specs.declared.types.NamedType.{NamedType}
use Rattle.lx_ir.specs.declared.module.GlobalVar.{GlobalVar}
use Rattle.lx_ir.specs.declared.module.Parameter.{Parameter}
use Rattle.lx_ir.specs.declared.module.Function.{Function}
use Rattle.lx_ir.specs.declared.module.Module.{Module}
use Rattle.lx_ir_terms.specs.declared.fault.Fault.{Fault}
use Rattle.lx_ir_terms.specs.Context.{Context, bytes_of}
use Rattle.lx_ir_terms.specs.Reading.{◌>>=◌}
use Rattle.lx_ir_calls.specs.declared.intrinsics.TextForm.{TextForm}
use Rattle.lx_ir_statements.specs.declared.form.Statement.{Statement}
use Rattle.lx_ir_statements.specs.declared.form.Statement.TheVariants as statements
use Rattle.lx_ir_statements.specs.Defined.{nothing_defined, is_block_write, with_statement}
use Rattle.lx_ir_statements.specs.Statements.{statement_at}
use Rattle.lx_ir_tables.specs.Numbering.{Numbering, numbering, table_of}
use Rattle.lx_ir_tables.specs.Registers.{registers_of}
use Rattle.lx_ir_read.specs.declared.first.Found.{Found}
use Rattle.lx_ir_read.specs.declared.draft.Draft.{Draft}
use Rattle.lx_ir_read.specs.Fault.{line_shown}
use Rattle.lx_ir_read.specs.Tables.{tokens_left}

-- Registers.

-- the registers of a statement, which only a function has
abbrev pub registers_in : List (List ℕ) → Statement → Numbering
registers_in names (statements.Function name ret params blocks) = registers_of names (numbering (length names) []) params blocks
registers_in names _ = numbering (length names) []

abbrev pub with_registers : Context → List (Option ℕ) → Context
with_registers c registers = record {
  types = c.types;
  symbols = c.symbols;
  registers = registers;
  named = c.named;
  layouts = c.layouts;
  limits = c.limits;
  names = c.names;
  complete = c.complete;
}

abbrev pub register_name : List (List ℕ) → Option ℕ → List ℕ
register_name names None = []
register_name names (Some n) = unwrap_or (slice_get names n) []

-- the names of the registers behind the parameters
abbrev pub local_names : List (List ℕ) → ℕ → Numbering → List (List ℕ)
local_names names params registers = map (register_name names) (drop params registers.things)

-- What a statement adds to the module.

abbrev pub no_draft : Draft
no_draft = record { defined = nothing_defined; types = []; globals = []; imports = []; functions = [] }

abbrev pub nameless : Scalar → Parameter
nameless ty = record { name = []; ty = ty }

-- an import keeps no names
abbrev pub import_of : List ℕ → Option Scalar → List Scalar → ℕ → Function
import_of name ret params line = record { name = name; params = map nameless params; locals = []; ret = ret; blocks = None; line = line }

abbrev pub with_named : Draft → NamedType → Draft
with_named d t = record { defined = d.defined; types = d.types ++ t ∷ []; globals = d.globals; imports = d.imports; functions = d.functions }

abbrev pub with_variable : Draft → GlobalVar → Draft
with_variable d g = record { defined = d.defined; types = d.types; globals = d.globals ++ g ∷ []; imports = d.imports; functions = d.functions }

abbrev pub with_declared : Draft → Function → Draft
with_declared d f = record { defined = d.defined; types = d.types; globals = d.globals; imports = d.imports ++ f ∷ []; functions = d.functions }

abbrev pub with_body : Draft → Function → Draft
with_body d f = record { defined = d.defined; types = d.types; globals = d.globals; imports = d.imports; functions = d.functions ++ f ∷ [] }

-- the module so far with what a statement says, whose registers and line are these. The import of a block write is not kept
abbrev pub kept : Context → Numbering → ℕ → Draft → Statement → Draft
kept context registers line d (statements.Type name ty) = with_named d (record { name = bytes_of context name; ty = ty })
kept context registers line d (statements.Global name constant ty init) =
    with_variable d (record { name = bytes_of context name; constant = constant; ty = ty; init = init; line = line })
kept context registers line d (statements.Import name ret params) =
    if is_block_write context name then d else with_declared d (import_of (bytes_of context name) ret params line)
kept context registers line d (statements.Function name ret params blocks) =
    with_body d (record {
      name = bytes_of context name;
      params = params;
      locals = local_names context.names (length params) registers;
      ret = ret;
      blocks = Some blocks;
      line = line;
    })

abbrev pub with_defined : Context → Draft → Statement → Draft
with_defined context d s = record {
  defined = with_statement context d.defined s;
  types = d.types;
  globals = d.globals;
  imports = d.imports;
  functions = d.functions;
}

-- Reading again.

-- a statement that was found, read again
abbrev pub again_at : Context → TextForm → List Token → List Tok → Draft → Found → Result Draft Fault
again_at context form places toks d f =
    let registers = registers_in context.names f.statement in
    statement_at (with_registers context (table_of registers)) form places d.defined (tokens_left f.left toks)
    >>= λ s. Ok (kept context registers (line_shown places f.left) (with_defined context d s.0) s.0)

-- statements that were found, read again, up to the first fault
abbrev pub all_again : Context → TextForm → List Token → List Tok → Draft → List Found → Result Draft Fault
all_again context form places toks d [] = Ok d
all_again context form places toks d (f ∷ fs) = again_at context form places toks d f >>= λ e. all_again context form places toks e fs

abbrev pub module_of : Draft → Module
module_of d = record { types = d.types; globals = d.globals; functions = d.imports ++ d.functions }
