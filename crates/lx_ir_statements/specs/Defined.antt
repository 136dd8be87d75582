-- The names that statements define.
use Rattle.std.specs.Prelude.{ℕ, Bool, false, not, ◌&&◌, Option, Some, None, [], if◌then◌else◌, is_some}
use Rattle.lx_ir_terms.specs.Context.{Context, bytes_of}
use Rattle.lx_ir_calls.specs.Writes.{block_write_named}
use Rattle.lx_ir_statements.specs.Numbers.{has_number, with_number}
use Rattle.lx_ir_statements.specs.declared.form.Statement.{Statement}
use Rattle.lx_ir_statements.specs.declared.form.Statement.TheVariants as statements
use Rattle.lx_ir_statements.specs.declared.defined.Defined.{Defined}

-- a name whose calls are block writes
abbrev pub is_block_write : Context → ℕ → Bool
is_block_write context name = is_some (block_write_named (bytes_of context name))

-- no name yet
abbrev pub nothing_defined : Defined
nothing_defined = record { types = []; symbols = [] }

abbrev pub with_type : Defined → ℕ → Defined
with_type defined name = record { types = with_number defined.types name; symbols = defined.symbols }

abbrev pub with_symbol : Defined → ℕ → Defined
with_symbol defined name = record { types = defined.types; symbols = with_number defined.symbols name }

-- The names with those that a statement defines. The `declare` of a block write defines none.
abbrev pub with_statement : Context → Defined → Statement → Defined
with_statement context defined (statements.Type name ty) = with_type defined name
with_statement context defined (statements.Global name constant ty init) = with_symbol defined name
with_statement context defined (statements.Import name ret params) = if is_block_write context name then defined else with_symbol defined name
with_statement context defined (statements.Function name ret params blocks) = with_symbol defined name

-- An import of this name was defined before. A block write may be declared any number of times.
abbrev pub is_imported_twice : Context → Defined → Option ℕ → Bool
is_imported_twice context defined None = false
is_imported_twice context defined (Some name) = has_number defined.symbols name && not (is_block_write context name)

-- A block write has this name.
abbrev pub names_block_write : Context → Option ℕ → Bool
names_block_write context None = false
names_block_write context (Some name) = is_block_write context name
