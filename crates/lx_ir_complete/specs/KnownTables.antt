-- Tables of names by which a reader knows the names of a module.
use Rattle.std.specs.Prelude.{◌≡◌, ◌⊎◌, ℕ, Option, Some, None, List, length, map, slice_get}
use Rattle.lx_ir.specs.declared.module.Function.{Function}
use Rattle.lx_ir.specs.declared.module.Module.{Module}
use Rattle.lx_ir.specs.Text.{register_names}
use Rattle.lx_ir.specs.Lawful.{type_names}
use Rattle.lx_ir_tokens.specs.Names.{number_of}
use Rattle.lx_ir_offsets.specs.Shapes.{named_shapes}
use Rattle.lx_ir_terms.specs.Context.{Context}
use Rattle.lx_ir_tables.specs.Numbering.{Numbering, numbering, table_of, symbols_by}

-- a name stands at one place of the table
abbrev pub AreOnce : List (List ℕ) → Type 0
AreOnce names = (i j : ℕ) (name : List ℕ) → slice_get names i ≡ Some name → slice_get names j ≡ Some name → i ≡ j

-- things with these names, in order
abbrev pub named_things : List (List ℕ) → List (List ℕ) → Numbering
named_things names said = numbering (length names) (map (number_of names) said)

abbrev pub global_names : Module → List (List ℕ)
global_names m = map (λ g. g.name) m.globals

abbrev pub function_names : Module → List (List ℕ)
function_names m = map (λ f. f.name) m.functions

-- A context whose tables number the types, globals and functions of a module in order, and whose limits, if any, are those of its types.
pub record HasTables (m : Module) (context : Context) : Type 0 where
  pub types : context.types ≡ table_of (named_things context.names (type_names m))
  pub symbols : context.symbols ≡ symbols_by (table_of (named_things context.names (global_names m))) (table_of (named_things context.names (function_names m)))
  pub limits : (context.limits ≡ None) ⊎ (context.limits ≡ Some (named_shapes m.types))

-- A context whose table numbers the registers of a function in order.
abbrev pub HasRegisters : Function → Context → Type 0
HasRegisters f context = context.registers ≡ table_of (named_things context.names (register_names f))
