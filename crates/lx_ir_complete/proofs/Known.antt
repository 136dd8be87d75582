-- A reader whose tables number the things of a module in order knows what their names stand for.
use Rattle.std.proofs.Common.{◌≡◌, ◌⊎◌, inl, inr, ℕ, ◌+◌, ◌<◌, List, ◌++◌, length, map, Bool, true, false, refl, sym, ap, ◌∙◌, subst, arith, Option, Some, None, slice_get, bytes_eq}
use Rattle.std.specs.List.{list_any}
use Rattle.std.proofs.lemmas.Bool.{ltb-true}
use Rattle.std.proofs.lemmas.List.{length-map, length-append}
use Rattle.std.proofs.lemmas.Option.{slice_get_within}
use Rattle.lx_ir.specs.declared.module.Symbol.{Symbol}
use Rattle.lx_ir.specs.declared.module.Symbol.TheVariants as symbol
use Rattle.lx_ir.specs.declared.module.Function.{Function}
use Rattle.lx_ir.specs.declared.module.Module.{Module}
use Rattle.lx_ir.specs.IrType.{IrType}
use Rattle.lx_ir.specs.Layout.{is_lawful_type}
use Rattle.lx_ir.specs.Operands.{register_count}
use Rattle.lx_ir.specs.Text.{name_at, type_name, symbol_name, register_names, register_name}
use Rattle.lx_ir.specs.Lawful.{is_distinct, type_names, is_lawful_symbol, IsLawful}
use Rattle.lx_ir_offsets.specs.Shapes.{Shape, named_shapes}
use Rattle.lx_ir_terms.specs.Context.{Context, entry, nothing, unless_complete, type_number, symbol_of, register_or, register_number}
use Rattle.lx_ir_terms.specs.Grammar.{is_inside_limits}
use Rattle.lx_ir_tables.specs.Numbering.{number_named, symbol_by}
use Rattle.lx_ir_complete.specs.Knows.{Knows, KnowsRegisters}
use Rattle.lx_ir_tokens.specs.Names.{number_of}
use Rattle.lx_ir.proofs.DistinctNames.{distinct_behind}
use Rattle.lx_ir_complete.specs.KnownTables.{AreOnce, global_names, function_names, HasTables, HasRegisters}
use Rattle.lx_ir_complete.proofs.LawfulShapes.{inside}
use Rattle.lx_ir_complete.proofs.TableNumbers.{not_before, distinct_front, absent, found, number_told, symbol_told}

complete_or_not : {A : Type 0} (complete : Bool) (other x : A) (o : Option A) → o ≡ Some x → unless_complete complete other o ≡ Some x
complete_or_not true other x o e = ap (unless_complete true other) e
complete_or_not false other x o e = ap (unless_complete false other) e

-- the thing at a place, by its name
placed : (names said : List (List ℕ)) (k name : ℕ) → AreOnce names → is_distinct said ≡ true → k < length said → slice_get names name ≡ Some (name_at said k) → number_named (map (number_of names) said) name ≡ Some k
placed names said k name once d lt at = let here : 0 + k ≡ k = omega arith in found names once said 0 k name d lt at ∙ ap (λ n. Some n) here

module _ (m : Module) (context : Context) (lawful : IsLawful m) (once : AreOnce context.names) (tables : HasTables m context) where
  types_known : (k name : ℕ) → k < length m.types → slice_get context.names name ≡ Some (type_name m.types k) → type_number context name ≡ Some k
  types_known k name lt at =
      let within : k < length (type_names m) = omega (arith, lt, length-map m.types (λ t. t.name)) in
      let number = placed context.names (type_names m) k name once lawful.types_once within at in
      let told = number_told (length context.names) name (map (number_of context.names) (type_names m)) (Some k) (slice_get_within context.names name (type_name m.types k) at) number in
      complete_or_not context.complete nothing k (entry context.types name) (ap (λ t. entry t name) tables.types ∙ told)

  symbol_known : (s : Symbol) (g f : Option ℕ) (name : ℕ) (said : List ℕ) → symbol_by g f ≡ Some s → number_named (map (number_of context.names) (global_names m)) name ≡ g → number_named (map (number_of context.names) (function_names m)) name ≡ f
      → slice_get context.names name ≡ Some said → symbol_of context name ≡ Some s
  symbol_known s g f name said e d h at =
      let told = symbol_told (length context.names) name (map (number_of context.names) (global_names m)) (map (number_of context.names) (function_names m)) g f (slice_get_within context.names name said at) d h in
      complete_or_not context.complete (symbol.Global nothing) s (entry context.symbols name) (ap (λ t. entry t name) tables.symbols ∙ told ∙ e)

  symbols_known : (s : Symbol) (name : ℕ) → is_lawful_symbol m s ≡ true → slice_get context.names name ≡ Some (symbol_name m s) → symbol_of context name ≡ Some s
  symbols_known (symbol.Global k) name h at =
      let lt : k < length m.globals = ltb-true k (length m.globals) h in
      let within : k < length (global_names m) = omega (arith, lt, length-map m.globals (λ g. g.name)) in
      let number = placed context.names (global_names m) k name once (distinct_front (global_names m) (function_names m) lawful.symbols_once) within at in
      symbol_known (symbol.Global k) (Some k) (number_named (map (number_of context.names) (function_names m)) name) name (name_at (global_names m) k) refl number refl at
  symbols_known (symbol.Function k) name h at =
      let lt : k < length m.functions = ltb-true k (length m.functions) h in
      let within : k < length (function_names m) = omega (arith, lt, length-map m.functions (λ f. f.name)) in
      let number = placed context.names (function_names m) k name once (distinct_behind (global_names m) (function_names m) lawful.symbols_once) within at in
      let none = absent context.names once (global_names m) 0 name (name_at (function_names m) k) at (not_before (global_names m) (function_names m) k lawful.symbols_once within) in
      symbol_known (symbol.Function k) None (Some k) name (name_at (function_names m) k) refl none number at

  inside_limits : (t : IrType) (limits : Option (List Shape)) → is_lawful_type m.types t ≡ true → (limits ≡ None) ⊎ (limits ≡ Some (named_shapes m.types)) → is_inside_limits limits t ≡ true
  inside_limits t limits h (inl e) = ap (λ o. is_inside_limits o t) e
  inside_limits t limits h (inr e) = ap (λ o. is_inside_limits o t) e ∙ inside m.types 64 t h (omega arith)

  -- The tables know the names of the module.
  pub known : Knows m context
  known = record { types = types_known; symbols = symbols_known; limits = λ t h. inside_limits t context.limits h tables.limits }

-- The table knows the registers of a function.
pub registers_known : (f : Function) (context : Context) → is_distinct (register_names f) ≡ true → AreOnce context.names → HasRegisters f context → KnowsRegisters f context
registers_known f context d once has = record {
  registers = λ r name lt at.
      let within : r < length (register_names f) = omega (arith, lt, length-append (map (λ p. p.name) f.params) f.locals, length-map f.params (λ p. p.name)) in
      let number = placed context.names (register_names f) r name once d within at in
      let told = number_told (length context.names) name (map (number_of context.names) (register_names f)) (Some r) (slice_get_within context.names name (register_name f r) at) number in
      ap (λ t. register_or (entry t name)) has ∙ ap register_or told;
}
