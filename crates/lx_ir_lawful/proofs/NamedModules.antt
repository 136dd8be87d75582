-- What the names of a text stand for in its module, and what the module has.
use Rattle.std.proofs.Common.{◌≡◌, ℕ, ◌+◌, ◌<◌, ◌≤◌, ◌^◌, Bool, true, not, List, [], ◌∷◌, ◌++◌, length, map, slice_get, Option, Some, refl, sym, ap, ◌∙◌, subst, arith}
use Rattle.std.specs.Prelude.{unwrap_or}
use Rattle.std.specs.List.{list_all, AllByRecursion}
use Rattle.std.proofs.lemmas.Bool.{and_parts, and_from}
use Rattle.std.proofs.lemmas.List.{map-append, length-map, length-append}
use Rattle.std.proofs.lemmas.List.Folds.{list_all-append}
use Rattle.lx_words.proofs.Tests.{less_true}
use Rattle.lx_ir.specs.declared.types.NamedType.{NamedType}
use Rattle.lx_ir.specs.declared.module.Symbol.{Symbol}
use Rattle.lx_ir.specs.declared.module.Symbol.TheVariants as symbol
use Rattle.lx_ir.specs.declared.module.GlobalVar.{GlobalVar}
use Rattle.lx_ir.specs.declared.module.Function.{Function}
use Rattle.lx_ir.specs.declared.module.Module.{Module}
use Rattle.lx_ir.specs.Lawful.{is_name, is_own_name, is_lawful_symbol, is_lawful_global, symbol_names}
use Rattle.lx_ir.specs.Text.{symbol_name}
use Rattle.lx_ir_tokens.specs.declared.token.Tok.{Tok}
use Rattle.lx_ir_offsets.specs.Shapes.{named_shapes, is_inside}
use Rattle.lx_ir_lawful.specs.LimitLaws.{are_written_inside}
use Rattle.lx_ir_terms.specs.Context.{Context, entry, bytes_of}
use Rattle.lx_ir_calls.specs.declared.intrinsics.TextForm.{TextForm}
use Rattle.lx_ir_calls.specs.declared.intrinsics.TextForm.TheVariants as forms
use Rattle.lx_ir_statements.specs.Defined.{nothing_defined}
use Rattle.lx_ir_tables.specs.Numbering.{table_of, symbols_by}
use Rattle.lx_ir_read.specs.First.{unknown_context}
use Rattle.lx_ir_read.specs.Tables.{named_types, globals_of, functions_of}
use Rattle.lx_ir_read.specs.Again.{no_draft, module_of}
use Rattle.lx_ir_read.specs.Reading.{early_context, tables_of, full_context}
use Rattle.lx_ir_read.specs.Grammar.{IsModule}
use Rattle.lx_ir_lawful.specs.NamedThings.{named_things, AreOnce}
use Rattle.lx_ir_lawful.specs.TokenNames.{IsNamed, IsTokenNamed}
use Rattle.lx_ir_lawful.proofs.NamesOnce.{names_once}
use Rattle.lx_ir_lawful.proofs.TokenNames.{tokens_are_named}
use Rattle.lx_ir_lawful.proofs.Sizes.{is_such_struct, all_types, Good, all_good, modules_have_lawful_types}
use Rattle.lx_ir_lawful.proofs.SymbolsOnce.{symbols_are_once}
use Rattle.lx_ir_lawful.specs.Tells.{Tells}
use Rattle.lx_ir_lawful.specs.Said.{Names}
use Rattle.lx_ir_lawful.specs.SymbolLaws.{last_context, IsNumbered}
use Rattle.lx_ir_lawful.proofs.SymbolThings.{global_is, AllGlobals, OfThing}
use Rattle.lx_ir_lawful.proofs.Walked.{Parts, parts, parts_of, all_parts, things_of, walked, Each, each_walked}
use Rattle.lx_ir_lawful.proofs.Counted.{globals_counted, functions_counted}
use Rattle.lx_ir_lawful.proofs.Entries.{IsPlaced, is_placed, at_place}
use Rattle.lx_ir_lawful.proofs.OwnNames.{none_own, own_free, no_image_name}
use Rattle.lx_ir_lawful.proofs.Globals.{is_said_global, all_said, each_global}
use Rattle.lx_ir_lawful.proofs.FewSymbols.{tokens_few, size_of, things_few}

-- the names behind `@` are names
named_globals : (names : List (List ℕ)) (ts : List Tok) → AllByRecursion (IsTokenNamed names) ts → AllGlobals (IsNamed names) ts
named_globals names [] h = tt
named_globals names (t ∷ ts) h = ((λ e. h.0.global (global_is t.kind e)), named_globals names ts h.1)

abbrev global_names : List GlobalVar → List (List ℕ)
global_names gs = map (λ g. g.name) gs

abbrev function_names : List Function → List (List ℕ)
function_names fs = map (λ f. f.name) fs

-- A thing at its place.

abbrev PlacedIn : List (List ℕ) → Module → ℕ → Symbol → Type 0
PlacedIn names m n s = IsPlaced names (global_names m.globals) (function_names m.functions) n s

lawful_symbol : (names : List (List ℕ)) (m : Module) (n : ℕ) (s : Symbol) → PlacedIn names m n s → is_lawful_symbol m s ≡ true
lawful_symbol names m n (symbol.Global k) h =
    let below : k < length m.globals = subst (λ l. k < l) (length-map m.globals (λ (g : GlobalVar). g.name)) h.0 in
    less_true k (length m.globals) below
lawful_symbol names m n (symbol.Function k) h =
    let below : k < length m.functions = subst (λ l. k < l) (length-map m.functions (λ (f : Function). f.name)) h.0 in
    less_true k (length m.functions) below

symbol_named : (names : List (List ℕ)) (m : Module) (n : ℕ) (s : Symbol) → PlacedIn names m n s → symbol_name m s ≡ unwrap_or (slice_get names n) []
symbol_named names m n (symbol.Global k) h = sym (ap (λ o. unwrap_or o []) h.1)
symbol_named names m n (symbol.Function k) h = sym (ap (λ o. unwrap_or o []) h.1)

symbol_holds : (p : List ℕ → Bool) (names : List (List ℕ)) (m : Module) (n : ℕ) (s : Symbol) → list_all p (global_names m.globals) ≡ true → list_all p (function_names m.functions) ≡ true → PlacedIn names m n s → p (symbol_name m s) ≡ true
symbol_holds p names m n (symbol.Global k) gs fs h = at_place p (global_names m.globals) k gs h.0
symbol_holds p names m n (symbol.Function k) gs fs h = at_place p (function_names m.functions) k fs h.0

-- The module.

module _ (form : TextForm) (text : List ℕ) (m : Module) (is : IsModule form text m) where
  abbrev names : List (List ℕ)
  names = is.ir.names

  abbrev full : Context
  full = full_context is.ir (tables_of form is.ir is.statements) true

  once : AreOnce names
  once = subst AreOnce (sym is.reads.names) (names_once text is.ir.places)

  abbrev HasWalked : (ℕ → Type 0) → Type 0
  HasWalked P = (parts_of is.draft ≡ all_parts full is.statements) × AllByRecursion (OfThing P) (things_of is.statements)

  has_walked : (P : ℕ → Type 0) → AllGlobals P is.ir.toks → HasWalked P
  has_walked P all = walked form is.ir.places full is.ir.toks P all is.statements nothing_defined [] is.ir.toks no_draft is.draft is.falls refl is.says

  named : HasWalked (IsNamed names)
  named = has_walked (IsNamed names) (named_globals names is.ir.toks (tokens_are_named text is.ir is.reads))

  -- the module as it is drafted
  abbrev drafted : Module
  drafted = module_of is.draft

  -- Tables.

  globals_are : globals_of (length names) is.statements ≡ named_things names (global_names drafted.globals)
  globals_are = globals_counted full once is.statements named.1 ∙ ap (λ (p : Parts). named_things names p.globals) (sym named.0)

  functions_are : functions_of (unknown_context names) (length names) is.statements ≡ named_things names (function_names drafted.functions)
  functions_are =
      functions_counted full once is.statements named.1 ∙ ap (λ (p : Parts). named_things names (p.imports ++ p.functions)) (sym named.0)
      ∙ ap (named_things names) (sym (map-append (λ (f : Function). f.name) is.draft.imports is.draft.functions))

  symbols_are : full.symbols ≡ symbols_by (table_of (named_things names (global_names drafted.globals))) (table_of (named_things names (function_names drafted.functions)))
  symbols_are =
      ap (λ t. symbols_by (table_of t) (table_of (functions_of (unknown_context names) (length names) is.statements))) globals_are
      ∙ ap (λ t. symbols_by (table_of (named_things names (global_names drafted.globals))) (table_of t)) functions_are

  stands : (n : ℕ) (s : Symbol) → entry full.symbols n ≡ Some s → PlacedIn names drafted n s
  stands n s e = is_placed names (global_names drafted.globals) (function_names drafted.functions) n s (ap (λ t. entry t n) (sym symbols_are) ∙ e)

  -- Types.

  abbrev types : List NamedType
  types = named_types form names is.ir.places is.ir.toks is.statements

  types_are : is.draft.types ≡ types
  types_are = all_types form is.ir.places full refl is.ir.toks (unknown_context names) is.statements nothing_defined [] is.ir.toks no_draft is.draft is.falls refl is.says

  inside : are_written_inside is.draft.types ≡ true
  inside =
      let good : Good (is_inside (named_shapes types)) is.draft =
      all_good form is.ir.places full is.ir.toks (is_inside (named_shapes types)) (λ registers t ts h. h.1) is.statements no_draft is.draft is.says (record { types = refl; globals = refl; imports = refl; functions = refl }) in
      subst (λ ts. list_all (is_such_struct (is_inside (named_shapes ts))) is.draft.types ≡ true) (sym types_are) good.types

  -- What names stand for.

  drafted_tell : (registers : List (Option ℕ)) → Tells drafted (last_context form text m is registers)
  drafted_tell registers = record {
    limits = ap (λ ts. Some (named_shapes ts)) (sym types_are);
    types = inside;
    complete = refl;
    symbols = λ n s e. lawful_symbol names drafted n s (stands n s e);
  }

  pub tell : (registers : List (Option ℕ)) → Tells m (last_context form text m is registers)
  tell registers = subst (λ x. Tells x (last_context form text m is registers)) is.is (drafted_tell registers)

  -- no name of a program is an image's own
  own : form ≡ forms.Program → Each full (λ n. not (is_own_name n)) (parts_of is.draft)
  own program =
      let walk = has_walked (λ n. not (is_own_name (bytes_of full n)) ≡ true) (own_free form full is.ir.toks program (none_own form (early_context form is.ir is.statements) is.ir.toks is.sound)) in
      subst (Each full (λ n. not (is_own_name n))) (sym walk.0) (each_walked full (λ n. not (is_own_name n)) (things_of is.statements) (parts [] [] []) walk.1 (record { globals = refl; imports = refl; functions = refl }))

  own_functions : form ≡ forms.Program → list_all (λ n. not (is_own_name n)) (function_names drafted.functions) ≡ true
  own_functions program =
      let each = own program in
      ap (list_all (λ n. not (is_own_name n))) (map-append (λ (f : Function). f.name) is.draft.imports is.draft.functions)
      ∙ list_all-append (λ n. not (is_own_name n)) (function_names is.draft.imports) (function_names is.draft.functions)
      ∙ and_from (list_all (λ n. not (is_own_name n)) (function_names is.draft.imports)) (list_all (λ n. not (is_own_name n)) (function_names is.draft.functions)) each.imports each.functions

  drafted_name : (registers : List (Option ℕ)) → Names form drafted (last_context form text m is registers)
  drafted_name registers = record {
    named = λ n s e. symbol_named names drafted n s (stands n s e);
    plain = λ n s program e.
        let at = stands n s e in
        let holds = symbol_holds (λ n. not (is_own_name n)) names drafted n s (own program).globals (own_functions program) at in
        no_image_name (bytes_of full n) (subst (λ w. not (is_own_name w) ≡ true) (symbol_named names drafted n s at) holds);
  }

  pub name : (registers : List (Option ℕ)) → Names form m (last_context form text m is registers)
  name registers = subst (λ x. Names form x (last_context form text m is registers)) is.is (drafted_name registers)

  drafted_own : form ≡ forms.Program → list_all (λ n. not (is_own_name n)) (symbol_names drafted) ≡ true
  drafted_own program =
      list_all-append (λ n. not (is_own_name n)) (global_names drafted.globals) (function_names drafted.functions)
      ∙ and_from (list_all (λ n. not (is_own_name n)) (global_names drafted.globals)) (list_all (λ n. not (is_own_name n)) (function_names drafted.functions)) (own program).globals (own_functions program)

  pub own_names : form ≡ forms.Program → list_all (λ n. not (is_own_name n)) (symbol_names m) ≡ true
  own_names program = subst (λ (x : Module). list_all (λ n. not (is_own_name n)) (symbol_names x) ≡ true) is.is (drafted_own program)

  -- Globals.

  front_all : (xs ys : List (List ℕ)) → list_all is_name (xs ++ ys) ≡ true → list_all is_name xs ≡ true
  front_all xs ys h = (and_parts (list_all is_name xs) (list_all is_name ys) (sym (list_all-append is_name xs ys) ∙ h)).0

  pub globals : list_all (is_lawful_global m) m.globals ≡ true
  globals =
      let said = all_said m form is.ir.places full is.ir.toks tell is.statements no_draft is.draft is.says refl in
      let here = subst (λ (x : Module). list_all (is_said_global m) x.globals ≡ true) is.is said in
      each_global m m.globals (front_all (global_names m.globals) (function_names m.functions) (symbols_are_once form text m is).names) (modules_have_lawful_types form text m is).globals here

  -- How many there are.

  drafted_few : length text + 1 < 2 ^ 32 → IsNumbered drafted
  drafted_few short =
      let all : size_of is.draft ≤ size_of no_draft + length is.ir.toks = things_few (unknown_context names) full form is.ir.places is.ir.toks is.statements nothing_defined is.ir.toks no_draft is.draft is.falls is.says in
      let tokens = tokens_few text is.ir is.reads in
      let functions : length drafted.functions ≡ length is.draft.imports + length is.draft.functions = length-append is.draft.imports is.draft.functions in
      record { types = omega (arith, all, tokens, short); globals = omega (arith, all, tokens, short); functions = omega (arith, all, tokens, short, functions) }

  pub few : length text + 1 < 2 ^ 32 → IsNumbered m
  few short = subst IsNumbered is.is (drafted_few short)
