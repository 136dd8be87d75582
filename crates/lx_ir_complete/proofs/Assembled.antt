-- What is printed of a module is read again as the module.
use Rattle.std.proofs.Common.{◌≡◌, ◌⊎◌, inl, inr, ℕ, ◌≤◌, Bool, true, false, not, ◌&&◌, List, [], ◌∷◌, ◌++◌, length, map, nat_lt, refl, sym, ap, ◌∙◌, subst, arith, true≢false, Option, Some, None, Result, Ok}
use Rattle.std.specs.Prelude.{if◌then◌else◌, is_some, fold}
use Rattle.std.specs.List.{AllZip, AllByRecursion, list_all}
use Rattle.std.proofs.lemmas.Bool.{and_parts}
use Rattle.lx_words.specs.declared.token.Token.{Token}
use Rattle.lx_ir.specs.declared.types.NamedType.{NamedType}
use Rattle.lx_ir.specs.declared.module.GlobalVar.{GlobalVar}
use Rattle.lx_ir.specs.declared.module.Function.{Function}
use Rattle.lx_ir.specs.declared.module.Module.{Module}
use Rattle.lx_ir.specs.Lookup.{is_defined, blocks_of}
use Rattle.lx_ir.specs.Operands.{register_count}
use Rattle.lx_ir.specs.Text.{register_names, module_text}
use Rattle.lx_ir.specs.Lawful.{is_name, is_distinct, type_names, parameter_names, numbers_registers, is_lawful_block, is_lawful_body, is_lawful_import, is_lawful_function, IsLawful, IsPlain}
use Rattle.lx_ir.specs.Fitting.{Layouts}
use Rattle.lx_ir_offsets.specs.Shapes.{Shape, named_shapes}
use Rattle.lx_ir_tokens.specs.declared.token.Tok.{Tok}
use Rattle.lx_ir_tokens.specs.declared.read.IrTokens.{IrTokens}
use Rattle.lx_ir_tokens.specs.Reading.{ReadsAs}
use Rattle.lx_ir_terms.specs.Context.{Context}
use Rattle.lx_ir_calls.specs.declared.intrinsics.TextForm.{TextForm}
use Rattle.lx_ir_calls.specs.declared.intrinsics.TextForm.TheVariants.{Program}
use Rattle.lx_ir_complete.specs.Printed.{AreCalm}
use Rattle.lx_ir_statements.specs.Defined.{nothing_defined}
use Rattle.lx_ir_statements.specs.Statements.{statement_at}
use Rattle.lx_ir_statements.specs.Laws.{StatementsAreRead}
use Rattle.lx_ir_tables.specs.Numbering.{Numbering, numbering, table_of, symbols_by}
use Rattle.lx_ir_lawful.specs.ForgottenLaws.{StatementsAreForgotten}
use Rattle.lx_ir_complete.specs.Said.{is_kept_module}
use Rattle.lx_ir_complete.specs.StatementLaws.{IsOwn, IsGiven, ModulesAreStated, ModulesAreCalm}
use Rattle.lx_ir_complete.specs.Statements.{Own, OfType, OfGlobal, OfFunction, StateModule}
use Rattle.lx_ir_read.specs.declared.first.Found.{Found}
use Rattle.lx_ir_read.specs.declared.first.FirstReading.{FirstReading}
use Rattle.lx_ir_read.specs.declared.draft.Draft.{Draft}
use Rattle.lx_ir_read.specs.declared.fault.TextFault.{TextFault}
use Rattle.lx_ir_read.specs.First.{unknown_context, no_progress, first_at, first_reading}
use Rattle.lx_ir_read.specs.Tables.{types_of, functions_of, naming_types, is_type, named_types, with_type_again}
use Rattle.lx_ir_read.specs.Again.{with_registers, no_draft, all_again, module_of}
use Rattle.lx_ir_read.specs.Reading.{first_of, early_context, tables_of, full_context, told, ◌and_then◌, module_found, front_fault, unless_faulty, module_by, module_at}
use Rattle.lx_ir_complete.specs.KnownTables.{AreOnce, named_things, global_names, function_names, HasTables}
use Rattle.lx_ir_complete.specs.KnownLaws.{unknown, TablesAreKnown, RegistersAreKnown, RegistersAreNumbered}
use Rattle.lx_ir_complete.specs.First.{AreFound}
use Rattle.lx_ir_complete.specs.Same.{SameModules}
use Rattle.lx_ir_complete.specs.FirstLaws.{Defines}
use Rattle.lx_ir_complete.proofs.RoundTripFirsts.{firsts}
use Rattle.lx_ir_complete.proofs.Counted.{counted}
use Rattle.lx_ir_complete.proofs.Sayings.{function_parts}
use Rattle.lx_ir_complete.proofs.Finding.{Named, joined, types_named, globals_named, functions_named, plain_functions}
use Rattle.lx_ir_complete.proofs.TypesAgain.{IsNoType, all_types}
use Rattle.lx_ir_complete.proofs.Drafted.{own_of}
use Rattle.lx_ir_complete.proofs.Early.{is_program, program_is, none_early}
use Rattle.lx_ir_complete.proofs.Whole.{base, whole}

-- what is taken from the laws below
pub record Below : Type 0 where
  pub read : StatementsAreRead
  pub forget : StatementsAreForgotten
  pub known : TablesAreKnown
  pub registers_known : RegistersAreKnown
  pub numbered : RegistersAreNumbered
  pub stated : (form : TextForm) → ModulesAreStated form
  pub calm : (form : TextForm) → ModulesAreCalm form

-- the names of a function's registers stand once
registers_once : (m : Module) (g : Function) → is_lawful_function m g ≡ true → is_defined g ≡ true → is_distinct (register_names g) ≡ true
registers_once m g h e =
    let lawful = function_parts m g h in
    let body : is_lawful_body m g ≡ true = ap (λ b. if b then is_lawful_body m g else is_lawful_import g) (sym e) ∙ lawful.2 in
    let h7 = and_parts _ (numbers_registers g) body in
    let h6 = and_parts _ (list_all (is_lawful_block m g) (blocks_of g)) h7.0 in
    let h5 = and_parts _ (is_distinct (map (λ b. b.name) (blocks_of g))) h6.0 in
    let h4 = and_parts _ (nat_lt 0 (length (blocks_of g))) h5.0 in
    let h3 = and_parts _ (nat_lt (register_count g) 4294967295) h4.0 in
    (and_parts (list_all is_name (parameter_names g ++ g.locals)) (is_distinct (parameter_names g ++ g.locals)) h3.0).1

module _ (below : Below) (form : TextForm) (m : Module) (lawful : IsLawful m) (kept : is_kept_module form m ≡ true) (plain : form ≡ Program → IsPlain m) (ir : IrTokens) (reads : ReadsAs (module_text m) ir) (once : AreOnce ir.names) where
  -- Contexts that know the module.

  module _ (full : Context) (named : full.names ≡ ir.names) (has : HasTables m full) where
    tables : (registers : List (Option ℕ)) → HasTables m (with_registers full registers)
    tables registers = record { types = has.types; symbols = has.symbols; limits = has.limits }

    full_once : AreOnce full.names
    full_once = subst AreOnce (sym named) once

    own_is : (gs : List Function) → list_all (is_lawful_function m) gs ≡ true → AllByRecursion (IsOwn m (base ir.places full) (own_of ir.places full)) gs
    own_is [] h = tt
    own_is (g ∷ gs) h =
        let both = and_parts (is_lawful_function m g) (list_all (is_lawful_function m) gs) h in (
          record {
            names = refl;
            knows = below.known m (own_of ir.places full g) lawful full_once (tables (own_of ir.places full g).registers);
            registers = λ e. below.registers_known g (own_of ir.places full g) (registers_once m g both.0 e) full_once (ap (λ b. table_of (if b then named_things full.names (register_names g) else numbering (length full.names) [])) e);
          },
          own_is gs both.1,
        )

    given : IsGiven (is_program form) form m (base ir.places full) (own_of ir.places full)
    given = record {
      lawful = lawful;
      kept = kept;
      knows = below.known m (base ir.places full) lawful full_once (tables (base ir.places full).registers);
      own = own_is m.functions lawful.functions;
      program = program_is form;
      foreign = λ p. (plain (program_is form p)).names;
    }

    stated : StateModule (base ir.places full) (own_of ir.places full) form ir.places m ir.toks × (ir.stop ≡ None)
    stated = below.stated form (is_program form) m (base ir.places full) (own_of ir.places full) given ir reads (sym named) ir.places

    state : StateModule (base ir.places full) (own_of ir.places full) form ir.places m ir.toks
    state = stated.0

    calm : AreCalm (is_program form) ir.names ir.toks
    calm = below.calm form (is_program form) m (base ir.places full) (own_of ir.places full) given ir reads (sym named)

    abbrev ss : List Own
    ss = state.types ++ (state.globals ++ state.functions)

    abbrev names : List (List ℕ)
    names = full.names

    all_named : Named names ss
    all_named =
        joined names state.types (state.globals ++ state.functions) (types_named (base ir.places full) m.types state.types state.of_types)
        (joined names state.globals state.functions (globals_named (base ir.places full) m.globals state.globals state.of_globals) (functions_named names (own_of ir.places full) (λ g. refl) m.functions state.functions state.of_functions))

    -- what a first reading finds
    first : (fs : List Found) × AreFound form ir.places names nothing_defined ss fs ir.toks × (first_at (unknown names) form ir.places (length ir.toks) no_progress ir.toks ≡ record { statements = fs; fault = None })
    first = firsts below.read below.forget form ir.places names ss all_named (length ir.toks) no_progress ir.toks (omega arith) state.are

    defines : Defines names m first.0
    defines =
        counted names full_once (own_of ir.places full) form ir.places (base ir.places full) refl m.types m.globals m.functions state.types state.globals state.functions state.of_types state.of_globals state.of_functions lawful.imports_first
        (plain_functions m names full_once (own_of ir.places full) (λ g. refl) m.functions lawful.functions) first.0 nothing_defined ir.toks all_named first.1

    no_type_globals : (gs : List GlobalVar) (xs : List Own) → AllZip (OfGlobal (base ir.places full)) gs xs → AllByRecursion IsNoType xs
    no_type_globals [] [] h = tt
    no_type_globals [] (x ∷ xs) h = absurd h
    no_type_globals (g ∷ gs) [] h = absurd h
    no_type_globals (g ∷ gs) (x ∷ xs) h = (ap (λ (o : Own). is_type o.statement) h.0.2, no_type_globals gs xs h.1)

    no_type_function : (g : Function) (s : Own) → OfFunction (own_of ir.places full g) g s → is_type s.statement ≡ false
    no_type_function g s (n, at, inl (none, e)) = ap (λ (o : Own). is_type o.statement) e
    no_type_function g s (n, at, inr (bs, ds, some, same, e)) = ap (λ (o : Own). is_type o.statement) e

    no_type_functions : (gs : List Function) (xs : List Own) → AllZip (λ g s. OfFunction (own_of ir.places full g) g s) gs xs → AllByRecursion IsNoType xs
    no_type_functions [] [] h = tt
    no_type_functions [] (x ∷ xs) h = absurd h
    no_type_functions (g ∷ gs) [] h = absurd h
    no_type_functions (g ∷ gs) (x ∷ xs) h = (no_type_function g x h.0, no_type_functions gs xs h.1)

    no_types : (xs ys : List Own) → AllByRecursion IsNoType xs → AllByRecursion IsNoType ys → AllByRecursion IsNoType (xs ++ ys)
    no_types [] ys h k = k
    no_types (x ∷ xs) ys h k = (h.0, no_types xs ys h.1 k)

    -- the types that were found, read again
    types_again : full.complete ≡ true → fold (with_type_again (naming_types names full.types []) form ir.places ir.toks) [] first.0 ≡ m.types
    types_again complete =
        all_types below.read form ir.places (base ir.places full) complete ir.toks m.types state.types (state.globals ++ state.functions) first.0 nothing_defined [] ir.toks state.of_types
        (no_types state.globals state.functions (no_type_globals m.globals state.globals state.of_globals) (no_type_functions m.functions state.functions state.of_functions)) first.1 refl []

    -- the module, read again where these statements were found
    again : (fs : List Found) → first.0 ≡ fs → (d : Draft) × (all_again full form ir.places ir.toks no_draft fs ≡ Ok d) × SameModules (module_of d) m
    again fs e =
        subst (λ gs. (d : Draft) × (all_again full form ir.places ir.toks no_draft gs ≡ Ok d) × SameModules (module_of d) m) e
        (whole ir.places full m below.numbered full_once lawful form ir.toks state first.0 first.1 below.read)

  -- The reading.

  -- a context that is made of the module itself
  abbrev ideal : Context
  ideal = record {
    types = table_of (named_things ir.names (type_names m));
    symbols = symbols_by (table_of (named_things ir.names (global_names m))) (table_of (named_things ir.names (function_names m)));
    registers = [];
    named = [];
    layouts = [];
    limits = None;
    names = ir.names;
    complete = true;
  }

  has_ideal : HasTables m ideal
  has_ideal = record { types = refl; symbols = refl; limits = inl refl }

  abbrev found : List Found
  found = (first ideal refl has_ideal).0

  found_first : first_reading form ir.names ir.places ir.toks ≡ record { statements = found; fault = None }
  found_first = (first ideal refl has_ideal).2

  defined : Defines ir.names m found
  defined = defines ideal refl has_ideal

  named_is : named_types form ir.names ir.places ir.toks found ≡ m.types
  named_is =
      ap (λ t. fold (with_type_again (naming_types ir.names (table_of t) []) form ir.places ir.toks) [] found) defined.types ∙ types_again ideal refl has_ideal refl

  limits_by : (limited : Bool) (types : List NamedType) → types ≡ m.types → ((if limited then Some (named_shapes types) else None) ≡ None) ⊎ ((if limited then Some (named_shapes types) else None) ≡ Some (named_shapes m.types))
  limits_by true types e = inr (ap (λ ts. Some (named_shapes ts)) e)
  limits_by false types e = inl refl

  abbrev the_full : Bool → Context
  the_full limited = full_context ir (tables_of form ir found) limited

  has_full : (limited : Bool) → HasTables m (the_full limited)
  has_full limited = record {
    types = ap table_of defined.types;
    symbols = ap (λ t. symbols_by (table_of t) (table_of (functions_of (unknown_context ir.names) (length ir.names) found))) defined.globals ∙ ap (λ t. symbols_by (table_of (named_things ir.names (global_names m))) (table_of t)) defined.functions;
    limits = limits_by limited (named_types form ir.names ir.places ir.toks found) named_is;
  }

  same_found : (a b : List Found) (r : FirstReading) → r ≡ record { statements = a; fault = None } → r ≡ record { statements = b; fault = None } → b ≡ a
  same_found a b r e h = ap (λ (q : FirstReading). q.statements) (sym h ∙ e)

  by_full : (limited : Bool) → (d : Draft) × (all_again (the_full limited) form ir.places ir.toks no_draft found ≡ Ok d) × SameModules (module_of d) m
  by_full limited =
      again (the_full limited) refl (has_full limited) found
      (same_found found (first (the_full limited) refl (has_full limited)).0 (first_reading form ir.names ir.places ir.toks) found_first (first (the_full limited) refl (has_full limited)).2)

  -- The printed text is read again.
  pub read_again : (n : Module) × (module_at form ir ≡ Ok n) × SameModules n m
  read_again =
      let open_one = by_full false in
      let close_one = by_full true in
      let early = none_early form (early_context form ir found) ir.toks (calm ideal refl has_ideal) in
      let stop = (stated ideal refl has_ideal).1 in
      let front : front_fault form ir (record { statements = found; fault = None }) ≡ None = ap (λ o. first_of o None ir.stop) early ∙ ap (λ o. first_of None None o) stop in
      let one : told (all_again (the_full false) form ir.places ir.toks no_draft found) ≡ Ok open_one.0 = ap told open_one.1 in
      let two : told (all_again (the_full true) form ir.places ir.toks no_draft found) ≡ Ok close_one.0 = ap told close_one.1 in
      let inner : module_found form ir found ≡ Ok (module_of close_one.0) =
      ap (λ (r : Result Draft TextFault). r and_then λ d. told (all_again (the_full true) form ir.places ir.toks no_draft found) and_then λ e. Ok (module_of e)) one
      ∙ ap (λ (r : Result Draft TextFault). r and_then λ e. Ok (module_of e)) two in
      (module_of close_one.0, ap (module_by form ir) found_first ∙ ap (λ f. unless_faulty f (module_found form ir found)) front ∙ inner, close_one.2)
