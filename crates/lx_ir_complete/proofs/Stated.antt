-- The lines of a module are its statements, each of a name that none before it has.
use Rattle.std.proofs.Common.{◌≡◌, inl, inr, ℕ, List, [], ◌∷◌, ◌++◌, map, Bool, true, false, refl, sym, ap, ◌∙◌, subst, Option, Some, None, is_some, slice_get, append_assoc, bytes_eq}
use Rattle.std.specs.Prelude.{if◌then◌else◌}
use Rattle.std.specs.List.{AllZip, AllByRecursion, list_all, list_any}
use Rattle.std.proofs.lemmas.Bool.{and_parts}
use Rattle.std.proofs.lemmas.List.{append-nil}
use Rattle.lx_words.specs.declared.token.Token.{Token}
use Rattle.lx_ir.specs.declared.types.NamedType.{NamedType}
use Rattle.lx_ir.specs.declared.module.GlobalVar.{GlobalVar}
use Rattle.lx_ir.specs.declared.module.Block.{Block}
use Rattle.lx_ir.specs.declared.module.Function.{Function}
use Rattle.lx_ir.specs.declared.module.Module.{Module}
use Rattle.lx_ir.specs.Lawful.{is_distinct, is_block_write, is_lawful_function}
use Rattle.lx_ir_tokens.specs.declared.token.Tok.{Tok}
use Rattle.lx_ir_terms.specs.Context.{Context}
use Rattle.lx_ir_calls.specs.declared.intrinsics.TextForm.{TextForm}
use Rattle.lx_ir_calls.specs.Writes.{block_write_named}
use Rattle.lx_ir_statements.specs.declared.form.Statement.TheVariants as statements
use Rattle.lx_ir_statements.specs.declared.defined.Defined.{Defined}
use Rattle.lx_ir_statements.specs.Defined.{nothing_defined, with_type, with_symbol, with_statement, is_block_write as is_written}
use Rattle.lx_ir_statements.specs.Grammar.{IsStatement}
use Rattle.lx_ir_complete.proofs.PrintedCalls.{not_block}
use Rattle.lx_ir_complete.proofs.PrintedInits.{said_bytes}
use Rattle.lx_ir_complete.proofs.Sayings.{function_parts}
use Rattle.lx_ir_complete.specs.Said.{SaysType, SaysGlobal, SaysFunction, SaysModule, InRow}
use Rattle.lx_ir_complete.specs.Statements.{Own, AreStatements, OfType, OfGlobal, OfFunction, StateModule}
use Rattle.lx_ir_complete.specs.StatementLaws.{IsOwn, IsGiven}
use Rattle.lx_ir_complete.proofs.Standing.{Stand, absent, stand_new, new_name}

module _ (form : TextForm) (places : List Token) (context : Context) where
  -- statements that lead from these names defined to those, whatever stands behind
  abbrev Leads : Defined → Defined → List Own → List Tok → Type 0
  Leads first last ss ts = (more : List Own) (us : List Tok) → AreStatements form places last more us → AreStatements form places first (ss ++ more) (ts ++ us)

  no_statement : (defined : Defined) (ts : List Tok) → ts ≡ [] → Leads defined defined [] ts
  no_statement defined ts e more us are = subst (λ vs. AreStatements form places defined more (vs ++ us)) (sym e) are

  types_lead : (ts : List NamedType) (before : List (List ℕ)) (defined : Defined) → Stand context.names defined.types before → is_distinct (before ++ map (λ t. t.name) ts) ≡ true → (toks : List Tok) → InRow (SaysType context) ts toks
      → (ss : List Own) × (last : Defined) × AllZip (OfType context) ts ss × (last.symbols ≡ defined.symbols) × Leads defined last ss toks
  types_lead [] before defined st d toks row = ([], defined, tt, refl, no_statement defined toks row)
  types_lead (t ∷ ts) before defined st d toks row =
      let n : ℕ = row.2.0 in
      let fresh = new_name before t.name (map (λ x. x.name) ts) d in
      let absent_here = absent context.names defined.types before n t.name st row.2.1 fresh in
      let assoc : (before ++ t.name ∷ []) ++ map (λ x. x.name) ts ≡ before ++ t.name ∷ map (λ x. x.name) ts = append_assoc before (t.name ∷ []) (map (λ x. x.name) ts) in
      let rest = types_lead ts (before ++ t.name ∷ []) (with_type defined n) (stand_new context.names defined.types before n t.name st row.2.1 fresh) (ap is_distinct assoc ∙ d) row.1 row.3 in (
        record { context = context; statement = statements.Type n t.ty } ∷ rest.0,
        rest.1,
        ((n, row.2.1, refl), rest.2),
        rest.3,
        λ more us are. (row.0, row.1 ++ us, (absent_here, row.2.2), rest.4 more us are, ap (λ vs. vs ++ us) row.4 ∙ append_assoc row.0 row.1 us),
      )

  globals_lead : (gs : List GlobalVar) (before after : List (List ℕ)) (defined : Defined) → Stand context.names defined.symbols before → is_distinct (before ++ (map (λ g. g.name) gs ++ after)) ≡ true → (toks : List Tok) → InRow (SaysGlobal context) gs toks
      → (ss : List Own) × (last : Defined) × AllZip (OfGlobal context) gs ss × Stand context.names last.symbols (before ++ map (λ g. g.name) gs) × Leads defined last ss toks
  globals_lead [] before after defined st d toks row = ([], defined, tt, subst (Stand context.names defined.symbols) (sym (append-nil before)) st, no_statement defined toks row)
  globals_lead (g ∷ gs) before after defined st d toks row =
      let n : ℕ = row.2.0 in
      let fresh = new_name before g.name (map (λ x. x.name) gs ++ after) d in
      let absent_here = absent context.names defined.symbols before n g.name st row.2.1 fresh in
      let assoc : (before ++ g.name ∷ []) ++ (map (λ x. x.name) gs ++ after) ≡ before ++ g.name ∷ (map (λ x. x.name) gs ++ after) = append_assoc before (g.name ∷ []) (map (λ x. x.name) gs ++ after) in
      let names : (before ++ g.name ∷ []) ++ map (λ x. x.name) gs ≡ before ++ g.name ∷ map (λ x. x.name) gs = append_assoc before (g.name ∷ []) (map (λ x. x.name) gs) in
      let rest = globals_lead gs (before ++ g.name ∷ []) after (with_symbol defined n) (stand_new context.names defined.symbols before n g.name st row.2.1 fresh) (ap is_distinct assoc ∙ d) row.1 row.3 in (
        record { context = context; statement = statements.Global n g.constant g.ty g.init } ∷ rest.0,
        rest.1,
        ((n, row.2.1, refl), rest.2),
        subst (Stand context.names rest.1.symbols) names rest.3,
        λ more us are. (row.0, row.1 ++ us, (absent_here, row.2.2), rest.4 more us are, ap (λ vs. vs ++ us) row.4 ∙ append_assoc row.0 row.1 us),
      )

  module _ (m : Module) (own : Function → Context) where
    unwritten : (f : Function) (n : ℕ) → slice_get (own f).names n ≡ Some f.name → is_block_write f.name ≡ false → is_written (own f) n ≡ false
    unwritten f n at plain = ap (λ b. is_some (block_write_named b)) (said_bytes (own f) n f.name at) ∙ ap is_some (not_block f.name plain)

    -- what a function's lines say, before these tokens
    one_function : (f : Function) (blocks : Option (List Block)) → f.blocks ≡ blocks → is_block_write f.name ≡ false → IsOwn m context own f
        → (before : List (List ℕ)) (defined : Defined) → Stand context.names defined.symbols before → list_any (bytes_eq f.name) before ≡ false
        → (front back : List Tok) → SaysFunction (own f) form f blocks front
        → (s : Own) × OfFunction (own f) f s × IsStatement s.context form places defined s.statement front back × Stand context.names (with_statement s.context defined s.statement).symbols (before ++ f.name ∷ [])
    one_function f None e plain is before defined st fresh front back says =
        let n : ℕ = says.0 in
        let at : slice_get context.names n ≡ Some f.name = ap (λ names. slice_get names n) (sym is.names) ∙ says.1 in
        let none : is_written (own f) n ≡ false = unwritten f n says.1 plain in (
          record { context = own f; statement = statements.Import n f.ret (map (λ p. p.ty) f.params) },
          (n, says.1, inl (e, refl)),
          (inl (absent context.names defined.symbols before n f.name st at fresh), says.2),
          subst (λ v. Stand context.names (if v then defined else with_symbol defined n).symbols (before ++ f.name ∷ [])) (sym none) (stand_new context.names defined.symbols before n f.name st at fresh),
        )
    one_function f (Some bs) e plain is before defined st fresh front back says =
        let said = says back places in
        let n : ℕ = said.0 in
        let at : slice_get context.names n ≡ Some f.name = ap (λ names. slice_get names n) (sym is.names) ∙ said.1 in (
          record { context = own f; statement = statements.Function n f.ret f.params said.2 },
          (n, said.1, inr (bs, said.2, e, said.3, refl)),
          (absent context.names defined.symbols before n f.name st at fresh, unwritten f n said.1 plain, said.4),
          stand_new context.names defined.symbols before n f.name st at fresh,
        )

    functions_are : (fs : List Function) (before : List (List ℕ)) (defined : Defined) → list_all (is_lawful_function m) fs ≡ true → AllByRecursion (IsOwn m context own) fs → Stand context.names defined.symbols before → is_distinct (before ++ map (λ f. f.name) fs) ≡ true
        → (toks : List Tok) → InRow (λ f. SaysFunction (own f) form f f.blocks) fs toks → (ss : List Own) × AllZip (λ f s. OfFunction (own f) f s) fs ss × AreStatements form places defined ss toks
    functions_are [] before defined h is st d toks row = ([], tt, row)
    functions_are (f ∷ fs) before defined h is st d toks row =
        let lawful = and_parts (is_lawful_function m f) (list_all (is_lawful_function m) fs) h in
        let fresh = new_name before f.name (map (λ x. x.name) fs) d in
        let one = one_function f f.blocks refl (function_parts m f lawful.0).1 is.0 before defined st fresh row.0 row.1 row.2 in
        let assoc : (before ++ f.name ∷ []) ++ map (λ x. x.name) fs ≡ before ++ f.name ∷ map (λ x. x.name) fs = append_assoc before (f.name ∷ []) (map (λ x. x.name) fs) in
        let rest = functions_are fs (before ++ f.name ∷ []) (with_statement one.0.context defined one.0.statement) lawful.1 is.1 one.3 (ap is_distinct assoc ∙ d) row.1 row.3 in
        (one.0 ∷ rest.0, (one.1, rest.1), (row.0, row.1, one.2, rest.2, row.4))

-- What the lines of a module say are its statements.
pub module_states : (plain : Bool) (form : TextForm) (m : Module) (context : Context) (own : Function → Context) → IsGiven plain form m context own → (places : List Token) (toks : List Tok) → SaysModule context own form m toks → StateModule context own form places m toks
module_states plain form m context own given places toks says =
    let rest = says.3 in
    let types = types_lead form places context m.types [] nothing_defined tt given.lawful.types_once says.0 says.2 in
    let globals = globals_lead form places context m.globals [] (map (λ f. f.name) m.functions) types.1 (subst (λ ns. Stand context.names ns []) (sym types.3) tt) given.lawful.symbols_once rest.0 rest.2 in
    let functions = functions_are form places context m own m.functions (map (λ g. g.name) m.globals) globals.1 given.lawful.functions given.own globals.3 given.lawful.symbols_once rest.1 rest.3 in
    record {
      types = types.0;
      globals = globals.0;
      functions = functions.0;
      of_types = types.2;
      of_globals = globals.2;
      of_functions = functions.1;
      are = subst (AreStatements form places nothing_defined (types.0 ++ (globals.0 ++ functions.0))) (sym (says.4 ∙ ap (λ vs. says.0 ++ vs) rest.4)) (types.4 (globals.0 ++ functions.0) (rest.0 ++ rest.1) (globals.4 functions.0 rest.1 functions.2));
    }
