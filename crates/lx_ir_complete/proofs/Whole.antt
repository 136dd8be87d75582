-- The statements of a module are read again as the module.
use Rattle.std.proofs.Common.{◌≡◌, ◌⊎◌, inl, inr, ℕ, ◌≤◌, Bool, true, false, not, ◌&&◌, ◌||◌, List, [], ◌∷◌, ◌++◌, length, map, refl, sym, ap, ◌∙◌, subst, arith, Option, None, Result, Ok}
use Rattle.std.specs.Prelude.{if◌then◌else◌, filter, is_some}
use Rattle.std.specs.List.{AllZip, AllByRecursion, list_all}
use Rattle.std.proofs.lemmas.Bool.{and_parts}
use Rattle.std.proofs.lemmas.List.{append-nil}
use Rattle.lx_words.specs.declared.token.Token.{Token}
use Rattle.lx_ir.specs.declared.types.NamedType.{NamedType}
use Rattle.lx_ir.specs.declared.module.GlobalVar.{GlobalVar}
use Rattle.lx_ir.specs.declared.module.Function.{Function}
use Rattle.lx_ir.specs.declared.module.Module.{Module}
use Rattle.lx_ir.specs.Lookup.{is_defined}
use Rattle.lx_ir.specs.Text.{register_names}
use Rattle.lx_ir.specs.Lawful.{is_lawful_function, imports_first, IsLawful}
use Rattle.lx_ir_tokens.specs.declared.token.Tok.{Tok}
use Rattle.lx_ir_terms.specs.Context.{Context}
use Rattle.lx_ir_calls.specs.declared.intrinsics.TextForm.{TextForm}
use Rattle.lx_ir_statements.specs.declared.form.Statement.{Statement}
use Rattle.lx_ir_statements.specs.declared.form.Statement.TheVariants as statements
use Rattle.lx_ir_statements.specs.declared.defined.Defined.{Defined}
use Rattle.lx_ir_statements.specs.Defined.{nothing_defined, with_statement}
use Rattle.lx_ir_statements.specs.Laws.{StatementsAreRead}
use Rattle.lx_ir_tables.specs.Numbering.{Numbering, numbering, table_of}
use Rattle.lx_ir_lawful.specs.Alike.{AlikeStatements}
use Rattle.lx_ir_complete.specs.Statements.{Own, OfType, OfGlobal, OfFunction, StateModule}
use Rattle.lx_ir_read.specs.declared.first.Found.{Found}
use Rattle.lx_ir_read.specs.declared.draft.Draft.{Draft}
use Rattle.lx_ir_read.specs.Again.{registers_in, with_registers, no_draft, all_again, module_of}
use Rattle.lx_ir_complete.specs.KnownTables.{AreOnce, named_things}
use Rattle.lx_ir_complete.specs.KnownLaws.{unknown, RegistersAreNumbered}
use Rattle.lx_ir_complete.specs.First.{AreFound}
use Rattle.lx_ir_complete.specs.Same.{SameFunctions, SameModules}
use Rattle.lx_ir_complete.proofs.Again.{IsAgain, adds, again_all}
use Rattle.lx_ir_complete.proofs.Drafted.{Keeps, Alike, walked, Typed, type_kept, global_kept, own_of, imports_of, bodies_of, Functioned, IsFunction, function_kept, told_registers}

-- The functions, imports first.

none_left : (fs : List Function) → list_all is_defined fs ≡ true → (filter (λ g. not (is_defined g)) fs ≡ []) × (filter is_defined fs ≡ fs)
none_left [] h = (refl, refl)
none_left (f ∷ fs) h =
    let both = and_parts (is_defined f) (list_all is_defined fs) h in
    let rest = none_left fs both.1 in (
      ap (λ v. if not v then f ∷ filter (λ g. not (is_defined g)) fs else filter (λ g. not (is_defined g)) fs) both.0 ∙ rest.0,
      ap (λ v. if v then f ∷ filter is_defined fs else filter is_defined fs) both.0 ∙ ap (λ xs. f ∷ xs) rest.1,
    )

in_order_by : (b : Bool) (f : Function) (fs : List Function) → is_defined f ≡ b → (not b || list_all is_defined fs) ≡ true → filter (λ g. not (is_defined g)) fs ++ filter is_defined fs ≡ fs
    → filter (λ g. not (is_defined g)) (f ∷ fs) ++ filter is_defined (f ∷ fs) ≡ f ∷ fs
in_order_by true f fs e h rest =
    let all = none_left (f ∷ fs) (ap (λ v. v && list_all is_defined fs) e ∙ h) in
    ap (λ xs. xs ++ filter is_defined (f ∷ fs)) all.0 ∙ all.1
in_order_by false f fs e h rest =
    ap (λ v. (if not v then f ∷ filter (λ g. not (is_defined g)) fs else filter (λ g. not (is_defined g)) fs) ++ (if v then f ∷ filter is_defined fs else filter is_defined fs)) e ∙ ap (λ xs. f ∷ xs) rest

in_order : (fs : List Function) → imports_first fs ≡ true → filter (λ g. not (is_defined g)) fs ++ filter is_defined fs ≡ fs
in_order [] h = refl
in_order (f ∷ fs) h =
    let both = and_parts (not (is_defined f) || list_all is_defined fs) (imports_first fs) h in
    in_order_by (is_defined f) f fs refl both.0 (in_order fs both.1)

joined_zip : {A B : Type 0} (R : A → B → Type 0) (xs us : List A) (ys vs : List B) → AllZip R xs ys → AllZip R us vs → AllZip R (xs ++ us) (ys ++ vs)
joined_zip R [] us [] vs h k = k
joined_zip R [] us (y ∷ ys) vs h k = absurd h
joined_zip R (x ∷ xs) us [] vs h k = absurd h
joined_zip R (x ∷ xs) us (y ∷ ys) vs h k = (h.0, joined_zip R xs us ys vs h.1 k)

-- What was found is alike.
found_alike : (form : TextForm) (places : List Token) (full : Context) (defined : Defined) (ss : List Own) (fs : List Found) (ts : List Tok) → AreFound form places full.names defined ss fs ts → AllZip (Alike places full) ss fs
found_alike form places full defined [] [] ts are = tt
found_alike form places full defined [] (f ∷ fs) ts are = absurd are
found_alike form places full defined (s ∷ ss) [] ts are = absurd are
found_alike form places full defined (s ∷ ss) (f ∷ fs) ts (front, back, is, alike, left, more, w) = (alike, found_alike form places full (with_statement s.context defined s.statement) ss fs back more)

module _ (places : List Token) (full : Context) where
  abbrev blank : Numbering
  blank = numbering (length full.names) []

  -- the context of what has no registers
  abbrev pub base : Context
  base = with_registers full (table_of blank)

  types_have_none : (c e : Context) (t : NamedType) (n : ℕ) (g : Statement) → AlikeStatements c e (statements.Type n t.ty) g → registers_in full.names g ≡ blank
  types_have_none c e t n (statements.Type k u) same = refl
  types_have_none c e t n g same = absurd same

  globals_have_none : (c e : Context) (v : GlobalVar) (n : ℕ) (g : Statement) → AlikeStatements c e (statements.Global n v.constant v.ty v.init) g → registers_in full.names g ≡ blank
  globals_have_none c e v n (statements.Global k b u j) same = refl
  globals_have_none c e v n g same = absurd same

  imports_have_none : (c e : Context) (f : Function) (n : ℕ) (g : Statement) → AlikeStatements c e (statements.Import n f.ret (map (λ p. p.ty) f.params)) g → registers_in full.names g ≡ blank
  imports_have_none c e f n (statements.Import k s qs) same = refl
  imports_have_none c e f n g same = absurd same

  type_again : (t : NamedType) (s : Own) (f : Found) → OfType base t s → Alike places full s f → IsAgain places full s f
  type_again t s f (n, at, is) alike =
      let same = subst (λ (o : Own). AlikeStatements o.context (unknown full.names) o.statement f.statement) is alike in
      ap (λ (o : Own). o.context) is ∙ ap (λ r. with_registers full (table_of r)) (sym (types_have_none base (unknown full.names) t n f.statement same))

  global_again : (v : GlobalVar) (s : Own) (f : Found) → OfGlobal base v s → Alike places full s f → IsAgain places full s f
  global_again v s f (n, at, is) alike =
      let same = subst (λ (o : Own). AlikeStatements o.context (unknown full.names) o.statement f.statement) is alike in
      ap (λ (o : Own). o.context) is ∙ ap (λ r. with_registers full (table_of r)) (sym (globals_have_none base (unknown full.names) v n f.statement same))

  module _ (m : Module) (numbered : RegistersAreNumbered) (once : AreOnce full.names) where
    own_blank : (g : Function) → is_defined g ≡ false → own_of places full g ≡ base
    own_blank g e = ap (λ b. with_registers full (table_of (if b then named_things full.names (register_names g) else blank))) e

    own_named : (g : Function) → is_defined g ≡ true → own_of places full g ≡ with_registers full (table_of (named_things full.names (register_names g)))
    own_named g e = ap (λ b. with_registers full (table_of (if b then named_things full.names (register_names g) else blank))) e

    function_again : (g : Function) (s : Own) (f : Found) → (is_lawful_function m g ≡ true) × OfFunction (own_of places full g) g s → Alike places full s f → IsAgain places full s f
    function_again g s f (h, (n, at, inl (none, is))) alike =
        let same = subst (λ (o : Own). AlikeStatements o.context (unknown full.names) o.statement f.statement) is alike in
        ap (λ (o : Own). o.context) is ∙ own_blank g (ap is_some none) ∙ ap (λ r. with_registers full (table_of r)) (sym (imports_have_none (own_of places full g) (unknown full.names) g n f.statement same))
    function_again g s f (h, (n, at, inr (bs, ds, some, blocks, is))) alike =
        let same = subst (λ (o : Own). AlikeStatements o.context (unknown full.names) o.statement f.statement) is alike in
        let told = told_registers places full m numbered once [] [] g f n bs ds h some blocks same in
        ap (λ (o : Own). o.context) is ∙ own_named g (ap is_some some) ∙ ap (λ r. with_registers full (table_of r)) (sym told.0)

    -- One part of the module, before others.
    segment : {X : Type 0} (q : X → Own → Type 0) → ((x : X) (s : Own) (f : Found) → q x s → Alike places full s f → IsAgain places full s f)
        → (xs : List X) (ss rest : List Own) (fs : List Found) → AllZip q xs ss → AllZip (Alike places full) (ss ++ rest) fs
        → ((gs : List Found) → AllZip (Alike places full) rest gs → AllZip (IsAgain places full) rest gs) → AllZip (IsAgain places full) (ss ++ rest) fs
    segment q each [] [] rest fs h a more = more fs a
    segment q each [] (s ∷ ss) rest fs h a more = absurd h
    segment q each (x ∷ xs) [] rest fs h a more = absurd h
    segment q each (x ∷ xs) (s ∷ ss) rest [] h a more = absurd a
    segment q each (x ∷ xs) (s ∷ ss) rest (f ∷ fs) h a more = (each x s f h.0 a.0, segment q each xs ss rest fs h.1 a.1 more)

    no_more : (gs : List Found) → AllZip (Alike places full) [] gs → AllZip (IsAgain places full) [] gs
    no_more [] a = tt
    no_more (g ∷ gs) a = absurd a

    with_law : (gs : List Function) (ss : List Own) → list_all (is_lawful_function m) gs ≡ true → AllZip (λ g s. OfFunction (own_of places full g) g s) gs ss → AllZip (λ g s. (is_lawful_function m g ≡ true) × OfFunction (own_of places full g) g s) gs ss
    with_law [] [] h z = tt
    with_law [] (s ∷ ss) h z = absurd z
    with_law (g ∷ gs) [] h z = absurd z
    with_law (g ∷ gs) (s ∷ ss) h z =
        let both = and_parts (is_lawful_function m g) (list_all (is_lawful_function m) gs) h in
        ((both.0, z.0), with_law gs ss both.1 z.1)

    module _ (lawful : IsLawful m) (form : TextForm) (toks : List Tok) (state : StateModule base (own_of places full) form places m toks) (fs : List Found)
        (are : AreFound form places full.names nothing_defined (state.types ++ (state.globals ++ state.functions)) fs toks) where
      abbrev zs : List Own
      zs = state.functions

      functions_lawful : AllZip (λ g s. (is_lawful_function m g ≡ true) × OfFunction (own_of places full g) g s) m.functions zs
      functions_lawful = with_law m.functions zs lawful.functions state.of_functions

      all_alike : AllZip (Alike places full) (state.types ++ (state.globals ++ zs)) fs
      all_alike = found_alike form places full nothing_defined (state.types ++ (state.globals ++ zs)) fs toks are

      all_read : AllZip (IsAgain places full) (state.types ++ (state.globals ++ zs)) fs
      all_read =
          segment (OfType base) type_again m.types state.types (state.globals ++ zs) fs state.of_types all_alike
          (λ gs a. segment (OfGlobal base) global_again m.globals state.globals zs gs state.of_globals a
          (λ hs b. subst (λ ss. AllZip (IsAgain places full) ss hs) (append-nil zs)
          (segment (λ g s. (is_lawful_function m g ≡ true) × OfFunction (own_of places full g) g s) function_again m.functions zs [] hs functions_lawful (subst (λ ss. AllZip (Alike places full) ss hs) (sym (append-nil zs)) b) no_more)))

      -- The module that is read again.
      pub whole : StatementsAreRead → (d : Draft) × (all_again full form places toks no_draft fs ≡ Ok d) × SameModules (module_of d) m
      whole read =
          let first = walked places full (OfType base) (Typed places full) (type_kept places full base refl) m.types state.types (state.globals ++ zs) fs state.of_types all_alike [] no_draft (record { types_are = refl; globals_are = tt; imports_are = tt; functions_are = tt }) in
          let second = walked places full (OfGlobal base) (λ gs d. Keeps d m.types gs [] []) (global_kept places full base refl m.types) m.globals state.globals zs first.1 state.of_globals first.3 [] first.0 first.4 in
          let third =
          walked places full (IsFunction places full m numbered once m.types m.globals) (Functioned places full m numbered once m.types m.globals) (function_kept places full m numbered once m.types m.globals) m.functions zs [] second.1 functions_lawful
          (subst (λ ss. AllZip (Alike places full) ss second.1) (sym (append-nil zs)) second.3) [] second.0 second.4 in
          let all : adds places full no_draft (state.types ++ (state.globals ++ zs)) fs ≡ third.0 =
          first.2 ∙ second.2 ∙ ap (λ ss. adds places full second.0 ss second.1) (sym (append-nil zs)) ∙ third.2 in
          let kept = third.4 in
          let reads = again_all read form places full toks (state.types ++ (state.globals ++ zs)) fs no_draft [] toks all_read are refl in (
            third.0,
            reads ∙ ap (λ d. Ok d) all,
            record {
              types = kept.types_are;
              globals = kept.globals_are;
              functions =
                  subst (λ gs. AllZip SameFunctions (third.0.imports ++ third.0.functions) gs) (in_order m.functions lawful.imports_first)
                  (joined_zip SameFunctions third.0.imports third.0.functions (imports_of places full m.functions) (bodies_of places full m.functions) kept.imports_are kept.functions_are);
            },
          )
