-- The module that the statements of a module add up to.
use Rattle.std.proofs.Common.{◌≡◌, ◌⊎◌, inl, inr, ℕ, zero, suc, ◌<◌, Bool, true, false, not, ◌&&◌, ◌||◌, List, [], ◌∷◌, ◌++◌, length, map, refl, sym, ap, ◌∙◌, subst, arith, true≢false, Option, Some, None, slice_get, nat_eq, nat_lt, append_assoc}
use Rattle.std.specs.Prelude.{if◌then◌else◌, is_some, filter, unwrap_or}
use Rattle.std.specs.List.{AllZip, AllByRecursion, list_all}
use Rattle.std.proofs.lemmas.Bool.{and_parts, eqb-true, ltb-true}
use Rattle.std.proofs.lemmas.List.{append-nil}
use Rattle.std.proofs.lemmas.List.Elements.{filter-append}
use Rattle.lx_words.specs.declared.token.Token.{Token}
use Rattle.lx_ir.specs.declared.types.Scalar.{Scalar}
use Rattle.lx_ir.specs.declared.types.NamedType.{NamedType}
use Rattle.lx_ir.specs.declared.module.GlobalVar.{GlobalVar}
use Rattle.lx_ir.specs.declared.module.Parameter.{Parameter}
use Rattle.lx_ir.specs.declared.module.Block.{Block}
use Rattle.lx_ir.specs.declared.module.Function.{Function}
use Rattle.lx_ir.specs.declared.module.Module.{Module}
use Rattle.lx_ir.specs.Lookup.{is_defined, blocks_of}
use Rattle.lx_ir.specs.Operands.{register_count}
use Rattle.lx_ir.specs.Text.{register_names}
use Rattle.lx_ir.specs.Lawful.{is_name, is_distinct, parameter_names, is_lawful_block, numbers_registers, is_lawful_body, is_lawful_import, is_lawful_function, imports_first}
use Rattle.lx_ir_terms.specs.Context.{Context, bytes_of, nothing}
use Rattle.lx_ir_calls.specs.Writes.{block_write_named}
use Rattle.lx_ir_statements.specs.declared.form.Statement.{Statement}
use Rattle.lx_ir_statements.specs.declared.form.Statement.TheVariants as statements
use Rattle.lx_ir_statements.specs.Defined.{is_block_write}
use Rattle.lx_ir_tables.specs.Numbering.{Numbering, numbering, table_of}
use Rattle.lx_ir_tables.specs.Registers.{registers_of}
use Rattle.lx_ir_lawful.specs.Alike.{AlikeStatements, AlikeBlocks}
use Rattle.lx_ir_complete.proofs.PrintedCalls.{not_block}
use Rattle.lx_ir_complete.proofs.PrintedInits.{said_bytes}
use Rattle.lx_ir_complete.specs.Said.{SameBlocks}
use Rattle.lx_ir_complete.specs.Statements.{Own, OfType, OfGlobal, OfFunction}
use Rattle.lx_ir_read.specs.declared.first.Found.{Found}
use Rattle.lx_ir_read.specs.declared.draft.Draft.{Draft}
use Rattle.lx_ir_read.specs.Again.{registers_in, with_registers, local_names, nameless, import_of, with_named, with_variable, with_declared, with_body, with_defined}
use Rattle.lx_ir_read.specs.Fault.{line_shown}
use Rattle.lx_ir_complete.specs.KnownTables.{AreOnce, named_things}
use Rattle.lx_ir_complete.specs.KnownLaws.{unknown, RegistersAreNumbered}
use Rattle.lx_ir_complete.specs.Same.{SameGlobals, SameBodies, SameFunctions}
use Rattle.lx_ir_complete.proofs.KeptNames.{locals_told}
use Rattle.lx_ir_complete.proofs.Sayings.{function_parts}
use Rattle.lx_ir_complete.proofs.Again.{registers_at, IsAgain, next, adds}

-- Lists beside lists.

pushed : {A B : Type 0} (R : A → B → Type 0) (xs : List A) (ys : List B) (x : A) (y : B) → AllZip R xs ys → R x y → AllZip R (xs ++ x ∷ []) (ys ++ y ∷ [])
pushed R [] [] x y h r = (r, tt)
pushed R [] (b ∷ ys) x y h r = absurd h
pushed R (a ∷ xs) [] x y h r = absurd h
pushed R (a ∷ xs) (b ∷ ys) x y h r = (h.0, pushed R xs ys x y h.1 r)

-- What is kept so far: these types, globals, imports and functions.
pub record Keeps (d : Draft) (types : List NamedType) (globals : List GlobalVar) (imports functions : List Function) : Type 0 where
  pub types_are : d.types ≡ types
  pub globals_are : AllZip SameGlobals d.globals globals
  pub imports_are : AllZip SameFunctions d.imports imports
  pub functions_are : AllZip SameFunctions d.functions functions

module _ (places : List Token) (full : Context) where
  abbrev pub Alike : Own → Found → Type 0
  Alike s f = AlikeStatements s.context (unknown full.names) s.statement f.statement

  -- One part of the module.

  module _ {X : Type 0} (q : X → Own → Type 0) (k : List X → Draft → Type 0)
      (step : (done : List X) (x : X) (s : Own) (f : Found) (d : Draft) → q x s → Alike s f → k done d → k (done ++ x ∷ []) (next places full d s f)) where
    pub walked : (xs : List X) (ss rest : List Own) (fs : List Found) → AllZip q xs ss → AllZip Alike (ss ++ rest) fs → (done : List X) (d : Draft) → k done d
        → (e : Draft) × (gs : List Found) × (adds places full d (ss ++ rest) fs ≡ adds places full e rest gs) × AllZip Alike rest gs × k (done ++ xs) e
    walked [] [] rest fs h a done d kept = (d, fs, refl, a, subst (λ v. k v d) (sym (append-nil done)) kept)
    walked [] (s ∷ ss) rest fs h a done d kept = absurd h
    walked (x ∷ xs) [] rest fs h a done d kept = absurd h
    walked (x ∷ xs) (s ∷ ss) rest [] h a done d kept = absurd a
    walked (x ∷ xs) (s ∷ ss) rest (f ∷ fs) h a done d kept =
        let w = walked xs ss rest fs h.1 a.1 (done ++ x ∷ []) (next places full d s f) (step done x s f d h.0 a.0 kept) in
        (w.0, w.1, w.2, w.3, subst (λ v. k v w.0) (append_assoc done (x ∷ []) xs) w.4)

  -- Types and globals.

  abbrev pub Typed : List NamedType → Draft → Type 0
  Typed ts d = Keeps d ts [] [] []

  pub type_kept : (c : Context) → c.names ≡ full.names → (done : List NamedType) (t : NamedType) (s : Own) (f : Found) (d : Draft) → OfType c t s → Alike s f → Typed done d → Typed (done ++ t ∷ []) (next places full d s f)
  type_kept c e done t s f d (n, at, is) alike kept =
      let name : bytes_of full n ≡ t.name = said_bytes full n t.name (ap (λ ns. slice_get ns n) (sym e) ∙ at) in
      subst (λ (o : Own). Typed (done ++ t ∷ []) (next places full d o f)) (sym is)
      (record {
        types_are = ap (λ x. d.types ++ record { name = x; ty = t.ty } ∷ []) name ∙ ap (λ ts. ts ++ t ∷ []) kept.types_are;
        globals_are = kept.globals_are;
        imports_are = kept.imports_are;
        functions_are = kept.functions_are;
      })

  pub global_kept : (c : Context) → c.names ≡ full.names → (types : List NamedType) (done : List GlobalVar) (g : GlobalVar) (s : Own) (f : Found) (d : Draft) → OfGlobal c g s → Alike s f → Keeps d types done [] [] → Keeps (next places full d s f) types (done ++ g ∷ []) [] []
  global_kept c e types done g s f d (n, at, is) alike kept =
      let name : bytes_of full n ≡ g.name = said_bytes full n g.name (ap (λ ns. slice_get ns n) (sym e) ∙ at) in
      let it : GlobalVar = record { name = bytes_of full n; constant = g.constant; ty = g.ty; init = g.init; line = line_shown places f.left } in
      subst (λ (o : Own). Keeps (next places full d o f) types (done ++ g ∷ []) [] []) (sym is)
      (record {
        types_are = kept.types_are;
        globals_are = pushed SameGlobals d.globals done it g kept.globals_are (record { name = name; constant = refl; ty = refl; init = refl });
        imports_are = kept.imports_are;
        functions_are = kept.functions_are;
      })

  -- Functions.

  -- the context by which a function is read again
  abbrev pub own_of : Function → Context
  own_of g = with_registers full (table_of (if is_defined g then named_things full.names (register_names g) else numbering (length full.names) []))

  abbrev pub imports_of : List Function → List Function
  imports_of gs = filter (λ g. not (is_defined g)) gs

  abbrev pub bodies_of : List Function → List Function
  bodies_of gs = filter is_defined gs

  no_length : {A : Type 0} (xs : List A) → nat_eq (length xs) 0 ≡ true → xs ≡ []
  no_length [] e = refl
  no_length (x ∷ xs) e = let none : length (x ∷ xs) ≡ 0 = eqb-true (length (x ∷ xs)) 0 e in absurd (omega (arith, none))

  nameless_is : (ps : List Parameter) → list_all (λ p. nat_eq (length p.name) 0) ps ≡ true → map nameless (map (λ p. p.ty) ps) ≡ ps
  nameless_is [] h = refl
  nameless_is (p ∷ ps) h =
      let both = and_parts (nat_eq (length p.name) 0) (list_all (λ x. nat_eq (length x.name) 0) ps) h in
      let name : [] ≡ p.name = sym (no_length p.name both.0) in
      ap (λ n. record { name = n; ty = p.ty } ∷ map nameless (map (λ x. x.ty) ps)) name ∙ ap (λ xs. p ∷ xs) (nameless_is ps both.1)

  body_same : (bs : Option (List Block)) → bs ≡ None → SameBodies None bs
  body_same None e = tt
  body_same (Some bs) e = absurd (true≢false (ap is_some e))

  blocks_same : (ds bs : List Block) (o : Option (List Block)) → o ≡ Some bs → SameBlocks ds bs → SameBodies (Some ds) o
  blocks_same ds bs o e same = subst (λ x. SameBodies (Some ds) x) (sym e) same

  one_import : (b : Bool) (g : Function) → is_defined g ≡ b → b ≡ false → imports_of (g ∷ []) ≡ g ∷ []
  one_import b g e f = ap (λ v. if not v then g ∷ [] else []) (e ∙ f)

  no_import : (g : Function) → is_defined g ≡ true → imports_of (g ∷ []) ≡ []
  no_import g e = ap (λ v. if not v then g ∷ [] else []) e

  one_body : (g : Function) → is_defined g ≡ true → bodies_of (g ∷ []) ≡ g ∷ []
  one_body g e = ap (λ v. if v then g ∷ [] else []) e

  no_body : (g : Function) → is_defined g ≡ false → bodies_of (g ∷ []) ≡ []
  no_body g e = ap (λ v. if v then g ∷ [] else []) e

  -- the parts with one function more
  import_added : (done : List Function) (g : Function) → is_defined g ≡ false → (imports_of (done ++ g ∷ []) ≡ imports_of done ++ g ∷ []) × (bodies_of (done ++ g ∷ []) ≡ bodies_of done)
  import_added done g e =
      (filter-append (λ x. not (is_defined x)) done (g ∷ []) ∙ ap (λ xs. imports_of done ++ xs) (one_import (is_defined g) g refl e), filter-append is_defined done (g ∷ []) ∙ ap (λ xs. bodies_of done ++ xs) (no_body g e) ∙ append-nil (bodies_of done))

  body_added : (done : List Function) (g : Function) → is_defined g ≡ true → (imports_of (done ++ g ∷ []) ≡ imports_of done) × (bodies_of (done ++ g ∷ []) ≡ bodies_of done ++ g ∷ [])
  body_added done g e =
      (filter-append (λ x. not (is_defined x)) done (g ∷ []) ∙ ap (λ xs. imports_of done ++ xs) (no_import g e) ∙ append-nil (imports_of done), filter-append is_defined done (g ∷ []) ∙ ap (λ xs. bodies_of done ++ xs) (one_body g e))

  -- the registers of a function that was found
  found_registers : (c e : Context) (n : ℕ) (ret : Option Scalar) (ps : List Parameter) (ds : List Block) (t : Statement) → AlikeStatements c e (statements.Function n ret ps ds) t
      → (es : List Block) × AllZip (AlikeBlocks c e) ds es × (registers_in full.names t ≡ registers_of full.names (numbering (length full.names) []) ps es)
  found_registers c e n ret ps ds (statements.Function k s qs es) same = (es, same.3, ap (λ xs. registers_of full.names (numbering (length full.names) []) xs es) (sym same.2))
  found_registers c e n ret ps ds t same = absurd same

  module _ (m : Module) (numbered : RegistersAreNumbered) (once : AreOnce full.names) (types : List NamedType) (globals : List GlobalVar) where
    abbrev pub Functioned : List Function → Draft → Type 0
    Functioned done d = Keeps d types globals (imports_of done) (bodies_of done)

    import_kept : (done : List Function) (g : Function) (f : Found) (d : Draft) (n : ℕ) → is_lawful_function m g ≡ true → g.blocks ≡ None → slice_get full.names n ≡ Some g.name → Functioned done d
        → Functioned (done ++ g ∷ []) (next places full d (record { context = own_of g; statement = statements.Import n g.ret (map (λ p. p.ty) g.params) }) f)
    import_kept done g f d n h none at kept =
        let undefined : is_defined g ≡ false = ap is_some none in
        let lawful = function_parts m g h in
        let import : is_lawful_import g ≡ true = ap (λ b. if b then is_lawful_body m g else is_lawful_import g) (sym undefined) ∙ lawful.2 in
        let two = and_parts (list_all (λ p. nat_eq (length p.name) 0) g.params) (nat_eq (length g.locals) 0) import in
        let name : bytes_of full n ≡ g.name = said_bytes full n g.name at in
        let unwritten : is_block_write full n ≡ false = ap (λ b. is_some (block_write_named b)) name ∙ ap is_some (not_block g.name lawful.1) in
        let e : Draft = with_defined full d (statements.Import n g.ret (map (λ p. p.ty) g.params)) in
        let it : Function = import_of (bytes_of full n) g.ret (map (λ p. p.ty) g.params) (line_shown places f.left) in
        let parts = import_added done g undefined in
        subst (λ (b : Bool). Functioned (done ++ g ∷ []) (if b then e else with_declared e it)) (sym unwritten)
        (record {
          types_are = kept.types_are;
          globals_are = kept.globals_are;
          imports_are =
              subst (λ xs. AllZip SameFunctions (d.imports ++ it ∷ []) xs) (sym parts.0)
              (pushed SameFunctions d.imports (imports_of done) it g kept.imports_are
              (record { name = name; params = nameless_is g.params two.0; locals = sym (no_length g.locals two.1); ret = refl; blocks = body_same g.blocks none }));
          functions_are = subst (λ xs. AllZip SameFunctions d.functions xs) (sym parts.1) kept.functions_are;
        })

    -- what is found of a function numbers its registers as it does
    pub told_registers : (g : Function) (f : Found) (n : ℕ) (bs ds : List Block) → is_lawful_function m g ≡ true → g.blocks ≡ Some bs → SameBlocks ds bs
        → AlikeStatements (own_of g) (unknown full.names) (statements.Function n g.ret g.params ds) f.statement
        → (registers_at places full f ≡ named_things full.names (register_names g)) × (local_names full.names (length g.params) (registers_at places full f) ≡ g.locals)
    told_registers g f n bs ds h some same alike =
        let defined : is_defined g ≡ true = ap is_some some in
        let lawful = function_parts m g h in
        let body : is_lawful_body m g ≡ true = ap (λ b. if b then is_lawful_body m g else is_lawful_import g) (sym defined) ∙ lawful.2 in
        let h7 = and_parts _ (numbers_registers g) body in
        let h6 = and_parts _ (list_all (is_lawful_block m g) (blocks_of g)) h7.0 in
        let h5 = and_parts _ (is_distinct (map (λ b. b.name) (blocks_of g))) h6.0 in
        let h4 = and_parts _ (nat_lt 0 (length (blocks_of g))) h5.0 in
        let h3 = and_parts _ (nat_lt (register_count g) 4294967295) h4.0 in
        let h2 = and_parts (list_all is_name (parameter_names g ++ g.locals)) (is_distinct (parameter_names g ++ g.locals)) h3.0 in
        let few : register_count g < nothing = ltb-true (register_count g) 4294967295 h3.1 in
        let es = found_registers (own_of g) (unknown full.names) n g.ret g.params ds f.statement alike in
        let has : (own_of g).registers ≡ table_of (named_things full.names (register_names g)) = ap (λ b. table_of (if b then named_things full.names (register_names g) else numbering (length full.names) [])) defined in
        let count = numbered g bs ds es.0 (own_of g) some h7.1 h2.1 few once has same es.1 in
        (es.2 ∙ count, ap (local_names full.names (length g.params)) es.2 ∙ locals_told full.names g.params g.locals es.0 count)

    body_kept : (done : List Function) (g : Function) (f : Found) (d : Draft) (n : ℕ) (bs ds : List Block) → is_lawful_function m g ≡ true → g.blocks ≡ Some bs → SameBlocks ds bs → slice_get full.names n ≡ Some g.name
        → AlikeStatements (own_of g) (unknown full.names) (statements.Function n g.ret g.params ds) f.statement → Functioned done d
        → Functioned (done ++ g ∷ []) (next places full d (record { context = own_of g; statement = statements.Function n g.ret g.params ds }) f)
    body_kept done g f d n bs ds h some same at alike kept =
        let defined : is_defined g ≡ true = ap is_some some in
        let name : bytes_of full n ≡ g.name = said_bytes full n g.name at in
        let told = told_registers g f n bs ds h some same alike in
        let it : Function =
        record { name = bytes_of full n; params = g.params; locals = local_names full.names (length g.params) (registers_at places full f); ret = g.ret; blocks = Some ds; line = line_shown places f.left } in
        let parts = body_added done g defined in
        record {
          types_are = kept.types_are;
          globals_are = kept.globals_are;
          imports_are = subst (λ xs. AllZip SameFunctions d.imports xs) (sym parts.0) kept.imports_are;
          functions_are =
              subst (λ xs. AllZip SameFunctions (d.functions ++ it ∷ []) xs) (sym parts.1)
              (pushed SameFunctions d.functions (bodies_of done) it g kept.functions_are (record { name = name; params = refl; locals = told.1; ret = refl; blocks = blocks_same ds bs g.blocks some same }));
        }

    abbrev pub IsFunction : Function → Own → Type 0
    IsFunction g s = (is_lawful_function m g ≡ true) × OfFunction (own_of g) g s

    pub function_kept : (done : List Function) (g : Function) (s : Own) (f : Found) (d : Draft) → IsFunction g s → Alike s f → Functioned done d → Functioned (done ++ g ∷ []) (next places full d s f)
    function_kept done g s f d (h, (n, at, inl (none, is))) alike kept =
        subst (λ (o : Own). Functioned (done ++ g ∷ []) (next places full d o f)) (sym is) (import_kept done g f d n h none at kept)
    function_kept done g s f d (h, (n, at, inr (bs, ds, some, same, is))) alike kept =
        subst (λ (o : Own). Functioned (done ++ g ∷ []) (next places full d o f)) (sym is)
        (body_kept done g f d n bs ds h some same at (subst (λ (o : Own). AlikeStatements o.context (unknown full.names) o.statement f.statement) is alike) kept)
