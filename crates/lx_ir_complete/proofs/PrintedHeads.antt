-- The text of statements in one line says them.
use Rattle.std.proofs.Common.{◌≡◌, inl, ℕ, ◌<◌, List, [], ◌∷◌, ◌++◌, map, length, Bool, true, false, refl, sym, ap, ◌∙◌, subst, Option, Some, slice_get, append_assoc}
use Rattle.std.specs.Prelude.{codes, flat_map, option_map, nat_le}
use Rattle.std.specs.List.{AllByRecursion, list_all}
use Rattle.std.proofs.lemmas.Bool.{and_parts, leb-true}
use Rattle.std.proofs.lemmas.List.{append-nil}
use Rattle.lx_ir.specs.declared.types.Scalar.{Scalar}
use Rattle.lx_ir.specs.declared.types.NamedType.{NamedType}
use Rattle.lx_ir.specs.declared.module.GlobalVar.{GlobalVar}
use Rattle.lx_ir.specs.declared.module.Parameter.{Parameter}
use Rattle.lx_ir.specs.declared.module.Function.{Function}
use Rattle.lx_ir.specs.declared.module.Module.{Module}
use Rattle.lx_ir.specs.IrType.{Named}
use Rattle.lx_ir.specs.Layout.{is_struct, is_lawful_type}
use Rattle.lx_ir.specs.Text.{Text, type_name, type_text, init_text, scalar_text, result_text, local_text, global_text, comma_list, parameter_text, head_text, declared_text, storage_word, global_var_text, named_type_text}
use Rattle.lx_ir.specs.Lawful.{is_name, is_distinct, is_lawful_init, nesting_of_init, is_own_name}
use Rattle.lx_ir_tokens.specs.declared.token.Mark.TheVariants.{Comma, Equal, OpenBrace, OpenParenthesis, CloseParenthesis}
use Rattle.lx_ir_terms.specs.Context.{Context}
use Rattle.lx_ir_terms.specs.Types.{scalar_in, result_in, flat_of, depth_limit}
use Rattle.lx_ir_terms.specs.Grammar.{Part, Picks, IsMark, ◌then◌}
use Rattle.lx_ir_operands.specs.Grammar.{Repeated, IsPassed, IsAttribute, IsScalar}
use Rattle.lx_ir_complete.specs.Pieces.{is_apart}
use Rattle.lx_ir_complete.specs.Printed.{Prints}
use Rattle.lx_ir_complete.specs.Lines.{PrintsLines}
use Rattle.lx_ir_complete.specs.Kept.{is_kept_type, is_kept_init}
use Rattle.lx_ir_complete.proofs.Joining.{beside, same_text, regroup, reads_as, nothing, space, marked, last_mark, word, word_picks, picks}
use Rattle.lx_ir_complete.proofs.Names.{local, global}
use Rattle.lx_ir_complete.proofs.NamedTypes.{name_is_lawful}
use Rattle.lx_ir_complete.proofs.PrintedInits.{said_bytes, a_type, init_prints}
use Rattle.lx_ir_complete.proofs.PrintedOperands.{scalar_said, no_words, none_behind, no_align, further_apart, further_mapped, listed}
use Rattle.lx_ir_complete.proofs.PrintedCalls.{a_result, result_said}
use Rattle.lx_ir_complete.proofs.Sayings.{Saying}
use Rattle.lx_ir_complete.proofs.Words.{a_scalar, word_type, word_global, word_constant, word_declare, word_define}
use Rattle.lx_ir_statements.specs.declared.head.Head.{Head}
use Rattle.lx_ir_statements.specs.Parameters.{local_name, no_parameters, with_parameter}
use Rattle.lx_ir_statements.specs.HeadGrammar.{IsResultWord, IsResult, IsParameter, AreFurtherParameters, AreParameters, IsImportParameter, AreImportParameters}
use Rattle.lx_ir_statements.specs.Statements.{is_type_word, symbol_name, storage_in}
use Rattle.lx_ir_statements.specs.Grammar.{IsTypeName, IsStruct, IsNewType, IsSymbol, AreLinkage, IsGlobal, is_declare_word, is_define_word, IsImport, IsOpening}
use Rattle.lx_ir_complete.specs.Said.{WithName}
use Rattle.lx_ir_complete.proofs.StatementLines.{line, same_lines}
use Rattle.lx_ir_complete.proofs.Standing.{Stand, absent, stand_new, new_name}

module _ {plain : Bool} {m : Module} {context : Context} (given : Saying plain m context) where
  symbol : (name : List ℕ) → is_name name ≡ true → (plain ≡ true → is_own_name name ≡ false) → Prints plain context.names (global_text name) (WithName context name IsSymbol)
  symbol name h own = global name h own (λ tok e at. (tok.name, at, (tok, ap (λ k. symbol_name k tok.name) e, refl)))

  -- Types with names.

  type_symbol : (k : ℕ) → k < length m.types → is_lawful_type m.types (Named k) ≡ true → Prints plain context.names (local_text (type_name m.types k)) (WithName context (type_name m.types k) (IsTypeName context))
  type_symbol k lt h =
      local (type_name m.types k) (given.type_named k lt)
      (λ tok e at.
      (tok.name, at, (tok, k, ap (λ q. local_name q tok.name) e, ((tok, ap (λ q. flat_of context q tok.name) e ∙ ap (option_map Named) (given.knows.types k tok.name lt at), refl), given.knows.limits (Named k) h), refl)))

  pub type_prints : (k : ℕ) (t : NamedType) → k < length m.types → slice_get m.types k ≡ Some t → type_name m.types k ≡ t.name → is_struct t.ty ≡ true → is_lawful_type m.types t.ty ≡ true → is_kept_type t.ty ≡ true
      → PrintsLines plain context.names (named_type_text m t) (WithName context t.name (λ n. IsNewType context n t.ty))
  type_prints k t lt there e struct h q =
      let body : Prints plain context.names (type_text m.types t.ty) (IsStruct context t.ty) = reads_as (λ ts x. (struct, x)) (a_type given t.ty h q) in
      let all = beside (type_symbol k lt (name_is_lawful m.types k t there struct h)) refl (space (marked Equal refl (space (word is_type_word word_type refl body)))) in
      let one : Prints plain context.names (local_text (type_name m.types k) ++ codes " = type " ++ type_text m.types t.ty) (WithName context (type_name m.types k) (λ n. IsNewType context n t.ty)) =
      reads_as (λ ts x. (x.2.0, x.2.1, (x.0, x.1, x.2.2, x.3, x.4))) (same_text (sym (append_assoc (local_text (type_name m.types k)) (codes " = type ") (type_text m.types t.ty))) all)
      in
      line (subst (λ name. Prints plain context.names (local_text name ++ codes " = type " ++ type_text m.types t.ty) (WithName context name (λ n. IsNewType context n t.ty))) e one)

  -- Globals.

  storage : (constant : Bool) {t : Text} {p : Part} → Prints plain context.names t p → Prints plain context.names (storage_word constant ++ t) (IsMark Equal then AreLinkage then Picks (λ x. storage_in x.kind) constant then p)
  storage true {t} {p} a = space (marked Equal refl (space (reads_as {q = AreLinkage then Picks (λ x. storage_in x.kind) true then p} (λ ts h. ([], ts, refl, h, refl)) (picks storage_in true word_constant refl a))))
  storage false {t} {p} a = space (marked Equal refl (space (reads_as {q = AreLinkage then Picks (λ x. storage_in x.kind) false then p} (λ ts h. ([], ts, refl, h, refl)) (picks storage_in false word_global refl a))))

  storage_apart : (constant : Bool) (t : Text) → is_apart (storage_word constant ++ t) ≡ true
  storage_apart true t = refl
  storage_apart false t = refl

  pub global_prints : (g : GlobalVar) → (plain ≡ true → is_own_name g.name ≡ false) → is_name g.name ≡ true → is_lawful_type m.types g.ty ≡ true → is_kept_type g.ty ≡ true → is_lawful_init m g.ty g.init ≡ true → is_kept_init g.init ≡ true → nat_le (nesting_of_init g.init) 64 ≡ true
      → PrintsLines plain context.names (global_var_text m g) (WithName context g.name (λ n. IsGlobal context n g.constant g.ty g.init))
  global_prints g own h t k i q le =
      let rest = storage g.constant (beside (a_type given g.ty t k) refl (space (no_align (init_prints given depth_limit g.ty g.init i q (leb-true (nesting_of_init g.init) 64 le))))) in
      let all = beside (symbol g.name h own) (storage_apart g.constant (type_text m.types g.ty ++ 32 ∷ init_text m g.init)) rest in
      let one = reads_as {q = WithName context g.name (λ n. IsGlobal context n g.constant g.ty g.init)} (λ ts x. (x.2.0, x.2.1, (x.0, x.1, x.2.2, x.3, x.4))) all in
      same_lines (append_assoc (global_text g.name ++ storage_word g.constant ++ type_text m.types g.ty ++ codes " ") (init_text m g.init) (codes "\n"))
      (line (same_text (regroup (global_text g.name) (storage_word g.constant ∷ type_text m.types g.ty ∷ codes " " ∷ init_text m g.init ∷ [])) one))

  -- Imports.

  result : {t : Text} {p : Part} (ret : Option Scalar) → Prints plain context.names t p → Prints plain context.names (result_text ret ++ 32 ∷ t) (IsResult ret then p)
  result ret a = beside (no_words IsResultWord (word_picks result_in ret (a_result ret) (result_said ret))) refl (space a)

  import_parameter : (ty : Scalar) → Prints plain context.names (scalar_text ty) (IsImportParameter ty)
  import_parameter ty =
      reads_as {p = IsScalar ty} {q = IsImportParameter ty} (λ ts h. (ts, [], h, ([], [], (0, refl), inl refl, refl), sym (append-nil ts))) (word_picks scalar_in ty (a_scalar ty) (scalar_said ty))

  import_parameters : (tys : List Scalar) → AllByRecursion (λ ty. Prints plain context.names (scalar_text ty) (IsImportParameter ty)) tys
  import_parameters [] = tt
  import_parameters (ty ∷ tys) = (import_parameter ty, import_parameters tys)

  map_map : (ps : List Parameter) → map scalar_text (map (λ p. p.ty) ps) ≡ map (λ p. scalar_text p.ty) ps
  map_map [] = refl
  map_map (p ∷ ps) = ap (λ ts. scalar_text p.ty ∷ ts) (map_map ps)

  pub import_prints : (f : Function) → (plain ≡ true → is_own_name f.name ≡ false) → is_name f.name ≡ true → PrintsLines plain context.names (declared_text f) (WithName context f.name (λ n. IsImport n f.ret (map (λ p. p.ty) f.params)))
  import_prints f own h =
      let tys : List Scalar = map (λ p. p.ty) f.params in
      let inside : Text = comma_list (map (λ p. scalar_text p.ty) f.params) in
      let params : Prints plain context.names (codes "(" ++ (inside ++ codes ")")) (AreImportParameters tys) =
      marked OpenParenthesis refl (beside (same_text (ap comma_list (map_map f.params)) (listed IsImportParameter scalar_text tys (import_parameters tys))) refl (last_mark CloseParenthesis refl))
      in
      let all = word is_declare_word word_declare refl (result f.ret (beside (symbol f.name h own) refl (none_behind IsAttribute params))) in
      let one =
      reads_as {q = WithName context f.name (λ n. IsImport n f.ret tys)}
      (λ ts x. (x.3.3.2.0, x.3.3.2.1, (x.0, x.1, x.2, (x.3.0, x.3.1, x.3.2, (x.3.3.0, x.3.3.1, x.3.3.2.2, x.3.3.3, x.3.3.4), x.3.4), x.4)))
      all
      in
      let head : Text = head_text f in
      let texts : codes "declare " ++ (result_text f.ret ++ codes " " ++ global_text f.name ++ codes "(" ++ (inside ++ codes ")")) ≡ codes "declare " ++ head ++ inside ++ codes ")" = regroup (codes "declare ") (head ∷ inside ∷ codes ")" ∷ []) in
      same_lines (append_assoc (codes "declare " ++ head ++ inside) (codes ")") (codes "\n"))
      (line (same_text texts (same_text (ap (λ t. codes "declare " ++ t) (regroup (result_text f.ret) (codes " " ∷ global_text f.name ∷ codes "(" ∷ (inside ++ codes ")") ∷ []))) one)))

  -- Functions.

  abbrev NamedParameter : Parameter → Part
  NamedParameter p ts = (n : ℕ) × (slice_get context.names n ≡ Some p.name) × ((head : Head) → IsParameter context head (Some n) p ts)

  parameter : (p : Parameter) → is_name p.name ≡ true → Prints plain context.names (parameter_text p) (NamedParameter p)
  parameter p h =
      let name : Prints plain context.names (local_text p.name) (WithName context p.name (λ n. Picks (λ t. local_name t.kind t.name) n)) =
      local p.name h (λ tok e at. (tok.name, at, (tok, ap (λ k. local_name k tok.name) e, refl)))
      in
      same_text (sym (append_assoc (scalar_text p.ty) (codes " ") (local_text p.name)))
      (reads_as {q = NamedParameter p}
      (λ ts x.
      (x.3.3.0, x.3.3.1, λ head. (x.0, x.1, x.2, (x.3.0, x.3.1, x.3.2, inl (x.3.3.0, x.3.3.2, refl, sym (said_bytes context x.3.3.0 p.name x.3.3.1)), x.3.4), x.4)))
      (picks scalar_in p.ty (a_scalar p.ty) (scalar_said p.ty) (no_words IsPassed name)))

  abbrev pub names_of : List Parameter → List (List ℕ)
  names_of ps = map (λ p. p.name) ps

  -- further parameters, behind some with these names
  abbrev Further : List (List ℕ) → List Parameter → Part
  Further before ps ts =
      (head : Head) → Stand context.names head.registers before
      → (last : Head) × Stand context.names last.registers (before ++ names_of ps) × (last.params ≡ head.params ++ ps) × AreFurtherParameters context head ps last ts

  further : (before : List (List ℕ)) (ps : List Parameter) → is_distinct (before ++ names_of ps) ≡ true → list_all is_name (names_of ps) ≡ true → Prints plain context.names (flat_map (λ p. codes ", " ++ parameter_text p) ps) (Further before ps)
  further before [] d h =
      reads_as {q = Further before []} (λ ts e head st. (head, subst (Stand context.names head.registers) (sym (append-nil before)) st, sym (append-nil head.params), (refl, e))) nothing
  further before (p ∷ ps) d h =
      let named = and_parts (is_name p.name) (list_all is_name (names_of ps)) h in
      let assoc : (before ++ p.name ∷ []) ++ names_of ps ≡ before ++ p.name ∷ names_of ps = append_assoc before (p.name ∷ []) (names_of ps) in
      let rest = further (before ++ p.name ∷ []) ps (ap is_distinct assoc ∙ d) named.1 in
      let fresh = new_name before p.name (names_of ps) d in
      reads_as {q = Further before (p ∷ ps)}
      (λ ts x head st.
      let n : ℕ = x.3.2.0 in
      let next = with_parameter head (Some n) p.name p.ty in
      let r = x.3.3 next (stand_new context.names head.registers before n p.name st x.3.2.1 fresh) in (
        r.0,
        subst (Stand context.names r.0.registers) assoc r.1,
        r.2 ∙ append_assoc head.params (p ∷ []) ps,
        (Some n, absent context.names head.registers before n p.name st x.3.2.1 fresh, (x.0, x.1, x.2, (x.3.0, x.3.1, x.3.2.2 head, r.3, x.3.4), x.4)),
      ))
      (marked Comma refl (space (beside (parameter p named.0) (further_apart parameter_text ps) rest)))

  abbrev Parameters : List Parameter → Part
  Parameters ps ts = (last : Head) × Stand context.names last.registers (names_of ps) × (last.params ≡ ps) × AreParameters context ps last ts

  parameters : (ps : List Parameter) → is_distinct (names_of ps) ≡ true → list_all is_name (names_of ps) ≡ true → Prints plain context.names (comma_list (map parameter_text ps)) (Parameters ps)
  parameters [] d h = reads_as {q = Parameters []} (λ ts e. (no_parameters, tt, refl, (refl, e))) nothing
  parameters (p ∷ ps) d h =
      let named = and_parts (is_name p.name) (list_all is_name (names_of ps)) h in
      same_text (ap (λ t. parameter_text p ++ t) (further_mapped parameter_text ps))
      (reads_as {q = Parameters (p ∷ ps)}
      (λ ts x.
      let n : ℕ = x.2.0 in
      let r = x.3 (with_parameter no_parameters (Some n) p.name p.ty) (x.2.1, tt) in
      (r.0, r.1, r.2, (Some n, (x.0, x.1, x.2.2 no_parameters, r.3, x.4))))
      (beside (parameter p named.0) (further_apart parameter_text ps) (further (p.name ∷ []) ps d named.1)))

  abbrev pub Opening : Function → Part
  Opening f ts =
      (n : ℕ) × (slice_get context.names n ≡ Some f.name) × (head : Head) × Stand context.names head.registers (names_of f.params) × (head.params ≡ f.params) × IsOpening context n f.ret head ts

  -- The first line of a function says its head.
  pub opening_prints : (f : Function) → (plain ≡ true → is_own_name f.name ≡ false) → is_name f.name ≡ true → is_distinct (names_of f.params) ≡ true → list_all is_name (names_of f.params) ≡ true
      → PrintsLines plain context.names (codes "define " ++ head_text f ++ comma_list (map parameter_text f.params) ++ codes ") {\n") (Opening f)
  opening_prints f own h d names =
      let inside : Text = comma_list (map parameter_text f.params) in
      let head : Text = head_text f in
      let tail : Prints plain context.names (codes " {") (Repeated IsAttribute then IsMark OpenBrace) = space (no_words IsAttribute (last_mark OpenBrace refl)) in
      let params = marked OpenParenthesis refl (beside (parameters f.params d names) refl (marked CloseParenthesis refl tail)) in
      let all = word is_define_word word_define refl (result f.ret (beside (symbol f.name h own) refl params)) in
      let one =
      reads_as {q = Opening f}
      (λ ts x.
      let s = x.3.3 in
      let o = s.3 in
      let ps = o.3 in
      let c = ps.3 in (
        s.2.0,
        s.2.1,
        ps.2.0,
        ps.2.1,
        ps.2.2,
        (
          x.0,
          x.1,
          x.2,
          (
            x.3.0,
            x.3.1,
            x.3.2,
            (
              s.0,
              s.1,
              s.2.2,
              (
                o.0 ++ (ps.0 ++ c.0),
                c.1,
                (o.0, ps.0 ++ c.0, o.2, (ps.0, c.0, subst (λ qs. AreParameters context qs ps.2.0 ps.0) (sym ps.2.2) ps.2.3, c.2, refl), refl),
                c.3,
                o.4 ∙ ap (λ us. o.0 ++ us) (ps.4 ∙ ap (λ us. ps.0 ++ us) c.4 ∙ sym (append_assoc ps.0 c.0 c.1)) ∙ sym (append_assoc o.0 (ps.0 ++ c.0) c.1),
              ),
              s.4,
            ),
            x.3.4,
          ),
          x.4,
        ),
      ))
      all
      in
      let texts : codes "define " ++ (head ++ (inside ++ codes ") {")) ≡ codes "define " ++ head ++ inside ++ codes ") {" = regroup (codes "define ") (head ∷ inside ∷ codes ") {" ∷ []) in
      same_lines (append_assoc (codes "define " ++ head ++ inside) (codes ") {") (codes "\n"))
      (line (same_text texts (same_text (ap (λ t. codes "define " ++ t) (regroup (result_text f.ret) (codes " " ∷ global_text f.name ∷ codes "(" ∷ (inside ++ codes ") {") ∷ []))) one)))
