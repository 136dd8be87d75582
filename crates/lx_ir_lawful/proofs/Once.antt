-- The types of a module that is read are each defined once.
use Rattle.std.proofs.Common.{◌≡◌, ℕ, zero, suc, ◌-◌, Bool, true, false, ◌&&◌, Some, List, [], ◌∷◌, ◌++◌, length, drop, map, refl, sym, ap, ◌∙◌, subst}
use Rattle.std.specs.Prelude.{if◌then◌else◌, unwrap_or}
use Rattle.std.specs.List.{list_all, AllByRecursion}
use Rattle.std.proofs.lemmas.Bool.{and_parts, and_from}
use Rattle.std.proofs.lemmas.List.{map-append}
use Rattle.std.proofs.lemmas.List.Folds.{list_all-append}
use Rattle.lx_words.specs.declared.token.Token.{Token}
use Rattle.lx_ir.specs.declared.types.NamedType.{NamedType}
use Rattle.lx_ir.specs.declared.module.Module.{Module}
use Rattle.lx_ir.specs.IrType.{IrType}
use Rattle.lx_ir.specs.Layout.{is_struct, is_lawful_type}
use Rattle.lx_ir.specs.Lawful.{is_name, is_distinct, is_lawful_named}
use Rattle.lx_ir_tokens.specs.declared.token.Tok.{Tok}
use Rattle.lx_ir_tokens.specs.Names.{number_of}
use Rattle.lx_ir_terms.specs.Context.{Context, bytes_of}
use Rattle.lx_ir_calls.specs.declared.intrinsics.TextForm.{TextForm}
use Rattle.lx_ir_statements.specs.Numbers.{has_number, with_number}
use Rattle.lx_ir_statements.specs.declared.form.Statement.{Statement}
use Rattle.lx_ir_statements.specs.declared.form.Statement.TheVariants as statements
use Rattle.lx_ir_statements.specs.declared.defined.Defined.{Defined}
use Rattle.lx_ir_statements.specs.Defined.{with_symbol, is_block_write}
use Rattle.lx_ir_statements.specs.Grammar.{IsStatement}
use Rattle.lx_ir_statements.proofs.TypeNames.{local_name_is}
use Rattle.lx_ir_tables.specs.Numbering.{Numbering, table_of}
use Rattle.lx_ir_read.specs.declared.first.Found.{Found}
use Rattle.lx_ir_read.specs.declared.draft.Draft.{Draft}
use Rattle.lx_ir_read.specs.Tables.{tokens_left}
use Rattle.lx_ir_read.specs.Again.{no_draft, registers_in, with_registers, with_defined, with_declared, import_of, kept}
use Rattle.lx_ir_read.specs.Fault.{line_shown}
use Rattle.lx_ir_read.specs.Reading.{tables_of, full_context}
use Rattle.lx_ir_read.specs.Grammar.{AddAll, IsModule}
use Rattle.lx_ir_lawful.specs.NamedThings.{somes, numbers_of, AreOnce}
use Rattle.lx_ir_lawful.specs.TokenNames.{IsNamed, IsTokenNamed}
use Rattle.lx_ir_lawful.proofs.Placed.{number_at_place}
use Rattle.lx_ir_lawful.proofs.NamesOnce.{names_once}
use Rattle.lx_ir_lawful.proofs.NamedThings.{somes_more, names_grow}
use Rattle.lx_ir_lawful.proofs.TokenNames.{tokens_are_named}
use Rattle.lx_ir_lawful.specs.SizeLaws.{is_such_struct}
use Rattle.lx_ir_lawful.proofs.SizedTypes.{modules_have_lawful_types}
use Rattle.lx_ir_lawful.specs.OnceLaws.{HasLawfulNames}

pub dropped : (P : Tok → Type 0) (n : ℕ) (ts : List Tok) → AllByRecursion P ts → AllByRecursion P (drop n ts)
dropped P zero ts h = h
dropped P (suc n) [] h = tt
dropped P (suc n) (t ∷ ts) h = dropped P n ts h.1

abbrev pub said_types : List NamedType → List (List ℕ)
said_types types = map (λ t. t.name) types

module _ (form : TextForm) (places : List Token) (full : Context) (toks : List Tok) (once : AreOnce full.names) (named : AllByRecursion (IsTokenNamed full.names) toks) where
  abbrev names : List (List ℕ)
  names = full.names

  -- distinct names, which are those that are defined
  pub record TypesOnce (types : List NamedType) (numbers : List ℕ) : Type 0 where
    pub distinct : is_distinct (said_types types) ≡ true
    pub each : list_all is_name (said_types types) ≡ true
    pub same : numbers_of names (said_types types) ≡ numbers

  -- the first token at a place
  first_named : (left : ℕ) (t : Tok) (ts : List Tok) → tokens_left left toks ≡ t ∷ ts → IsTokenNamed names t
  first_named left t ts w = (subst (AllByRecursion (IsTokenNamed names)) w (dropped (IsTokenNamed names) (length toks - left) toks named)).0

  one_type : (types : List NamedType) (numbers : List ℕ) (name : ℕ) (ty : IrType) → IsNamed names name → has_number numbers name ≡ false → TypesOnce types numbers → TypesOnce (types ++ record { name = bytes_of full name; ty = ty } ∷ []) (with_number numbers name)
  one_type types numbers name ty (w, at, is) fresh g =
      let x : NamedType = record { name = bytes_of full name; ty = ty } in
      let it : number_of names w ≡ Some name = number_at_place names once name w at in
      let here : bytes_of full name ≡ w = ap (λ o. unwrap_or o []) at in
      let said : said_types (types ++ x ∷ []) ≡ said_types types ++ w ∷ [] = map-append (λ (t : NamedType). t.name) types (x ∷ []) ∙ ap (λ v. said_types types ++ v ∷ []) here in
      record {
        distinct = ap is_distinct said ∙ names_grow names (said_types types) name w once at g.distinct (ap (λ ns. has_number ns name) g.same ∙ fresh);
        each = ap (list_all is_name) said ∙ list_all-append is_name (said_types types) (w ∷ []) ∙ and_from (list_all is_name (said_types types)) (is_name w && true) g.each (and_from (is_name w) true is refl);
        same =
            ap (numbers_of names) said ∙ ap somes (map-append (number_of names) (said_types types) (w ∷ []) ∙ ap (λ o. map (number_of names) (said_types types) ++ o ∷ []) it)
            ∙ somes_more (map (number_of names) (said_types types)) (Some name) numbers g.same fresh;
      }

  import_types : (b : Bool) (d e : Draft) → d.types ≡ e.types → (if b then d else e).types ≡ d.types
  import_types true d e same = refl
  import_types false d e same = sym same

  import_defined : (b : Bool) (d e : Draft) → d.defined ≡ e.defined → (if b then d else e).defined ≡ d.defined
  import_defined true d e same = refl
  import_defined false d e same = sym same

  symbol_types : (b : Bool) (d : Defined) (name : ℕ) → (if b then d else with_symbol d name).types ≡ d.types
  symbol_types true d name = refl
  symbol_types false d name = refl

  import_once : (d : Draft) (name : ℕ) (ret : _) (params : _) (registers : Numbering) (line : ℕ) → TypesOnce d.types d.defined.types
      → TypesOnce (kept full registers line (with_defined full d (statements.Import name ret params)) (statements.Import name ret params)).types (kept full registers line (with_defined full d (statements.Import name ret params)) (statements.Import name ret params)).defined.types
  import_once d name ret params registers line g =
      let x : Draft = with_defined full d (statements.Import name ret params) in
      let y : Draft = with_declared x (import_of (bytes_of full name) ret params line) in
      let types : (if is_block_write full name then x else y).types ≡ d.types = import_types (is_block_write full name) x y refl in
      let defined : (if is_block_write full name then x else y).defined.types ≡ d.defined.types =
      ap (λ (v : Defined). v.types) (import_defined (is_block_write full name) x y refl) ∙ symbol_types (is_block_write full name) d.defined name in
      subst (λ v. TypesOnce v (if is_block_write full name then x else y).defined.types) (sym types) (subst (TypesOnce d.types) (sym defined) g)

  kept_once : (d : Draft) (s : Statement) (registers : Numbering) (line left : ℕ) (front back : List Tok) → IsStatement (with_registers full (table_of registers)) form places d.defined s front back → tokens_left left toks ≡ front ++ back → TypesOnce d.types d.defined.types
      → TypesOnce (kept full registers line (with_defined full d s) s).types (kept full registers line (with_defined full d s) s).defined.types
  kept_once d (statements.Type name ty) registers line left front back (fresh, (f, b, (t, k, local, written, w3), rest, w)) there g =
      let first = first_named left t (b ++ back) (there ∙ ap (λ v. v ++ back) (w ∙ ap (λ v. v ++ b) w3)) in
      let is = local_name_is t.kind t.name name local in
      one_type d.types d.defined.types name ty (subst (IsNamed names) is.1 (first.local is.0)) fresh g
  kept_once d (statements.Global name constant ty init) registers line left front back is there g = g
  kept_once d (statements.Import name ret params) registers line left front back is there g = import_once d name ret params registers line g
  kept_once d (statements.Function name ret params blocks) registers line left front back is there g = g

  pub all_once : (fs : List Found) (d e : Draft) → AddAll full form places toks d fs e → TypesOnce d.types d.defined.types → TypesOnce e.types e.defined.types
  all_once [] d e says g = subst (λ (x : Draft). TypesOnce x.types x.defined.types) says g
  all_once (f ∷ fs) d e (m, (s, front, back, is, w, k), rest) g =
      all_once fs m e rest
      (subst (λ (x : Draft). TypesOnce x.types x.defined.types) k (kept_once d s (registers_in full.names f.statement) (line_shown places f.left) f.left front back is w g))

-- The module.

each_named : (m : Module) (ts : List NamedType) → list_all is_name (said_types ts) ≡ true → list_all (is_such_struct (is_lawful_type m.types)) ts ≡ true → list_all (is_lawful_named m) ts ≡ true
each_named m [] h g = refl
each_named m (t ∷ ts) h g =
    let one = and_parts (is_name t.name) (list_all is_name (said_types ts)) h in
    let two = and_parts (is_such_struct (is_lawful_type m.types) t) (list_all (is_such_struct (is_lawful_type m.types)) ts) g in
    let both = and_parts (is_struct t.ty) (is_lawful_type m.types t.ty) two.0 in
    and_from (is_lawful_named m t) (list_all (is_lawful_named m) ts) (and_from (is_name t.name && is_struct t.ty) (is_lawful_type m.types t.ty) (and_from (is_name t.name) (is_struct t.ty) one.0 both.0) both.1) (each_named m ts one.1 two.1)

pub types_are_once : (form : TextForm) (text : List ℕ) (m : Module) → IsModule form text m → HasLawfulNames m
types_are_once form text m is =
    let full : Context = full_context is.ir (tables_of form is.ir is.statements) true in
    let once : AreOnce is.ir.names = subst AreOnce (sym is.reads.names) (names_once text is.ir.places) in
    let named = tokens_are_named text is.ir is.reads in
    let all = all_once form is.ir.places full is.ir.toks once named is.statements no_draft is.draft is.says (record { distinct = refl; each = refl; same = refl }) in
    let lawful = modules_have_lawful_types form text m is in
    let types : is.draft.types ≡ m.types = ap (λ (x : Module). x.types) is.is in
    record {
      types_once = ap (λ ts. is_distinct (said_types ts)) (sym types) ∙ all.distinct;
      types = each_named m m.types (ap (λ ts. list_all is_name (said_types ts)) (sym types) ∙ all.each) lawful.types;
    }
