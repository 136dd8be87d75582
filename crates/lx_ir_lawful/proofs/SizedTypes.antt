-- The types of a module that a text is are within the limits.
use Rattle.std.proofs.Common.{◌≡◌, ℕ, ◌-◌, Bool, true, false, Option, Some, None, List, [], ◌∷◌, ◌++◌, length, drop, Ok, refl, sym, ap, ◌∙◌, subst, arith, append_assoc}
use Rattle.std.specs.Prelude.{if◌then◌else◌, fold, option_to_list}
use Rattle.std.specs.List.{list_all}
use Rattle.std.proofs.Math.Seq.{drop-append_seam}
use Rattle.std.proofs.lemmas.List.{length-append, append-nil}
use Rattle.std.proofs.lemmas.Bool.{and_from}
use Rattle.lx_words.specs.declared.token.Token.{Token}
use Rattle.lx_words.proofs.Lists.{all_joined as more_all}
use Rattle.lx_ir.specs.declared.types.NamedType.{NamedType}
use Rattle.lx_ir.specs.declared.module.GlobalVar.{GlobalVar}
use Rattle.lx_ir.specs.declared.module.Function.{Function}
use Rattle.lx_ir.specs.declared.module.Module.{Module}
use Rattle.lx_ir.specs.declared.instr.Op.{Op}
use Rattle.lx_ir.specs.declared.instr.Op.TheVariants as op
use Rattle.lx_ir.specs.IrType.{IrType}
use Rattle.lx_ir.specs.Layout.{is_struct, is_lawful_type}
use Rattle.lx_ir.specs.Lookup.{blocks_of_option}
use Rattle.lx_ir_tokens.specs.declared.token.Tok.{Tok}
use Rattle.lx_ir_tokens.specs.declared.token.Kind.{Kind}
use Rattle.lx_ir_tokens.specs.declared.token.Kind.TheVariants as kinds
use Rattle.lx_ir_tokens.specs.declared.keyword.StatementWord.TheVariants as words
use Rattle.lx_ir_tokens.specs.declared.keyword.Keyword.TheVariants as keywords
use Rattle.lx_ir_offsets.specs.Shapes.{named_shapes, is_inside}
use Rattle.lx_ir_lawful.proofs.LawfulLimits.{lawful}
use Rattle.lx_ir_terms.specs.Context.{Context, bytes_of}
use Rattle.lx_ir_terms.specs.Reading.{Read, has}
use Rattle.lx_ir_terms.specs.Grammar.{IsWritten}
use Rattle.lx_ir_constants.specs.Constants.{is_register}
use Rattle.lx_ir_calls.specs.declared.intrinsics.TextForm.{TextForm}
use Rattle.lx_ir_statements.specs.Parameters.{local_name}
use Rattle.lx_ir_instructions.specs.Grammar.{IsForm}
use Rattle.lx_ir_statements.specs.declared.form.Statement.{Statement}
use Rattle.lx_ir_statements.specs.declared.form.Statement.TheVariants as statements
use Rattle.lx_ir_statements.specs.declared.defined.Defined.{Defined}
use Rattle.lx_ir_statements.specs.Defined.{nothing_defined, is_block_write}
use Rattle.lx_ir_statements.specs.Statements.{symbol_name, statement_at}
use Rattle.lx_ir_statements.specs.Grammar.{is_declare_word, is_define_word, IsStatement}
use Rattle.lx_ir_tables.specs.Numbering.{Numbering, table_of}
use Rattle.lx_ir_read.specs.declared.first.Found.{Found}
use Rattle.lx_ir_read.specs.declared.draft.Draft.{Draft}
use Rattle.lx_ir_read.specs.First.{unknown_context}
use Rattle.lx_ir_read.specs.Tables.{tokens_left, naming_types, is_type, type_read, with_type_again, named_types}
use Rattle.lx_ir_read.specs.Again.{no_draft, registers_in, with_registers, with_defined, with_declared, import_of, local_names, kept}
use Rattle.lx_ir_read.specs.Fault.{line_shown}
use Rattle.lx_ir_read.specs.Reading.{tables_of, full_context}
use Rattle.lx_ir_read.specs.Grammar.{AreStatements, Adds, AddAll, IsModule}
use Rattle.lx_ir_lawful.specs.SizeLaws.{asks_for, asks_all_for, is_such_struct, HasLawfulTypes}
use Rattle.lx_ir_lawful.proofs.SizedBlocks.{body_all}
use Rattle.lx_ir_lawful.proofs.TypeNaming.{new_type_named, type_again}

-- The first token of a statement.

local_is : (k : Kind) (n name : ℕ) → local_name k n ≡ Some name → is_register k ≡ true
local_is kinds.Local n name e = refl
local_is k n name e = cc

symbol_is_not : (k : Kind) (n name : ℕ) → symbol_name k n ≡ Some name → is_register k ≡ false
symbol_is_not kinds.Global n name e = refl
symbol_is_not k n name e = cc

declare_is_not : (k : Kind) → is_declare_word k ≡ true → is_register k ≡ false
declare_is_not (kinds.Word (keywords.Statement words.Declare)) e = refl
declare_is_not k e = cc

define_is_not : (k : Kind) → is_define_word k ≡ true → is_register k ≡ false
define_is_not (kinds.Word (keywords.Statement words.Define)) e = refl
define_is_not k e = cc

first_is : (t : Tok) (f b front back : List Tok) → f ≡ t ∷ [] → front ≡ f ++ b → has is_register (front ++ back) ≡ is_register t.kind
first_is t f b front back e w = ap (λ v. has is_register (v ++ back)) (w ∙ ap (λ v. v ++ b) e)

first_of : (t : Tok) (f b front rest ts back : List Tok) → f ≡ t ∷ [] → front ≡ f ++ b → ts ≡ front ++ rest → has is_register (ts ++ back) ≡ is_register t.kind
first_of t f b front rest ts back e w whole = ap (λ v. has is_register (v ++ back)) (whole ∙ ap (λ v. v ++ rest) (w ∙ ap (λ v. v ++ b) e))

-- a statement begins with a name behind `%` exactly where it defines a type
pub begins_type : (c : Context) (form : TextForm) (places : List Token) (defined : Defined) (s : Statement) (ts us back : List Tok) → IsStatement c form places defined s ts us → has is_register (ts ++ back) ≡ is_type s
begins_type c form places defined (statements.Type name ty) ts us back (fresh, (f, b, (t, k, local, ty_name, w3), rest, w)) =
    first_is t f b ts back w3 w ∙ local_is t.kind t.name name local
begins_type c form places defined (statements.Global name constant ty init) ts us back (fresh, (f, b, (t, e, w3), rest, w)) =
    first_is t f b ts back w3 w ∙ symbol_is_not t.kind t.name name e
begins_type c form places defined (statements.Import name ret params) ts us back (may, (f, b, (t, e, w3), rest, w)) =
    first_is t f b ts back w3 w ∙ declare_is_not t.kind e
begins_type c form places defined (statements.Function name ret params blocks) ts us back (fresh, plain, (head, front, rest, (f, b, (t, e, w3), opening, w), body, same, whole)) =
    first_of t f b front rest ts back w3 w whole ∙ define_is_not t.kind e

-- the tokens that are left at a place
pub left_there : (before ts toks : List Tok) (left : ℕ) → left ≡ length ts → toks ≡ before ++ ts → tokens_left left toks ≡ ts
left_there before ts toks left e w =
    let count : length (before ++ ts) - length ts ≡ length before = omega (arith, length-append before ts) in
    ap (λ n. drop (length toks - n) toks) e ∙ ap (λ v. drop (length v - length ts) v) w ∙ ap (λ n. drop n (before ++ ts)) count ∙ drop-append_seam before ts

-- The types that are kept are those that were read before, by the names of types alone.

module _ (form : TextForm) (places : List Token) (full : Context) (whole : full.complete ≡ true) (toks : List Tok) where
  abbrev naming : Context
  naming = naming_types full.names full.types []

  abbrev step : List NamedType → Found → List NamedType
  step types f = with_type_again naming form places toks types f

  abbrev registers_at : Found → Numbering
  registers_at f = registers_in full.names f.statement

  abbrev adding : Draft → Found → Statement → Draft
  adding d f s = kept full (registers_at f) (line_shown places f.left) (with_defined full d s) s

  no_type : (f : Found) (types : List NamedType) → is_type f.statement ≡ false → types ≡ step types f
  no_type f types e =
      sym (ap (λ b. types ++ option_to_list (if b then type_read naming (statement_at naming form places nothing_defined (tokens_left f.left toks)) else None)) e ∙ append-nil types)

  import_types : (b : Bool) (d e : Draft) → d.types ≡ e.types → (if b then d else e).types ≡ d.types
  import_types true d e same = refl
  import_types false d e same = sym same

  kept_types : (d : Draft) (f : Found) (s : Statement) (front back : List Tok) → IsStatement (with_registers full (table_of (registers_at f))) form places d.defined s front back → tokens_left f.left toks ≡ front ++ back → is_type f.statement ≡ is_type s
      → (adding d f s).types ≡ step d.types f
  kept_types d f (statements.Type name ty) front back (fresh, is) w e =
      let read : statement_at naming form places nothing_defined (tokens_left f.left toks) ≡ Ok (statements.Type name ty, back) =
      ap (statement_at naming form places nothing_defined) w
      ∙ type_again naming form places name ty front back (new_type_named (with_registers full (table_of (registers_at f))) whole name ty front is) in
      sym
      (ap (λ b. d.types ++ option_to_list (if b then type_read naming (statement_at naming form places nothing_defined (tokens_left f.left toks)) else None)) e
      ∙ ap (λ (r : Read Statement). d.types ++ option_to_list (type_read naming r)) read)
  kept_types d f (statements.Global name constant ty init) front back is w e = no_type f d.types e
  kept_types d f (statements.Import name ret params) front back is w e =
      import_types (is_block_write full name) (with_defined full d (statements.Import name ret params))
      (with_declared (with_defined full d (statements.Import name ret params)) (import_of (bytes_of full name) ret params (line_shown places f.left))) refl
      ∙ no_type f d.types e
  kept_types d f (statements.Function name ret params blocks) front back is w e = no_type f d.types e

  added_types : (d e : Draft) (f : Found) (ts : List Tok) → tokens_left f.left toks ≡ ts → has is_register ts ≡ is_type f.statement → Adds full form places toks d f e → e.types ≡ step d.types f
  added_types d e f ts there first (s, front, back, is, w, k) =
      let same : is_type f.statement ≡ is_type s =
      sym first ∙ ap (has is_register) (sym there ∙ w) ∙ begins_type (with_registers full (table_of (registers_at f))) form places d.defined s front back back is in
      ap (λ (x : Draft). x.types) (sym k) ∙ kept_types d f s front back is w same

  pub all_types : (u : Context) (fs : List Found) (defined : Defined) (before ts : List Tok) (d e : Draft) → AreStatements u form places defined fs ts → toks ≡ before ++ ts → AddAll full form places toks d fs e → e.types ≡ fold step d.types fs
  all_types u [] defined before ts d e falls w says = ap (λ (x : Draft). x.types) (sym says)
  all_types u (f ∷ fs) defined before ts d e (front, back, left, is, more, w) place (m, one, rest) =
      let there = left_there before ts toks f.left left place in
      let first : has is_register ts ≡ is_type f.statement = ap (has is_register) w ∙ begins_type u form places defined f.statement front back back is in
      let next : toks ≡ (before ++ front) ++ back = place ∙ ap (λ v. before ++ v) w ∙ sym (append_assoc before front back) in
      all_types u fs _ (before ++ front) back m e more next rest ∙ ap (λ ts. fold step ts fs) (added_types d m f ts there first one)

-- What holds of each type that is written holds of those that are kept.

one_all : {A : Type 0} (p : A → Bool) (x : A) → p x ≡ true → list_all p (x ∷ []) ≡ true
one_all p x h = and_from (p x) true h refl

pub record Good (p : IrType → Bool) (d : Draft) : Type 0 where
  pub types : list_all (is_such_struct p) d.types ≡ true
  pub globals : list_all (λ g. p g.ty) d.globals ≡ true
  pub imports : list_all (asks_all_for p) d.imports ≡ true
  pub functions : list_all (asks_all_for p) d.functions ≡ true

module _ (form : TextForm) (places : List Token) (full : Context) (toks : List Tok) (p : IrType → Bool)
    (written : (registers : List (Option ℕ)) (t : IrType) (ts : List Tok) → IsWritten (with_registers full registers) t ts → p t ≡ true) where
  asked : (registers : List (Option ℕ)) (o : Op) (ts : List Tok) → IsForm (with_registers full registers) form o ts → asks_for p o ≡ true
  asked registers (op.Alloca to ty) ts h = written registers ty _ h.3.3.3.2.3
  asked registers (op.GetElementPtr to ty base indices) ts h = written registers ty _ h.3.3.3.2.3
  asked registers (op.Binary to o ty a b) ts h = refl
  asked registers (op.Compare to c ty a b) ts h = refl
  asked registers (op.Convert to how from a into) ts h = refl
  asked registers (op.Unary to o ty a) ts h = refl
  asked registers (op.Select to c ty a b) ts h = refl
  asked registers (op.Phi to ty edges) ts h = refl
  asked registers (op.Load to ty at) ts h = refl
  asked registers (op.Store ty v at) ts h = refl
  asked registers (op.Call to ret f args) ts h = refl
  asked registers (op.CopyBlock moves d s len) ts h = refl
  asked registers (op.FillBlock d b len) ts h = refl
  asked registers (op.Ret v) ts h = refl
  asked registers (op.Jump l) ts h = refl
  asked registers (op.Branch c a b) ts h = refl
  asked registers (op.Switch ty v otherwise cases) ts h = refl
  asked registers op.Unreachable ts h = refl
  asked registers (op.Guard at size narrow) ts h = refl
  asked registers (op.Check target) ts h = refl
  asked registers (op.Enter f) ts h = refl
  asked registers (op.Pre f k) ts h = refl
  asked registers (op.Post f k) ts h = refl
  asked registers (op.Leave f) ts h = refl

  good_import : (b : Bool) (d : Draft) (f : Function) → f.blocks ≡ None → Good p d → Good p (if b then d else with_declared d f)
  good_import true d f e g = g
  good_import false d f e g = record {
    types = g.types;
    globals = g.globals;
    imports = more_all (asks_all_for p) d.imports (f ∷ []) g.imports (one_all (asks_all_for p) f (import_asks f.blocks e));
    functions = g.functions;
  }
    where
      import_asks : (o : _) → o ≡ None → list_all (λ b. list_all (λ i. asks_for p i.op) b.instrs) (blocks_of_option o) ≡ true
      import_asks o h = ap (λ x. list_all (λ b. list_all (λ i. asks_for p i.op) b.instrs) (blocks_of_option x)) h

  kept_good : (registers : Numbering) (line : ℕ) (defined : Defined) (d e : Draft) (s : Statement) (front back : List Tok) → IsStatement (with_registers full (table_of registers)) form places defined s front back → Good p d → kept full registers line (with_defined full d s) s ≡ e → Good p e
  kept_good registers line defined d e (statements.Type name ty) front back (fresh, (f, b, named, (f2, b2, equal, (f4, b4, word, (struct, body), w4), w2), w)) g k =
      subst (Good p) k
      (record {
        types = more_all (is_such_struct p) d.types (record { name = bytes_of full name; ty = ty } ∷ []) g.types (one_all (is_such_struct p) (record { name = bytes_of full name; ty = ty }) (and_from (is_struct ty) (p ty) struct (written (table_of registers) ty b4 body)));
        globals = g.globals;
        imports = g.imports;
        functions = g.functions;
      })
  kept_good registers line defined d e (statements.Global name constant ty init) front back (fresh, (f, b, symbol, (f2, b2, equal, (f3, b3, linkage, (f4, b4, storage, (f5, b5, of, rest, w5), w4), w3), w2), w)) g k =
      let x : GlobalVar = record { name = bytes_of full name; constant = constant; ty = ty; init = init; line = line } in
      subst (Good p) k
      (record {
        types = g.types;
        globals = more_all (λ (y : GlobalVar). p y.ty) d.globals (x ∷ []) g.globals (one_all (λ (y : GlobalVar). p y.ty) x (written (table_of registers) ty f5 of));
        imports = g.imports;
        functions = g.functions;
      })
  kept_good registers line defined d e (statements.Import name ret params) front back is g k =
      subst (Good p) k
      (good_import (is_block_write full name) (with_defined full d (statements.Import name ret params)) (import_of (bytes_of full name) ret params line) refl
      (record { types = g.types; globals = g.globals; imports = g.imports; functions = g.functions }))
  kept_good registers line defined d e (statements.Function name ret params blocks) front back (fresh, plain, (head, before, behind, opening, body, same, w)) g k =
      let f : Function = record { name = bytes_of full name; params = params; locals = local_names full.names (length params) registers; ret = ret; blocks = Some blocks; line = line } in
      subst (Good p) k
      (record {
        types = g.types;
        globals = g.globals;
        imports = g.imports;
        functions =
            more_all (asks_all_for p) d.functions (f ∷ []) g.functions
            (one_all (asks_all_for p) f (body_all (with_registers full (table_of registers)) form places (asks_for p) (asked (table_of registers)) head.numbered head.registers blocks behind back body));
      })

  pub all_good : (fs : List Found) (d e : Draft) → AddAll full form places toks d fs e → Good p d → Good p e
  all_good [] d e says g = subst (Good p) says g
  all_good (f ∷ fs) d e (m, (s, front, back, is, w, k), rest) g =
      all_good fs m e rest (kept_good (registers_in full.names f.statement) (line_shown places f.left) d.defined d m s front back is g k)

-- The module.

nothing_good : (p : IrType → Bool) → Good p no_draft
nothing_good p = record { types = refl; globals = refl; imports = refl; functions = refl }

pub modules_have_lawful_types : (form : TextForm) (text : List ℕ) (m : Module) → IsModule form text m → HasLawfulTypes m
modules_have_lawful_types form text m is =
    let full : Context = full_context is.ir (tables_of form is.ir is.statements) true in
    let types : List NamedType = named_types form is.ir.names is.ir.places is.ir.toks is.statements in
    let same : is.draft.types ≡ types = all_types form is.ir.places full refl is.ir.toks (unknown_context is.ir.names) is.statements nothing_defined [] is.ir.toks no_draft is.draft is.falls refl is.says in
    let inside : Good (is_inside (named_shapes types)) is.draft =
    all_good form is.ir.places full is.ir.toks (is_inside (named_shapes types)) (λ registers t ts h. h.1) is.statements no_draft is.draft is.says (nothing_good (is_inside (named_shapes types))) in
    let limits : list_all (is_such_struct (is_inside (named_shapes types))) types ≡ true = subst (λ ts. list_all (is_such_struct (is_inside (named_shapes types))) ts ≡ true) same inside.types in
    let good : Good (is_lawful_type types) is.draft =
    all_good form is.ir.places full is.ir.toks (is_lawful_type types) (λ registers t ts h. lawful types t limits h.1) is.statements no_draft is.draft is.says (nothing_good (is_lawful_type types)) in
    let here : Good (is_lawful_type is.draft.types) is.draft = subst (λ ts. Good (is_lawful_type ts) is.draft) (sym same) good in
    subst HasLawfulTypes is.is
    (record {
      types = here.types;
      globals = here.globals;
      functions = more_all (asks_all_for (is_lawful_type is.draft.types)) is.draft.imports is.draft.functions here.imports here.functions;
    })
