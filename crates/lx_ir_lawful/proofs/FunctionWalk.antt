-- What holds of each function that a statement says holds of all functions of a module.
use Rattle.std.proofs.Common.{◌≡◌, ℕ, Bool, true, false, ◌&&◌, Option, Some, List, [], ◌∷◌, ◌++◌, length, refl, sym, ap, ◌∙◌, subst, append_assoc}
use Rattle.std.specs.Prelude.{if◌then◌else◌}
use Rattle.std.specs.List.{list_all}
use Rattle.std.proofs.lemmas.List.Folds.{list_all-append}
use Rattle.std.proofs.lemmas.Bool.{and_from}
use Rattle.lx_words.specs.declared.token.Token.{Token}
use Rattle.lx_ir.specs.declared.types.Scalar.{Scalar}
use Rattle.lx_ir.specs.declared.module.Parameter.{Parameter}
use Rattle.lx_ir.specs.declared.module.Block.{Block}
use Rattle.lx_ir.specs.declared.module.Function.{Function}
use Rattle.lx_ir.specs.declared.module.Module.{Module}
use Rattle.lx_ir_tokens.specs.declared.token.Tok.{Tok}
use Rattle.lx_ir_terms.specs.Context.{Context, bytes_of}
use Rattle.lx_ir_calls.specs.declared.intrinsics.TextForm.{TextForm}
use Rattle.lx_ir_statements.specs.declared.form.Statement.{Statement}
use Rattle.lx_ir_statements.specs.declared.form.Statement.TheVariants as statements
use Rattle.lx_ir_statements.specs.declared.defined.Defined.{Defined}
use Rattle.lx_ir_statements.specs.Defined.{nothing_defined, is_block_write, with_statement}
use Rattle.lx_ir_statements.specs.Grammar.{IsFunction, IsStatement}
use Rattle.lx_ir_tables.specs.Numbering.{table_of}
use Rattle.lx_ir_read.specs.Fault.{line_shown}
use Rattle.lx_ir_read.specs.declared.first.Found.{Found}
use Rattle.lx_ir_read.specs.declared.draft.Draft.{Draft}
use Rattle.lx_ir_read.specs.First.{unknown_context}
use Rattle.lx_ir_read.specs.Tables.{tokens_left}
use Rattle.lx_ir_read.specs.Again.{no_draft, registers_in, with_registers, with_defined, with_declared, import_of, local_names, kept}
use Rattle.lx_ir_read.specs.Reading.{tables_of, full_context}
use Rattle.lx_ir_read.specs.Grammar.{AreStatements, AddAll, IsModule}
use Rattle.lx_ir_lawful.proofs.Sizes.{left_there}
use Rattle.lx_ir_lawful.specs.FunctionLaws.{last_context}

pub one_more : (p : Function → Bool) (xs : List Function) (x : Function) → list_all p xs ≡ true → p x ≡ true → list_all p (xs ++ x ∷ []) ≡ true
one_more p xs x h g = list_all-append p xs (x ∷ []) ∙ and_from (list_all p xs) (p x && true) h (and_from (p x) true g refl)

-- the function that is kept of a statement which the first reading found there
abbrev pub function_of : Context → Statement → ℕ → Option Scalar → List Parameter → List Block → ℕ → Function
function_of full t name ret params blocks line = record {
  name = bytes_of full name;
  params = params;
  locals = local_names full.names (length params) (registers_in full.names t);
  ret = ret;
  blocks = Some blocks;
  line = line;
}

pub record Good (q : Function → Bool) (d : Draft) : Type 0 where
  pub imports : list_all q d.imports ≡ true
  pub functions : list_all q d.functions ≡ true

module _ (form : TextForm) (places : List Token) (full : Context) (toks : List Tok) where
  -- a function as the last reading says it, where the first reading found this statement
  pub record SaidTwice (t : Statement) (name : ℕ) (ret : Option Scalar) (params : List Parameter) (blocks : List Block) : Type 0 where
    pub left : ℕ
    pub ts : List Tok
    pub us : List Tok
    pub is : IsFunction (with_registers full (table_of (registers_in full.names t))) form places name ret params blocks ts us
    -- no text defines a block write
    pub plain : is_block_write full name ≡ false
    pub there : tokens_left left toks ≡ ts ++ us
    pub defined : Defined
    pub front : List Tok
    pub back : List Tok
    pub first : IsStatement (unknown_context full.names) form places defined t front back
    pub here : tokens_left left toks ≡ front ++ back

  module _ (q : Function → Bool) (imported : (name : List ℕ) (ret : Option Scalar) (params : List Scalar) (line : ℕ) → q (import_of name ret params line) ≡ true)
      (each : (t : Statement) (name : ℕ) (ret : Option Scalar) (params : List Parameter) (blocks : List Block) (line : ℕ) → SaidTwice t name ret params blocks → q (function_of full t name ret params blocks line) ≡ true) where
    import_good : (b : Bool) (d : Draft) (f : Function) → q f ≡ true → Good q d → Good q (if b then d else with_declared d f)
    import_good true d f h g = g
    import_good false d f h g = record { imports = one_more q d.imports f g.imports h; functions = g.functions }

    kept_good : (d : Draft) (t s : Statement) (line left : ℕ) (earlier : Defined) (ts us front back : List Tok)
        → IsStatement (with_registers full (table_of (registers_in full.names t))) form places d.defined s ts us → tokens_left left toks ≡ ts ++ us
        → IsStatement (unknown_context full.names) form places earlier t front back → tokens_left left toks ≡ front ++ back
        → Good q d → Good q (kept full (registers_in full.names t) line (with_defined full d s) s)
    kept_good d t (statements.Type name ty) line left earlier ts us front back is there first here g = record { imports = g.imports; functions = g.functions }
    kept_good d t (statements.Global name constant ty init) line left earlier ts us front back is there first here g = record { imports = g.imports; functions = g.functions }
    kept_good d t (statements.Import name ret params) line left earlier ts us front back is there first here g =
        import_good (is_block_write full name) (with_defined full d (statements.Import name ret params)) (import_of (bytes_of full name) ret params line) (imported (bytes_of full name) ret params line) (record { imports = g.imports; functions = g.functions })
    kept_good d t (statements.Function name ret params blocks) line left earlier ts us front back (fresh, plain, is) there first here g =
        let said : SaidTwice t name ret params blocks =
        record { left = left; ts = ts; us = us; is = is; plain = plain; there = there; defined = earlier; front = front; back = back; first = first; here = here } in
        record {
          imports = g.imports;
          functions = one_more q d.functions (function_of full t name ret params blocks line) g.functions (each t name ret params blocks line said);
        }

    pub all_good : (fs : List Found) (defined : Defined) (before ts : List Tok) (d e : Draft) → AreStatements (unknown_context full.names) form places defined fs ts → toks ≡ before ++ ts → AddAll full form places toks d fs e → Good q d → Good q e
    all_good [] defined before ts d e falls place says g = subst (Good q) says g
    all_good (f ∷ fs) defined before ts d e (front, back, left, first, more, w) place (m, (s, ours, behind, is, there, k), rest) g =
        let here : tokens_left f.left toks ≡ front ++ back = left_there before ts toks f.left left place ∙ w in
        let next : toks ≡ (before ++ front) ++ back = place ∙ ap (λ v. before ++ v) w ∙ sym (append_assoc before front back) in
        all_good fs (with_statement (unknown_context full.names) defined f.statement) (before ++ front) back m e more next rest
        (subst (Good q) k (kept_good d f.statement s (line_shown places f.left) f.left defined ours behind front back is there first here g))

-- What holds of each import, and of each function that is read twice, holds of all functions of the module.
pub functions_pass : (form : TextForm) (text : List ℕ) (m : Module) (is : IsModule form text m) (q : Function → Bool)
    → ((name : List ℕ) (ret : Option Scalar) (params : List Scalar) (line : ℕ) → q (import_of name ret params line) ≡ true)
    → ((t : Statement) (name : ℕ) (ret : Option Scalar) (params : List Parameter) (blocks : List Block) (line : ℕ)
    → SaidTwice form is.ir.places (last_context form text m is) is.ir.toks t name ret params blocks → q (function_of (last_context form text m is) t name ret params blocks line) ≡ true)
    → list_all q m.functions ≡ true
functions_pass form text m is q imported each =
    let full : Context = full_context is.ir (tables_of form is.ir is.statements) true in
    let g : Good q is.draft =
    all_good form is.ir.places full is.ir.toks q imported each is.statements nothing_defined [] is.ir.toks no_draft is.draft is.falls refl is.says (record { imports = refl; functions = refl }) in
    let both : list_all q (is.draft.imports ++ is.draft.functions) ≡ true =
    list_all-append q is.draft.imports is.draft.functions ∙ and_from (list_all q is.draft.imports) (list_all q is.draft.functions) g.imports g.functions in
    subst (λ (n : Module). list_all q n.functions ≡ true) is.is both
