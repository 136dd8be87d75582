-- Statements: what is in the grammar is read.
use Rattle.std.proofs.Common.{◌≡◌, ℕ, Bool, true, false, Option, Some, None, List, [], ◌∷◌, ◌++◌, Ok, Err, ◌⊎◌, inl, inr, refl, sym, ap, ◌∙◌, subst, append_assoc}
use Rattle.std.specs.Prelude.{not, ◌||◌, if◌then◌else◌}
use Rattle.lx_words.specs.declared.token.Token.{Token}
use Rattle.lx_words.proofs.Tests.{twice_by}
use Rattle.lx_ir_tokens.specs.declared.token.Tok.{Tok}
use Rattle.lx_ir_tokens.specs.declared.token.Kind.{Kind}
use Rattle.lx_ir_tokens.specs.declared.token.Kind.TheVariants as kinds
use Rattle.lx_ir_tokens.specs.declared.token.Mark.TheVariants.{Comma, Hash, OpenBrace}
use Rattle.lx_ir_tokens.specs.declared.keyword.StatementWord.TheVariants as words
use Rattle.lx_ir_tokens.specs.declared.keyword.Keyword.TheVariants as keywords
use Rattle.lx_ir.specs.declared.types.Scalar.{Scalar}
use Rattle.lx_ir.specs.declared.module.Parameter.{Parameter}
use Rattle.lx_ir.specs.declared.module.Block.{Block}
use Rattle.lx_ir.specs.IrType.{IrType}
use Rattle.lx_ir.specs.Init.{Init}
use Rattle.lx_ir_terms.specs.Context.{Context}
use Rattle.lx_ir_terms.specs.Reading.{Read, ◌>>=◌, has, behind, is_mark}
use Rattle.lx_ir_terms.specs.Grammar.{Part, Picks, Is, IsMark, ◌then◌}
use Rattle.lx_ir_terms.specs.Laws.{Reads}
use Rattle.lx_ir_terms.proofs.Marks.{mark_is}
use Rattle.lx_ir_constants.specs.Constants.{first_name}
use Rattle.lx_ir_calls.specs.declared.intrinsics.TextForm.{TextForm}
use Rattle.lx_ir_statements.specs.declared.head.Head.{Head}
use Rattle.lx_ir_statements.specs.Numbers.{has_number}
use Rattle.lx_ir_statements.specs.Words.{is_any_word, is_import_word, has_import_attribute, has_function_attribute}
use Rattle.lx_ir_statements.specs.Parameters.{local_name}
use Rattle.lx_ir_statements.specs.HeadGrammar.{IsResult, IsHead, AreImportParameters}
use Rattle.lx_ir_statements.proofs.WordLaws.{result_reads, import_attributes_again, function_attributes_again}
use Rattle.lx_ir_statements.proofs.ParameterLaws.{heads_again}
use Rattle.lx_ir_statements.proofs.ImportLaws.{import_parameters_read}
use Rattle.lx_ir_operands.specs.Grammar.{Repeated, IsAttribute}
use Rattle.lx_ir_statements.specs.BlockGrammar.{IsBody}
use Rattle.lx_ir_statements.proofs.RunLaws.{InstrLaws}
use Rattle.lx_ir_statements.proofs.BlockLaws.{body_again}
use Rattle.lx_ir_statements.specs.declared.form.Statement.{Statement}
use Rattle.lx_ir_statements.specs.declared.form.Statement.TheVariants as statements
use Rattle.lx_ir_statements.specs.declared.defined.Defined.{Defined}
use Rattle.lx_ir_statements.specs.Defined.{is_block_write, is_imported_twice}
use Rattle.lx_ir_statements.specs.Statements.{symbol_name, next_symbol, symbol_at, import_name_at, new_function_name_at, new_type_at, type_statement_at, global_at, import_behind, function_behind, statement_by, statement_at}
use Rattle.lx_ir_statements.specs.Grammar.{IsSymbol, IsNewType, is_declare_word, is_define_word, IsImport, IsOpening, IsFunction, IsGlobal, IsStatement}
use Rattle.lx_ir_statements.specs.Laws.{begins_statement, may_follow}
use Rattle.lx_ir_statements.proofs.TypeNames.{local_name_is, new_type_again}
use Rattle.lx_ir_statements.proofs.GlobalLaws.{global_again}

-- What may follow a statement.

begins_no_comma : (k : Kind) → begins_statement k ≡ true → is_mark Comma k ≡ false
begins_no_comma (kinds.Mark m) e = cc
begins_no_comma (kinds.Word w) e = refl
begins_no_comma kinds.Local e = refl
begins_no_comma kinds.Global e = refl
begins_no_comma k e = cc

follow_no_comma : (us : List Tok) → may_follow us ≡ true → has (is_mark Comma) us ≡ false
follow_no_comma [] e = refl
follow_no_comma (t ∷ us) e = begins_no_comma t.kind e

abbrev import_goes : Kind → Bool
import_goes k = is_mark Hash k || is_import_word k

begins_no_word : (k : Kind) → begins_statement k ≡ true → import_goes k ≡ false
begins_no_word kinds.Local e = refl
begins_no_word kinds.Global e = refl
begins_no_word (kinds.Word (keywords.Statement words.Declare)) e = refl
begins_no_word (kinds.Word (keywords.Statement words.Define)) e = refl
begins_no_word k e = cc

follow_no_word : (us : List Tok) → may_follow us ≡ true → has_import_attribute us ≡ false
follow_no_word [] e = refl
follow_no_word (t ∷ us) e = begins_no_word t.kind e

-- Words.

pub declare_is : (k : Kind) → is_declare_word k ≡ true → k ≡ kinds.Word (keywords.Statement words.Declare)
declare_is (kinds.Word (keywords.Statement words.Declare)) e = refl
declare_is k e = cc

pub define_is : (k : Kind) → is_define_word k ≡ true → k ≡ kinds.Word (keywords.Statement words.Define)
define_is (kinds.Word (keywords.Statement words.Define)) e = refl
define_is k e = cc

abbrev function_goes : Kind → Bool
function_goes k = is_mark Hash k || is_any_word k

brace_no_word : (k : Kind) → is_mark OpenBrace k ≡ true → function_goes k ≡ false
brace_no_word k e = ap function_goes (mark_is OpenBrace k e)

-- A statement by its first token.

module _ (context : Context) (form : TextForm) (places : List Token) (defined : Defined) where
  local_statement : (t : Tok) (ts : List Tok) → t.kind ≡ kinds.Local → statement_at context form places defined (t ∷ ts) ≡ type_statement_at context defined (t ∷ ts)
  local_statement t ts e = ap (λ k. statement_by context form places defined k (t ∷ ts)) e

  global_statement : (t : Tok) (ts : List Tok) → t.kind ≡ kinds.Global → statement_at context form places defined (t ∷ ts) ≡ global_at context defined (t ∷ ts)
  global_statement t ts e = ap (λ k. statement_by context form places defined k (t ∷ ts)) e

  declare_statement : (t : Tok) (ts : List Tok) → t.kind ≡ kinds.Word (keywords.Statement words.Declare) → statement_at context form places defined (t ∷ ts) ≡ import_behind context defined ts
  declare_statement t ts e = ap (λ k. statement_by context form places defined k (t ∷ ts)) e

  define_statement : (t : Tok) (ts : List Tok) → t.kind ≡ kinds.Word (keywords.Statement words.Define) → statement_at context form places defined (t ∷ ts) ≡ function_behind context form places defined ts
  define_statement t ts e = ap (λ k. statement_by context form places defined k (t ∷ ts)) e

  -- Types.

  type_unless : (ts : List Tok) → has_number defined.types (first_name ts) ≡ false → type_statement_at context defined ts ≡ new_type_at context ts
  type_unless ts e = rw e refl

  types_again : (name : ℕ) (ty : IrType) (ts us : List Tok) → has_number defined.types name ≡ false → IsNewType context name ty ts → statement_at context form places defined (ts ++ us) ≡ Ok (statements.Type name ty, us)
  types_again name ty ts us new (f, b, (t, k, l, p, g), r, w) =
      let n = local_name_is t.kind t.name name l in
      let whole : ts ++ us ≡ t ∷ (b ++ us) = rw (w, g) refl in
      let read = new_type_again context name ty ts us (f, b, (t, k, l, p, g), r, w) in
      let here = subst (λ r. new_type_at context r ≡ Ok (statements.Type name ty, us)) whole read in
      let new' = subst (λ m. has_number defined.types m ≡ false) (sym n.1) new in
      ap (λ r. statement_at context form places defined r) whole ∙ local_statement t (b ++ us) n.0 ∙ type_unless (t ∷ (b ++ us)) new' ∙ here

  -- Globals.

  symbol_is : (k : Kind) (n name : ℕ) → symbol_name k n ≡ Some name → k ≡ kinds.Global
  symbol_is kinds.Global n name e = refl
  symbol_is k n name e = cc

  globals_again : (name : ℕ) (constant : Bool) (ty : IrType) (init : Init) (ts us : List Tok) → has_number defined.symbols name ≡ false → may_follow us ≡ true → IsGlobal context name constant ty init ts → statement_at context form places defined (ts ++ us) ≡ Ok (statements.Global name constant ty init, us)
  globals_again name constant ty init ts us new follow (f, b, (t, e, g), r, w) =
      let whole : ts ++ us ≡ t ∷ (b ++ us) = rw (w, g) refl in
      let read = global_again context defined name constant ty init ts us new (follow_no_comma us follow) (f, b, (t, e, g), r, w) in
      let here = subst (λ r. global_at context defined r ≡ Ok (statements.Global name constant ty init, us)) whole read in
      ap (λ r. statement_at context form places defined r) whole ∙ global_statement t (b ++ us) (symbol_is t.kind t.name name e) ∙ here

  -- Imports.

  abbrev MayImport : ℕ → Type 0
  MayImport name = (has_number defined.symbols name ≡ false) ⊎ (is_block_write context name ≡ true)

  not_twice : (name : ℕ) → MayImport name → is_imported_twice context defined (Some name) ≡ false
  not_twice name (inl e) = rw e refl
  not_twice name (inr e) = twice_by (has_number defined.symbols name) (is_block_write context name) e

  import_name_reads : (name : ℕ) → MayImport name → Reads (import_name_at context defined) name (IsSymbol name)
  import_name_reads name may ts us (t, e, g) = let n = not_twice name may in rw (g, e, n) refl

  import_again : (name : ℕ) (ret : Option Scalar) (params : List Scalar) (ts us : List Tok) → MayImport name → may_follow us ≡ true → (IsResult ret then IsSymbol name then AreImportParameters params then Repeated IsAttribute) ts → import_behind context defined (ts ++ us) ≡ Ok (statements.Import name ret params, us)
  import_again name ret params ts us may follow (f, b1, r, (n, b2, s, (p, a, ps, attrs, w3), w2), w1) =
      let e3 : b2 ++ us ≡ p ++ (a ++ us) = rw w3 (append_assoc p a us) in
      let e2 : b1 ++ us ≡ n ++ (p ++ (a ++ us)) = rw w2 (append_assoc n b2 us ∙ ap (λ r. n ++ r) e3) in
      let whole : ts ++ us ≡ f ++ (n ++ (p ++ (a ++ us))) = rw w1 (append_assoc f b1 us ∙ ap (λ r. f ++ r) e2) in
      let result = result_reads ret f (n ++ (p ++ (a ++ us))) r in
      let named = import_name_reads name may n (p ++ (a ++ us)) s in
      let listed = import_parameters_read params p (a ++ us) ps in
      let over = import_attributes_again tt a us (follow_no_word us follow) attrs in
      rw (whole, result, named, listed, over) refl

  imports_again : (name : ℕ) (ret : Option Scalar) (params : List Scalar) (ts us : List Tok) → MayImport name → may_follow us ≡ true → IsImport name ret params ts → statement_at context form places defined (ts ++ us) ≡ Ok (statements.Import name ret params, us)
  imports_again name ret params ts us may follow (f, b, (t, e, g), r, w) =
      let whole : ts ++ us ≡ t ∷ (b ++ us) = rw (w, g) refl in
      ap (λ r. statement_at context form places defined r) whole ∙ declare_statement t (b ++ us) (declare_is t.kind e) ∙ import_again name ret params b us may follow r

  -- Functions.

  function_name_reads : (name : ℕ) → has_number defined.symbols name ≡ false → is_block_write context name ≡ false → Reads (new_function_name_at context defined) name (IsSymbol name)
  function_name_reads name new plain ts us (t, e, g) = rw (g, e, new, plain) refl

  function_again : InstrLaws context form → (name : ℕ) (ret : Option Scalar) (head : Head) (blocks : List Block) (opening back us : List Tok) → has_number defined.symbols name ≡ false → is_block_write context name ≡ false → (IsResult ret then IsSymbol name then IsHead context head then Repeated IsAttribute then IsMark OpenBrace) opening → IsBody context form places head.numbered head.registers blocks back us → function_behind context form places defined (opening ++ (back ++ us)) ≡ Ok (statements.Function name ret head.params blocks, us)
  function_again laws name ret head blocks opening back us new plain (f, b1, r, (n, b2, s, (h, b3, hs, (a, b4, attrs, (o, k, g), w4), w3), w2), w1) body =
      let rest = back ++ us in
      let e4 : b3 ++ rest ≡ a ++ (o ∷ rest) = rw (w4, g) (append_assoc a (o ∷ []) rest) in
      let e3 : b2 ++ rest ≡ h ++ (a ++ (o ∷ rest)) = rw w3 (append_assoc h b3 rest ∙ ap (λ r. h ++ r) e4) in
      let e2 : b1 ++ rest ≡ n ++ (h ++ (a ++ (o ∷ rest))) = rw w2 (append_assoc n b2 rest ∙ ap (λ r. n ++ r) e3) in
      let whole : opening ++ rest ≡ f ++ (n ++ (h ++ (a ++ (o ∷ rest)))) = rw w1 (append_assoc f b1 rest ∙ ap (λ r. f ++ r) e2) in
      let result = result_reads ret f (n ++ (h ++ (a ++ (o ∷ rest)))) r in
      let named = function_name_reads name new plain n (h ++ (a ++ (o ∷ rest))) s in
      let head' = heads_again context head h (a ++ (o ∷ rest)) hs in
      let over = function_attributes_again tt a (o ∷ rest) (brace_no_word o.kind k) attrs in
      let blocks' = body_again context form laws places head.numbered head.registers blocks back us body in
      rw (whole, result, named, head', over, k, blocks') refl

  functions_again : InstrLaws context form → (name : ℕ) (ret : Option Scalar) (params : List Parameter) (blocks : List Block) (ts us : List Tok) → has_number defined.symbols name ≡ false → is_block_write context name ≡ false → IsFunction context form places name ret params blocks ts us → statement_at context form places defined (ts ++ us) ≡ Ok (statements.Function name ret params blocks, us)
  functions_again laws name ret params blocks ts us new plain (head, front, back, (f, b, (t, e, g), r, w), body, same, v) =
      let whole : ts ++ us ≡ t ∷ (b ++ (back ++ us)) = rw v (append_assoc front back us ∙ rw (w, g) refl) in
      ap (λ r. statement_at context form places defined r) whole
      ∙ define_statement t (b ++ (back ++ us)) (define_is t.kind e)
      ∙ function_again laws name ret head blocks b back us new plain r body
      ∙ ap (λ ps. Ok (statements.Function name ret ps blocks, us)) same

  pub statement_again : InstrLaws context form → (s : Statement) (ts us : List Tok) → may_follow us ≡ true → IsStatement context form places defined s ts us → statement_at context form places defined (ts ++ us) ≡ Ok (s, us)
  statement_again laws (statements.Type name ty) ts us follow (new, is) = types_again name ty ts us new is
  statement_again laws (statements.Global name constant ty init) ts us follow (new, is) = globals_again name constant ty init ts us new follow is
  statement_again laws (statements.Import name ret params) ts us follow (may, is) = imports_again name ret params ts us may follow is
  statement_again laws (statements.Function name ret params blocks) ts us follow (new, plain, is) = functions_again laws name ret params blocks ts us new plain is
