-- How a statement is read up to its last part, which may be longer than is said here. What that last part is hangs on tokens
-- alone, and so it is read alike by each context.
use Rattle.std.proofs.Common.{◌≡◌, ℕ, Bool, true, false, Option, Some, List, [], ◌∷◌, ◌++◌, Ok, ◌⊎◌, inl, inr, refl, sym, ap, ◌∙◌, subst, append_assoc}
use Rattle.std.specs.Prelude.{not, ◌||◌, if◌then◌else◌}
use Rattle.lx_words.specs.declared.token.Token.{Token}
use Rattle.lx_words.proofs.Tests.{twice_by}
use Rattle.lx_ir_tokens.specs.declared.token.Tok.{Tok}
use Rattle.lx_ir_tokens.specs.declared.token.Kind.{Kind}
use Rattle.lx_ir_tokens.specs.declared.token.Kind.TheVariants as kinds
use Rattle.lx_ir_tokens.specs.declared.token.Mark.TheVariants.{Hash, OpenBrace}
use Rattle.lx_ir_tokens.specs.declared.keyword.StatementWord.TheVariants as words
use Rattle.lx_ir_tokens.specs.declared.keyword.Keyword.TheVariants as keywords
use Rattle.lx_ir.specs.declared.types.Scalar.{Scalar}
use Rattle.lx_ir.specs.declared.module.Parameter.{Parameter}
use Rattle.lx_ir.specs.declared.module.Block.{Block}
use Rattle.lx_ir.specs.IrType.{IrType}
use Rattle.lx_ir.specs.Init.{Init}
use Rattle.lx_ir_terms.specs.Context.{Context}
use Rattle.lx_ir_terms.specs.Reading.{Read, ◌>>=◌, is_mark}
use Rattle.lx_ir_terms.specs.Types.{depth_limit}
use Rattle.lx_ir_terms.specs.Grammar.{IsMark, ◌then◌}
use Rattle.lx_ir_terms.specs.Laws.{Reads}
use Rattle.lx_ir_terms.proofs.Marks.{mark_is}
use Rattle.lx_ir_terms.proofs.Written.{written_again}
use Rattle.lx_ir_constants.specs.Constants.{first_name}
use Rattle.lx_ir_constants.proofs.InitLaws.{init_again}
use Rattle.lx_ir_calls.specs.declared.intrinsics.TextForm.{TextForm}
use Rattle.lx_ir_statements.specs.declared.head.Head.{Head}
use Rattle.lx_ir_statements.specs.Numbers.{has_number}
use Rattle.lx_ir_statements.specs.Words.{is_any_word, import_attributes_at}
use Rattle.lx_ir_statements.specs.HeadGrammar.{IsResult, IsHead}
use Rattle.lx_ir_statements.proofs.WordLaws.{result_reads, function_attributes_again}
use Rattle.lx_ir_statements.proofs.ParameterLaws.{heads_again}
use Rattle.lx_ir_statements.proofs.ImportLaws.{import_parameters_read}
use Rattle.lx_ir_operands.specs.Grammar.{Repeated, IsAttribute}
use Rattle.lx_ir_statements.specs.BlockGrammar.{IsBody}
use Rattle.lx_ir_statements.specs.BlockLaws.{BodiesAreRead}
use Rattle.lx_ir_statements.specs.declared.form.Statement.{Statement}
use Rattle.lx_ir_statements.specs.declared.form.Statement.TheVariants as statements
use Rattle.lx_ir_statements.specs.declared.defined.Defined.{Defined}
use Rattle.lx_ir_statements.specs.Defined.{is_block_write, is_imported_twice}
use Rattle.lx_ir_statements.specs.Statements.{symbol_name, global_align_at, import_name_at, new_function_name_at, import_behind, new_type_at, type_statement_at, global_at, function_behind, statement_by, statement_at}
use Rattle.lx_ir_statements.specs.Grammar.{IsSymbol, IsNewType, IsGlobal, IsImport, IsFunction, IsStatement}
use Rattle.lx_ir_statements.proofs.HeadWords.{linkage_over}
use Rattle.lx_ir_statements.proofs.TypeNames.{local_name_is, new_type_again}
use Rattle.lx_ir_statements.proofs.GlobalLaws.{new_symbol_reads, storage_no_linkage}
use Rattle.lx_ir_statements.proofs.StatementLaws.{declare_is, define_is}
use Rattle.lx_ir_lawful.specs.Alike.{knowing_registers, AlikeStatements}
use Rattle.lx_ir_lawful.specs.ForgottenLaws.{StatementsAreForgotten}
use Rattle.lx_ir_lawful.proofs.SeenTypes.{unnamed, written_seen}
use Rattle.lx_ir_lawful.proofs.SeenInits.{init_seen}

-- the statement, where a last part that says nothing is read so
abbrev pub ended : Statement → Read (Unit {0}) → Read Statement
ended s last = last >>= λ x. Ok (s, x.1)

-- Words.

symbol_is : (k : Kind) (n name : ℕ) → symbol_name k n ≡ Some name → k ≡ kinds.Global
symbol_is kinds.Global n name e = refl
symbol_is k n name e = cc

abbrev function_goes : Kind → Bool
function_goes k = is_mark Hash k || is_any_word k

brace_no_word : (k : Kind) → is_mark OpenBrace k ≡ true → function_goes k ≡ false
brace_no_word k e = ap function_goes (mark_is OpenBrace k e)

-- The last parts: an alignment behind a global, and words behind an import.

abbrev alignment_in : (c : Context) (name : ℕ) (constant : Bool) (ty : IrType) (init : Init) (ts : List Tok) → IsGlobal c name constant ty init ts → List Tok
alignment_in c name constant ty init ts (f1, b1, n, (f2, b2, e, (ws, b3, al, (f4, b4, k, (t, b5, pt, (i, a, pi, pa, w6), w5), w4), w3), w2), w1) = a

abbrev attributes_in : (name : ℕ) (ret : Option Scalar) (params : List Scalar) (ts : List Tok) → IsImport name ret params ts → List Tok
attributes_in name ret params ts (f, b, d, (f1, b1, r, (n, b2, s, (p, a, ps, attrs, w3), w2), w1), w) = a

module _ (form : TextForm) (places : List Token) (c : Context) (defined : Defined) where
  by_kind : (k : Kind) (t : Tok) (ts : List Tok) → t.kind ≡ k → statement_at c form places defined (t ∷ ts) ≡ statement_by c form places defined k (t ∷ ts)
  by_kind k t ts e = ap (λ j. statement_by c form places defined j (t ∷ ts)) e

  -- Types.

  type_unless : (ts : List Tok) → has_number defined.types (first_name ts) ≡ false → type_statement_at c defined ts ≡ new_type_at c ts
  type_unless ts e = rw e refl

  pub type_ends : (name : ℕ) (ty : IrType) (ts us : List Tok) → has_number defined.types name ≡ false → IsNewType c name ty ts → statement_at c form places defined (ts ++ us) ≡ Ok (statements.Type name ty, us)
  type_ends name ty ts us new (f, b, (t, k, l, p, g), r, w) =
      let n = local_name_is t.kind t.name name l in
      let whole : ts ++ us ≡ t ∷ (b ++ us) = rw (w, g) refl in
      let read = new_type_again c name ty ts us (f, b, (t, k, l, p, g), r, w) in
      let here = subst (λ r. new_type_at c r ≡ Ok (statements.Type name ty, us)) whole read in
      let new' = subst (λ m. has_number defined.types m ≡ false) (sym n.1) new in
      ap (λ r. statement_at c form places defined r) whole ∙ by_kind kinds.Local t (b ++ us) n.0 ∙ type_unless (t ∷ (b ++ us)) new' ∙ here

  -- Globals.

  global_behind : (name : ℕ) (constant : Bool) (ty : IrType) (init : Init) (ts us : List Tok) → has_number defined.symbols name ≡ false → (h : IsGlobal c name constant ty init ts) → global_at c defined (ts ++ us) ≡ ended (statements.Global name constant ty init) (global_align_at (alignment_in c name constant ty init ts h ++ us))
  global_behind name constant ty init ts us new (f1, b1, n, (f2, b2, (q, eq, gq), (ws, b3, al, (f4, b4, (k, ek, gk), (t, b5, pt, (i, a, pi, pa, w6), w5), w4), w3), w2), w1) =
      let last : (i ++ a) ++ us ≡ i ++ (a ++ us) = append_assoc i a us in
      let typed : b4 ++ us ≡ t ++ (i ++ (a ++ us)) = rw (w5, w6) (append_assoc t (i ++ a) us ∙ ap (λ r. t ++ r) last) in
      let stored : b3 ++ us ≡ k ∷ (t ++ (i ++ (a ++ us))) = rw (w4, gk) (ap (λ r. k ∷ r) typed) in
      let worded : b2 ++ us ≡ ws ++ (k ∷ (t ++ (i ++ (a ++ us)))) = rw w3 (append_assoc ws b3 us ∙ ap (λ r. ws ++ r) stored) in
      let named : b1 ++ us ≡ q ∷ (ws ++ (k ∷ (t ++ (i ++ (a ++ us))))) = rw (w2, gq) (ap (λ r. q ∷ r) worded) in
      let whole : ts ++ us ≡ f1 ++ (q ∷ (ws ++ (k ∷ (t ++ (i ++ (a ++ us)))))) = rw w1 (append_assoc f1 b1 us ∙ ap (λ r. f1 ++ r) named) in
      let first = new_symbol_reads defined name new f1 (q ∷ (ws ++ (k ∷ (t ++ (i ++ (a ++ us)))))) n in
      let over = linkage_over ws (k ∷ (t ++ (i ++ (a ++ us)))) al (storage_no_linkage k.kind constant ek) in
      let typ = written_again c ty t (i ++ (a ++ us)) pt in
      let initial = init_again c depth_limit ty init i (a ++ us) pi in
      rw (whole, first, eq, over, ek, typ, initial) refl

  pub global_ends : (name : ℕ) (constant : Bool) (ty : IrType) (init : Init) (ts us : List Tok) → has_number defined.symbols name ≡ false → (h : IsGlobal c name constant ty init ts) → statement_at c form places defined (ts ++ us) ≡ ended (statements.Global name constant ty init) (global_align_at (alignment_in c name constant ty init ts h ++ us))
  global_ends name constant ty init ts us new (f, b, (t, e, g), r, w) =
      let whole : ts ++ us ≡ t ∷ (b ++ us) = rw (w, g) refl in
      let read = global_behind name constant ty init ts us new (f, b, (t, e, g), r, w) in
      ap (λ r. statement_at c form places defined r) whole ∙ by_kind kinds.Global t (b ++ us) (symbol_is t.kind t.name name e) ∙ ap (global_at c defined) (sym whole) ∙ read

  -- Imports.

  abbrev pub MayImport : ℕ → Type 0
  MayImport name = (has_number defined.symbols name ≡ false) ⊎ (is_block_write c name ≡ true)

  not_twice : (name : ℕ) → MayImport name → is_imported_twice c defined (Some name) ≡ false
  not_twice name (inl e) = rw e refl
  not_twice name (inr e) = twice_by (has_number defined.symbols name) (is_block_write c name) e

  import_name_reads : (name : ℕ) → MayImport name → Reads (import_name_at c defined) name (IsSymbol name)
  import_name_reads name may ts us (t, e, g) = let n = not_twice name may in rw (g, e, n) refl

  pub import_ends : (name : ℕ) (ret : Option Scalar) (params : List Scalar) (ts us : List Tok) → MayImport name → (h : IsImport name ret params ts) → statement_at c form places defined (ts ++ us) ≡ ended (statements.Import name ret params) (import_attributes_at (attributes_in name ret params ts h ++ us))
  import_ends name ret params ts us may (f0, b0, (t, e, g), (f, b1, r, (n, b2, s, (p, a, ps, attrs, w3), w2), w1), w) =
      let first : ts ++ us ≡ t ∷ (b0 ++ us) = rw (w, g) refl in
      let e3 : b2 ++ us ≡ p ++ (a ++ us) = rw w3 (append_assoc p a us) in
      let e2 : b1 ++ us ≡ n ++ (p ++ (a ++ us)) = rw w2 (append_assoc n b2 us ∙ ap (λ r. n ++ r) e3) in
      let whole : b0 ++ us ≡ f ++ (n ++ (p ++ (a ++ us))) = rw w1 (append_assoc f b1 us ∙ ap (λ r. f ++ r) e2) in
      let result = result_reads ret f (n ++ (p ++ (a ++ us))) r in
      let named = import_name_reads name may n (p ++ (a ++ us)) s in
      let listed = import_parameters_read params p (a ++ us) ps in
      let behind : import_behind c defined (b0 ++ us) ≡ ended (statements.Import name ret params) (import_attributes_at (a ++ us)) = rw (whole, result, named, listed) refl in
      ap (λ r. statement_at c form places defined r) first ∙ by_kind (kinds.Word (keywords.Statement words.Declare)) t (b0 ++ us) (declare_is t.kind e) ∙ behind

  -- Functions.

  function_name_reads : (name : ℕ) → has_number defined.symbols name ≡ false → is_block_write c name ≡ false → Reads (new_function_name_at c defined) name (IsSymbol name)
  function_name_reads name new plain ts us (t, e, g) = rw (g, e, new, plain) refl

  function_again : BodiesAreRead → (name : ℕ) (ret : Option Scalar) (head : Head) (blocks : List Block) (opening back us : List Tok) → has_number defined.symbols name ≡ false → is_block_write c name ≡ false → (IsResult ret then IsSymbol name then IsHead c head then Repeated IsAttribute then IsMark OpenBrace) opening → IsBody c form places head.numbered head.registers blocks back us → function_behind c form places defined (opening ++ (back ++ us)) ≡ Ok (statements.Function name ret head.params blocks, us)
  function_again bodies name ret head blocks opening back us new plain (f, b1, r, (n, b2, s, (h, b3, hs, (a, b4, attrs, (o, k, g), w4), w3), w2), w1) body =
      let rest = back ++ us in
      let e4 : b3 ++ rest ≡ a ++ (o ∷ rest) = rw (w4, g) (append_assoc a (o ∷ []) rest) in
      let e3 : b2 ++ rest ≡ h ++ (a ++ (o ∷ rest)) = rw w3 (append_assoc h b3 rest ∙ ap (λ r. h ++ r) e4) in
      let e2 : b1 ++ rest ≡ n ++ (h ++ (a ++ (o ∷ rest))) = rw w2 (append_assoc n b2 rest ∙ ap (λ r. n ++ r) e3) in
      let whole : opening ++ rest ≡ f ++ (n ++ (h ++ (a ++ (o ∷ rest)))) = rw w1 (append_assoc f b1 rest ∙ ap (λ r. f ++ r) e2) in
      let result = result_reads ret f (n ++ (h ++ (a ++ (o ∷ rest)))) r in
      let named = function_name_reads name new plain n (h ++ (a ++ (o ∷ rest))) s in
      let head' = heads_again c head h (a ++ (o ∷ rest)) hs in
      let over = function_attributes_again tt a (o ∷ rest) (brace_no_word o.kind k) attrs in
      let blocks' = bodies c form places head.numbered head.registers blocks back us body in
      rw (whole, result, named, head', over, k, blocks') refl

  pub function_ends : BodiesAreRead → (name : ℕ) (ret : Option Scalar) (params : List Parameter) (blocks : List Block) (ts us : List Tok) → has_number defined.symbols name ≡ false → is_block_write c name ≡ false → IsFunction c form places name ret params blocks ts us → statement_at c form places defined (ts ++ us) ≡ Ok (statements.Function name ret params blocks, us)
  function_ends bodies name ret params blocks ts us new plain (head, front, back, (f, b, (t, e, g), r, w), body, same, v) =
      let whole : ts ++ us ≡ t ∷ (b ++ (back ++ us)) = rw v (append_assoc front back us ∙ rw (w, g) refl) in
      ap (λ r. statement_at c form places defined r) whole
      ∙ by_kind (kinds.Word (keywords.Statement words.Define)) t (b ++ (back ++ us)) (define_is t.kind e)
      ∙ function_again bodies name ret head blocks b back us new plain r body
      ∙ ap (λ ps. Ok (statements.Function name ret ps blocks, us)) same

-- Statements, by a context that knows their names and by one that knows none.

module _ (bodies : BodiesAreRead) (forget : StatementsAreForgotten) (form : TextForm) (places : List Token) (c : Context) (registers : List (Option ℕ)) (defined : Defined) where
  abbrev u : Context
  u = knowing_registers c.names registers

  -- both read these tokens up to one place, and say statements that are alike where the last part is read there
  pub record ReadsAlike (s : Statement) (ts us : List Tok) : Type 0 where
    pub other : Statement
    pub last : Read (Unit {0})
    pub known : statement_at c form places defined (ts ++ us) ≡ ended s last
    pub unknown : statement_at u form places defined (ts ++ us) ≡ ended other last
    pub alike : AlikeStatements c u s other

  type_alike : (name : ℕ) (ty : IrType) (t : Statement) (ts us : List Tok) → IsStatement c form places defined (statements.Type name ty) ts us → IsStatement u form places defined t ts us → AlikeStatements c u (statements.Type name ty) t → ReadsAlike (statements.Type name ty) ts us
  type_alike name ty (statements.Type k v) ts us (new, is) (new', is') alike = record {
    other = statements.Type k v;
    last = Ok (tt, us);
    known = type_ends form places c defined name ty ts us new is;
    unknown = type_ends form places u defined k v ts us new' is';
    alike = alike;
  }
  type_alike name ty t ts us is is' alike = absurd alike

  function_alike : (name : ℕ) (ret : Option Scalar) (params : List Parameter) (blocks : List Block) (t : Statement) (ts us : List Tok) → IsStatement c form places defined (statements.Function name ret params blocks) ts us → IsStatement u form places defined t ts us → AlikeStatements c u (statements.Function name ret params blocks) t → ReadsAlike (statements.Function name ret params blocks) ts us
  function_alike name ret params blocks (statements.Function k r ps bs) ts us (new, plain, is) (new', plain', is') alike = record {
    other = statements.Function k r ps bs;
    last = Ok (tt, us);
    known = function_ends form places c defined bodies name ret params blocks ts us new plain is;
    unknown = function_ends form places u defined bodies k r ps bs ts us new' plain' is';
    alike = alike;
  }
  function_alike name ret params blocks t ts us is is' alike = absurd alike

  global_alike : (name : ℕ) (constant : Bool) (ty : IrType) (init : Init) (ts us : List Tok) → has_number defined.symbols name ≡ false → IsGlobal c name constant ty init ts → ReadsAlike (statements.Global name constant ty init) ts us
  global_alike name constant ty init ts us new (f1, b1, n, (f2, b2, e, (ws, b3, al, (f4, b4, k, (t, b5, pt, (i, a, pi, pa, w6), w5), w4), w3), w2), w1) =
      let j = init_seen c registers depth_limit ty init i pi in
      record {
        other = statements.Global name constant (unnamed ty) j.0;
        last = global_align_at (a ++ us);
        known = global_ends form places c defined name constant ty init ts us new (f1, b1, n, (f2, b2, e, (ws, b3, al, (f4, b4, k, (t, b5, pt, (i, a, pi, pa, w6), w5), w4), w3), w2), w1);
        unknown = global_ends form places u defined name constant (unnamed ty) j.0 ts us new (f1, b1, n, (f2, b2, e, (ws, b3, al, (f4, b4, k, (t, b5, written_seen c registers ty t pt, (i, a, j.1, pa, w6), w5), w4), w3), w2), w1);
        alike = (refl, refl);
      }

  import_alike : (name : ℕ) (ret : Option Scalar) (params : List Scalar) (ts us : List Tok) → MayImport form places c defined name → IsImport name ret params ts → ReadsAlike (statements.Import name ret params) ts us
  import_alike name ret params ts us may h = record {
    other = statements.Import name ret params;
    last = import_attributes_at (attributes_in name ret params ts h ++ us);
    known = import_ends form places c defined name ret params ts us may h;
    unknown = import_ends form places u defined name ret params ts us may h;
    alike = (refl, refl, refl);
  }

  pub statement_alike : (s : Statement) (ts us : List Tok) → IsStatement c form places defined s ts us → ReadsAlike s ts us
  statement_alike (statements.Type name ty) ts us is =
      let t = forget c registers form places defined (statements.Type name ty) ts us is in
      type_alike name ty t.0 ts us is t.1 t.2
  statement_alike (statements.Global name constant ty init) ts us (new, is) = global_alike name constant ty init ts us new is
  statement_alike (statements.Import name ret params) ts us (may, is) = import_alike name ret params ts us may is
  statement_alike (statements.Function name ret params blocks) ts us is =
      let t = forget c registers form places defined (statements.Function name ret params blocks) ts us is in
      function_alike name ret params blocks t.0 ts us is t.1 t.2
