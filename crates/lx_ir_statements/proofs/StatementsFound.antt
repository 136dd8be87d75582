-- Statements: what is read is in the grammar.
use Rattle.std.proofs.Common.{◌≡◌, ℕ, zero, suc, Bool, true, false, Option, Some, None, List, [], ◌∷◌, ◌++◌, Ok, Err, ◌⊎◌, inl, inr, refl, sym, ap, ◌∙◌, subst, append_assoc}
use Rattle.std.specs.Prelude.{not, ◌&&◌, if◌then◌else◌}
use Rattle.lx_words.specs.declared.token.Token.{Token}
use Rattle.lx_ir_tokens.specs.declared.token.Tok.{Tok}
use Rattle.lx_ir_tokens.specs.declared.token.Kind.{Kind}
use Rattle.lx_ir_tokens.specs.declared.token.Kind.TheVariants as kinds
use Rattle.lx_ir_tokens.specs.declared.token.Mark.{Mark}
use Rattle.lx_ir_tokens.specs.declared.token.Mark.TheVariants.{Equal, OpenBrace, OpenBracket, Less}
use Rattle.lx_ir_tokens.specs.declared.keyword.StatementWord.TheVariants as words
use Rattle.lx_ir_tokens.specs.declared.keyword.Keyword.TheVariants as keywords
use Rattle.lx_ir.specs.declared.types.Scalar.{Scalar}
use Rattle.lx_ir.specs.declared.module.Block.{Block}
use Rattle.lx_ir.specs.IrType.{IrType, One, Array, Struct, Packed, Named}
use Rattle.lx_ir.specs.Layout.{is_struct}
use Rattle.lx_ir_terms.specs.declared.fault.FaultKind.TheVariants.{Twice, OutOfProfile}
use Rattle.lx_ir_terms.specs.Context.{Context, type_number}
use Rattle.lx_ir_terms.specs.Reading.{Read, ◌>>=◌, at, has, behind, is_mark, next_at, mark_at}
use Rattle.lx_ir_terms.specs.Types.{written_type_at, flat_of, named_type, depth_limit, always_refused}
use Rattle.lx_ir_terms.specs.Words.{passed_result_at}
use Rattle.lx_ir_terms.specs.Grammar.{Part, Picks, Is, IsMark, ◌then◌, IsType, IsWritten}
use Rattle.lx_ir_terms.proofs.Marks.{mark_is}
use Rattle.lx_ir_terms.proofs.Parts.{pick_finds, next_finds, bind_ok, ok_same}
use Rattle.lx_ir_terms.proofs.Written.{written_found}
use Rattle.lx_ir_terms.proofs.Stopping.{same_head}
use Rattle.lx_ir_constants.specs.Constants.{first_name}
use Rattle.lx_ir_calls.specs.declared.intrinsics.TextForm.{TextForm}
use Rattle.lx_ir_operands.specs.Grammar.{Repeated, IsAttribute}
use Rattle.lx_ir_statements.specs.declared.head.Head.{Head}
use Rattle.lx_ir_statements.specs.Numbers.{has_number, has_some}
use Rattle.lx_ir_statements.specs.Words.{import_attributes_at, function_attributes_at}
use Rattle.lx_ir_statements.specs.Parameters.{local_name, parameters_at}
use Rattle.lx_ir_statements.specs.Imports.{import_parameters_at}
use Rattle.lx_ir_statements.specs.HeadGrammar.{IsResult, IsHead, AreImportParameters}
use Rattle.lx_ir_statements.proofs.WordLaws.{result_finds, import_attributes_found, function_attributes_found}
use Rattle.lx_ir_statements.proofs.ParametersFound.{heads_found}
use Rattle.lx_ir_statements.proofs.ImportLaws.{import_parameters_found}
use Rattle.lx_ir_statements.specs.Blocks.{blocks_at}
use Rattle.lx_ir_statements.specs.BlockGrammar.{IsBody}
use Rattle.lx_ir_statements.proofs.RunLaws.{InstrLaws}
use Rattle.lx_ir_statements.proofs.BlockLaws.{body_found}
use Rattle.lx_ir_statements.specs.declared.form.Statement.{Statement}
use Rattle.lx_ir_statements.specs.declared.form.Statement.TheVariants as statements
use Rattle.lx_ir_statements.specs.declared.defined.Defined.{Defined}
use Rattle.lx_ir_statements.specs.Defined.{is_block_write, is_imported_twice, names_block_write}
use Rattle.lx_ir_statements.specs.Statements.{is_type_word, opens_struct, refused_here, struct_at, new_type_at, type_statement_at, symbol_name, next_symbol, symbol_at, import_name_at, new_function_name_at, global_at, import_behind, function_behind, statement_by, statement_at}
use Rattle.lx_ir_statements.specs.Grammar.{IsTypeName, IsStruct, IsNewType, IsSymbol, is_declare_word, is_define_word, IsImport, IsOpening, IsFunction, IsStatement}
use Rattle.lx_ir_statements.proofs.GlobalLaws.{next_is, global_found, unless}

-- Types with names.

no_scalar : (context : Context) (n : ℕ) (k : Option ℕ) (s : Scalar) → named_type k ≡ Some (One s) → ⊥
no_scalar context n (Some k) s e = cc
no_scalar context n None s e = cc

flat_local : (context : Context) (kind : Kind) (n : ℕ) (s : Scalar) → kind ≡ kinds.Local → flat_of context kind n ≡ Some (One s) → ⊥
flat_local context kinds.Local n s g e = no_scalar context n (type_number context n) s e
flat_local context (kinds.Word w) n s g e = cc
flat_local context kinds.Global n s g e = cc
flat_local context (kinds.Number v m) n s g e = cc
flat_local context kinds.Text n s g e = cc
flat_local context kinds.Bytes n s g e = cc
flat_local context (kinds.Mark m) n s g e = cc

no_mark : (m : Mark) (k : Kind) → is_mark m k ≡ true → k ≡ kinds.Local → ⊥
no_mark m k o e = let h : kinds.Mark m ≡ kinds.Local = sym (mark_is m k o) ∙ e in cc

-- a type that begins with a name behind `%` is that name
record OnlyName (ty : IrType) (front : List Tok) (t : Tok) : Type 0 where
  number : ℕ
  is : ty ≡ Named number
  alone : front ≡ t ∷ []

opened_elsewhere : (m : Mark) (u t : Tok) (f b front rest ts : List Tok) → is_mark m u.kind ≡ true → t.kind ≡ kinds.Local → f ≡ u ∷ [] → front ≡ f ++ b → t ∷ ts ≡ front ++ rest → ⊥
opened_elsewhere m u t f b front rest ts o l g w e =
    let whole : t ∷ ts ≡ u ∷ (b ++ rest) = e ∙ rw (w, g) refl in
    no_mark m u.kind o (ap (λ x. x.kind) (sym (same_head t u ts (b ++ rest) whole)) ∙ l)

only_name : (context : Context) (ty : IrType) (depth : ℕ) (front rest ts : List Tok) (t : Tok) → t.kind ≡ kinds.Local → IsType context ty depth front → t ∷ ts ≡ front ++ rest → OnlyName ty front t
only_name context (One s) depth front rest ts t l (u, e, g) w =
    let same = same_head t u ts rest (w ∙ rw g refl) in
    absurd (flat_local context u.kind u.name s (ap (λ x. x.kind) (sym same) ∙ l) e)
only_name context (Named k) depth front rest ts t l (u, e, g) w =
    let same = same_head t u ts rest (w ∙ rw g refl) in
    record { number = k; is = refl; alone = g ∙ ap (λ x. x ∷ []) (sym same) }
only_name context (Array n ty) zero front rest ts t l e w = absurd e
only_name context (Array n ty) (suc depth) front rest ts t l (f, b, (u, o, g), r, v) w = absurd (opened_elsewhere OpenBracket u t f b front rest ts o l g v w)
only_name context (Struct fields) zero front rest ts t l e w = absurd e
only_name context (Struct fields) (suc depth) front rest ts t l (f, b, (u, o, g), r, v) w = absurd (opened_elsewhere OpenBrace u t f b front rest ts o l g v w)
only_name context (Packed fields) zero front rest ts t l e w = absurd e
only_name context (Packed fields) (suc depth) front rest ts t l (f, b, (u, o, g), r, v) w = absurd (opened_elsewhere Less u t f b front rest ts o l g v w)

type_name_found : (context : Context) (t : Tok) (ts us : List Tok) (ty : IrType) → t.kind ≡ kinds.Local → written_type_at context (t ∷ ts) ≡ Ok (ty, us) → (front : List Tok) × IsTypeName context t.name front × (t ∷ ts ≡ front ++ us)
type_name_found context t ts us ty l e =
    let w = written_found context (t ∷ ts) us ty e in
    let o = only_name context ty depth_limit w.0 us ts t l w.1.0 w.2 in
    let is : IsWritten context (Named o.number) (t ∷ []) = subst (λ r. IsWritten context (Named o.number) r) o.alone (subst (λ x. IsWritten context x w.0) o.is w.1) in
    (w.0, (t, o.number, ap (λ k. local_name k t.name) l, is, o.alone), w.2)

-- a body that begins with the mark of a struct is one
flat_no_struct : (context : Context) (kind : Kind) (n : ℕ) (ty : IrType) → flat_of context kind n ≡ Some ty → opens_struct kind ≡ false
flat_no_struct context (kinds.Mark m) n ty e = cc
flat_no_struct context (kinds.Word w) n ty e = refl
flat_no_struct context kinds.Local n ty e = refl
flat_no_struct context k n ty e = cc

bracket_no_struct : (k : Kind) → is_mark OpenBracket k ≡ true → opens_struct k ≡ false
bracket_no_struct k e = ap opens_struct (mark_is OpenBracket k e)

struct_is : (context : Context) (ty : IrType) (depth : ℕ) (front us : List Tok) → IsType context ty depth front → has opens_struct (front ++ us) ≡ true → is_struct ty ≡ true
struct_is context (One s) depth front us (u, e, g) h =
    let n = flat_no_struct context u.kind u.name (One s) e in
    let y : opens_struct u.kind ≡ true = subst (λ r. has opens_struct (r ++ us) ≡ true) g h in
    cc
struct_is context (Named k) depth front us (u, e, g) h =
    let n = flat_no_struct context u.kind u.name (Named k) e in
    let y : opens_struct u.kind ≡ true = subst (λ r. has opens_struct (r ++ us) ≡ true) g h in
    cc
struct_is context (Array n ty) zero front us e h = absurd e
struct_is context (Array n ty) (suc depth) front us (f, b, (u, o, g), r, v) h =
    let n = bracket_no_struct u.kind o in
    let whole : front ++ us ≡ u ∷ (b ++ us) = rw (v, g) refl in
    let y : opens_struct u.kind ≡ true = subst (λ r. has opens_struct r ≡ true) whole h in
    cc
struct_is context (Struct fields) depth front us e h = refl
struct_is context (Packed fields) depth front us e h = refl

abbrev struct_by : Bool → Context → List Tok → Read IrType
struct_by b context ts = if b then written_type_at context ts else refused_here ts

struct_found_by : (context : Context) (b : Bool) (ts us : List Tok) (ty : IrType) → has opens_struct ts ≡ b → struct_by b context ts ≡ Ok (ty, us) → (front : List Tok) × IsStruct context ty front × (ts ≡ front ++ us)
struct_found_by context true ts us ty h e =
    let w = written_found context ts us ty e in
    (w.0, (struct_is context ty depth_limit w.0 us w.1.0 (subst (λ r. has opens_struct r ≡ true) w.2 h), w.1), w.2)
struct_found_by context false [] us ty h e = cc
struct_found_by context false (t ∷ ts) us ty h e = cc

-- a type that was found
abbrev TypeFound : Context → ℕ → Statement → List Tok → List Tok → Type 0
TypeFound context name s ts us = (ty : IrType) × (front : List Tok) × IsNewType context name ty front × (statements.Type name ty ≡ s) × (ts ≡ front ++ us)

abbrev behind_word : ℕ → IrType × List Tok → Read Statement
behind_word name t = Ok (statements.Type name t.0, t.1)

abbrev behind_equal : Context → ℕ → Unit {0} × List Tok → Read Statement
behind_equal context name e = next_at is_type_word e.1 >>= λ w. struct_at context w.1 >>= behind_word name

abbrev behind_name : Context → ℕ → IrType × List Tok → Read Statement
behind_name context name n = mark_at Equal n.1 >>= behind_equal context name

new_type_found : (context : Context) (t : Tok) (ts us : List Tok) (s : Statement) → t.kind ≡ kinds.Local → new_type_at context (t ∷ ts) ≡ Ok (s, us) → TypeFound context t.name s (t ∷ ts) us
new_type_found context t ts us s l e =
    let n = bind_ok (written_type_at context (t ∷ ts)) (behind_name context t.name) (s, us) e in
    let q = bind_ok (mark_at Equal n.0.1) (behind_equal context t.name) (s, us) n.2 in
    let w = bind_ok (next_at is_type_word q.0.1) (λ w. struct_at context w.1 >>= behind_word t.name) (s, us) q.2 in
    let b = bind_ok (struct_at context w.0.1) (behind_word t.name) (s, us) w.2 in
    let l' = ok_same (statements.Type t.name b.0.0) s b.0.1 us b.2 in
    let n' = type_name_found context t ts n.0.1 n.0.0 l n.1 in
    let q' = next_finds (is_mark Equal) n.0.1 q.0.1 q.0.0 q.1 in
    let w' = next_finds is_type_word q.0.1 w.0.1 w.0.0 w.1 in
    let b' = struct_found_by context (has opens_struct w.0.1) w.0.1 b.0.1 b.0.0 refl b.1 in
    let e3 = w'.2 ∙ ap (λ r. w'.0 ++ r) b'.2 ∙ sym (append_assoc w'.0 b'.0 b.0.1) in
    let e2 = q'.2 ∙ ap (λ r. q'.0 ++ r) e3 ∙ sym (append_assoc q'.0 (w'.0 ++ b'.0) b.0.1) in
    let e1 = n'.2 ∙ ap (λ r. n'.0 ++ r) e2 ∙ sym (append_assoc n'.0 (q'.0 ++ (w'.0 ++ b'.0)) b.0.1) in
    (b.0.0, n'.0 ++ (q'.0 ++ (w'.0 ++ b'.0)), (n'.0, q'.0 ++ (w'.0 ++ b'.0), n'.1, (q'.0, w'.0 ++ b'.0, q'.1, (w'.0, b'.0, w'.1, b'.1, refl), refl), refl), l'.0, e1 ∙ ap (λ r. (n'.0 ++ (q'.0 ++ (w'.0 ++ b'.0))) ++ r) l'.1)

module _ (context : Context) (form : TextForm) (places : List Token) (defined : Defined) where
  abbrev Found : Statement → List Tok → List Tok → Type 0
  Found s ts us = (front : List Tok) × IsStatement context form places defined s front us × (ts ≡ front ++ us)

  types_found : (b : Bool) (t : Tok) (ts us : List Tok) (s : Statement) → t.kind ≡ kinds.Local → has_number defined.types t.name ≡ b → unless b (Err (at Twice (t ∷ ts))) (new_type_at context (t ∷ ts)) ≡ Ok (s, us) → Found s (t ∷ ts) us
  types_found true t ts us s l h e = cc
  types_found false t ts us s l h e =
      let w = new_type_found context t ts us s l e in
      (w.1, subst (λ x. IsStatement context form places defined x w.1 us) w.3 (h, w.2), w.4)

  globals_found : (ts us : List Tok) (s : Statement) → global_at context defined ts ≡ Ok (s, us) → Found s ts us
  globals_found ts us s e =
      let w = global_found context defined s ts us e in
      (w.front, subst (λ x. IsStatement context form places defined x w.front us) w.says (w.new, w.is), w.whole)

  -- Imports.

  abbrev MayImport : ℕ → Type 0
  MayImport name = (has_number defined.symbols name ≡ false) ⊎ (is_block_write context name ≡ true)

  may_by : (a b : Bool) → (a && not b) ≡ false → (a ≡ false) ⊎ (b ≡ true)
  may_by false b e = inl refl
  may_by true true e = inr refl
  may_by true false e = cc

  import_name_found_by : (b : Bool) (ts us : List Tok) (name : ℕ) → is_imported_twice context defined (next_symbol ts) ≡ b → unless b (Err (at Twice ts)) (symbol_at ts) ≡ Ok (name, us) → MayImport name × ((front : List Tok) × IsSymbol name front × (ts ≡ front ++ us))
  import_name_found_by true ts us name h e = cc
  import_name_found_by false ts us name h e =
      let w = pick_finds (λ t. symbol_name t.kind t.name) always_refused ts us name e in
      let n = next_is w.1.0 w.0 ts us name w.1.1 w.1.2 w.2 in
      (may_by (has_number defined.symbols name) (is_block_write context name) (subst (λ m. is_imported_twice context defined m ≡ false) n h), (w.0, w.1, w.2))

  import_name_found : (ts us : List Tok) (name : ℕ) → import_name_at context defined ts ≡ Ok (name, us) → MayImport name × ((front : List Tok) × IsSymbol name front × (ts ≡ front ++ us))
  import_name_found ts us name e = import_name_found_by (is_imported_twice context defined (next_symbol ts)) ts us name refl e

  abbrev behind_params : ℕ → Option Scalar → List Scalar × List Tok → Read Statement
  behind_params name ret ps = import_attributes_at ps.1 >>= λ a. Ok (statements.Import name ret ps.0, a.1)

  abbrev behind_import_name : Option Scalar → ℕ × List Tok → Read Statement
  behind_import_name ret n = import_parameters_at n.1 >>= behind_params n.0 ret

  abbrev behind_import_result : Option Scalar × List Tok → Read Statement
  behind_import_result r = import_name_at context defined r.1 >>= behind_import_name r.0

  imports_found : (t : Tok) (ts us : List Tok) (s : Statement) → is_declare_word t.kind ≡ true → import_behind context defined ts ≡ Ok (s, us) → Found s (t ∷ ts) us
  imports_found t ts us s d e =
      let r = bind_ok (passed_result_at true ts) behind_import_result (s, us) e in
      let n = bind_ok (import_name_at context defined r.0.1) (behind_import_name r.0.0) (s, us) r.2 in
      let p = bind_ok (import_parameters_at n.0.1) (behind_params n.0.0 r.0.0) (s, us) n.2 in
      let a = bind_ok (import_attributes_at p.0.1) (λ a. Ok (statements.Import n.0.0 r.0.0 p.0.0, a.1)) (s, us) p.2 in
      let l = ok_same (statements.Import n.0.0 r.0.0 p.0.0) s a.0.1 us a.2 in
      let r' = result_finds ts r.0.1 r.0.0 r.1 in
      let n' = import_name_found r.0.1 n.0.1 n.0.0 n.1 in
      let p' = import_parameters_found n.0.1 p.0.1 p.0.0 p.1 in
      let a' = import_attributes_found p.0.1 a.0.1 a.0.0 a.1 in
      let b3 = p'.0 ++ a'.0 in
      let b2 = n'.1.0 ++ b3 in
      let b1 = r'.0 ++ b2 in
      let e3 = p'.2 ∙ ap (λ x. p'.0 ++ x) a'.2 ∙ sym (append_assoc p'.0 a'.0 a.0.1) in
      let e2 = n'.1.2 ∙ ap (λ x. n'.1.0 ++ x) e3 ∙ sym (append_assoc n'.1.0 b3 a.0.1) in
      let e1 = r'.2 ∙ ap (λ x. r'.0 ++ x) e2 ∙ sym (append_assoc r'.0 b2 a.0.1) in
      let whole : t ∷ ts ≡ (t ∷ b1) ++ us = ap (λ x. t ∷ x) (e1 ∙ ap (λ x. b1 ++ x) l.1) in
      let is : IsImport n.0.0 r.0.0 p.0.0 (t ∷ b1) = (t ∷ [], b1, (t, d, refl), (r'.0, b2, r'.1, (n'.1.0, b3, n'.1.1, (p'.0, a'.0, p'.1, a'.1, refl), refl), refl), refl) in
      (t ∷ b1, subst (λ x. IsStatement context form places defined x (t ∷ b1) us) l.0 (n'.0, is), whole)

  -- Functions.

  abbrev MayDefine : ℕ → Type 0
  MayDefine name = (has_number defined.symbols name ≡ false) × (is_block_write context name ≡ false)

  function_name_found_by : (a b : Bool) (ts us : List Tok) (name : ℕ) → has_some defined.symbols (next_symbol ts) ≡ a → names_block_write context (next_symbol ts) ≡ b
      → unless a (Err (at Twice ts)) (unless b (Err (at OutOfProfile ts)) (symbol_at ts)) ≡ Ok (name, us) → MayDefine name × ((front : List Tok) × IsSymbol name front × (ts ≡ front ++ us))
  function_name_found_by true b ts us name h k e = cc
  function_name_found_by false true ts us name h k e = cc
  function_name_found_by false false ts us name h k e =
      let w = pick_finds (λ t. symbol_name t.kind t.name) always_refused ts us name e in
      let n = next_is w.1.0 w.0 ts us name w.1.1 w.1.2 w.2 in
      ((subst (λ m. has_some defined.symbols m ≡ false) n h, subst (λ m. names_block_write context m ≡ false) n k), (w.0, w.1, w.2))

  function_name_found : (ts us : List Tok) (name : ℕ) → new_function_name_at context defined ts ≡ Ok (name, us) → MayDefine name × ((front : List Tok) × IsSymbol name front × (ts ≡ front ++ us))
  function_name_found ts us name e = function_name_found_by (has_some defined.symbols (next_symbol ts)) (names_block_write context (next_symbol ts)) ts us name refl refl e

  abbrev behind_brace : ℕ → Option Scalar → Head → Unit {0} × List Tok → Read Statement
  behind_brace name ret head o = blocks_at context form places head.numbered head.registers o.1 >>= λ bs. Ok (statements.Function name ret head.params bs.0, bs.1)

  abbrev behind_words : ℕ → Option Scalar → Head → Unit {0} × List Tok → Read Statement
  behind_words name ret head a = mark_at OpenBrace a.1 >>= behind_brace name ret head

  abbrev behind_head : ℕ → Option Scalar → Head × List Tok → Read Statement
  behind_head name ret h = function_attributes_at h.1 >>= behind_words name ret h.0

  abbrev behind_function_name : Option Scalar → ℕ × List Tok → Read Statement
  behind_function_name ret n = parameters_at context n.1 >>= behind_head n.0 ret

  abbrev behind_function_result : Option Scalar × List Tok → Read Statement
  behind_function_result r = new_function_name_at context defined r.1 >>= behind_function_name r.0

  functions_found : InstrLaws context form → (t : Tok) (ts us : List Tok) (s : Statement) → is_define_word t.kind ≡ true → function_behind context form places defined ts ≡ Ok (s, us) → Found s (t ∷ ts) us
  functions_found laws t ts us s d e =
      let r = bind_ok (passed_result_at true ts) behind_function_result (s, us) e in
      let n = bind_ok (new_function_name_at context defined r.0.1) (behind_function_name r.0.0) (s, us) r.2 in
      let h = bind_ok (parameters_at context n.0.1) (behind_head n.0.0 r.0.0) (s, us) n.2 in
      let a = bind_ok (function_attributes_at h.0.1) (behind_words n.0.0 r.0.0 h.0.0) (s, us) h.2 in
      let o = bind_ok (mark_at OpenBrace a.0.1) (behind_brace n.0.0 r.0.0 h.0.0) (s, us) a.2 in
      let b = bind_ok (blocks_at context form places h.0.0.numbered h.0.0.registers o.0.1) (λ bs. Ok (statements.Function n.0.0 r.0.0 h.0.0.params bs.0, bs.1)) (s, us) o.2 in
      let l = ok_same (statements.Function n.0.0 r.0.0 h.0.0.params b.0.0) s b.0.1 us b.2 in
      let r' = result_finds ts r.0.1 r.0.0 r.1 in
      let n' = function_name_found r.0.1 n.0.1 n.0.0 n.1 in
      let h' = heads_found context n.0.1 h.0.1 h.0.0 h.1 in
      let a' = function_attributes_found h.0.1 a.0.1 a.0.0 a.1 in
      let o' = next_finds (is_mark OpenBrace) a.0.1 o.0.1 o.0.0 o.1 in
      let b' = body_found context form laws places h.0.0.numbered h.0.0.registers o.0.1 b.0.1 b.0.0 b.1 in
      let b4 = a'.0 ++ o'.0 in
      let b3 = h'.0 ++ b4 in
      let b2 = n'.1.0 ++ b3 in
      let b1 = r'.0 ++ b2 in
      let opening : List Tok = t ∷ b1 in
      let e4 = a'.2 ∙ ap (λ x. a'.0 ++ x) o'.2 ∙ sym (append_assoc a'.0 o'.0 o.0.1) in
      let e3 = h'.2 ∙ ap (λ x. h'.0 ++ x) e4 ∙ sym (append_assoc h'.0 b4 o.0.1) in
      let e2 = n'.1.2 ∙ ap (λ x. n'.1.0 ++ x) e3 ∙ sym (append_assoc n'.1.0 b3 o.0.1) in
      let e1 = r'.2 ∙ ap (λ x. r'.0 ++ x) e2 ∙ sym (append_assoc r'.0 b2 o.0.1) in
      let e0 : t ∷ ts ≡ opening ++ o.0.1 = ap (λ x. t ∷ x) e1 in
      let whole : t ∷ ts ≡ (opening ++ b'.0) ++ us = e0 ∙ ap (λ x. opening ++ x) (b'.2 ∙ ap (λ x. b'.0 ++ x) l.1) ∙ sym (append_assoc opening b'.0 us) in
      let opens : IsOpening context n.0.0 r.0.0 h.0.0 opening = (t ∷ [], b1, (t, d, refl), (r'.0, b2, r'.1, (n'.1.0, b3, n'.1.1, (h'.0, b4, h'.1, (a'.0, o'.0, a'.1, o'.1, refl), refl), refl), refl), refl) in
      let body : IsBody context form places h.0.0.numbered h.0.0.registers b.0.0 b'.0 us = subst (λ x. IsBody context form places h.0.0.numbered h.0.0.registers b.0.0 b'.0 x) l.1 b'.1 in
      let is : IsFunction context form places n.0.0 r.0.0 h.0.0.params b.0.0 (opening ++ b'.0) us = (h.0.0, opening, b'.0, opens, body, refl, refl) in
      (opening ++ b'.0, subst (λ x. IsStatement context form places defined x (opening ++ b'.0) us) l.0 (n'.0.0, n'.0.1, is), whole)

  -- Statements.

  by_found : InstrLaws context form → (k : Kind) (n : ℕ) (ts us : List Tok) (s : Statement) → statement_by context form places defined k (record { kind = k; name = n } ∷ ts) ≡ Ok (s, us) → Found s (record { kind = k; name = n } ∷ ts) us
  by_found laws kinds.Local n ts us s e = types_found (has_number defined.types n) (record { kind = kinds.Local; name = n }) ts us s refl refl e
  by_found laws kinds.Global n ts us s e = globals_found (record { kind = kinds.Global; name = n } ∷ ts) us s e
  by_found laws (kinds.Word (keywords.Statement words.Declare)) n ts us s e = imports_found (record { kind = kinds.Word (keywords.Statement words.Declare); name = n }) ts us s refl e
  by_found laws (kinds.Word (keywords.Statement words.Define)) n ts us s e = functions_found laws (record { kind = kinds.Word (keywords.Statement words.Define); name = n }) ts us s refl e
  by_found laws k n ts us s e = cc

  pub statement_found : InstrLaws context form → (ts us : List Tok) (s : Statement) → statement_at context form places defined ts ≡ Ok (s, us) → Found s ts us
  statement_found laws [] us s e = cc
  statement_found laws (t ∷ ts) us s e = by_found laws t.kind t.name ts us s e
