-- Tokens are one function at most, by a context that knows no names.
use Rattle.std.proofs.Common.{◌≡◌, ℕ, Bool, true, false, Option, Some, List, [], ◌∷◌, ◌++◌, Ok, refl, sym, ap, ◌∙◌, true≢false, append_assoc}
use Rattle.std.specs.Prelude.{◌||◌}
use Rattle.lx_words.specs.declared.token.Token.{Token}
use Rattle.lx_ir_tokens.specs.declared.token.Tok.{Tok}
use Rattle.lx_ir_tokens.specs.declared.token.Kind.{Kind}
use Rattle.lx_ir_tokens.specs.declared.token.Kind.TheVariants as kinds
use Rattle.lx_ir_tokens.specs.declared.token.Mark.TheVariants.{Hash, OpenBrace}
use Rattle.lx_ir_tokens.specs.declared.keyword.StatementWord.TheVariants as words
use Rattle.lx_ir_tokens.specs.declared.keyword.Keyword.TheVariants as keywords
use Rattle.lx_ir.specs.declared.types.Scalar.{Scalar}
use Rattle.lx_ir.specs.declared.module.Parameter.{Parameter}
use Rattle.lx_ir.specs.declared.module.Block.{Block}
use Rattle.lx_ir_terms.specs.Context.{Context}
use Rattle.lx_ir_terms.specs.Reading.{Read, has, is_mark}
use Rattle.lx_ir_terms.specs.Grammar.{IsMark, ◌then◌}
use Rattle.lx_ir_terms.specs.Laws.{Reads}
use Rattle.lx_ir_terms.proofs.Marks.{mark_is}
use Rattle.lx_ir_terms.proofs.Parts as parts
use Rattle.lx_ir_operands.specs.Grammar.{Repeated, IsAttribute}
use Rattle.lx_ir_calls.specs.declared.intrinsics.TextForm.{TextForm}
use Rattle.lx_ir_instructions.proofs.InstructionLaws.{instructions_read, instructions_found}
use Rattle.lx_ir_statements.specs.declared.head.Head.{Head}
use Rattle.lx_ir_statements.specs.Words.{is_any_word}
use Rattle.lx_ir_statements.specs.Parameters.{local_name}
use Rattle.lx_ir_statements.specs.HeadGrammar.{IsResult, IsHead}
use Rattle.lx_ir_statements.proofs.WordLaws.{result_reads, function_attributes_again}
use Rattle.lx_ir_statements.proofs.ParameterLaws.{heads_again}
use Rattle.lx_ir_statements.specs.BlockGrammar.{IsBody}
use Rattle.lx_ir_statements.proofs.Filled.{instr_filled}
use Rattle.lx_ir_statements.proofs.RunLaws.{InstrLaws}
use Rattle.lx_ir_statements.proofs.BlockLaws.{body_again}
use Rattle.lx_ir_statements.specs.declared.form.Statement.{Statement}
use Rattle.lx_ir_statements.specs.declared.form.Statement.TheVariants as statements
use Rattle.lx_ir_statements.specs.declared.defined.Defined.{Defined}
use Rattle.lx_ir_statements.specs.Defined.{nothing_defined, is_block_write}
use Rattle.lx_ir_statements.specs.Statements.{symbol_name, new_function_name_at, function_behind, statement_by, statement_at}
use Rattle.lx_ir_statements.specs.Grammar.{IsSymbol, is_declare_word, is_define_word, IsFunction, IsStatement}
use Rattle.lx_ir_statements.proofs.StatementLaws.{define_is}

-- The first token of a statement.

declare_is_not : (k : Kind) → is_declare_word k ≡ true → is_define_word k ≡ false
declare_is_not (kinds.Word (keywords.Statement words.Declare)) e = refl
declare_is_not k e = absurd (cc e)

local_is_not : (k : Kind) (n name : ℕ) → local_name k n ≡ Some name → is_define_word k ≡ false
local_is_not kinds.Local n name e = refl
local_is_not k n name e = absurd (cc e)

symbol_is_not : (k : Kind) (n name : ℕ) → symbol_name k n ≡ Some name → is_define_word k ≡ false
symbol_is_not kinds.Global n name e = refl
symbol_is_not k n name e = absurd (cc e)

first_is : (t : Tok) (f b front back : List Tok) → f ≡ t ∷ [] → front ≡ f ++ b → has is_define_word (front ++ back) ≡ is_define_word t.kind
first_is t f b front back e w = ap (λ v. has is_define_word (v ++ back)) (w ∙ ap (λ v. v ++ b) e)

abbrev function_goes : Kind → Bool
function_goes k = is_mark Hash k || is_any_word k

brace_no_word : (k : Kind) → is_mark OpenBrace k ≡ true → function_goes k ≡ false
brace_no_word k e = ap function_goes (mark_is OpenBrace k e)

module _ (context : Context) (form : TextForm) (places : List Token) where
  laws : InstrLaws context form
  laws = record { read = instructions_read context form; found = instructions_found context form; some = instr_filled context form }

  name_reads : (name : ℕ) → is_block_write context name ≡ false → Reads (new_function_name_at context nothing_defined) name (IsSymbol name)
  name_reads name plain ts us (t, e, g) = rw (g, e, plain) refl

  opening_read : (name : ℕ) (ret : Option Scalar) (head : Head) (blocks : List Block) (opening back us : List Tok) → is_block_write context name ≡ false
      → (IsResult ret then IsSymbol name then IsHead context head then Repeated IsAttribute then IsMark OpenBrace) opening → IsBody context form places head.numbered head.registers blocks back us
      → function_behind context form places nothing_defined (opening ++ (back ++ us)) ≡ Ok (statements.Function name ret head.params blocks, us)
  opening_read name ret head blocks opening back us plain (f, b1, r, (n, b2, s, (h, b3, hs, (a, b4, attrs, (o, k, g), w4), w3), w2), w1) body =
      let behind = back ++ us in
      let e4 : b3 ++ behind ≡ a ++ (o ∷ behind) = rw (w4, g) (append_assoc a (o ∷ []) behind) in
      let e3 : b2 ++ behind ≡ h ++ (a ++ (o ∷ behind)) = rw w3 (append_assoc h b3 behind ∙ ap (λ r. h ++ r) e4) in
      let e2 : b1 ++ behind ≡ n ++ (h ++ (a ++ (o ∷ behind))) = rw w2 (append_assoc n b2 behind ∙ ap (λ r. n ++ r) e3) in
      let whole : opening ++ behind ≡ f ++ (n ++ (h ++ (a ++ (o ∷ behind)))) = rw w1 (append_assoc f b1 behind ∙ ap (λ r. f ++ r) e2) in
      let result = result_reads ret f (n ++ (h ++ (a ++ (o ∷ behind)))) r in
      let named = name_reads name plain n (h ++ (a ++ (o ∷ behind))) s in
      let head' = heads_again context head h (a ++ (o ∷ behind)) hs in
      let over = function_attributes_again tt a (o ∷ behind) (brace_no_word o.kind k) attrs in
      let blocks' = body_again context form laws places head.numbered head.registers blocks back us body in
      rw (whole, result, named, head', over, k, blocks') refl

  -- the tokens of a function are read as it, whatever follows
  function_read : (name : ℕ) (ret : Option Scalar) (params : List Parameter) (blocks : List Block) (ts us : List Tok) → is_block_write context name ≡ false → IsFunction context form places name ret params blocks ts us
      → statement_at context form places nothing_defined (ts ++ us) ≡ Ok (statements.Function name ret params blocks, us)
  function_read name ret params blocks ts us plain (head, front, back, (f, b, (t, e, g), r, w), body, same, v) =
      let whole : ts ++ us ≡ t ∷ (b ++ (back ++ us)) = rw v (append_assoc front back us ∙ rw (w, g) refl) in
      ap (λ r. statement_at context form places nothing_defined r) whole
      ∙ ap (λ k. statement_by context form places nothing_defined k (t ∷ (b ++ (back ++ us)))) (define_is t.kind e)
      ∙ opening_read name ret head blocks b back us plain r body
      ∙ ap (λ ps. Ok (statements.Function name ret ps blocks, us)) same

  function_first : (name : ℕ) (ret : Option Scalar) (params : List Parameter) (blocks : List Block) (ts us : List Tok) → IsFunction context form places name ret params blocks ts us → has is_define_word (ts ++ us) ≡ true
  function_first name ret params blocks ts us (head, front, back, (f, b, (t, e, g), r, w), body, same, v) =
      first_is t f (b ++ back) ts us g (v ∙ ap (λ x. x ++ back) w ∙ append_assoc f b back) ∙ e

  same_read : (s t : Statement) (us vs : List Tok) (q : Read Statement) → q ≡ Ok (s, us) → q ≡ Ok (t, vs) → s ≡ t
  same_read s t us vs q e h = (parts.ok_same s t us vs (sym e ∙ h)).0

  elsewhere : (t : Tok) (f b front back : List Tok) → f ≡ t ∷ [] → front ≡ f ++ b → has is_define_word (front ++ back) ≡ true → is_define_word t.kind ≡ false → ⊥
  elsewhere t f b front back g w there none = true≢false (sym there ∙ first_is t f b front back g w ∙ none)

  -- a statement that stands where a function stands is that function
  pub same_function : (name : ℕ) (ret : Option Scalar) (params : List Parameter) (blocks : List Block) (ts us : List Tok) → is_block_write context name ≡ false → IsFunction context form places name ret params blocks ts us
      → (defined : Defined) (s : Statement) (front back : List Tok) → IsStatement context form places defined s front back → ts ++ us ≡ front ++ back → statements.Function name ret params blocks ≡ s
  same_function name ret params blocks ts us plain is defined (statements.Type n ty) front back (fresh, (f, b, (t, k, local, ty_name, g), rest, w)) e =
      absurd (elsewhere t f b front back g w (ap (has is_define_word) (sym e) ∙ function_first name ret params blocks ts us is) (local_is_not t.kind t.name n local))
  same_function name ret params blocks ts us plain is defined (statements.Global n constant ty init) front back (fresh, (f, b, (t, k, g), rest, w)) e =
      absurd (elsewhere t f b front back g w (ap (has is_define_word) (sym e) ∙ function_first name ret params blocks ts us is) (symbol_is_not t.kind t.name n k))
  same_function name ret params blocks ts us plain is defined (statements.Import n r ps) front back (may, (f, b, (t, k, g), rest, w)) e =
      absurd (elsewhere t f b front back g w (ap (has is_define_word) (sym e) ∙ function_first name ret params blocks ts us is) (declare_is_not t.kind k))
  same_function name ret params blocks ts us plain is defined (statements.Function n r ps bs) front back (fresh, also-plain, also) e =
      same_read (statements.Function name ret params blocks) (statements.Function n r ps bs) us back (statement_at context form places nothing_defined (ts ++ us))
      (function_read name ret params blocks ts us plain is)
      (ap (statement_at context form places nothing_defined) e ∙ function_read n r ps bs front back also-plain also)
