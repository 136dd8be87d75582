-- The text of a constant says it.
use Rattle.std.proofs.Common.{◌≡◌, ◌⊎◌, inl, inr, ℕ, zero, suc, ◌+◌, ◌*◌, ◌%◌, ◌^◌, ◌<◌, ◌≤◌, List, [], ◌∷◌, ◌++◌, Bool, true, false, refl, sym, ap, ◌∙◌, subst, arith, Option, Some, append_assoc}
use Rattle.std.specs.Prelude.{codes, ℤ, option_map, if◌then◌else◌}
use Rattle.std.proofs.lemmas.Bool.{and_parts, ltb-true, ne_eqb}
use Rattle.std.proofs.lemmas.List.{append-nil}
use Rattle.lx_words.specs.declared.word.Width.{Width}
use Rattle.lx_words.specs.declared.word.Width.TheVariants.{W8, W64}
use Rattle.lx_words.specs.Width.{modulus}
use Rattle.lx_words.specs.Word.{Word, signed}
use Rattle.lx_words.proofs.Masks.{make_word}
use Rattle.lx_ir.specs.declared.types.Scalar.{Scalar}
use Rattle.lx_ir.specs.declared.types.Scalar.TheVariants.{Int, Ptr}
use Rattle.lx_ir.specs.declared.module.Blank.{Blank}
use Rattle.lx_ir.specs.declared.module.Blank.TheVariants.{Undef, Poison, Zero}
use Rattle.lx_ir.specs.declared.module.Symbol.{Symbol}
use Rattle.lx_ir.specs.declared.module.Pointer.{Pointer}
use Rattle.lx_ir.specs.declared.module.Pointer.TheVariants as pointer
use Rattle.lx_ir.specs.declared.module.Constant.{Constant}
use Rattle.lx_ir.specs.declared.module.Constant.TheVariants as constant
use Rattle.lx_ir.specs.declared.module.Module.{Module}
use Rattle.lx_ir.specs.IrType.{One}
use Rattle.lx_ir.specs.Text.{number_text, offset_text, blank_text, symbol_text, symbol_name, moved_text, pointer_text, constant_text}
use Rattle.lx_ir.specs.Lawful.{is_lawful_symbol, is_lawful_pointer, is_lawful_constant, pointer_nesting, nesting_of_constant}
use Rattle.lx_ir_tokens.specs.declared.token.Tok.{Tok}
use Rattle.lx_ir_tokens.specs.declared.token.Kind.{Kind}
use Rattle.lx_ir_tokens.specs.declared.token.Kind.TheVariants as kind
use Rattle.lx_ir_tokens.specs.declared.keyword.Keyword.{Keyword}
use Rattle.lx_ir_tokens.specs.declared.keyword.Keyword.TheVariants as keyword
use Rattle.lx_ir_tokens.specs.declared.keyword.ScalarWord.TheVariants as words
use Rattle.lx_ir_tokens.specs.declared.token.Mark.TheVariants.{Comma, OpenParenthesis, CloseParenthesis}
use Rattle.lx_ir_terms.specs.Context.{Context, symbol_of}
use Rattle.lx_ir_terms.specs.Reading.{is_to}
use Rattle.lx_ir_terms.specs.Types.{integer_in, flat_of}
use Rattle.lx_ir_terms.proofs.Marks.{mark_is}
use Rattle.lx_ir_terms.specs.Grammar.{Part, Is, IsMark, ◌then◌, IsWritten}
use Rattle.lx_ir_constants.specs.declared.element.Element.{Element}
use Rattle.lx_ir_constants.specs.Constants.{is_pointer_word, is_long_word, is_element_word, is_address_word, is_cast_word, number_in, pointer_of_word, symbol_pointer, flat_pointer_of, constant_of_word, flat_constant_of, address_of}
use Rattle.lx_ir_constants.specs.Grammar.{IsOpened, IsIndex, IsElement, IsAddress, AreItems, IsFlatPointer, IsPointerExpression, IsPointer, IsCast, IsExpression, IsConstant}
use Rattle.lx_ir_complete.specs.Printed.{Prints}
use Rattle.lx_ir_complete.specs.Kept.{is_kept_pointer, is_kept_constant}
use Rattle.lx_ir_complete.proofs.Joining.{beside, same_text, reads_as, space, marked, last_mark, word, word_is, word_picks, picks, IsWord, word_token}
use Rattle.lx_ir_complete.proofs.Elements.{StaysBehind, element, index_kinds, one_named, then_named, element_stays}
use Rattle.lx_ir_complete.proofs.Names.{global}
use Rattle.lx_ir_complete.proofs.Sayings.{Saying}
use Rattle.lx_ir_complete.proofs.SignedNumbers.{says_word, number, word_number}
use Rattle.lx_ir_complete.proofs.Words.{a_scalar, a_blank, blank_word, a_conversion, a_null, truth, falsehood, to}
use Rattle.lx_ir.specs.declared.instr.Conversion.TheVariants as conversion
use Rattle.lx_ir.proofs.Equality.{scalar_is}

-- Pointers.

module _ {plain : Bool} {names : List (List ℕ)} where
  -- the parenthesis behind the word of an expression
  pub opened : {t : List ℕ} {p : Part} → Prints plain names t p → Prints plain names (40 ∷ t) (IsOpened then p)
  opened {p = p} a = reads_as {q = IsOpened then p} (λ ts h. (h.0, h.1, ([], h.0, refl, h.2, refl), h.3, h.4)) (marked OpenParenthesis refl a)

  -- three parts in a row, the first two together
  pub grouped : {t : List ℕ} {p q r : Part} → Prints plain names t (p then q then r) → Prints plain names t ((p then q) then r)
  grouped {p = p} {q = q} {r = r} a =
      reads_as {q = (p then q) then r}
      (λ ts h. (h.0 ++ h.3.0, h.3.1, (h.0, h.3.0, h.2, h.3.2, refl), h.3.3, h.4 ∙ ap (λ v. h.0 ++ v) h.3.4 ∙ sym (append_assoc h.0 h.3.0 h.3.1)))
      a

-- The tokens of an address behind a name.

abbrev OfKind : Kind → Part
OfKind k ts = (t : Tok) × (t.kind ≡ k) × (ts ≡ t ∷ [])

abbrev IsNamed : Context → Symbol → Part
IsNamed context s ts = (t : Tok) × (t.kind ≡ kind.Global) × (symbol_of context t.name ≡ Some s) × (ts ≡ t ∷ [])

abbrev IsNumber : Word → Part
IsNumber w ts = (t : Tok) × (v : Option ℤ) × (minus : Bool) × (t.kind ≡ kind.Number v minus) × (number_in W64 (kind.Number v minus) ≡ Some w) × (ts ≡ t ∷ [])

-- `(i8, ptr @name, i64 number)`
abbrev IsMoved : Context → Symbol → Word → Part
IsMoved context s w =
    IsMark OpenParenthesis then OfKind (kind.Word (keyword.Scalar (words.Int W8))) then IsMark Comma then OfKind (kind.Word (keyword.Scalar words.Ptr)) then IsNamed context s
    then IsMark Comma then OfKind (kind.Word (keyword.Scalar (words.Int W64))) then IsNumber w then IsMark CloseParenthesis

kind_word : {plain : Bool} {names : List (List ℕ)} {bytes : List ℕ} {w : Keyword} → IsWord bytes w → Prints plain names bytes (OfKind (kind.Word w))
kind_word is = word_token is (λ tok e. (tok, e, refl))

moved_stays : (context : Context) (s : Symbol) (w : Word) (toks more : List Tok) → IsMoved context s w toks → StaysBehind (toks ++ more)
moved_stays context s w toks more e =
    let e2 = e.3 in
    let e3 = e2.3 in
    let e4 = e3.3 in
    let e5 = e4.3 in
    let e6 = e5.3 in
    let e7 = e6.3 in
    let e8 = e7.3 in
    let number : Kind = kind.Number e8.2.1 e8.2.2 in
    let in_name : List Kind = kind.Mark Comma ∷ index_kinds number in
    let in_first : List Kind = kind.Word (keyword.Scalar words.Ptr) ∷ kind.Global ∷ in_name in
    let close = one_named (kind.Mark CloseParenthesis) e8.3.0 e8.1 (mark_is CloseParenthesis e8.3.0.kind e8.3.1) e8.3.2 in
    let count = then_named (kind.Mark CloseParenthesis ∷ []) number e8.2.0 e7.1 e8.0 e8.1 e8.2.3 e8.2.5 e8.4 close in
    let long = then_named (number ∷ kind.Mark CloseParenthesis ∷ []) (kind.Word (keyword.Scalar (words.Int W64))) e7.2.0 e6.1 e7.0 e7.1 e7.2.1 e7.2.2 e7.4 count in
    let second = then_named (index_kinds number) (kind.Mark Comma) e6.2.0 e5.1 e6.0 e6.1 (mark_is Comma e6.2.0.kind e6.2.1) e6.2.2 e6.4 long in
    let name = then_named in_name kind.Global e5.2.0 e4.1 e5.0 e5.1 e5.2.1 e5.2.3 e5.4 second in
    let ptr = then_named (kind.Global ∷ in_name) (kind.Word (keyword.Scalar words.Ptr)) e4.2.0 e3.1 e4.0 e4.1 e4.2.1 e4.2.2 e4.4 name in
    let first = then_named in_first (kind.Mark Comma) e3.2.0 e2.1 e3.0 e3.1 (mark_is Comma e3.2.0.kind e3.2.1) e3.2.2 e3.4 ptr in
    let byte = then_named (kind.Mark Comma ∷ in_first) (kind.Word (keyword.Scalar (words.Int W8))) e2.2.0 e.1 e2.0 e2.1 e2.2.1 e2.2.2 e2.4 first in
    element_stays e8.2.1 e8.2.2 toks more
    (then_named (kind.Word (keyword.Scalar (words.Int W8)) ∷ kind.Mark Comma ∷ in_first) (kind.Mark OpenParenthesis) e.2.0 toks e.0 e.1 (mark_is OpenParenthesis e.2.0.kind e.2.1) e.2.2 e.4 byte)

-- so many bytes behind a name
offset_is : (b n : ℕ) → b ≡ n → n < 2 ^ 64 → (0 + (b * 1) % 2 ^ 64) % 2 ^ 64 ≡ n
offset_is b n e lt = omega arith

blank_pointer : (b : Blank) → pointer_of_word (blank_word b) ≡ Some (pointer.Blank b)
blank_pointer Undef = refl
blank_pointer Poison = refl
blank_pointer Zero = refl

blank_constant : (w : Width) (b : Blank) → constant_of_word (Int w) (blank_word b) ≡ Some (constant.Blank b w)
blank_constant w Undef = refl
blank_constant w Poison = refl
blank_constant w Zero = refl

blank_at_pointer : (b : Blank) → constant_of_word Ptr (blank_word b) ≡ Some (constant.Pointer (pointer.Blank b))
blank_at_pointer Undef = refl
blank_at_pointer Poison = refl
blank_at_pointer Zero = refl

module _ {plain : Bool} {m : Module} {context : Context} (given : Saying plain m context) where
  -- the word of a flat constant
  pub symbol_token : {p : Part} (s : Symbol) → is_lawful_symbol m s ≡ true → ((tok : Tok) → tok.kind ≡ kind.Global → symbol_of context tok.name ≡ Some s → p (tok ∷ [])) → Prints plain context.names (symbol_text m s) p
  symbol_token s h f = global (symbol_name m s) (given.symbol_named s h) (given.symbol_foreign s h) (λ tok e at. f tok e (given.knows.symbols s tok.name h at))

  flat_symbol : (s : Symbol) → is_lawful_symbol m s ≡ true → Prints plain context.names (symbol_text m s) (IsFlatPointer context (symbol_pointer s))
  flat_symbol s h = symbol_token s h (λ tok e at. (tok, ap (λ k. flat_pointer_of context k tok.name) e ∙ ap (option_map symbol_pointer) at, refl))

  address_prints : (n : ℕ) → n < 2 ^ 64 → Prints plain context.names (codes "inttoptr (i64 " ++ offset_text n ++ codes " to ptr)") (IsAddress (make_word W64 n))
  address_prints n lt =
      let all =
      word is_address_word (a_conversion conversion.IntToPtr) refl
      (opened (word is_long_word (a_scalar (Int W64)) refl
      (beside (word_number given.laws W64 n lt) refl
      (space (word is_to to refl (beside (word_is is_pointer_word (a_scalar Ptr) refl) refl (last_mark CloseParenthesis refl)))))))
      in
      same_text (simp append_assoc) all

  -- an address behind a name
  abbrev element_of : Symbol → ℕ → Element
  element_of s n = record { ty = One (Int W8); base = symbol_pointer s; indices = make_word W64 n ∷ [] }

  element_goes : (s : Symbol) (n : ℕ) → n < 2 ^ 64 → address_of context (element_of s n) ≡ pointer.Symbol s n
  element_goes s n lt = ap (pointer.Symbol s) (offset_is _ n (says_word W64 n lt).bits lt)

  -- what stands behind `getelementptr`, in the grammar
  moved_says : (depth : ℕ) (s : Symbol) (n : ℕ) (ts : List Tok) → IsMoved context s (make_word W64 n) ts
      → (IsOpened then IsWritten context (One (Int W8)) then IsMark Comma then Is is_pointer_word then (λ us. IsFlatPointer context (symbol_pointer s) us ⊎ IsPointerExpression context depth (symbol_pointer s) us)
      then IsMark Comma then AreItems IsIndex (make_word W64 n ∷ []) then IsMark CloseParenthesis) ts
  moved_says depth s n ts e =
      let e2 = e.3 in
      let e3 = e2.3 in
      let e4 = e3.3 in
      let e5 = e4.3 in
      let e6 = e5.3 in
      let e7 = e6.3 in
      let e8 = e7.3 in
      let ty : IsWritten context (One (Int W8)) e2.0 = ((e2.2.0, ap (λ q. flat_of context q e2.2.0.name) e2.2.1, e2.2.2), given.knows.limits (One (Int W8)) refl) in
      let base : IsFlatPointer context (symbol_pointer s) e5.0 = (e5.2.0, ap (λ q. flat_pointer_of context q e5.2.0.name) e5.2.1 ∙ ap (option_map symbol_pointer) e5.2.2, e5.2.3) in
      let index : IsIndex (make_word W64 n) (e7.0 ++ e8.0) = (e7.0, e8.0, (e7.2.0, ap integer_in e7.2.1, e7.2.2), (e8.2.0, ap (number_in W64) e8.2.3 ∙ e8.2.4, e8.2.5), refl) in
      let indices : (AreItems IsIndex (make_word W64 n ∷ []) then IsMark CloseParenthesis) e6.1 =
      (e7.0 ++ e8.0, e8.1, (e7.0 ++ e8.0, [], index, refl, sym (append-nil (e7.0 ++ e8.0))), e8.3, e7.4 ∙ ap (λ v. e7.0 ++ v) e8.4 ∙ sym (append_assoc e7.0 e8.0 e8.1))
      in
      (e.0, e.1, ([], e.0, refl, e.2, refl), (e2.0, e2.1, ty, (e3.0, e3.1, e3.2, (e4.0, e4.1, (e4.2.0, ap is_pointer_word e4.2.1, e4.2.2), (e5.0, e5.1, inl base, (e6.0, e6.1, e6.2, indices, e6.4), e5.4), e4.4), e3.4), e2.4), e.4)

  element_prints : (depth : ℕ) (s : Symbol) (n : ℕ) → is_lawful_symbol m s ≡ true → n < 2 ^ 64
      → Prints plain context.names (moved_text m s n) (IsElement context (λ q us. IsFlatPointer context q us ⊎ IsPointerExpression context depth q us) (element_of s n))
  element_prints depth s n h lt =
      let behind =
      marked OpenParenthesis refl
      (beside (kind_word (a_scalar (Int W8))) refl
      (marked Comma refl (space (beside (kind_word (a_scalar Ptr)) refl (space
      (beside (symbol_token {p = IsNamed context s} s h (λ tok e at. (tok, e, at, refl))) refl
      (marked Comma refl (space (beside (kind_word (a_scalar (Int W64))) refl (space
      (beside (number given.laws {p = IsNumber (make_word W64 n)} W64 n lt (λ tok minus e says. (tok, Some (signed (make_word W64 n)), minus, e, says, refl))) refl
      (last_mark CloseParenthesis refl))))))))))))
      in
      let whole = element {p = Is is_element_word} (λ tok e. (tok, ap is_element_word e, refl)) behind (λ toks more seen. moved_stays context s (make_word W64 n) toks more (behind.says toks seen)) in
      same_text (simp append_assoc)
      (reads_as {p = Is is_element_word then IsMoved context s (make_word W64 n)} {q = IsElement context (λ q us. IsFlatPointer context q us ⊎ IsPointerExpression context depth q us) (element_of s n)}
      (λ ts e. (e.0, e.1, e.2, moved_says depth s n e.1 e.3, e.4))
      whole)

  -- a pointer that is an expression
  abbrev pub is_long : Pointer → Bool
  is_long (pointer.Number n) = true
  is_long (pointer.Symbol s zero) = false
  is_long (pointer.Symbol s (suc n)) = true
  is_long _ = false

  moved_is : (s : Symbol) (n : ℕ) → pointer_text m (pointer.Symbol s (suc n)) ≡ moved_text m s (suc n)
  moved_is s n = ap (λ v. if v then symbol_text m s else moved_text m s (suc n)) (ne_eqb (suc n) 0 (λ e. absurd (omega arith)))

  pub long_prints : (depth : ℕ) (p : Pointer) → is_long p ≡ true → is_lawful_pointer m p ≡ true → is_kept_pointer p ≡ true → Prints plain context.names (pointer_text m p) (IsPointerExpression context (suc depth) p)
  long_prints depth pointer.Null l h k = cc l
  long_prints depth (pointer.Blank b) l h k = cc l
  long_prints depth (pointer.Number n) l h k =
      reads_as {p = IsAddress (make_word W64 n)} (λ ts e. inr (make_word W64 n, e, refl)) (address_prints n (ltb-true n (2 ^ 64) k))
  long_prints depth (pointer.Symbol s zero) l h k = cc l
  long_prints depth (pointer.Symbol s (suc n)) l h k =
      let lt : suc n < 2 ^ 64 = ltb-true (suc n) (2 ^ 64) k in
      same_text (sym (moved_is s n))
      (reads_as {q = IsPointerExpression context (suc depth) (pointer.Symbol s (suc n))} (λ ts e. inl (element_of s (suc n), e, element_goes s (suc n) lt)) (element_prints depth s (suc n) h lt))

  pub pointer_prints : (depth : ℕ) (p : Pointer) → is_lawful_pointer m p ≡ true → is_kept_pointer p ≡ true → pointer_nesting p ≤ depth → Prints plain context.names (pointer_text m p) (IsPointer context depth p)
  pointer_prints depth pointer.Null h k le = word_token a_null (λ tok e. inl (tok, ap (λ q. flat_pointer_of context q tok.name) e, refl))
  pointer_prints depth (pointer.Blank b) h k le = word_token (a_blank b) (λ tok e. inl (tok, ap (λ q. flat_pointer_of context q tok.name) e ∙ blank_pointer b, refl))
  pointer_prints depth (pointer.Symbol s zero) h k le = reads_as {p = IsFlatPointer context (symbol_pointer s)} (λ ts e. inl e) (flat_symbol s h)
  pointer_prints zero (pointer.Number n) h k le = absurd (omega arith)
  pointer_prints (suc depth) (pointer.Number n) h k le =
      reads_as {p = IsPointerExpression context (suc depth) (pointer.Number n)} (λ ts e. inr e) (long_prints depth (pointer.Number n) refl h k)
  pointer_prints zero (pointer.Symbol s (suc n)) h k le = absurd (omega arith)
  pointer_prints (suc depth) (pointer.Symbol s (suc n)) h k le =
      reads_as {p = IsPointerExpression context (suc depth) (pointer.Symbol s (suc n))} (λ ts e. inr e) (long_prints depth (pointer.Symbol s (suc n)) refl h k)

  -- Constants.

  -- a cast round a pointer
  pub cast_prints : (depth : ℕ) (p : Pointer) (w : Width) → is_lawful_pointer m p ≡ true → is_kept_pointer p ≡ true → suc (pointer_nesting p) ≤ depth
      → Prints plain context.names (constant_text m (constant.Cast p w)) (IsExpression context depth (constant.Cast p w))
  cast_prints zero p w h k le = absurd (omega arith)
  cast_prints (suc depth) p w h k le =
      let all =
      word is_cast_word (a_conversion conversion.PtrToInt) refl
      (opened (word is_pointer_word (a_scalar Ptr) refl
      (beside (pointer_prints depth p h k (omega arith)) refl
      (space (word is_to to refl (beside (word_picks integer_in w (a_scalar (Int w)) refl) refl (last_mark CloseParenthesis refl)))))))
      in
      let cast : Prints plain context.names (constant_text m (constant.Cast p w)) (IsCast context depth (constant.Cast p w)) = same_text (simp append_assoc) all in
      reads_as {q = IsExpression context (suc depth) (constant.Cast p w)} (λ ts e. inl e) cast

  -- a long pointer, as a constant
  pub long_constant : (depth : ℕ) (p : Pointer) → is_long p ≡ true → is_lawful_pointer m p ≡ true → is_kept_pointer p ≡ true → 1 ≤ depth → Prints plain context.names (pointer_text m p) (IsExpression context depth (constant.Pointer p))
  long_constant zero p l h k le = absurd (omega arith)
  long_constant (suc depth) p l h k le = reads_as {p = IsPointerExpression context (suc depth) p} (λ ts e. inr e) (long_prints depth p l h k)

  number_constant : (depth : ℕ) (ty : Scalar) (w : Width) (n : ℕ) → Int w ≡ ty → n < modulus w → Prints plain context.names (number_text w n) (IsConstant context depth ty (constant.Number (make_word w n)))
  number_constant depth ty w n e lt =
      subst (λ s. Prints plain context.names (number_text w n) (IsConstant context depth s (constant.Number (make_word w n)))) e
      (number given.laws w n lt (λ tok minus is says. inl (tok, ap (λ q. flat_constant_of context (Int w) q tok.name) is ∙ ap (option_map constant.Number) says, refl)))

  pub constant_prints : (depth : ℕ) (ty : Scalar) (c : Constant) → is_lawful_constant m ty c ≡ true → is_kept_constant c ≡ true → nesting_of_constant c ≤ depth → Prints plain context.names (constant_text m c) (IsConstant context depth ty c)
  constant_prints depth ty (constant.Number w) h k le = number_constant depth ty w.width w.bits (scalar_is (Int w.width) ty h) (ltb-true w.bits (modulus w.width) k)
  constant_prints depth ty (constant.Truth true) h k le = word_token truth (λ tok e. inl (tok, ap (λ q. flat_constant_of context ty q tok.name) e, refl))
  constant_prints depth ty (constant.Truth false) h k le = word_token falsehood (λ tok e. inl (tok, ap (λ q. flat_constant_of context ty q tok.name) e, refl))
  constant_prints depth ty (constant.Blank b w) h k le =
      subst (λ s. Prints plain context.names (blank_text b) (IsConstant context depth s (constant.Blank b w))) (scalar_is (Int w) ty h)
      (word_token (a_blank b) (λ tok e. inl (tok, ap (λ q. flat_constant_of context (Int w) q tok.name) e ∙ blank_constant w b, refl)))
  constant_prints depth ty (constant.Cast p w) h k le = reads_as {p = IsExpression context depth (constant.Cast p w)} (λ ts e. inr e) (cast_prints depth p w h k le)
  constant_prints depth ty (constant.Pointer pointer.Null) h k le = word_token a_null (λ tok e. inl (tok, ap (λ q. flat_constant_of context ty q tok.name) e, refl))
  constant_prints depth ty (constant.Pointer (pointer.Blank b)) h k le =
      subst (λ s. Prints plain context.names (blank_text b) (IsConstant context depth s (constant.Pointer (pointer.Blank b)))) (scalar_is Ptr ty h)
      (word_token (a_blank b) (λ tok e. inl (tok, ap (λ q. flat_constant_of context Ptr q tok.name) e ∙ blank_at_pointer b, refl)))
  constant_prints depth ty (constant.Pointer (pointer.Number n)) h k le =
      reads_as {p = IsExpression context depth (constant.Pointer (pointer.Number n))} (λ ts e. inr e) (long_constant depth (pointer.Number n) refl refl k le)
  constant_prints depth ty (constant.Pointer (pointer.Symbol s zero)) h k le =
      symbol_token s (and_parts (is_lawful_symbol m s) true h).0 (λ tok e at. inl (tok, ap (λ q. flat_constant_of context ty q tok.name) e ∙ ap (option_map (λ r. constant.Pointer (symbol_pointer r))) at, refl))
  constant_prints depth ty (constant.Pointer (pointer.Symbol s (suc n))) h k le =
      reads_as {p = IsExpression context depth (constant.Pointer (pointer.Symbol s (suc n)))} (λ ts e. inr e) (long_constant depth (pointer.Symbol s (suc n)) refl (and_parts (is_lawful_symbol m s) true h).0 k le)
