-- Constants that tokens say are lawful.
use Rattle.std.proofs.Common.{◌≡◌, ℕ, zero, suc, ◌+◌, ◌%◌, ◌^◌, ◌≤◌, Bool, true, false, Option, Some, None, List, ℤ, ◌⊎◌, inl, inr, refl, sym, ap, ◌∙◌, subst, arith}
use Rattle.std.specs.Prelude.{if◌then◌else◌}
use Rattle.std.proofs.lemmas.Bool.{and_from}
use Rattle.lx_words.specs.declared.word.Width.{Width}
use Rattle.lx_words.specs.Width.{same_width}
use Rattle.lx_words.specs.Word.{Word, word_of_int}
use Rattle.lx_words.proofs.Options.{map_some}
use Rattle.lx_words.proofs.Widths.{width_itself}
use Rattle.lx_ir_tokens.specs.declared.token.Tok.{Tok}
use Rattle.lx_ir_tokens.specs.declared.token.Kind.{Kind}
use Rattle.lx_ir_tokens.specs.declared.token.Kind.TheVariants as kinds
use Rattle.lx_ir_tokens.specs.declared.keyword.ConstantWord.{ConstantWord}
use Rattle.lx_ir_tokens.specs.declared.keyword.ConstantWord.TheVariants as constants
use Rattle.lx_ir_tokens.specs.declared.keyword.Keyword.TheVariants as keywords
use Rattle.lx_ir.specs.declared.types.Scalar.{Scalar}
use Rattle.lx_ir.specs.declared.types.Scalar.TheVariants.{Int, Ptr}
use Rattle.lx_ir.specs.declared.module.Blank.{Blank}
use Rattle.lx_ir.specs.declared.module.Symbol.{Symbol}
use Rattle.lx_ir.specs.declared.module.Symbol.TheVariants.{Global}
use Rattle.lx_ir.specs.declared.module.Pointer.{Pointer}
use Rattle.lx_ir.specs.declared.module.Pointer.TheVariants as pointers
use Rattle.lx_ir.specs.declared.module.Constant.{Constant}
use Rattle.lx_ir.specs.declared.module.Constant.TheVariants as made
use Rattle.lx_ir.specs.declared.module.Module.{Module}
use Rattle.lx_ir.specs.IrType.{IrType}
use Rattle.lx_ir.specs.Layout.{is_lawful_type}
use Rattle.lx_ir.specs.Lawful.{is_lawful_symbol, is_lawful_pointer, fits_pointer, is_lawful_constant, pointer_nesting, nesting_of_constant}
use Rattle.lx_ir_lawful.specs.LimitLaws.{InsideTypesAreLawful}
use Rattle.lx_ir_terms.specs.Context.{Context, entry, nothing, unless_complete, symbol_of}
use Rattle.lx_ir_terms.specs.Grammar.{is_inside_limits, IsWritten}
use Rattle.lx_ir_constants.specs.Constants.{is_in_range, word_of, number_value, number_in, blank_of, pointer_of_word, symbol_pointer, flat_pointer_of, moved_by, blank_at_type, constant_of_word, number_at_type, flat_constant_of}
use Rattle.lx_ir_constants.specs.Grammar.{IsPointer, IsPointerExpression, IsCast, IsAddressConstant, IsExpression, IsConstant}
use Rattle.lx_ir_lawful.specs.Tells.{Tells}

-- a number at a width is a word of it
word_at : (w : Width) (z : ℤ) (b : Bool) (n : Word) → (if b then Some (word_of_int w z) else None) ≡ Some n → n.width ≡ w
word_at w z true n e = let s : word_of_int w z ≡ n = cc in ap (λ (x : Word). x.width) (sym s)
word_at w z false n e = absurd (cc e)

number_word : (w : Width) (o : Option ℤ) (n : Word) → word_of w o ≡ Some n → n.width ≡ w
number_word w (Some z) n e = word_at w z (is_in_range w z) n e
number_word w None n e = absurd (cc e)

pub number_width : (w : Width) (k : Kind) (n : Word) → number_in w k ≡ Some n → n.width ≡ w
number_width w k n e = number_word w (number_value k) n e

abbrev pub is_blank : Pointer → Bool
is_blank (pointers.Blank b) = true
is_blank _ = false

-- a constant expression: a cast, or an address
abbrev pub LawfulExpression : Module → ℕ → Constant → Type 0
LawfulExpression m depth c =
    ((p : Pointer) × (w : Width) × (is_lawful_pointer m p ≡ true) × (suc (pointer_nesting p) ≤ depth) × (made.Cast p w ≡ c))
    ⊎ ((p : Pointer) × (is_lawful_pointer m p ≡ true) × (pointer_nesting p ≤ depth) × (is_blank p ≡ false) × (made.Pointer p ≡ c))

module _ (m : Module) (context : Context) (tells : Tells m context) where
  -- Types.

  pub written_lawful : InsideTypesAreLawful → (t : IrType) (ts : List Tok) → IsWritten context t ts → is_lawful_type m.types t ≡ true
  written_lawful laws t ts h = laws m.types t tells.types (subst (λ o. is_inside_limits o t ≡ true) tells.limits h.1)

  -- Symbols.

  known : (b : Bool) (o : Option Symbol) (other s : Symbol) → b ≡ true → unless_complete b other o ≡ Some s → o ≡ Some s
  known true (Some x) other s h e = e
  known true None other s h e = absurd (cc e)
  known false o other s h e = absurd (cc h)

  pub symbol_lawful : (name : ℕ) (s : Symbol) → symbol_of context name ≡ Some s → is_lawful_symbol m s ≡ true
  symbol_lawful name s e = tells.symbols name s (known context.complete (entry context.symbols name) (Global nothing) s tells.complete e)

  -- Pointers.

  record LawfulPointer (depth : ℕ) (p : Pointer) : Type 0 where
    lawful : is_lawful_pointer m p ≡ true
    nesting : pointer_nesting p ≤ depth

  word_pointer : (w : ConstantWord) (p : Pointer) → pointer_of_word w ≡ Some p → LawfulPointer 0 p
  word_pointer constants.True p e = absurd (cc e)
  word_pointer constants.False p e = absurd (cc e)
  word_pointer constants.Null p e = let s : pointers.Null ≡ p = cc in subst (LawfulPointer 0) s (record { lawful = refl; nesting = omega arith })
  word_pointer constants.Undef p e = let s = map_some pointers.Blank (blank_of constants.Undef) p e in subst (LawfulPointer 0) s.2 (record { lawful = refl; nesting = omega arith })
  word_pointer constants.Poison p e = let s = map_some pointers.Blank (blank_of constants.Poison) p e in subst (LawfulPointer 0) s.2 (record { lawful = refl; nesting = omega arith })
  word_pointer constants.Zero p e = let s = map_some pointers.Blank (blank_of constants.Zero) p e in subst (LawfulPointer 0) s.2 (record { lawful = refl; nesting = omega arith })

  flat_pointer : (k : Kind) (name : ℕ) (p : Pointer) → flat_pointer_of context k name ≡ Some p → LawfulPointer 0 p
  flat_pointer (kinds.Word (keywords.Constant w)) name p e = word_pointer w p e
  flat_pointer kinds.Global name p e =
      let s = map_some symbol_pointer (symbol_of context name) p e in
      subst (LawfulPointer 0) s.2 (record { lawful = symbol_lawful name s.0 s.1; nesting = omega arith })
  flat_pointer k name p e = absurd (cc e)

  -- what an expression is: no word
  record LawfulAddress (depth : ℕ) (p : Pointer) : Type 0 where
    lawful : is_lawful_pointer m p ≡ true
    nesting : pointer_nesting p ≤ depth
    solid : is_blank p ≡ false

  symbol_nests : (s : Symbol) (n depth : ℕ) → pointer_nesting (pointers.Symbol s n) ≤ suc depth
  symbol_nests s zero depth = omega arith
  symbol_nests s (suc n) depth = omega arith

  moved : (p : Pointer) (k depth : ℕ) → is_lawful_pointer m p ≡ true → LawfulAddress (suc depth) (moved_by p k)
  moved (pointers.Symbol s n) k depth h = record { lawful = h; nesting = symbol_nests s ((n + k) % 2 ^ 64) depth; solid = refl }
  moved (pointers.Number n) k depth h = record { lawful = refl; nesting = omega arith; solid = refl }
  moved pointers.Null k depth h = record { lawful = refl; nesting = omega arith; solid = refl }
  moved (pointers.Blank b) k depth h = record { lawful = refl; nesting = omega arith; solid = refl }

  pointer_by : (depth : ℕ) (p : Pointer) (ts : List Tok) → (IsPointerExpression context depth p ts → LawfulAddress depth p) → IsPointer context depth p ts → LawfulPointer depth p
  pointer_by depth p ts inner (inl (t, e, f)) =
      let l = flat_pointer t.kind t.name p e in
      let n : pointer_nesting p ≤ 0 = l.nesting in
      record { lawful = l.lawful; nesting = omega (arith, n) }
  pointer_by depth p ts inner (inr h) = let l = inner h in record { lawful = l.lawful; nesting = l.nesting }

  address_lawful : (depth : ℕ) (p : Pointer) (ts : List Tok) → IsPointerExpression context depth p ts → LawfulAddress depth p
  address_lawful zero p ts h = absurd h
  address_lawful (suc depth) p ts (inl (e, is, a)) =
      let base = is.3.3.3.3.3.2 in
      subst (LawfulAddress (suc depth)) a (moved e.base _ depth (pointer_by depth e.base _ (address_lawful depth e.base _) base).lawful)
  address_lawful (suc depth) p ts (inr (n, is, a)) = subst (LawfulAddress (suc depth)) a (record { lawful = refl; nesting = omega arith; solid = refl })

  pointer_lawful : (depth : ℕ) (p : Pointer) (ts : List Tok) → IsPointer context depth p ts → LawfulPointer depth p
  pointer_lawful depth p ts h = pointer_by depth p ts (address_lawful depth p ts) h

  -- Constants.

  pub record LawfulConstant (depth : ℕ) (ty : Scalar) (c : Constant) : Type 0 where
    pub lawful : is_lawful_constant m ty c ≡ true
    pub nesting : nesting_of_constant c ≤ depth

  blank_lawful : (ty : Scalar) (b : Blank) (c : Constant) → blank_at_type ty b ≡ c → LawfulConstant 0 ty c
  blank_lawful (Int w) b c e = subst (LawfulConstant 0 (Int w)) e (record { lawful = width_itself w; nesting = omega arith })
  blank_lawful Ptr b c e = subst (LawfulConstant 0 Ptr) e (record { lawful = refl; nesting = omega arith })

  word_constant : (ty : Scalar) (w : ConstantWord) (c : Constant) → constant_of_word ty w ≡ Some c → LawfulConstant 0 ty c
  word_constant ty constants.True c e = let s : made.Truth true ≡ c = cc in subst (LawfulConstant 0 ty) s (record { lawful = refl; nesting = omega arith })
  word_constant ty constants.False c e = let s : made.Truth false ≡ c = cc in subst (LawfulConstant 0 ty) s (record { lawful = refl; nesting = omega arith })
  word_constant ty constants.Null c e = let s : made.Pointer pointers.Null ≡ c = cc in subst (LawfulConstant 0 ty) s (record { lawful = refl; nesting = omega arith })
  word_constant ty constants.Undef c e = let s = map_some (blank_at_type ty) (blank_of constants.Undef) c e in blank_lawful ty s.0 c s.2
  word_constant ty constants.Poison c e = let s = map_some (blank_at_type ty) (blank_of constants.Poison) c e in blank_lawful ty s.0 c s.2
  word_constant ty constants.Zero c e = let s = map_some (blank_at_type ty) (blank_of constants.Zero) c e in blank_lawful ty s.0 c s.2

  number_constant : (ty : Scalar) (k : Kind) (c : Constant) → number_at_type ty k ≡ Some c → LawfulConstant 0 ty c
  number_constant (Int w) k c e =
      let s = map_some made.Number (number_in w k) c e in
      subst (LawfulConstant 0 (Int w)) s.2 (record { lawful = ap (λ v. same_width v w) (number_width w k s.0 s.1) ∙ width_itself w; nesting = omega arith })
  number_constant Ptr k c e = absurd (cc e)

  flat_constant : (ty : Scalar) (k : Kind) (name : ℕ) (c : Constant) → flat_constant_of context ty k name ≡ Some c → LawfulConstant 0 ty c
  flat_constant ty (kinds.Word (keywords.Constant w)) name c e = word_constant ty w c e
  flat_constant ty kinds.Global name c e =
      let s = map_some (λ x. made.Pointer (symbol_pointer x)) (symbol_of context name) c e in
      subst (LawfulConstant 0 ty) s.2 (record { lawful = and_from (is_lawful_symbol m s.0) true (symbol_lawful name s.0 s.1) refl; nesting = omega arith })
  flat_constant ty (kinds.Number v minus) name c e = number_constant ty (kinds.Number v minus) c e
  flat_constant ty k name c e = absurd (cc e)

  solid_fits : (ty : Scalar) (p : Pointer) → is_blank p ≡ false → fits_pointer ty p ≡ true
  solid_fits ty (pointers.Symbol s n) h = refl
  solid_fits ty (pointers.Number n) h = refl
  solid_fits ty pointers.Null h = refl
  solid_fits ty (pointers.Blank b) h = absurd (cc h)

  cast_lawful : (depth : ℕ) (c : Constant) (ts : List Tok) → IsCast context depth c ts → LawfulExpression m (suc depth) c
  cast_lawful depth (made.Cast p w) ts h =
      let l = pointer_lawful depth p _ h.3.3.3.2 in
      let n : pointer_nesting p ≤ depth = l.nesting in
      inl (p, w, l.lawful, omega (arith, n), refl)
  cast_lawful depth c ts h = absurd h

  address_constant_lawful : (depth : ℕ) (c : Constant) (ts : List Tok) → IsAddressConstant context depth c ts → LawfulExpression m depth c
  address_constant_lawful depth (made.Pointer p) ts h = let l = address_lawful depth p ts h in inr (p, l.lawful, l.nesting, l.solid, refl)
  address_constant_lawful depth c ts h = absurd h

  pub expression_is : (depth : ℕ) (c : Constant) (ts : List Tok) → IsExpression context depth c ts → LawfulExpression m depth c
  expression_is zero c ts h = absurd h
  expression_is (suc depth) c ts (inl h) = cast_lawful depth c ts h
  expression_is (suc depth) c ts (inr h) = address_constant_lawful (suc depth) c ts h

  expression_lawful : (depth : ℕ) (ty : Scalar) (c : Constant) → LawfulExpression m depth c → LawfulConstant depth ty c
  expression_lawful depth ty c (inl (p, w, l, n, e)) = subst (LawfulConstant depth ty) e (record { lawful = l; nesting = n })
  expression_lawful depth ty c (inr (p, l, n, s, e)) =
      subst (LawfulConstant depth ty) e (record { lawful = and_from (is_lawful_pointer m p) (fits_pointer ty p) l (solid_fits ty p s); nesting = n })

  pub constant_lawful : (depth : ℕ) (ty : Scalar) (c : Constant) (ts : List Tok) → IsConstant context depth ty c ts → LawfulConstant depth ty c
  constant_lawful depth ty c ts (inl (t, e, f)) =
      let l = flat_constant ty t.kind t.name c e in
      let n : nesting_of_constant c ≤ 0 = l.nesting in
      record { lawful = l.lawful; nesting = omega (arith, n) }
  constant_lawful depth ty c ts (inr h) = expression_lawful depth ty c (expression_is depth c ts h)
