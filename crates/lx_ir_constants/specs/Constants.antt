-- Reading constants and operands.
use Rattle.std.specs.Prelude.{ℕ, zero, suc, ◌+◌, ◌%◌, ◌/◌, ◌^◌, Bool, true, false, Option, Some, None, List, [], ◌∷◌, length, Result, Ok, Err, if◌then◌else◌, option_map, unwrap_or, nat_lt, ℤ, pos, negsuc}
use Rattle.lx_ir_tokens.specs.declared.token.Tok.{Tok}
use Rattle.lx_ir_tokens.specs.declared.token.Kind.{Kind}
use Rattle.lx_ir_tokens.specs.declared.token.Kind.TheVariants as kinds
use Rattle.lx_ir_tokens.specs.declared.token.Mark.TheVariants.{Comma, OpenParenthesis, CloseParenthesis}
use Rattle.lx_ir_tokens.specs.declared.keyword.ConstantWord.{ConstantWord}
use Rattle.lx_ir_tokens.specs.declared.keyword.ConstantWord.TheVariants as constants
use Rattle.lx_ir_tokens.specs.declared.keyword.ConversionWord.TheVariants.{PtrToInt, IntToPtr}
use Rattle.lx_ir_tokens.specs.declared.keyword.InstructionWord.TheVariants.{GetElementPtr, Conversion}
use Rattle.lx_ir_tokens.specs.declared.keyword.ScalarWord.TheVariants as words
use Rattle.lx_ir_tokens.specs.declared.keyword.Keyword.TheVariants as keywords
use Rattle.lx_words.specs.declared.word.Width.{Width}
use Rattle.lx_words.specs.declared.word.Width.TheVariants.{W64}
use Rattle.lx_words.specs.Width.{modulus}
use Rattle.lx_words.specs.Word.{Word, word_of_int}
use Rattle.lx_ir.specs.declared.types.Scalar.{Scalar}
use Rattle.lx_ir.specs.declared.types.Scalar.TheVariants.{Int, Ptr}
use Rattle.lx_ir.specs.declared.module.Blank.{Blank}
use Rattle.lx_ir.specs.declared.module.Blank.TheVariants.{Undef, Poison, Zero}
use Rattle.lx_ir.specs.declared.module.Symbol.{Symbol}
use Rattle.lx_ir.specs.declared.module.Pointer.{Pointer}
use Rattle.lx_ir.specs.declared.module.Pointer.TheVariants as pointers
use Rattle.lx_ir.specs.declared.module.Constant.{Constant}
use Rattle.lx_ir.specs.declared.module.Constant.TheVariants as made
use Rattle.lx_ir.specs.declared.module.Value.{Value}
use Rattle.lx_ir.specs.declared.module.Value.TheVariants as values
use Rattle.lx_ir.specs.IrType.{IrType}
use Rattle.lx_ir_offsets.specs.Offsets.{distance}
use Rattle.lx_ir_constants.specs.declared.element.Element.{Element}
use Rattle.lx_ir_terms.specs.declared.fault.FaultKind.{FaultKind}
use Rattle.lx_ir_terms.specs.declared.fault.FaultKind.TheVariants.{Statement, OutOfProfile, Unknown}
use Rattle.lx_ir_terms.specs.Context.{Context, symbol_of, register_number}
use Rattle.lx_ir_terms.specs.Reading.{Read, ◌>>=◌, at, refusal, behind, pick_at, is_mark, is_to, has, next_at, mark_at, closed_at}
use Rattle.lx_ir_terms.specs.Types.{integer_at, depth_limit, written_type_at}

-- Numbers.

-- the numbers of a width, with a sign or without
abbrev pub is_in_range : Width → ℤ → Bool
is_in_range w (pos n) = nat_lt n (modulus w)
is_in_range w (negsuc n) = nat_lt n (modulus w / 2)

abbrev pub word_in : Width → ℤ → Option Word
word_in w z = if is_in_range w z then Some (word_of_int w z) else None

abbrev pub number_value : Kind → Option ℤ
number_value (kinds.Number v minus) = v
number_value _ = None

abbrev pub word_of : Width → Option ℤ → Option Word
word_of w None = None
word_of w (Some z) = word_in w z

-- the word that a number says at a width
abbrev pub number_in : Width → Kind → Option Word
number_in w k = word_of w (number_value k)

-- how a token is refused where a constant has to stand: a number that is no value of the type is outside the profile
abbrev pub constant_refusal : Kind → FaultKind
constant_refusal (kinds.Number v minus) = OutOfProfile
constant_refusal kinds.Global = Unknown
constant_refusal k = refusal k

-- the same where a name behind `@` cannot stand
abbrev pub number_refusal : Kind → FaultKind
number_refusal (kinds.Number v minus) = OutOfProfile
number_refusal k = refusal k

abbrev pub number_at : Width → List Tok → Read Word
number_at w ts = pick_at (λ t. number_in w t.kind) number_refusal ts

-- Words and marks of constant expressions.

abbrev pub is_flag_word : Kind → Bool
is_flag_word (kinds.Word keywords.Flag) = true
is_flag_word _ = false

-- the tokens behind those of this kind that stand next
abbrev pub skipped : (Kind → Bool) → List Tok → List Tok
skipped p [] = []
skipped p (t ∷ ts) = if p t.kind then skipped p ts else t ∷ ts

abbrev pub when : Bool → Option (Unit {0})
when true = Some tt
when false = None

-- how a token is refused where words are passed over: any other word is outside the profile
abbrev pub word_refusal : Kind → FaultKind
word_refusal (kinds.Word w) = OutOfProfile
word_refusal _ = Statement

-- flags, which are passed over, and the parenthesis behind them
abbrev pub opened_at : List Tok → Read (Unit {0})
opened_at ts = pick_at (λ t. when (is_mark OpenParenthesis t.kind)) word_refusal (skipped is_flag_word ts)

abbrev pub is_pointer_word : Kind → Bool
is_pointer_word (kinds.Word (keywords.Scalar words.Ptr)) = true
is_pointer_word _ = false

abbrev pub is_long_word : Kind → Bool
is_long_word (kinds.Word (keywords.Scalar (words.Int W64))) = true
is_long_word _ = false

-- the type that a form names, which has to stand there
abbrev pub form_type_at : (Kind → Bool) → List Tok → Read (Unit {0})
form_type_at p ts = pick_at (λ t. when (p t.kind)) refusal ts

abbrev pub is_element_word : Kind → Bool
is_element_word (kinds.Word (keywords.Instruction GetElementPtr)) = true
is_element_word _ = false

abbrev pub is_address_word : Kind → Bool
is_address_word (kinds.Word (keywords.Instruction (Conversion IntToPtr))) = true
is_address_word _ = false

abbrev pub is_cast_word : Kind → Bool
is_cast_word (kinds.Word (keywords.Instruction (Conversion PtrToInt))) = true
is_cast_word _ = false

-- Pointers.

abbrev pub blank_of : ConstantWord → Option Blank
blank_of constants.Undef = Some Undef
blank_of constants.Poison = Some Poison
blank_of constants.Zero = Some Zero
blank_of _ = None

abbrev pub pointer_of_word : ConstantWord → Option Pointer
pointer_of_word constants.Null = Some pointers.Null
pointer_of_word w = option_map pointers.Blank (blank_of w)

abbrev pub symbol_pointer : Symbol → Pointer
symbol_pointer s = pointers.Symbol s 0

-- a pointer that is one token
abbrev pub flat_pointer_of : Context → Kind → ℕ → Option Pointer
flat_pointer_of context (kinds.Word (keywords.Constant w)) name = pointer_of_word w
flat_pointer_of context kinds.Global name = option_map symbol_pointer (symbol_of context name)
flat_pointer_of context _ name = None

abbrev pub flat_pointer_at : Context → List Tok → Read Pointer
flat_pointer_at context ts = pick_at (λ t. flat_pointer_of context t.kind t.name) constant_refusal ts

-- so many bytes behind a pointer, modulo 2^64
abbrev pub moved_by : Pointer → ℕ → Pointer
moved_by (pointers.Symbol s n) k = pointers.Symbol s ((n + k) % 2 ^ 64)
moved_by (pointers.Number n) k = pointers.Number ((n + k) % 2 ^ 64)
moved_by p k = pointers.Number k

-- what a constant `getelementptr` stands for. One whose indices name no part, or whose type is outside the limits, is a fault of the text, and goes nowhere
abbrev pub address_of : Context → Element → Pointer
address_of context e = moved_by e.base (unwrap_or (distance context.named context.layouts e.ty e.indices) 0)

-- `I i`
abbrev pub index_at : List Tok → Read Word
index_at ts = do
  w ← integer_at ts
  number_at w.0 w.1

-- `(T, ptr c, I i, ..)`, where c is read in this way
abbrev pub element_behind : Context → (List Tok → Read Pointer) → List Tok → Read Element
element_behind context item ts = do
  o ← opened_at ts
  t ← written_type_at context o.1
  c ← mark_at Comma t.1
  p ← form_type_at is_pointer_word c.1
  base ← item p.1
  d ← mark_at Comma base.1
  is ← closed_at CloseParenthesis index_at d.1
  Ok (record { ty = t.0; base = base.0; indices = is.0 }, is.1)

-- `(i64 n to ptr)`
abbrev pub address_behind : List Tok → Read Pointer
address_behind ts = do
  o ← opened_at ts
  i ← form_type_at is_long_word o.1
  n ← number_at W64 i.1
  t ← next_at is_to n.1
  p ← form_type_at is_pointer_word t.1
  c ← mark_at CloseParenthesis p.1
  Ok (pointers.Number n.0.bits, c.1)

-- a word begins an expression that is a pointer
abbrev pub begins_pointer : Kind → Bool
begins_pointer k = if is_element_word k then true else is_address_word k

-- a `getelementptr` or an `inttoptr` behind its word
abbrev pub nested_pointer_at : Context → (List Tok → Read Pointer) → List Tok → Read Pointer
nested_pointer_at context item ts =
    if has is_element_word ts then (element_behind context item (behind ts) >>= λ e. Ok (address_of context e.0, e.1))
    else address_behind (behind ts)

-- a pointer, with so many nestings left
unfoldable pub pointer_at : Context → ℕ → List Tok → Read Pointer
pointer_at context zero ts = if has begins_pointer ts then Err (at OutOfProfile ts) else flat_pointer_at context ts
pointer_at context (suc depth) ts =
    if has begins_pointer ts then nested_pointer_at context (pointer_at context depth) ts else flat_pointer_at context ts

-- Constants of the type of a register.

abbrev pub blank_at_type : Scalar → Blank → Constant
blank_at_type (Int w) b = made.Blank b w
blank_at_type Ptr b = made.Pointer (pointers.Blank b)

abbrev pub constant_of_word : Scalar → ConstantWord → Option Constant
constant_of_word ty constants.True = Some (made.Truth true)
constant_of_word ty constants.False = Some (made.Truth false)
constant_of_word ty constants.Null = Some (made.Pointer pointers.Null)
constant_of_word ty w = option_map (blank_at_type ty) (blank_of w)

abbrev pub number_at_type : Scalar → Kind → Option Constant
number_at_type (Int w) k = option_map made.Number (number_in w k)
number_at_type Ptr k = None

-- a constant that is one token
abbrev pub flat_constant_of : Context → Scalar → Kind → ℕ → Option Constant
flat_constant_of context ty (kinds.Word (keywords.Constant w)) name = constant_of_word ty w
flat_constant_of context ty kinds.Global name = option_map (λ s. made.Pointer (symbol_pointer s)) (symbol_of context name)
flat_constant_of context ty (kinds.Number v minus) name = number_at_type ty (kinds.Number v minus)
flat_constant_of context ty _ name = None

abbrev pub flat_constant_at : Context → Scalar → List Tok → Read Constant
flat_constant_at context ty ts = pick_at (λ t. flat_constant_of context ty t.kind t.name) constant_refusal ts

-- `(ptr c to T)`, where c is read in this way
abbrev pub cast_behind : (List Tok → Read Pointer) → List Tok → Read Constant
cast_behind item ts = do
  o ← opened_at ts
  p ← form_type_at is_pointer_word o.1
  base ← item p.1
  t ← next_at is_to base.1
  w ← integer_at t.1
  c ← mark_at CloseParenthesis w.1
  Ok (made.Cast base.0 w.0, c.1)

-- an expression that is a pointer, as a constant
abbrev pub address_constant_at : (List Tok → Read Pointer) → List Tok → Read Constant
address_constant_at pointer ts = do
  p ← pointer ts
  Ok (made.Pointer p.0, p.1)

-- a word begins a constant expression
abbrev pub begins_expression : Kind → Bool
begins_expression k = if is_cast_word k then true else begins_pointer k

-- a constant expression, with so many nestings left, and so many in it
abbrev pub expression_at : Context → ℕ → List Tok → Read Constant
expression_at context zero ts = Err (at OutOfProfile ts)
expression_at context (suc depth) ts =
    if has is_cast_word ts then cast_behind (pointer_at context depth) (behind ts)
    else address_constant_at (pointer_at context (suc depth)) ts

-- a constant where a type of a register stands before it
unfoldable pub constant_at : Context → ℕ → Scalar → List Tok → Read Constant
constant_at context depth ty ts =
    if has begins_expression ts then expression_at context depth ts else flat_constant_at context ty ts

-- Operands.

abbrev pub is_register : Kind → Bool
is_register kinds.Local = true
is_register _ = false

abbrev pub first_name : List Tok → ℕ
first_name [] = 0
first_name (t ∷ ts) = t.name

-- a register, or a constant
abbrev pub value_at : Context → Scalar → List Tok → Read Value
value_at context ty ts =
    if has is_register ts then Ok (values.Register (register_number context (first_name ts)), behind ts)
    else (constant_at context depth_limit ty ts >>= λ c. Ok (values.Constant c.0, c.1))
