-- Which tokens constants are: the grammar, apart from how it is read.
use Rattle.std.specs.Prelude.{◌≡◌, ℕ, zero, suc, Bool, true, ◌⊎◌, Option, Some, List, [], ◌∷◌, ◌++◌}
use Rattle.std.specs.List.{list_all}
use Rattle.lx_ir_tokens.specs.declared.token.Tok.{Tok}
use Rattle.lx_ir_tokens.specs.declared.token.Kind.{Kind}
use Rattle.lx_ir_tokens.specs.declared.token.Mark.TheVariants.{Comma, OpenParenthesis, CloseParenthesis}
use Rattle.lx_words.specs.declared.word.Width.TheVariants.{W64}
use Rattle.lx_words.specs.Word.{Word}
use Rattle.lx_ir.specs.declared.types.Scalar.{Scalar}
use Rattle.lx_ir.specs.declared.module.Pointer.{Pointer}
use Rattle.lx_ir.specs.declared.module.Pointer.TheVariants as pointers
use Rattle.lx_ir.specs.declared.module.Constant.{Constant}
use Rattle.lx_ir.specs.declared.module.Constant.TheVariants as made
use Rattle.lx_ir.specs.declared.module.Value.{Value}
use Rattle.lx_ir.specs.declared.module.Value.TheVariants as values
use Rattle.lx_ir_terms.specs.Context.{Context, register_number}
use Rattle.lx_ir_terms.specs.Reading.{is_mark, is_to}
use Rattle.lx_ir_terms.specs.Types.{integer_in, depth_limit}
use Rattle.lx_ir_terms.specs.Grammar.{Part, Picks, Is, IsMark, IsNothing, ◌then◌, IsWritten}
use Rattle.lx_ir_constants.specs.declared.element.Element.{Element}
use Rattle.lx_ir_constants.specs.Constants.{number_in, is_flag_word, is_pointer_word, is_long_word, is_element_word, is_address_word, is_cast_word, flat_pointer_of, flat_constant_of, address_of, is_register}

-- Lists.

-- further items, each behind a comma
abbrev pub AreFurther : {A : Type 0} → (A → Part) → List A → Part
AreFurther item [] = IsNothing
AreFurther item (x ∷ xs) = IsMark Comma then item x then AreFurther item xs

-- one item or more, with commas between them
abbrev pub AreItems : {A : Type 0} → (A → Part) → List A → Part
AreItems item [] = λ ts. ⊥
AreItems item (x ∷ xs) = item x then AreFurther item xs

-- Constant expressions.

-- flags, and the parenthesis behind them
abbrev pub AreFlags : Part
AreFlags ts = list_all (λ t. is_flag_word t.kind) ts ≡ true

abbrev pub IsOpened : Part
IsOpened = AreFlags then IsMark OpenParenthesis

-- `I i`
abbrev pub IsIndex : Word → Part
IsIndex i = Picks (λ t. integer_in t.kind) i.width then Picks (λ t. number_in i.width t.kind) i

-- `getelementptr (T, ptr c, I i, ..)`, where c stands so
abbrev pub IsElement : Context → (Pointer → Part) → Element → Part
IsElement context base e =
    Is is_element_word then IsOpened then IsWritten context e.ty then IsMark Comma then Is is_pointer_word then base e.base
    then IsMark Comma then AreItems IsIndex e.indices then IsMark CloseParenthesis

-- `inttoptr (i64 n to ptr)`
abbrev pub IsAddress : Word → Part
IsAddress n =
    Is is_address_word then IsOpened then Is is_long_word then Picks (λ t. number_in W64 t.kind) n then Is is_to
    then Is is_pointer_word then IsMark CloseParenthesis

-- a pointer that is one token
abbrev pub IsFlatPointer : Context → Pointer → Part
IsFlatPointer context p = Picks (λ t. flat_pointer_of context t.kind t.name) p

-- an expression that is a pointer, and nests at most so deep
abbrev pub IsPointerExpression : Context → ℕ → Pointer → Part
IsPointerExpression context zero p ts = ⊥
IsPointerExpression context (suc depth) p ts =
    ((e : Element) × IsElement context (λ q us. IsFlatPointer context q us ⊎ IsPointerExpression context depth q us) e ts × (address_of context e ≡ p))
    ⊎ ((n : Word) × IsAddress n ts × (pointers.Number n.bits ≡ p))

-- a pointer, which nests at most so deep
abbrev pub IsPointer : Context → ℕ → Pointer → Part
IsPointer context depth p ts = IsFlatPointer context p ts ⊎ IsPointerExpression context depth p ts

-- `ptrtoint (ptr c to T)`
abbrev pub IsCast : Context → ℕ → Constant → Part
IsCast context depth (made.Cast p w) =
    Is is_cast_word then IsOpened then Is is_pointer_word then IsPointer context depth p then Is is_to
    then Picks (λ t. integer_in t.kind) w then IsMark CloseParenthesis
IsCast context depth _ = λ ts. ⊥

-- an expression that is a pointer, as a constant
abbrev pub IsAddressConstant : Context → ℕ → Constant → Part
IsAddressConstant context depth (made.Pointer p) = IsPointerExpression context depth p
IsAddressConstant context depth _ = λ ts. ⊥

-- a constant expression, which nests at most so deep
abbrev pub IsExpression : Context → ℕ → Constant → Part
IsExpression context zero c ts = ⊥
IsExpression context (suc depth) c ts = IsCast context depth c ts ⊎ IsAddressConstant context (suc depth) c ts

-- a constant where a type of a register stands before it
abbrev pub IsConstant : Context → ℕ → Scalar → Constant → Part
IsConstant context depth ty c ts = Picks (λ t. flat_constant_of context ty t.kind t.name) c ts ⊎ IsExpression context depth c ts

-- Operands.

-- a register, or a constant
abbrev pub IsValue : Context → Scalar → Value → Part
IsValue context ty (values.Register r) ts = (t : Tok) × (is_register t.kind ≡ true) × (register_number context t.name ≡ r) × (ts ≡ t ∷ [])
IsValue context ty (values.Constant c) ts = IsConstant context depth_limit ty c ts
