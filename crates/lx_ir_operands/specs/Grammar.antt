-- Which tokens the operands of instructions are: the grammar, apart from how it is read.
use Rattle.std.specs.Prelude.{◌≡◌, ℕ, zero, suc, Bool, true, false, ◌⊎◌, List, [], ◌∷◌}
use Rattle.lx_ir_tokens.specs.declared.token.Kind.{Kind}
use Rattle.lx_ir_tokens.specs.declared.token.Kind.TheVariants as kinds
use Rattle.lx_ir_tokens.specs.declared.token.Mark.TheVariants.{Comma, OpenBracket, CloseBracket, OpenParenthesis, CloseParenthesis, Hash, Exclamation}
use Rattle.lx_ir_tokens.specs.declared.keyword.InstructionWord.{InstructionWord}
use Rattle.lx_ir_tokens.specs.declared.keyword.Keyword.{Keyword}
use Rattle.lx_ir_tokens.specs.declared.keyword.Keyword.TheVariants as keywords
use Rattle.lx_ir.specs.declared.types.Scalar.{Scalar}
use Rattle.lx_ir.specs.declared.types.Scalar.TheVariants.{Ptr}
use Rattle.lx_ir.specs.declared.module.Constant.{Constant}
use Rattle.lx_ir.specs.declared.module.Value.{Value}
use Rattle.lx_ir.specs.declared.module.Value.TheVariants as values
use Rattle.lx_ir.specs.declared.instr.Argument.{Argument}
use Rattle.lx_ir.specs.declared.instr.Edge.{Edge}
use Rattle.lx_ir.specs.declared.instr.SwitchCase.{SwitchCase}
use Rattle.lx_ir_terms.specs.Context.{Context}
use Rattle.lx_ir_terms.specs.Types.{scalar_in, count_in, depth_limit}
use Rattle.lx_ir_terms.specs.Words.{is_nothing_word}
use Rattle.lx_ir_terms.specs.Grammar.{Part, Picks, Is, IsMark, IsNothing, ◌then◌}
use Rattle.lx_ir_constants.specs.Constants.{is_pointer_word}
use Rattle.lx_ir_constants.specs.Grammar.{AreFlags, IsConstant, IsValue}
use Rattle.lx_ir_operands.specs.Steps.{is_align, is_metadata_name, is_text}
use Rattle.lx_ir_operands.specs.Operands.{instruction_in, is_label_word, kept_constant, kept_value, local_in}

-- What is passed over.

-- so many such parts
abbrev pub Times : Part → ℕ → Part
Times p zero = IsNothing
Times p (suc n) = p then Times p n

-- any number of such parts
abbrev pub Repeated : Part → Part
Repeated p ts = (n : ℕ) × Times p n ts

abbrev pub IsCount : Part
IsCount ts = (n : ℕ) × Picks (λ t. count_in t.kind) n ts

-- `, !name !N`, and not `!dbg`
abbrev pub IsMetadata : Part
IsMetadata = IsMark Comma then IsMark Exclamation then Is is_metadata_name then IsMark Exclamation then IsCount

-- nothing, or `, align N`
abbrev pub IsAlign : Part
IsAlign ts = IsNothing ts ⊎ (IsMark Comma then Is is_align then IsCount) ts

-- a word that is of this kind and has nothing behind it
abbrev pub is_word : Keyword → Keyword → Bool
is_word keywords.Parameter keywords.Parameter = true
is_word keywords.Attribute keywords.Attribute = true
is_word keywords.Align keywords.Align = true
is_word keywords.Dereferenceable keywords.Dereferenceable = true
is_word keywords.Captures keywords.Captures = true
is_word keywords.Section keywords.Section = true
is_word _ _ = false

abbrev pub is_kind : Keyword → Kind → Bool
is_kind w (kinds.Word v) = is_word w v
is_kind w _ = false

-- `align N`
abbrev pub IsAlignment : Part
IsAlignment = Is (is_kind keywords.Align) then IsCount

-- a word at an argument or result
abbrev pub IsPassed : Part
IsPassed ts =
    Is (is_kind keywords.Parameter) ts
    ⊎ (IsAlignment ts
    ⊎ ((Is (is_kind keywords.Dereferenceable) then IsMark OpenParenthesis then IsCount then IsMark CloseParenthesis) ts
    ⊎ (Is (is_kind keywords.Captures) then IsMark OpenParenthesis then Is is_nothing_word then IsMark CloseParenthesis) ts))

-- `#N`, or a word behind the parentheses of a call
abbrev pub IsAttribute : Part
IsAttribute ts =
    (IsMark Hash then IsCount) ts
    ⊎ (Is (is_kind keywords.Attribute) ts
    ⊎ (IsAlignment ts
    ⊎ (Is (is_kind keywords.Section) then Is is_text) ts))

-- Operands.

-- the first word of an instruction
abbrev pub First : InstructionWord → Part
First w = Picks (λ t. instruction_in t.kind) w

-- flags, and a part behind them
abbrev pub Flagged : Part → Part
Flagged p = AreFlags then p

abbrev pub IsScalar : Scalar → Part
IsScalar ty = Picks (λ t. scalar_in t.kind) ty

-- `T a`
abbrev pub IsTyped : Context → Argument → Part
IsTyped context a = IsScalar a.ty then IsValue context a.ty a.value

-- `, b`
abbrev pub IsSecond : Context → Scalar → Value → Part
IsSecond context ty b = IsMark Comma then IsValue context ty b

-- `, ptr p`
abbrev pub IsAddress : Context → Value → Part
IsAddress context p = IsMark Comma then Is is_pointer_word then IsValue context Ptr p

-- `, T b`, where the form wrote the first type before
abbrev pub IsAgain : Context → Scalar → Value → Part
IsAgain context ty b ts = (a : Argument) × (IsMark Comma then IsTyped context a) ts × (kept_value ty a.ty a.value ≡ b)

-- `%l`
abbrev pub IsLocal : Context → List ℕ → Part
IsLocal context l = Picks (λ t. local_in context t.kind t.name) l

-- `label %l`
abbrev pub IsLabel : Context → List ℕ → Part
IsLabel context l = Is is_label_word then IsLocal context l

-- `, label %l`
abbrev pub IsNextLabel : Context → List ℕ → Part
IsNextLabel context l = IsMark Comma then IsLabel context l

-- `[ a, %l ]`
abbrev pub IsEdge : Context → Scalar → Edge → Part
IsEdge context ty e = IsMark OpenBracket then IsValue context ty e.value then IsMark Comma then IsLocal context e.label then IsMark CloseBracket

-- `T c, label %l`, where the switch has this type
abbrev pub IsCase : Context → Scalar → SwitchCase → Part
IsCase context ty k ts =
    (other : Scalar) × (c : Constant) × (IsScalar other then IsConstant context depth_limit other c then IsNextLabel context k.label) ts
    × (values.Constant (kept_constant ty other c) ≡ k.value)

-- items without marks between them
abbrev pub AreInRow : {A : Type 0} → (A → Part) → List A → Part
AreInRow item [] = IsNothing
AreInRow item (x ∷ xs) = item x then AreInRow item xs
