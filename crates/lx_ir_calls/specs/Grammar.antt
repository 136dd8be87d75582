-- Which tokens calls are: the grammar, apart from how it is read.
use Rattle.std.specs.Prelude.{◌≡◌, ℕ, Bool, true, false, Option, Some, None, List, [], ◌∷◌, is_some}
use Rattle.lx_ir_tokens.specs.declared.token.Tok.{Tok}
use Rattle.lx_ir_tokens.specs.declared.token.Mark.TheVariants.{Comma, OpenParenthesis, CloseParenthesis}
use Rattle.lx_ir_tokens.specs.declared.keyword.InstructionWord.TheVariants as instructions
use Rattle.lx_words.specs.declared.word.Width.{Width}
use Rattle.lx_words.specs.declared.word.Width.TheVariants.{W1, W8, W32}
use Rattle.lx_ir.specs.declared.types.Scalar.{Scalar}
use Rattle.lx_ir.specs.declared.types.Scalar.TheVariants.{Int, Ptr}
use Rattle.lx_ir.specs.declared.module.Symbol.{Symbol}
use Rattle.lx_ir.specs.declared.module.Value.{Value}
use Rattle.lx_ir.specs.declared.instr.Argument.{Argument}
use Rattle.lx_ir.specs.declared.instr.Callee.{Callee}
use Rattle.lx_ir.specs.declared.instr.Op.{Op}
use Rattle.lx_ir.specs.declared.instr.Op.TheVariants as op
use Rattle.lx_ir.specs.Operands.{guard_width}
use Rattle.lx_ir_terms.specs.Context.{Context}
use Rattle.lx_ir_terms.specs.Grammar.{Part, Picks, Is, IsMark, ◌then◌}
use Rattle.lx_ir_constants.specs.Grammar.{IsValue}
use Rattle.lx_ir_constants.specs.InitGrammar.{AreListed}
use Rattle.lx_ir_operands.specs.Grammar.{First, Flagged, IsAttribute, IsPassed, IsScalar, Repeated}
use Rattle.lx_ir_calls.specs.declared.writes.BlockWrite.TheVariants as writes
use Rattle.lx_ir_calls.specs.declared.image_lines.ImageLine.TheVariants as lines
use Rattle.lx_ir_calls.specs.declared.intrinsics.TextForm.{TextForm}
use Rattle.lx_ir_calls.specs.declared.intrinsics.Intrinsic.{Intrinsic}
use Rattle.lx_ir_calls.specs.declared.intrinsics.Intrinsic.TheVariants as intrinsics
use Rattle.lx_ir_calls.specs.Arguments.{is_scalar_word}
use Rattle.lx_ir_calls.specs.Writes.{is_false_word}
use Rattle.lx_ir_calls.specs.ImageLines.{symbol_in, action_in}
use Rattle.lx_ir_calls.specs.Intrinsics.{intrinsic_of}
use Rattle.lx_ir_calls.specs.Calls.{callee_of, is_tail_word, call_result_in}

-- Arguments.

-- `T words a`
abbrev pub IsArgument : Context → Argument → Part
IsArgument context a = IsScalar a.ty then Repeated IsPassed then IsValue context a.ty a.value

-- the same with a type that the called name gives
abbrev pub IsGivenArgument : Context → Scalar → Value → Part
IsGivenArgument context ty v = Is (is_scalar_word ty) then Repeated IsPassed then IsValue context ty v

-- the same behind a comma
abbrev pub IsNextArgument : Context → Scalar → Value → Part
IsNextArgument context ty v = IsMark Comma then IsGivenArgument context ty v

-- `, i1 false)`
abbrev pub IsNotVolatile : Part
IsNotVolatile = IsMark Comma then Is (is_scalar_word (Int W1)) then Repeated IsPassed then Is is_false_word then IsMark CloseParenthesis

-- `ptr @f`
abbrev pub IsSymbolArgument : Context → Symbol → Part
IsSymbolArgument context f = Is (is_scalar_word Ptr) then Repeated IsPassed then Picks (λ t. symbol_in context t.kind t.name) f

-- `, i32 K`
abbrev pub IsAction : ℕ → Part
IsAction k = IsMark Comma then Is (is_scalar_word (Int W32)) then Repeated IsPassed then Picks (λ t. action_in t.kind) k

-- Calls whose names say what they do, behind these names.

-- `(ptr d, ptr s, iN n, i1 false)`
abbrev pub IsCopy : Context → Width → Value → Value → Value → Part
IsCopy context w d s n =
    IsMark OpenParenthesis
    then IsGivenArgument context Ptr d
    then IsNextArgument context Ptr s
    then IsNextArgument context (Int w) n
    then IsNotVolatile

-- `(ptr d, i8 b, iN n, i1 false)`
abbrev pub IsFill : Context → Width → Value → Value → Value → Part
IsFill context w d b n =
    IsMark OpenParenthesis
    then IsGivenArgument context Ptr d
    then IsNextArgument context (Int W8) b
    then IsNextArgument context (Int w) n
    then IsNotVolatile

-- `(ptr p, iN n)`
abbrev pub IsGuard : Context → Bool → Value → Value → Part
IsGuard context narrow p n =
    IsMark OpenParenthesis
    then IsGivenArgument context Ptr p
    then IsNextArgument context (Int (guard_width narrow)) n
    then IsMark CloseParenthesis

-- `(ptr p)`
abbrev pub IsCheck : Context → Value → Part
IsCheck context p = IsMark OpenParenthesis then IsGivenArgument context Ptr p then IsMark CloseParenthesis

-- `(ptr @f)`
abbrev pub IsCrossing : Context → Symbol → Part
IsCrossing context f = IsMark OpenParenthesis then IsSymbolArgument context f then IsMark CloseParenthesis

-- `(ptr @f, i32 K)`
abbrev pub IsActionOf : Context → Symbol → ℕ → Part
IsActionOf context f k = IsMark OpenParenthesis then IsSymbolArgument context f then IsAction k then IsMark CloseParenthesis

-- a name that says what its calls do
abbrev pub IsIntrinsic : Context → TextForm → Intrinsic → Part
IsIntrinsic context form i = Picks (λ t. intrinsic_of context form t.kind t.name) i

-- Calls.

-- what is called, where no name says what the call does
abbrev pub IsCallee : Context → TextForm → Callee → Part
IsCallee context form f ts =
    (t : Tok) × (callee_of context t.kind t.name ≡ Some f) × (intrinsic_of context form t.kind t.name ≡ None) × (ts ≡ t ∷ [])

-- `f(T a, ..)`
abbrev pub IsPlainCall : Context → TextForm → Callee → List Argument → Part
IsPlainCall context form f args =
    IsCallee context form f then IsMark OpenParenthesis then AreListed (IsArgument context) args then IsMark CloseParenthesis

-- the called name, and what stands behind it in parentheses
abbrev pub IsCalled : Context → TextForm → Op → Part
IsCalled context form (op.Call to ret f args) = IsPlainCall context form f args
IsCalled context form (op.CopyBlock moves d s len) = λ ts.
    (w : Width) × (len.ty ≡ Int w) × (IsIntrinsic context form (intrinsics.Write (writes.Copy moves w)) then IsCopy context w d s len.value) ts
IsCalled context form (op.FillBlock d b len) = λ ts.
    (w : Width) × (len.ty ≡ Int w) × (IsIntrinsic context form (intrinsics.Write (writes.Fill w)) then IsFill context w d b len.value) ts
IsCalled context form (op.Guard p n narrow) = IsIntrinsic context form (intrinsics.Line (lines.Guard narrow)) then IsGuard context narrow p n
IsCalled context form (op.Check p) = IsIntrinsic context form (intrinsics.Line lines.Check) then IsCheck context p
IsCalled context form (op.Enter f) = IsIntrinsic context form (intrinsics.Line (lines.Crossing false)) then IsCrossing context f
IsCalled context form (op.Leave f) = IsIntrinsic context form (intrinsics.Line (lines.Crossing true)) then IsCrossing context f
IsCalled context form (op.Pre f k) = IsIntrinsic context form (intrinsics.Line (lines.Action false)) then IsActionOf context f k
IsCalled context form (op.Post f k) = IsIntrinsic context form (intrinsics.Line (lines.Action true)) then IsActionOf context f k
IsCalled context form _ = λ ts. ⊥

-- the result that a call names
abbrev pub result_of : Op → Option Scalar
result_of (op.Call to ret f args) = ret
result_of o = None

-- the register to which a call gives its result
abbrev pub given_by : Op → Option ℕ
given_by (op.Call to ret f args) = to
given_by o = None

-- the type of a result behind words that are passed over, which is `void` only where no register is given
abbrev pub IsCallResult : Option ℕ → Option Scalar → Part
IsCallResult to ret = Repeated IsPassed then Picks (λ t. call_result_in (is_some to) t.kind) ret

-- a call: `tail` and `notail` may stand before it, and words behind it
abbrev pub IsCall : Context → TextForm → Op → Part
IsCall context form o =
    Repeated (Is is_tail_word)
    then First instructions.Call
    then Flagged (IsCallResult (given_by o) (result_of o))
    then IsCalled context form o
    then Repeated IsAttribute
