-- Which tokens instructions are: the grammar, apart from how it is read.
use Rattle.std.specs.Prelude.{◌≡◌, ℕ, true, Some, None, [], ◌∷◌}
use Rattle.lx_ir_tokens.specs.declared.token.Tok.{Tok}
use Rattle.lx_ir_tokens.specs.declared.token.Mark.TheVariants.{Comma, Equal, OpenBracket, CloseBracket}
use Rattle.lx_ir_tokens.specs.declared.keyword.InstructionWord.TheVariants as instructions
use Rattle.lx_ir_tokens.specs.declared.keyword.ConversionWord.{ConversionWord}
use Rattle.lx_words.specs.declared.word.Width.TheVariants.{W1}
use Rattle.lx_ir.specs.declared.types.Scalar.TheVariants.{Int}
use Rattle.lx_ir.specs.declared.instr.Op.{Op}
use Rattle.lx_ir.specs.declared.instr.Op.TheVariants as op
use Rattle.lx_ir_terms.specs.Context.{Context, register_number}
use Rattle.lx_ir_terms.specs.Reading.{is_to}
use Rattle.lx_ir_terms.specs.Types.{result_in}
use Rattle.lx_ir_terms.specs.Grammar.{Part, Picks, Is, IsMark, ◌then◌, IsWritten}
use Rattle.lx_ir_constants.specs.Constants.{is_register}
use Rattle.lx_ir_constants.specs.Grammar.{AreItems, IsValue}
use Rattle.lx_ir_operands.specs.Operands.{argument, is_truth_word}
use Rattle.lx_ir_operands.specs.Grammar.{AreInRow, First, Flagged, IsAddress, IsAgain, IsAlign, IsCase, IsEdge, IsLabel, IsMetadata, IsNextLabel, IsScalar, IsSecond, IsTyped, Repeated}
use Rattle.lx_ir_calls.specs.declared.intrinsics.TextForm.{TextForm}
use Rattle.lx_ir_calls.specs.Grammar.{IsCall}
use Rattle.lx_ir_instructions.specs.Instructions.{conversion_of, predicate_in, word_of_unary}

-- a register by its number
abbrev pub IsRegister : Context → ℕ → Part
IsRegister context r ts = (t : Tok) × (is_register t.kind ≡ true) × (register_number context t.name ≡ r) × (ts ≡ t ∷ [])

-- `%r =`, and what gives it
abbrev pub Given : Context → ℕ → Part → Part
Given context r p = IsRegister context r then IsMark Equal then p

-- Instructions.

abbrev pub IsForm : Context → TextForm → Op → Part
IsForm context form (op.Binary to o ty a b) =
    Given context to (First (instructions.Operator o) then Flagged (IsTyped context (argument ty a)) then IsSecond context ty b)
IsForm context form (op.Compare to p ty a b) =
    Given context to
    (First instructions.Compare
    then Flagged (Picks (λ t. predicate_in t.kind) p)
    then IsTyped context (argument ty a)
    then IsSecond context ty b)
IsForm context form (op.Convert to how from a into) =
    Given context to
    (λ ts. (w : ConversionWord)
    × (First (instructions.Conversion w) then Flagged (IsTyped context (argument from a)) then Is is_to then IsScalar into) ts
    × (conversion_of w ≡ how))
IsForm context form (op.Unary to o ty a) = Given context to (First (word_of_unary o) then Flagged (IsTyped context (argument ty a)))
IsForm context form (op.Select to c ty a b) =
    Given context to
    (First instructions.Select
    then Flagged (Is is_truth_word)
    then IsValue context (Int W1) c
    then IsMark Comma
    then IsTyped context (argument ty a)
    then IsAgain context ty b)
IsForm context form (op.Phi to ty edges) =
    Given context to (First instructions.Phi then Flagged (IsScalar ty) then AreItems (IsEdge context ty) edges)
IsForm context form (op.Alloca to ty) = Given context to (First instructions.Alloca then Flagged (IsWritten context ty) then IsAlign)
IsForm context form (op.Load to ty at) =
    Given context to (First instructions.Load then Flagged (IsScalar ty) then IsAddress context at then IsAlign)
IsForm context form (op.Store ty v at) =
    First instructions.Store then Flagged (IsTyped context (argument ty v)) then IsAddress context at then IsAlign
IsForm context form (op.GetElementPtr to ty base indices) =
    Given context to
    (First instructions.GetElementPtr
    then Flagged (IsWritten context ty)
    then IsAddress context base
    then IsMark Comma
    then AreItems (IsTyped context) indices)
IsForm context form (op.Call None ret f args) = IsCall context form (op.Call None ret f args)
IsForm context form (op.Call (Some to) ret f args) = Given context to (IsCall context form (op.Call (Some to) ret f args))
IsForm context form (op.CopyBlock moves d s len) = IsCall context form (op.CopyBlock moves d s len)
IsForm context form (op.FillBlock d b len) = IsCall context form (op.FillBlock d b len)
IsForm context form (op.Ret None) = First instructions.Ret then Flagged (Picks (λ t. result_in t.kind) None)
IsForm context form (op.Ret (Some v)) = First instructions.Ret then Flagged (IsTyped context v)
IsForm context form (op.Jump l) = First instructions.Br then Flagged (IsLabel context l)
IsForm context form (op.Branch c a b) =
    First instructions.Br
    then Flagged (Is is_truth_word)
    then IsValue context (Int W1) c
    then IsNextLabel context a
    then IsNextLabel context b
IsForm context form (op.Switch ty v otherwise cases) =
    First instructions.Switch
    then Flagged (IsTyped context (argument ty v))
    then IsNextLabel context otherwise
    then IsMark OpenBracket
    then AreInRow (IsCase context ty) cases
    then IsMark CloseBracket
IsForm context form op.Unreachable = First instructions.Unreachable
-- the lines that images alone have
IsForm context form (op.Guard at size narrow) = IsCall context form (op.Guard at size narrow)
IsForm context form (op.Check target) = IsCall context form (op.Check target)
IsForm context form (op.Enter f) = IsCall context form (op.Enter f)
IsForm context form (op.Pre f k) = IsCall context form (op.Pre f k)
IsForm context form (op.Post f k) = IsCall context form (op.Post f k)
IsForm context form (op.Leave f) = IsCall context form (op.Leave f)

-- an instruction, and the metadata behind it
abbrev pub IsInstr : Context → TextForm → Op → Part
IsInstr context form o = IsForm context form o then Repeated IsMetadata
