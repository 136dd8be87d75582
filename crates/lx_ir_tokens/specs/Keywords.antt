-- The words of IR text, each with what it may be.
use Rattle.std.specs.Prelude.{ℕ, List, [], ◌∷◌, ◌++◌, Bool, true, false, codes, bytes_eq, map, unwrap_or}
use Rattle.std.specs.Map.{lookup}
use Rattle.lx_words.specs.declared.word.Width.TheVariants.{W1, W8, W16, W32, W64}
use Rattle.lx_words.specs.declared.word.BinOp.TheVariants as operator
use Rattle.lx_words.specs.declared.word.Pred.TheVariants as predicate
use Rattle.lx_ir_tokens.specs.declared.keyword.ScalarWord.TheVariants as scalar
use Rattle.lx_ir_tokens.specs.declared.keyword.StatementWord.TheVariants as statement
use Rattle.lx_ir_tokens.specs.declared.keyword.ConversionWord.TheVariants as conversion
use Rattle.lx_ir_tokens.specs.declared.keyword.InstructionWord.TheVariants as instruction
use Rattle.lx_ir_tokens.specs.declared.keyword.ConstantWord.TheVariants as constant
use Rattle.lx_ir_tokens.specs.declared.keyword.Keyword.{Keyword}
use Rattle.lx_ir_tokens.specs.declared.keyword.Keyword.TheVariants.{Scalar, Void, Times, Statement, Instruction, Predicate, Constant, To, Label, Linkage, Parameter, Attribute, Flag, Tail, Align, Dereferenceable, Captures, Nothing, Section, Debug, Heading, Other}

-- words with what they may be
abbrev pub Table : Type 0
Table = List (List ℕ × Keyword)

-- these words all may be the same
abbrev pub each : Keyword → List (List ℕ) → Table
each keyword texts = map (λ text. (text, keyword)) texts

abbrev pub scalars : Table
scalars =
    (codes "i1", Scalar (scalar.Int W1))
    ∷ (codes "i8", Scalar (scalar.Int W8))
    ∷ (codes "i16", Scalar (scalar.Int W16))
    ∷ (codes "i32", Scalar (scalar.Int W32))
    ∷ (codes "i64", Scalar (scalar.Int W64))
    ∷ (codes "ptr", Scalar scalar.Ptr)
    ∷ []

-- what a statement defines or declares
abbrev pub statements : Table
statements =
    (codes "type", Statement statement.NamedType)
    ∷ (codes "global", Statement statement.Global)
    ∷ (codes "constant", Statement statement.Constant)
    ∷ (codes "declare", Statement statement.Declare)
    ∷ (codes "define", Statement statement.Define)
    ∷ []

-- the instructions that are operators
abbrev pub operators : Table
operators =
    (codes "add", Instruction (instruction.Operator operator.Add))
    ∷ (codes "sub", Instruction (instruction.Operator operator.Sub))
    ∷ (codes "mul", Instruction (instruction.Operator operator.Mul))
    ∷ (codes "udiv", Instruction (instruction.Operator operator.UDiv))
    ∷ (codes "sdiv", Instruction (instruction.Operator operator.SDiv))
    ∷ (codes "urem", Instruction (instruction.Operator operator.URem))
    ∷ (codes "srem", Instruction (instruction.Operator operator.SRem))
    ∷ (codes "and", Instruction (instruction.Operator operator.And))
    ∷ (codes "or", Instruction (instruction.Operator operator.Or))
    ∷ (codes "xor", Instruction (instruction.Operator operator.Xor))
    ∷ (codes "shl", Instruction (instruction.Operator operator.Shl))
    ∷ (codes "lshr", Instruction (instruction.Operator operator.LShr))
    ∷ (codes "ashr", Instruction (instruction.Operator operator.AShr))
    ∷ []

-- the comparisons of `icmp`
abbrev pub predicates : Table
predicates =
    (codes "eq", Predicate predicate.Eq)
    ∷ (codes "ne", Predicate predicate.Ne)
    ∷ (codes "ugt", Predicate predicate.Ugt)
    ∷ (codes "uge", Predicate predicate.Uge)
    ∷ (codes "ult", Predicate predicate.Ult)
    ∷ (codes "ule", Predicate predicate.Ule)
    ∷ (codes "sgt", Predicate predicate.Sgt)
    ∷ (codes "sge", Predicate predicate.Sge)
    ∷ (codes "slt", Predicate predicate.Slt)
    ∷ (codes "sle", Predicate predicate.Sle)
    ∷ []

-- the other instructions
abbrev pub instructions : Table
instructions =
    (codes "icmp", Instruction instruction.Compare)
    ∷ (codes "zext", Instruction (instruction.Conversion conversion.ZExt))
    ∷ (codes "sext", Instruction (instruction.Conversion conversion.SExt))
    ∷ (codes "trunc", Instruction (instruction.Conversion conversion.Trunc))
    ∷ (codes "ptrtoint", Instruction (instruction.Conversion conversion.PtrToInt))
    ∷ (codes "inttoptr", Instruction (instruction.Conversion conversion.IntToPtr))
    ∷ (codes "freeze", Instruction instruction.Freeze)
    ∷ (codes "select", Instruction instruction.Select)
    ∷ (codes "phi", Instruction instruction.Phi)
    ∷ (codes "alloca", Instruction instruction.Alloca)
    ∷ (codes "load", Instruction instruction.Load)
    ∷ (codes "store", Instruction instruction.Store)
    ∷ (codes "getelementptr", Instruction instruction.GetElementPtr)
    ∷ (codes "call", Instruction instruction.Call)
    ∷ (codes "ret", Instruction instruction.Ret)
    ∷ (codes "br", Instruction instruction.Br)
    ∷ (codes "switch", Instruction instruction.Switch)
    ∷ (codes "unreachable", Instruction instruction.Unreachable)
    ∷ []

-- the constants of one word
abbrev pub constants : Table
constants =
    (codes "true", Constant constant.True)
    ∷ (codes "false", Constant constant.False)
    ∷ (codes "null", Constant constant.Null)
    ∷ (codes "undef", Constant constant.Undef)
    ∷ (codes "poison", Constant constant.Poison)
    ∷ (codes "zeroinitializer", Constant constant.Zero)
    ∷ []

-- words with a part of their own in some form
abbrev pub joints : Table
joints =
    (codes "void", Void)
    ∷ (codes "x", Times)
    ∷ (codes "to", To)
    ∷ (codes "label", Label)
    ∷ (codes "align", Align)
    ∷ (codes "captures", Captures)
    ∷ (codes "none", Nothing)
    ∷ (codes "section", Section)
    ∷ (codes "dbg", Debug)
    ∷ []

-- passed over before the type of a global or function
abbrev pub linkage_words : List (List ℕ)
linkage_words =
    codes "private"
    ∷ codes "internal"
    ∷ codes "linkonce"
    ∷ codes "linkonce_odr"
    ∷ codes "weak"
    ∷ codes "weak_odr"
    ∷ codes "common"
    ∷ codes "default"
    ∷ codes "hidden"
    ∷ codes "protected"
    ∷ codes "dso_local"
    ∷ codes "unnamed_addr"
    ∷ codes "local_unnamed_addr"
    ∷ codes "ccc"
    ∷ []

-- passed over at a parameter, argument or result
abbrev pub parameter_words : List (List ℕ)
parameter_words =
    codes "noundef"
    ∷ codes "nonnull"
    ∷ codes "signext"
    ∷ codes "zeroext"
    ∷ codes "noalias"
    ∷ codes "nocapture"
    ∷ codes "readonly"
    ∷ codes "readnone"
    ∷ codes "writeonly"
    ∷ codes "returned"
    ∷ codes "immarg"
    ∷ codes "nofree"
    ∷ []

-- passed over behind the parentheses of a function or call
abbrev pub attribute_words : List (List ℕ)
attribute_words = codes "nounwind" ∷ codes "noinline" ∷ codes "optnone" ∷ codes "uwtable" ∷ codes "comdat" ∷ []

-- passed over behind the first word of an instruction or constant
abbrev pub flag_words : List (List ℕ)
flag_words =
    codes "nuw"
    ∷ codes "nsw"
    ∷ codes "exact"
    ∷ codes "disjoint"
    ∷ codes "inbounds"
    ∷ codes "nusw"
    ∷ codes "nneg"
    ∷ codes "samesign"
    ∷ []

-- all words that say nothing where they may stand
abbrev pub silent : Table
silent =
    each Linkage linkage_words
    ++ each Parameter parameter_words
    ++ each Attribute attribute_words
    ++ each Flag flag_words
    ++ each Dereferenceable (codes "dereferenceable" ∷ codes "dereferenceable_or_null" ∷ [])
    ++ each Tail (codes "tail" ∷ codes "notail" ∷ [])
    ++ each Heading (codes "source_filename" ∷ codes "target" ∷ codes "attributes" ∷ [])

-- all words of the language
abbrev pub words : Table
words =
    scalars ++ statements ++ operators ++ predicates ++ instructions ++ constants ++ joints ++ silent

-- what a word may be
unfoldable pub keyword_of : List ℕ → Keyword
keyword_of text = unwrap_or (lookup (bytes_eq text) words) Other

-- `dbg` and the words of no form are outside the profile
abbrev pub is_in_profile : Keyword → Bool
is_in_profile Debug = false
is_in_profile Other = false
is_in_profile _ = true

-- may stand before the type of a global or function
abbrev pub is_linkage : Keyword → Bool
is_linkage Linkage = true
is_linkage _ = false

-- may stand at a parameter, argument or result
abbrev pub is_at_parameter : Keyword → Bool
is_at_parameter Parameter = true
is_at_parameter Align = true
is_at_parameter Dereferenceable = true
is_at_parameter Captures = true
is_at_parameter _ = false

-- may stand behind the parentheses of a function or call
abbrev pub is_behind_parentheses : Keyword → Bool
is_behind_parentheses Attribute = true
is_behind_parentheses Section = true
is_behind_parentheses Align = true
is_behind_parentheses _ = false

-- may stand before `call`
abbrev pub is_before_call : Keyword → Bool
is_before_call Tail = true
is_before_call _ = false

-- may stand behind the first word of an instruction or constant
abbrev pub is_flag : Keyword → Bool
is_flag Flag = true
is_flag _ = false

-- begins a line that is passed over
abbrev pub is_heading : Keyword → Bool
is_heading Heading = true
is_heading _ = false
