-- The text of a module: types, globals, imports and functions in their order, one statement a line.
use Rattle.std.specs.Prelude.{◌≡◌, refl, bytes_eq, ℕ, zero, suc, Bool, true, false, ◌||◌, ◌&&◌, Option, Some, None, List, [], ◌∷◌, ◌++◌, map, flat_map, codes, nat_le, nat_eq, ◌/◌, ◌%◌, ◌+◌, nat_lt, if◌then◌else◌, slice_index_or}
use Rattle.std.specs.List.{list_all}
use Rattle.lx_words.specs.Text.{decimal_text, signed_text}
use Rattle.lx_words.specs.Word.{signed}
use Rattle.lx_words.specs.declared.word.Width.{Width}
use Rattle.lx_words.specs.declared.word.Width.TheVariants.{W1, W8, W16, W32, W64}
use Rattle.lx_words.specs.declared.word.BinOp.{BinOp}
use Rattle.lx_words.specs.declared.word.BinOp.TheVariants as binop
use Rattle.lx_words.specs.declared.word.Pred.{Pred}
use Rattle.lx_words.specs.declared.word.Pred.TheVariants as pred
use Rattle.lx_ir.specs.declared.types.Scalar.{Scalar}
use Rattle.lx_ir.specs.declared.types.Scalar.TheVariants.{Int, Ptr}
use Rattle.lx_ir.specs.declared.types.NamedType.{NamedType}
use Rattle.lx_ir.specs.declared.module.Blank.{Blank}
use Rattle.lx_ir.specs.declared.module.Blank.TheVariants.{Undef, Poison, Zero}
use Rattle.lx_ir.specs.declared.module.Symbol.{Symbol}
use Rattle.lx_ir.specs.declared.module.Symbol.TheVariants as symbol
use Rattle.lx_ir.specs.declared.module.Pointer.{Pointer}
use Rattle.lx_ir.specs.declared.module.Pointer.TheVariants as pointer
use Rattle.lx_ir.specs.declared.module.Constant.{Constant}
use Rattle.lx_ir.specs.declared.module.Constant.TheVariants as constant
use Rattle.lx_ir.specs.declared.module.Value.{Value}
use Rattle.lx_ir.specs.declared.module.Value.TheVariants as value
use Rattle.lx_ir.specs.declared.module.Brackets.{Brackets}
use Rattle.lx_ir.specs.declared.module.Brackets.TheVariants as brackets
use Rattle.lx_ir.specs.declared.module.GlobalVar.{GlobalVar}
use Rattle.lx_ir.specs.declared.module.Parameter.{Parameter}
use Rattle.lx_ir.specs.declared.module.Block.{Block}
use Rattle.lx_ir.specs.declared.module.Function.{Function}
use Rattle.lx_ir.specs.declared.module.Module.{Module}
use Rattle.lx_ir.specs.declared.instr.Conversion.{Conversion}
use Rattle.lx_ir.specs.declared.instr.Conversion.TheVariants as conversion
use Rattle.lx_ir.specs.declared.instr.Edge.{Edge}
use Rattle.lx_ir.specs.declared.instr.SwitchCase.{SwitchCase}
use Rattle.lx_ir.specs.declared.instr.Argument.{Argument}
use Rattle.lx_ir.specs.declared.instr.Callee.{Callee}
use Rattle.lx_ir.specs.declared.instr.Callee.TheVariants as callee
use Rattle.lx_ir.specs.declared.instr.Instr.{Instr}
use Rattle.lx_ir.specs.declared.instr.UnaryOp.{UnaryOp}
use Rattle.lx_ir.specs.declared.instr.UnaryOp.TheVariants as unary
use Rattle.lx_ir.specs.declared.instr.Op.{Op}
use Rattle.lx_ir.specs.declared.instr.Op.TheVariants as op
use Rattle.lx_ir.specs.Operands.{guard_width}
use Rattle.lx_ir.specs.IrType.{IrType, One, Array, Struct, Packed, Named, IrTypes, none, also}
use Rattle.lx_ir.specs.Init.{Init, Plain, Empty, Bytes, Group, Inits, no_more, more}

-- the bytes of a text
abbrev pub Text : Type 0
Text = List ℕ

-- Names.

-- the bytes that a name without quotes is made of: letters, digits and `-$._`
abbrev pub is_name_byte : ℕ → Bool
is_name_byte b =
    nat_le 65 b && nat_le b 90 || nat_le 97 b && nat_le b 122 || nat_le 48 b && nat_le b 57
    || (nat_eq b 45 || nat_eq b 36 || nat_eq b 46 || nat_eq b 95)

-- a name, in quotes where its bytes need them
unfoldable pub name_text : List ℕ → Text
name_text name = if list_all is_name_byte name then name else codes "\"" ++ name ++ codes "\""

-- the name of a type, a register or a label
abbrev pub local_text : List ℕ → Text
local_text name = codes "%" ++ name_text name

-- the name of a function or a global
abbrev pub global_text : List ℕ → Text
global_text name = codes "@" ++ name_text name

-- a name by its number; a number that names nothing has the empty name
abbrev pub name_at : List (List ℕ) → ℕ → List ℕ
name_at names k = slice_index_or names k []

abbrev pub type_name : List NamedType → ℕ → List ℕ
type_name types k = name_at (map (λ t. t.name) types) k

abbrev pub register_names : Function → List (List ℕ)
register_names f = map (λ p. p.name) f.params ++ f.locals

abbrev pub register_name : Function → ℕ → List ℕ
register_name f r = name_at (register_names f) r

abbrev pub symbol_name : Module → Symbol → List ℕ
symbol_name m (symbol.Function k) = name_at (map (λ f. f.name) m.functions) k
symbol_name m (symbol.Global k) = name_at (map (λ g. g.name) m.globals) k

abbrev pub register_text : Function → ℕ → Text
register_text f r = local_text (register_name f r)

abbrev pub symbol_text : Module → Symbol → Text
symbol_text m s = global_text (symbol_name m s)

-- Lists.

-- what stands before an item with this number
abbrev pub separator : ℕ → Text
separator zero = []
separator (suc n) = codes ", "

-- items with a comma and a space between
abbrev pub comma_list : List Text → Text
comma_list [] = []
comma_list (t ∷ ts) = t ++ flat_map (λ u. codes ", " ++ u) ts

-- a list inside two marks, which stand together where there is nothing between them
abbrev pub spaced_list : List Text → Text
spaced_list [] = []
spaced_list (t ∷ ts) = codes " " ++ comma_list (t ∷ ts) ++ codes " "

-- Types.

abbrev pub width_text : Width → Text
width_text W1 = codes "i1"
width_text W8 = codes "i8"
width_text W16 = codes "i16"
width_text W32 = codes "i32"
width_text W64 = codes "i64"

abbrev pub scalar_text : Scalar → Text
scalar_text (Int w) = width_text w
scalar_text Ptr = codes "ptr"

-- the type of a result
abbrev pub result_text : Option Scalar → Text
result_text None = codes "void"
result_text (Some s) = scalar_text s

abbrev mutual
  pub type_text : List NamedType → IrType → Text
  type_text types (One s) = scalar_text s
  type_text types (Array n t) = codes "[" ++ decimal_text n ++ codes " x " ++ type_text types t ++ codes "]"
  type_text types (Struct ts) = codes "{" ++ spaced_list (type_texts types ts) ++ codes "}"
  type_text types (Packed ts) = codes "<{" ++ spaced_list (type_texts types ts) ++ codes "}>"
  type_text types (Named k) = local_text (type_name types k)

  pub type_texts : List NamedType → IrTypes → List Text
  type_texts types none = []
  type_texts types (also t ts) = type_text types t ∷ type_texts types ts

-- Constants.

-- a number of a width, with its sign
abbrev pub number_text : Width → ℕ → Text
number_text w n = signed_text (signed (record { width = w; bits = n }))

abbrev pub offset_text : ℕ → Text
offset_text n = number_text W64 n

abbrev pub blank_text : Blank → Text
blank_text Undef = codes "undef"
blank_text Poison = codes "poison"
blank_text Zero = codes "zeroinitializer"

-- the address that is so many bytes behind a name
abbrev pub moved_text : Module → Symbol → ℕ → Text
moved_text m s n = codes "getelementptr (i8, ptr " ++ symbol_text m s ++ (codes ", i64 " ++ offset_text n ++ codes ")")

abbrev pub symbol_offset_text : Module → Symbol → ℕ → Text
symbol_offset_text m s n = if nat_eq n 0 then symbol_text m s else moved_text m s n

abbrev pub pointer_text : Module → Pointer → Text
pointer_text m pointer.Null = codes "null"
pointer_text m (pointer.Blank b) = blank_text b
pointer_text m (pointer.Number n) = codes "inttoptr (i64 " ++ offset_text n ++ codes " to ptr)"
pointer_text m (pointer.Symbol s n) = symbol_offset_text m s n

abbrev pub constant_text : Module → Constant → Text
constant_text m (constant.Number w) = number_text w.width w.bits
constant_text m (constant.Truth true) = codes "true"
constant_text m (constant.Truth false) = codes "false"
constant_text m (constant.Blank b w) = blank_text b
constant_text m (constant.Pointer p) = pointer_text m p
constant_text m (constant.Cast p w) = codes "ptrtoint (ptr " ++ pointer_text m p ++ codes " to " ++ width_text w ++ codes ")"

-- a digit of hexadecimal, in capitals
abbrev pub capital_digit : ℕ → ℕ
capital_digit n = if nat_lt n 10 then 48 + n else 55 + n

-- a byte that stands in a byte string as itself: printable, and neither the quote nor the backslash
abbrev pub stands_in_string : ℕ → Bool
stands_in_string b = nat_le 32 b && nat_lt b 127 && (nat_lt b 34 || nat_lt 34 b) && (nat_lt b 92 || nat_lt 92 b)

abbrev pub byte_text : ℕ → Text
byte_text b = if stands_in_string b then b ∷ [] else 92 ∷ capital_digit (b / 16) ∷ capital_digit (b % 16) ∷ []

abbrev pub opening : Brackets → Text
opening brackets.Struct = codes "{"
opening brackets.Packed = codes "<{"
opening brackets.Array = codes "["

abbrev pub closing : Brackets → Text
closing brackets.Struct = codes "}"
closing brackets.Packed = codes "}>"
closing brackets.Array = codes "]"

abbrev mutual
  pub init_text : Module → Init → Text
  init_text m (Plain c) = constant_text m c
  init_text m (Empty b) = blank_text b
  init_text m (Bytes bs) = codes "c\"" ++ flat_map byte_text bs ++ codes "\""
  init_text m (Group k ts is) = opening k ++ spaced_list (item_texts m ts is) ++ closing k

  -- each item with its type before it
  pub item_texts : Module → List IrType → Inits → List Text
  item_texts m ts no_more = []
  item_texts m [] (more i is) = []
  item_texts m (t ∷ ts) (more i is) = (type_text m.types t ++ codes " " ++ init_text m i) ∷ item_texts m ts is

-- Instructions.

abbrev pub value_text : Module → Function → Value → Text
value_text m f (value.Register r) = register_text f r
value_text m f (value.Constant c) = constant_text m c

-- an operand with its type before it
abbrev pub argument_text : Module → Function → Argument → Text
argument_text m f a = scalar_text a.ty ++ codes " " ++ value_text m f a.value

abbrev pub operator_word : BinOp → Text
operator_word binop.Add = codes "add"
operator_word binop.Sub = codes "sub"
operator_word binop.Mul = codes "mul"
operator_word binop.UDiv = codes "udiv"
operator_word binop.SDiv = codes "sdiv"
operator_word binop.URem = codes "urem"
operator_word binop.SRem = codes "srem"
operator_word binop.And = codes "and"
operator_word binop.Or = codes "or"
operator_word binop.Xor = codes "xor"
operator_word binop.Shl = codes "shl"
operator_word binop.LShr = codes "lshr"
operator_word binop.AShr = codes "ashr"

abbrev pub predicate_word : Pred → Text
predicate_word pred.Eq = codes "eq"
predicate_word pred.Ne = codes "ne"
predicate_word pred.Ugt = codes "ugt"
predicate_word pred.Uge = codes "uge"
predicate_word pred.Ult = codes "ult"
predicate_word pred.Ule = codes "ule"
predicate_word pred.Sgt = codes "sgt"
predicate_word pred.Sge = codes "sge"
predicate_word pred.Slt = codes "slt"
predicate_word pred.Sle = codes "sle"

abbrev pub unary_word : UnaryOp → Text
unary_word unary.Freeze = codes "freeze"

-- the word tells the operator
pub unary_of_word : (a b : UnaryOp) → bytes_eq (unary_word a) (unary_word b) ≡ true → a ≡ b
unary_of_word unary.Freeze unary.Freeze e = refl

abbrev pub conversion_word : Conversion → Text
conversion_word conversion.Trunc = codes "trunc"
conversion_word conversion.ZExt = codes "zext"
conversion_word conversion.SExt = codes "sext"
conversion_word conversion.PtrToInt = codes "ptrtoint"
conversion_word conversion.IntToPtr = codes "inttoptr"

-- the register that is given, before the instruction
abbrev pub given_text : Function → ℕ → Text
given_text f to = register_text f to ++ codes " = "

abbrev pub given_if : Function → Option ℕ → Text
given_if f None = []
given_if f (Some to) = given_text f to

-- two operands of a type, which stands once
abbrev pub pair_text : Module → Function → Scalar → Value → Value → Text
pair_text m f ty a b = scalar_text ty ++ codes " " ++ value_text m f a ++ codes ", " ++ value_text m f b

abbrev pub operand_text : Module → Function → Scalar → Value → Text
operand_text m f ty a = scalar_text ty ++ codes " " ++ value_text m f a

abbrev pub edge_text : Module → Function → Edge → Text
edge_text m f e = codes "[ " ++ value_text m f e.value ++ codes ", " ++ local_text e.label ++ codes " ]"

-- a label that is gone to, behind what decides it
abbrev pub target_text : List ℕ → Text
target_text label = codes ", label " ++ local_text label

abbrev pub case_text : Module → Function → Scalar → SwitchCase → Text
case_text m f ty c = operand_text m f ty c.value ++ target_text c.label

-- the cases of a switch, on one line
abbrev pub cases_text : Module → Function → Scalar → List SwitchCase → Text
cases_text m f ty [] = codes "[]"
cases_text m f ty (c ∷ cs) = codes "[" ++ flat_map (λ x. codes " " ++ case_text m f ty x) (c ∷ cs) ++ codes " ]"

abbrev pub callee_text : Module → Function → Callee → Text
callee_text m f (callee.Symbol s) = symbol_text m s
callee_text m f (callee.Register r) = register_text f r

abbrev pub arguments_text : Module → Function → List Argument → Text
arguments_text m f args = codes "(" ++ comma_list (map (argument_text m f) args) ++ codes ")"

abbrev pub into_text : Scalar → Text
into_text into = codes " to " ++ scalar_text into

-- the two values of a `select`
abbrev pub choices_text : Module → Function → Scalar → Value → Value → Text
choices_text m f ty a b = codes ", " ++ operand_text m f ty a ++ codes ", " ++ operand_text m f ty b

-- the base and the indices of a `getelementptr`
abbrev pub place_text : Module → Function → Value → List Argument → Text
place_text m f base indices = codes ", ptr " ++ value_text m f base ++ flat_map (λ a. codes ", " ++ argument_text m f a) indices

abbrev pub copy_word : Bool → Text
copy_word true = codes "call void @llvm.memmove.p0.p0."
copy_word false = codes "call void @llvm.memcpy.p0.p0."

-- the length of a block write, and what stands behind it
abbrev pub length_text : Module → Function → Argument → Text
length_text m f len = codes ", " ++ argument_text m f len ++ codes ", i1 false)"

abbrev pub copied_text : Module → Function → Value → Value → Argument → Text
copied_text m f dest source len = codes "(ptr " ++ value_text m f dest ++ codes ", ptr " ++ value_text m f source ++ length_text m f len

abbrev pub filled_text : Module → Function → Value → Value → Argument → Text
filled_text m f dest byte len = codes "(ptr " ++ value_text m f dest ++ codes ", i8 " ++ value_text m f byte ++ length_text m f len

-- a call of one of the monitor's own names, before its first argument
abbrev pub mark_text : Text → Text
mark_text name = codes "call void @lxfi." ++ name ++ codes "(ptr "

abbrev pub guard_word : Bool → Text
guard_word true = codes "guard32"
guard_word false = codes "guard"

abbrev pub guarded_text : Module → Function → Bool → Value → Text
guarded_text m f narrow size = codes ", " ++ operand_text m f (Int (guard_width narrow)) size ++ codes ")"

-- the number of an annotation's action
abbrev pub action_text : ℕ → Text
action_text k = codes ", i32 " ++ number_text W32 k ++ codes ")"

abbrev pub op_text : Module → Function → Op → Text
op_text m f (op.Binary to o ty a b) = given_text f to ++ operator_word o ++ codes " " ++ pair_text m f ty a b
op_text m f (op.Compare to p ty a b) = given_text f to ++ codes "icmp " ++ predicate_word p ++ codes " " ++ pair_text m f ty a b
op_text m f (op.Convert to how from a into) = given_text f to ++ conversion_word how ++ codes " " ++ operand_text m f from a ++ into_text into
op_text m f (op.Unary to o ty a) = given_text f to ++ unary_word o ++ codes " " ++ operand_text m f ty a
op_text m f (op.Select to c ty a b) = given_text f to ++ codes "select i1 " ++ value_text m f c ++ choices_text m f ty a b
op_text m f (op.Phi to ty edges) =
    given_text f to ++ codes "phi " ++ scalar_text ty ++ codes " " ++ comma_list (map (edge_text m f) edges)
op_text m f (op.Alloca to ty) = given_text f to ++ codes "alloca " ++ type_text m.types ty
op_text m f (op.Load to ty at) = given_text f to ++ codes "load " ++ scalar_text ty ++ codes ", ptr " ++ value_text m f at
op_text m f (op.Store ty v at) = codes "store " ++ operand_text m f ty v ++ codes ", ptr " ++ value_text m f at
op_text m f (op.GetElementPtr to ty base indices) =
    given_text f to ++ codes "getelementptr " ++ type_text m.types ty ++ place_text m f base indices
op_text m f (op.Call to ret target args) =
    given_if f to ++ codes "call " ++ result_text ret ++ codes " " ++ (callee_text m f target ++ arguments_text m f args)
op_text m f (op.CopyBlock moves dest source len) = copy_word moves ++ scalar_text len.ty ++ copied_text m f dest source len
op_text m f (op.FillBlock dest byte len) =
    codes "call void @llvm.memset.p0." ++ scalar_text len.ty ++ filled_text m f dest byte len
op_text m f (op.Ret None) = codes "ret void"
op_text m f (op.Ret (Some a)) = codes "ret " ++ argument_text m f a
op_text m f (op.Jump label) = codes "br label " ++ local_text label
op_text m f (op.Branch c a b) = codes "br i1 " ++ value_text m f c ++ target_text a ++ target_text b
op_text m f (op.Switch ty v otherwise cases) =
    codes "switch " ++ operand_text m f ty v ++ target_text otherwise ++ codes " " ++ cases_text m f ty cases
op_text m f op.Unreachable = codes "unreachable"
op_text m f (op.Guard at size narrow) = mark_text (guard_word narrow) ++ value_text m f at ++ guarded_text m f narrow size
op_text m f (op.Check target) = mark_text (codes "check") ++ value_text m f target ++ codes ")"
op_text m f (op.Enter s) = mark_text (codes "enter") ++ symbol_text m s ++ codes ")"
op_text m f (op.Pre s k) = mark_text (codes "pre") ++ symbol_text m s ++ action_text k
op_text m f (op.Post s k) = mark_text (codes "post") ++ symbol_text m s ++ action_text k
op_text m f (op.Leave s) = mark_text (codes "leave") ++ symbol_text m s ++ codes ")"

-- Statements.

abbrev pub instr_text : Module → Function → Instr → Text
instr_text m f i = codes "  " ++ op_text m f i.op ++ codes "\n"

-- a block with its label
abbrev pub block_text : Module → Function → Block → Text
block_text m f b = b.name ++ codes ":\n" ++ flat_map (instr_text m f) b.instrs

abbrev pub parameter_text : Parameter → Text
parameter_text p = scalar_text p.ty ++ codes " " ++ local_text p.name

-- the result and the name of a function
abbrev pub head_text : Function → Text
head_text f = result_text f.ret ++ codes " " ++ global_text f.name ++ codes "("

-- an import: its parameters have no names
abbrev pub declared_text : Function → Text
declared_text f = codes "declare " ++ head_text f ++ comma_list (map (λ p. scalar_text p.ty) f.params) ++ codes ")\n"

abbrev pub blocks_text : Module → Function → List Block → Text
blocks_text m f bs = flat_map (block_text m f) bs ++ codes "}\n"

abbrev pub defined_text : Module → Function → List Block → Text
defined_text m f bs =
    codes "define " ++ head_text f ++ comma_list (map parameter_text f.params) ++ codes ") {\n" ++ blocks_text m f bs

abbrev pub body_text : Module → Function → Option (List Block) → Text
body_text m f None = declared_text f
body_text m f (Some bs) = defined_text m f bs

-- an import, or a function with its blocks
abbrev pub function_text : Module → Function → Text
function_text m f = body_text m f f.blocks

abbrev pub storage_word : Bool → Text
storage_word true = codes " = constant "
storage_word false = codes " = global "

abbrev pub global_var_text : Module → GlobalVar → Text
global_var_text m g = global_text g.name ++ storage_word g.constant ++ type_text m.types g.ty ++ codes " " ++ (init_text m g.init ++ codes "\n")

abbrev pub named_type_text : Module → NamedType → Text
named_type_text m t = local_text t.name ++ codes " = type " ++ type_text m.types t.ty ++ codes "\n"

abbrev pub module_text : Module → Text
module_text m =
    flat_map (named_type_text m) m.types ++ flat_map (global_var_text m) m.globals ++ flat_map (function_text m) m.functions
