-- The comparison of modules as texts, part by part. Lines are not compared.
use Rattle.std.specs.Prelude.{ℕ, Bool, true, false, ◌&&◌, Option, Some, None, List, [], ◌∷◌, nat_eq, bytes_eq}
use Rattle.lx_words.specs.declared.word.BinOp.{BinOp}
use Rattle.lx_words.specs.declared.word.BinOp.TheVariants as binop
use Rattle.lx_words.specs.declared.word.Pred.{Pred}
use Rattle.lx_words.specs.declared.word.Pred.TheVariants as predicate
use Rattle.lx_ir.specs.declared.types.NamedType.{NamedType}
use Rattle.lx_ir.specs.declared.module.Brackets.{Brackets}
use Rattle.lx_ir.specs.declared.module.Brackets.TheVariants as brackets
use Rattle.lx_ir.specs.declared.module.GlobalVar.{GlobalVar}
use Rattle.lx_ir.specs.declared.module.Parameter.{Parameter}
use Rattle.lx_ir.specs.declared.module.Block.{Block}
use Rattle.lx_ir.specs.declared.module.Function.{Function}
use Rattle.lx_ir.specs.declared.module.Module.{Module}
use Rattle.lx_ir.specs.declared.instr.Callee.{Callee}
use Rattle.lx_ir.specs.declared.instr.Callee.TheVariants as callee
use Rattle.lx_ir.specs.declared.instr.Conversion.{Conversion}
use Rattle.lx_ir.specs.declared.instr.UnaryOp.{UnaryOp}
use Rattle.lx_ir.specs.declared.instr.Edge.{Edge}
use Rattle.lx_ir.specs.declared.instr.SwitchCase.{SwitchCase}
use Rattle.lx_ir.specs.declared.instr.Instr.{Instr}
use Rattle.lx_ir.specs.declared.instr.Op.{Op}
use Rattle.lx_ir.specs.declared.instr.Op.TheVariants as op
use Rattle.lx_ir.specs.Init.{Init, Plain, Empty, Bytes, Group, Inits, no_more, more}
use Rattle.lx_ir.specs.TypeNodes.{types_of_list}
use Rattle.lx_ir.specs.Lawful.{same_scalar}
use Rattle.lx_ir.specs.Text.{conversion_word, unary_word}
use Rattle.lx_ir.specs.Faults.{same_symbol, same_blank, same_constant, same_value, same_result, same_type, same_types}
use Rattle.lx_image_texts.specs.ImageFaults.{same_narrow, same_register, same_argument, same_returned}

-- lists of the same length, whose elements are the same by a test
abbrev pub same_lists : {A : Type 0} → (A → A → Bool) → List A → List A → Bool
same_lists same [] [] = true
same_lists same (x ∷ xs) (y ∷ ys) = same x y && same_lists same xs ys
same_lists same _ _ = false

-- Operators and comparisons, by their numbers; the numbers serve this comparison alone.

abbrev pub operator_number : BinOp → ℕ
operator_number binop.Add = 0
operator_number binop.Sub = 1
operator_number binop.Mul = 2
operator_number binop.UDiv = 3
operator_number binop.SDiv = 4
operator_number binop.URem = 5
operator_number binop.SRem = 6
operator_number binop.And = 7
operator_number binop.Or = 8
operator_number binop.Xor = 9
operator_number binop.Shl = 10
operator_number binop.LShr = 11
operator_number binop.AShr = 12

abbrev pub same_operator : BinOp → BinOp → Bool
same_operator a b = nat_eq (operator_number a) (operator_number b)

abbrev pub predicate_number : Pred → ℕ
predicate_number predicate.Eq = 0
predicate_number predicate.Ne = 1
predicate_number predicate.Ugt = 2
predicate_number predicate.Uge = 3
predicate_number predicate.Ult = 4
predicate_number predicate.Ule = 5
predicate_number predicate.Sgt = 6
predicate_number predicate.Sge = 7
predicate_number predicate.Slt = 8
predicate_number predicate.Sle = 9

abbrev pub same_predicate : Pred → Pred → Bool
same_predicate a b = nat_eq (predicate_number a) (predicate_number b)

-- Conversions and operators on one word, by their words.

abbrev pub same_conversion : Conversion → Conversion → Bool
same_conversion a b = bytes_eq (conversion_word a) (conversion_word b)

abbrev pub same_unary : UnaryOp → UnaryOp → Bool
same_unary a b = bytes_eq (unary_word a) (unary_word b)

-- what is called: a name, or what a register holds
abbrev pub same_target : Callee → Callee → Bool
same_target (callee.Symbol s) (callee.Symbol t) = same_symbol s t
same_target (callee.Register q) (callee.Register r) = nat_eq q r
same_target _ _ = false

-- edges of phis, and cases of switches
abbrev pub same_edge : Edge → Edge → Bool
same_edge a b = same_value a.value b.value && bytes_eq a.label b.label

abbrev pub same_case : SwitchCase → SwitchCase → Bool
same_case a b = same_value a.value b.value && bytes_eq a.label b.label

-- Instructions, form by form: both are of the form, and their parts are the same.

abbrev pub same_binary : Op → Op → Bool
same_binary (op.Binary a b c d f) (op.Binary p q r s t) = nat_eq a p && same_operator b q && same_scalar c r && same_value d s && same_value f t
same_binary _ _ = false

abbrev pub same_comparison : Op → Op → Bool
same_comparison (op.Compare a b c d f) (op.Compare p q r s t) = nat_eq a p && same_predicate b q && same_scalar c r && same_value d s && same_value f t
same_comparison _ _ = false

abbrev pub same_convert : Op → Op → Bool
same_convert (op.Convert a b c d f) (op.Convert p q r s t) = nat_eq a p && same_conversion b q && same_scalar c r && same_value d s && same_scalar f t
same_convert _ _ = false

abbrev pub same_unary_op : Op → Op → Bool
same_unary_op (op.Unary a b c d) (op.Unary p q r s) = nat_eq a p && same_unary b q && same_scalar c r && same_value d s
same_unary_op _ _ = false

abbrev pub same_select : Op → Op → Bool
same_select (op.Select a b c d f) (op.Select p q r s t) = nat_eq a p && same_value b q && same_scalar c r && same_value d s && same_value f t
same_select _ _ = false

abbrev pub same_phi : Op → Op → Bool
same_phi (op.Phi a b c) (op.Phi p q r) = nat_eq a p && same_scalar b q && same_lists same_edge c r
same_phi _ _ = false

abbrev pub same_alloca : Op → Op → Bool
same_alloca (op.Alloca a b) (op.Alloca p q) = nat_eq a p && same_type b q
same_alloca _ _ = false

abbrev pub same_load : Op → Op → Bool
same_load (op.Load a b c) (op.Load p q r) = nat_eq a p && same_scalar b q && same_value c r
same_load _ _ = false

abbrev pub same_store : Op → Op → Bool
same_store (op.Store a b c) (op.Store p q r) = same_scalar a p && same_value b q && same_value c r
same_store _ _ = false

abbrev pub same_element_pointer : Op → Op → Bool
same_element_pointer (op.GetElementPtr a b c d) (op.GetElementPtr p q r s) = nat_eq a p && same_type b q && same_value c r && same_lists same_argument d s
same_element_pointer _ _ = false

abbrev pub same_call : Op → Op → Bool
same_call (op.Call a b c d) (op.Call p q r s) = same_register a p && same_result b q && same_target c r && same_lists same_argument d s
same_call _ _ = false

abbrev pub same_copy : Op → Op → Bool
same_copy (op.CopyBlock a b c d) (op.CopyBlock p q r s) = same_narrow a p && same_value b q && same_value c r && same_argument d s
same_copy _ _ = false

abbrev pub same_fill : Op → Op → Bool
same_fill (op.FillBlock a b c) (op.FillBlock p q r) = same_value a p && same_value b q && same_argument c r
same_fill _ _ = false

abbrev pub same_return : Op → Op → Bool
same_return (op.Ret a) (op.Ret p) = same_returned a p
same_return _ _ = false

abbrev pub same_jump : Op → Op → Bool
same_jump (op.Jump a) (op.Jump p) = bytes_eq a p
same_jump _ _ = false

abbrev pub same_branch : Op → Op → Bool
same_branch (op.Branch a b c) (op.Branch p q r) = same_value a p && bytes_eq b q && bytes_eq c r
same_branch _ _ = false

abbrev pub same_switch : Op → Op → Bool
same_switch (op.Switch a b c d) (op.Switch p q r s) = same_scalar a p && same_value b q && bytes_eq c r && same_lists same_case d s
same_switch _ _ = false

abbrev pub same_unreachable : Op → Op → Bool
same_unreachable op.Unreachable op.Unreachable = true
same_unreachable _ _ = false

abbrev pub same_guard : Op → Op → Bool
same_guard (op.Guard a b c) (op.Guard p q r) = same_value a p && same_value b q && same_narrow c r
same_guard _ _ = false

abbrev pub same_check : Op → Op → Bool
same_check (op.Check a) (op.Check p) = same_value a p
same_check _ _ = false

abbrev pub same_enter : Op → Op → Bool
same_enter (op.Enter a) (op.Enter p) = same_symbol a p
same_enter _ _ = false

abbrev pub same_pre : Op → Op → Bool
same_pre (op.Pre a b) (op.Pre p q) = same_symbol a p && nat_eq b q
same_pre _ _ = false

abbrev pub same_post : Op → Op → Bool
same_post (op.Post a b) (op.Post p q) = same_symbol a p && nat_eq b q
same_post _ _ = false

abbrev pub same_leave : Op → Op → Bool
same_leave (op.Leave a) (op.Leave p) = same_symbol a p
same_leave _ _ = false

-- two instructions of one form, whose parts are the same
abbrev pub same_op : Op → Op → Bool
same_op (op.Binary a b c d f) o = same_binary (op.Binary a b c d f) o
same_op (op.Compare a b c d f) o = same_comparison (op.Compare a b c d f) o
same_op (op.Convert a b c d f) o = same_convert (op.Convert a b c d f) o
same_op (op.Unary a b c d) o = same_unary_op (op.Unary a b c d) o
same_op (op.Select a b c d f) o = same_select (op.Select a b c d f) o
same_op (op.Phi a b c) o = same_phi (op.Phi a b c) o
same_op (op.Alloca a b) o = same_alloca (op.Alloca a b) o
same_op (op.Load a b c) o = same_load (op.Load a b c) o
same_op (op.Store a b c) o = same_store (op.Store a b c) o
same_op (op.GetElementPtr a b c d) o = same_element_pointer (op.GetElementPtr a b c d) o
same_op (op.Call a b c d) o = same_call (op.Call a b c d) o
same_op (op.CopyBlock a b c d) o = same_copy (op.CopyBlock a b c d) o
same_op (op.FillBlock a b c) o = same_fill (op.FillBlock a b c) o
same_op (op.Ret a) o = same_return (op.Ret a) o
same_op (op.Jump a) o = same_jump (op.Jump a) o
same_op (op.Branch a b c) o = same_branch (op.Branch a b c) o
same_op (op.Switch a b c d) o = same_switch (op.Switch a b c d) o
same_op op.Unreachable o = same_unreachable op.Unreachable o
same_op (op.Guard a b c) o = same_guard (op.Guard a b c) o
same_op (op.Check a) o = same_check (op.Check a) o
same_op (op.Enter a) o = same_enter (op.Enter a) o
same_op (op.Pre a b) o = same_pre (op.Pre a b) o
same_op (op.Post a b) o = same_post (op.Post a b) o
same_op (op.Leave a) o = same_leave (op.Leave a) o

-- Initialisers, as they are written.

abbrev pub same_brackets : Brackets → Brackets → Bool
same_brackets brackets.Struct brackets.Struct = true
same_brackets brackets.Packed brackets.Packed = true
same_brackets brackets.Array brackets.Array = true
same_brackets _ _ = false

abbrev mutual
  pub same_init : Init → Init → Bool
  same_init (Plain c) (Plain d) = same_constant c d
  same_init (Empty a) (Empty b) = same_blank a b
  same_init (Bytes a) (Bytes b) = bytes_eq a b
  same_init (Group j ts is) (Group k us js) = same_brackets j k && same_types (types_of_list ts) (types_of_list us) && same_inits is js
  same_init _ _ = false

  pub same_inits : Inits → Inits → Bool
  same_inits no_more no_more = true
  same_inits (more i is) (more j js) = same_init i j && same_inits is js
  same_inits _ _ = false

-- The parts of modules, without their lines.

abbrev pub same_named_type : NamedType → NamedType → Bool
same_named_type a b = bytes_eq a.name b.name && same_type a.ty b.ty

abbrev pub same_global : GlobalVar → GlobalVar → Bool
same_global a b = bytes_eq a.name b.name && same_narrow a.constant b.constant && same_type a.ty b.ty && same_init a.init b.init

abbrev pub same_parameter : Parameter → Parameter → Bool
same_parameter a b = bytes_eq a.name b.name && same_scalar a.ty b.ty

abbrev pub same_instr : Instr → Instr → Bool
same_instr a b = same_op a.op b.op

abbrev pub same_block : Block → Block → Bool
same_block a b = bytes_eq a.name b.name && same_lists same_instr a.instrs b.instrs

-- both without a body, or with the same blocks
abbrev pub same_body : Option (List Block) → Option (List Block) → Bool
same_body None None = true
same_body (Some bs) (Some cs) = same_lists same_block bs cs
same_body _ _ = false

-- functions by what is said of them, and by their blocks
abbrev pub same_function : Function → Function → Bool
same_function a b = bytes_eq a.name b.name && same_lists same_parameter a.params b.params && same_lists bytes_eq a.locals b.locals && same_result a.ret b.ret && same_body a.blocks b.blocks

-- the whole
abbrev pub same_module : Module → Module → Bool
same_module a b = same_lists same_named_type a.types b.types && same_lists same_global a.globals b.globals && same_lists same_function a.functions b.functions
