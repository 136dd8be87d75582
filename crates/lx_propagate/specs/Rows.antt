-- Worked rows: one struct with two fields, an interface that types both, and functions that stand in them.
use Rattle.std.specs.Prelude.{◌≡◌, ℕ, false, Some, None, List, [], ◌∷◌, codes}
use Rattle.lx_words.specs.declared.word.Width.TheVariants.{W32}
use Rattle.lx_words.specs.Word.{word}
use Rattle.lx_ir.specs.declared.types.Scalar.TheVariants.{Int, Ptr}
use Rattle.lx_ir.specs.declared.module.Brackets.TheVariants as brackets
use Rattle.lx_ir.specs.declared.module.Blank.TheVariants.{Zero}
use Rattle.lx_ir.specs.declared.module.Symbol.TheVariants as symbol
use Rattle.lx_ir.specs.declared.module.Pointer.TheVariants as pointer
use Rattle.lx_ir.specs.declared.module.Constant.TheVariants as constant
use Rattle.lx_ir.specs.declared.module.Value.TheVariants as value
use Rattle.lx_ir.specs.declared.module.Value.{Value}
use Rattle.lx_ir.specs.declared.module.Function.{Function}
use Rattle.lx_ir.specs.declared.module.GlobalVar.{GlobalVar}
use Rattle.lx_ir.specs.declared.module.Module.{Module}
use Rattle.lx_ir.specs.declared.types.NamedType.{NamedType}
use Rattle.lx_ir.specs.declared.instr.Argument.{Argument}
use Rattle.lx_ir.specs.declared.instr.Instr.{Instr}
use Rattle.lx_ir.specs.declared.instr.Op.{Op}
use Rattle.lx_ir.specs.declared.instr.Op.TheVariants as op
use Rattle.lx_ir.specs.IrType.{One, Named, Struct, none, also}
use Rattle.lx_ir.specs.Init.{Init, Plain, Empty, Group, no_more, more}
use Rattle.lx_ir.specs.Operands.{argument}
use Rattle.lx_ir.specs.Lawful.{IsLawful}
use Rattle.lx_annot.specs.declared.action.Annotation.{Annotation}
use Rattle.lx_annot.specs.declared.action.Who.{Who}
use Rattle.lx_annot.specs.declared.action.Who.TheVariants as who
use Rattle.lx_annot.specs.declared.expr.Ty.TheVariants as ty
use Rattle.lx_annot.specs.declared.interface.Slot.{Slot}
use Rattle.lx_annot.specs.declared.interface.Field.{Field}
use Rattle.lx_annot.specs.declared.interface.Interface.{Interface}
use Rattle.lx_propagate.specs.Slots.{annotated_of, conflict_of, marked}

abbrev pub runs_as : Who → Annotation
runs_as w = record { principal = Some w; pre = []; post = [] }

abbrev pub slot : List ℕ → Who → Slot
slot name w = record { name = name; params = []; ret = ty.I32; annotation = runs_as w; line = 2 }

abbrev pub field : ℕ → ℕ → Field
field k s = record { name = codes "struct.dev_ops"; index = k; slot = s; line = 4 }

-- `field %struct.dev_ops 0 : probe` and `field %struct.dev_ops 1 : xmit`, whose principals are these
abbrev pub interface_of : Who → Who → Interface
interface_of a b =
    record {
      reftypes = [];
      iterators = [];
      slots = slot (codes "probe") a ∷ slot (codes "xmit") b ∷ [];
      fields = field 0 0 ∷ field 1 1 ∷ [];
      exports = [];
    }

-- function 0
abbrev pub h : Value
h = value.Constant (constant.Pointer (pointer.Symbol (symbol.Function 0) 0))

abbrev pub h_there : Init
h_there = Plain (constant.Pointer (pointer.Symbol (symbol.Function 0) 0))

abbrev pub null_there : Init
null_there = Plain (constant.Pointer pointer.Null)

-- `{ ptr A, ptr B }`
abbrev pub both : Init → Init → Init
both a b = Group brackets.Struct (One Ptr ∷ One Ptr ∷ []) (more a (more b no_more))

abbrev pub instr : Op → Instr
instr o = record { op = o; line = 4 }

abbrev pub number : ℕ → Argument
number n = argument (Int W32) (value.Constant (constant.Number (word W32 n)))

abbrev pub returned : Op
returned = op.Ret (Some (number 0))

abbrev pub ops_type : NamedType
ops_type = record { name = codes "struct.dev_ops"; ty = Struct (also (One Ptr) (also (One Ptr) none)) }

abbrev pub ops : Init → GlobalVar
ops init = record { name = codes "ops"; constant = false; ty = Named 0; init = init; line = 2 }

abbrev pub function : List (List ℕ) → List Instr → Function
function locals instrs =
    record {
      name = codes "h";
      params = [];
      locals = locals;
      ret = Some (Int W32);
      blocks = Some (record { name = codes "0"; instrs = instrs } ∷ []);
      line = 3;
    }

-- `@ops = global %struct.dev_ops ..`, and `@h` with these instructions
abbrev pub module_of : Init → List (List ℕ) → List Instr → Module
module_of init locals instrs = record { types = ops_type ∷ []; globals = ops init ∷ []; functions = function locals instrs ∷ [] }

-- `{ ptr @h, ptr @h }`
abbrev pub in_both : Module
in_both = module_of (both h_there h_there) [] (instr returned ∷ [])

abbrev pub in_second : Module
in_second = module_of (both null_there h_there) [] (instr returned ∷ [])

-- `store ptr @h, ptr getelementptr (i8, ptr @ops, i64 8)`
abbrev pub stored_there : Module
stored_there =
    module_of (Empty Zero) []
    (instr (op.Store Ptr h (value.Constant (constant.Pointer (pointer.Symbol (symbol.Global 0) 8)))) ∷ instr returned ∷ [])

-- `%r = getelementptr %struct.dev_ops, ptr @ops, i32 0, i32 1` and `store ptr @h, ptr %r`
abbrev pub stored_by_register : Module
stored_by_register =
    module_of (Empty Zero) (codes "r" ∷ [])
    (instr (op.GetElementPtr 0 (Named 0) (value.Constant (constant.Pointer (pointer.Symbol (symbol.Global 0) 0))) (number 0 ∷ number 1 ∷ []))
    ∷ instr (op.Store Ptr h (value.Register 0)) ∷ instr returned ∷ [])

abbrev pub differing : Interface
differing = interface_of who.Shared who.Global

abbrev pub agreeing : Interface
agreeing = interface_of who.Shared who.Shared

pub record WorkedSlots : Type 0 where
  pub both_differ : conflict_of differing in_both ≡ Some (record { line = 3; function = codes "h"; first = codes "probe"; second = codes "xmit" })
  pub both_agree : conflict_of agreeing in_both ≡ None
  pub first_of_both : annotated_of agreeing in_both ≡ marked 0 0 ∷ []
  pub one_alone : conflict_of differing in_second ≡ None
  pub second : annotated_of differing in_second ≡ marked 0 1 ∷ []
  pub at_offset : annotated_of differing stored_there ≡ marked 0 1 ∷ []
  pub by_register : annotated_of differing stored_by_register ≡ marked 0 1 ∷ []
  pub in_both_lawful : IsLawful in_both
  pub stored_by_register_lawful : IsLawful stored_by_register
