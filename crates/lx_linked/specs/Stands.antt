-- Where a function stands in a field of a named struct.
use Rattle.std.specs.Prelude.{◌≡◌, ℕ, Some, List, [], ◌∷◌, ◌++◌, ℤ, map, nat_abs, slice_get}
use Rattle.lx_ir.specs.declared.types.NamedType.{NamedType}
use Rattle.lx_ir.specs.declared.types.Scalar.{Scalar}
use Rattle.lx_ir.specs.declared.module.Symbol.TheVariants as symbol
use Rattle.lx_ir.specs.declared.module.Pointer.TheVariants as pointer
use Rattle.lx_ir.specs.declared.module.Constant.{Constant}
use Rattle.lx_ir.specs.declared.module.Constant.TheVariants as constant
use Rattle.lx_ir.specs.declared.module.Value.{Value}
use Rattle.lx_ir.specs.declared.module.Value.TheVariants as value
use Rattle.lx_ir.specs.declared.module.Brackets.{Brackets}
use Rattle.lx_ir.specs.declared.module.GlobalVar.{GlobalVar}
use Rattle.lx_ir.specs.declared.module.Function.{Function}
use Rattle.lx_ir.specs.declared.module.Module.{Module}
use Rattle.lx_ir.specs.declared.instr.Argument.{Argument}
use Rattle.lx_ir.specs.declared.instr.Instr.{Instr}
use Rattle.lx_ir.specs.declared.instr.Op.TheVariants.{Store, GetElementPtr}
use Rattle.lx_ir.specs.IrType.{IrType, Named}
use Rattle.lx_ir.specs.Init.{Init, Plain, Group, Inits, no_more, more}
use Rattle.lx_ir.specs.Layout.{part_at}
use Rattle.lx_ir.specs.Lookup.{instrs_of}
use Rattle.lx_slot_types.specs.Sites.{FieldName, behind_first, field_name, index_number}
use Rattle.lx_linked.specs.Members.{In}
use Rattle.lx_linked.specs.Paths.{BeginsAt}

-- the function with this number, as a constant and as an operand
abbrev pub function_constant : ℕ → Constant
function_constant f = constant.Pointer (pointer.Symbol (symbol.Function f) 0)

abbrev pub function_operand : ℕ → Value
function_operand f = value.Constant (function_constant f)

-- the address so many bytes behind the start of a global
abbrev pub address_operand : ℕ → ℕ → Value
address_operand g o = value.Constant (constant.Pointer (pointer.Symbol (symbol.Global g) o))

abbrev pub items_of : Inits → List Init
items_of no_more = []
items_of (more i is) = i ∷ items_of is

-- The function is the item for the field in a group of an initialiser of the type.
pub data HoldsFunction (name : FieldName) (f : ℕ) : IrType → Init → Type 0 where
  -- in the group itself, which is of a named struct
  as_item : (n k : ℕ) (u : IrType) (b : Brackets) (ts : List IrType) (is : Inits) → name ≡ field_name n k → slice_get ts k ≡ Some u
      → slice_get (items_of is) k ≡ Some (Plain (function_constant f)) → HoldsFunction name f (Named n) (Group b ts is)
  -- in one of its items
  in_item : (t u : IrType) (k : ℕ) (b : Brackets) (ts : List IrType) (is : Inits) (i : Init) → slice_get ts k ≡ Some u
      → slice_get (items_of is) k ≡ Some i → HoldsFunction name f u i → HoldsFunction name f t (Group b ts is)

-- The last of the indices selects the field, of the named struct that those before it lead to.
pub record Selects (types : List NamedType) (t : IrType) (indices : List ℤ) (name : FieldName) : Type 0 where
  pub front : List ℤ
  pub last : ℤ
  pub number : ℕ
  pub are : indices ≡ front ++ last ∷ []
  pub struct : (part_at types t front).ty ≡ Named number
  pub field : name ≡ field_name number (nat_abs last)

-- The function stands in the field.
pub data StandsIn (m : Module) (name : FieldName) (f : ℕ) : Type 0 where
  -- by the initialiser of a global
  initial : (g : GlobalVar) → In g m.globals → HoldsFunction name f g.ty g.init → StandsIn m name f
  -- by a store of the function at a constant address, where the field begins
  stored : (w : Function) (i : Instr) (ty : Scalar) (g o : ℕ) → In w m.functions → In i (instrs_of w)
      → i.op ≡ Store ty (function_operand f) (address_operand g o) → BeginsAt m g o name → StandsIn m name f
  -- by a store of the function at a register, which the address of the field is given to in the same function
  selected : (w : Function) (i e : Instr) (ty : Scalar) (r : ℕ) (t : IrType) (base : Value) (indices : List Argument) → In w m.functions
      → In i (instrs_of w) → i.op ≡ Store ty (function_operand f) (value.Register r) → In e (instrs_of w)
      → e.op ≡ GetElementPtr r t base indices → Selects m.types t (behind_first (map index_number indices)) name → StandsIn m name f
