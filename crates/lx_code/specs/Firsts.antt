-- What stands first: maps from names and from numbers to the first places of what they name.
use Rattle.std.specs.Prelude.{◌≡◌, ℕ, Bool, true, false, Option, Some, None, List, nat_eq, bytes_eq, position}
use Rattle.std.specs.Global.{Vec}
use Rattle.std.specs.Map.{lookup}
use Rattle.lx_ir.specs.declared.instr.Edge.{Edge}
use Rattle.lx_ir.specs.declared.instr.SwitchCase.{SwitchCase}
use Rattle.lx_ir.specs.declared.module.Block.{Block}
use Rattle.lx_ir.specs.declared.module.Constant.{Constant}
use Rattle.lx_ir.specs.declared.module.Value.{Value}
use Rattle.lx_ir.specs.declared.module.Value.TheVariants as value

-- what a map has at a name, or at a number
abbrev pub at_name : List (Vec ℕ × ℕ) → List ℕ → Option ℕ
at_name table name = lookup (λ k. bytes_eq name k.items) table

abbrev pub at_number : List (ℕ × ℕ) → ℕ → Option ℕ
at_number table n = lookup (nat_eq n) table

-- the block has the name
abbrev pub is_named : List ℕ → Block → Bool
is_named name b = bytes_eq b.name name

-- the edge is from the blocks with the label
abbrev pub is_from : List ℕ → Edge → Bool
is_from label e = bytes_eq e.label label

-- what each constant of a text comes to
abbrev pub Numbers : Type 0
Numbers = Constant → ℕ

abbrev pub number_of : Numbers → Value → Option ℕ
number_of numbers (value.Constant c) = Some (numbers c)
number_of numbers (value.Register r) = None

-- there is a number, and it is this one
abbrev pub is_number : Option ℕ → ℕ → Bool
is_number None n = false
is_number (Some k) n = nat_eq k n

abbrev pub is_case : Numbers → ℕ → SwitchCase → Bool
is_case numbers n c = is_number (number_of numbers c.value) n

abbrev pub is_constant : Value → Bool
is_constant (value.Constant c) = true
is_constant (value.Register r) = false

-- the case is the same number each time that the switch runs
abbrev pub is_fixed : SwitchCase → Bool
is_fixed c = is_constant c.value

-- the map has the place of the first thing of each name
abbrev pub HasNames : {A : Type 0} → (List ℕ → A → Bool) → List A → List (Vec ℕ × ℕ) → Type 0
HasNames test xs table = (name : List ℕ) → at_name table name ≡ position (test name) xs

-- and of the first case of each number
abbrev pub HasCases : Numbers → List SwitchCase → List (ℕ × ℕ) → Type 0
HasCases numbers cases table = (n : ℕ) → at_number table n ≡ position (is_case numbers n) cases
