-- The numbers of the registers of a function. In its instructions each register is the number of its name.
use Rattle.std.specs.Prelude.{ℕ, Bool, true, false, Option, Some, None, List, [], ◌∷◌, fold, if◌then◌else◌}
use Rattle.lx_ir.specs.declared.module.Parameter.{Parameter}
use Rattle.lx_ir.specs.declared.module.Block.{Block}
use Rattle.lx_ir.specs.declared.module.Value.{Value}
use Rattle.lx_ir.specs.declared.module.Value.TheVariants as values
use Rattle.lx_ir.specs.declared.instr.Instr.{Instr}
use Rattle.lx_ir.specs.declared.instr.Argument.{Argument}
use Rattle.lx_ir.specs.Operands.{given_by, operands_where}
use Rattle.lx_ir_tokens.specs.Names.{number_of}
use Rattle.lx_ir_tables.specs.Numbering.{Numbering, with_thing, is_new}

-- with the parameters, in order
abbrev pub with_parameters : List (List ℕ) → Numbering → List Parameter → Numbering
with_parameters names t params = fold (λ t p. with_thing t (number_of names p.name)) t params

abbrev pub with_given : Numbering → Option ℕ → Numbering
with_given t None = t
with_given t (Some n) = with_thing t (Some n)

-- with what the instructions give, in the order of the text
abbrev pub with_given_by : Numbering → List Instr → Numbering
with_given_by t instrs = fold (λ t i. with_given t (given_by i.op)) t instrs

abbrev pub with_all_given : Numbering → List Block → Numbering
with_all_given t blocks = fold (λ t b. with_given_by t b.instrs) t blocks

-- with a register that is read, where it is not there yet
abbrev pub with_read : Numbering → Value → Numbering
with_read t (values.Register n) = if is_new t n then with_thing t (Some n) else t
with_read t (values.Constant c) = t

abbrev pub with_operands : Numbering → List Argument → Numbering
with_operands t operands = fold (λ t a. with_read t a.value) t operands

-- with what instructions read, the lines that images alone have (true) or all others (false), in the order of the text
abbrev pub with_read_by : Bool → Numbering → List Instr → Numbering
with_read_by lines t instrs = fold (λ t i. with_operands t (operands_where lines i.op)) t instrs

abbrev pub with_all_read : Bool → Numbering → List Block → Numbering
with_all_read lines t blocks = fold (λ t b. with_read_by lines t b.instrs) t blocks

-- the registers of a function: its parameters, then what its instructions give, then those that they only read, where they are first
-- read, and last those that only the lines read that images alone have
abbrev pub registers_of : List (List ℕ) → Numbering → List Parameter → List Block → Numbering
registers_of names t params blocks = with_all_read true (with_all_read false (with_all_given (with_parameters names t params) blocks) blocks) blocks
