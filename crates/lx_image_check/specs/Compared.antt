-- A wrapper beside the one that a text ought to have.
use Rattle.std.specs.Prelude.{ℕ, Bool, false, Option, Some, None, List, option_map, nat_eq, length, if◌then◌else◌}
use Rattle.lx_ir.specs.declared.module.Block.{Block}
use Rattle.lx_ir.specs.declared.module.Function.{Function}
use Rattle.lx_ir.specs.declared.instr.Instr.{Instr}
use Rattle.lx_image_texts.specs.ImageFaults.{ImageFault, different_from, same_line, wrapper_fault}

-- an instruction is the line that is wanted there
abbrev pub same_line_as : Option Instr → Instr → Bool
same_line_as None i = false
same_line_as (Some w) i = same_line w.op i.op

-- the fault at an instruction with this number
abbrev pub line_fault : List ℕ → ℕ → Option Instr → Instr → Option ImageFault
line_fault name place wanted i = if same_line_as wanted i then None else Some (wrapper_fault i.line name place)

-- the fault at the first instruction that differs
abbrev pub lines_fault : List ℕ → ℕ → List Instr → List Instr → Option ImageFault
lines_fault name place wanted is = option_map (λ d. wrapper_fault d.1 name d.0) (different_from place wanted is)

-- the body is one block
abbrev pub is_one_block : Option (List Block) → Bool
is_one_block None = false
is_one_block (Some bs) = nat_eq (length bs) 1

abbrev pub has_one_block : Function → Bool
has_one_block w = is_one_block w.blocks
