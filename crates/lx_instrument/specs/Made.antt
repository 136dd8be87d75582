-- Images as they are made: from the numbers of what is called in them, and from which stores lack their guard. A mark has the line of
-- its instruction.
use Rattle.std.specs.Prelude.{ℕ, suc, Bool, cond, Option, Some, None, List, [], ◌∷◌, ◌++◌, map, flat_map, length, slice_get, option_map}
use Rattle.lx_ir.specs.declared.module.Value.TheVariants as value
use Rattle.lx_ir.specs.declared.module.Symbol.TheVariants as symbol
use Rattle.lx_ir.specs.declared.module.Block.{Block}
use Rattle.lx_ir.specs.declared.module.Function.{Function}
use Rattle.lx_ir.specs.declared.module.Module.{Module}
use Rattle.lx_ir.specs.declared.instr.Callee.{Callee}
use Rattle.lx_ir.specs.declared.instr.Callee.TheVariants as callee
use Rattle.lx_ir.specs.declared.instr.Instr.{Instr}
use Rattle.lx_ir.specs.declared.instr.Op.{Op}
use Rattle.lx_ir.specs.declared.instr.Op.TheVariants as op
use Rattle.lx_image_texts.specs.Marks.{mark_of, is_wrapped, one_if}
use Rattle.lx_image_texts.specs.Instrumented.{unless_left}

-- What is called.

-- the numbers by which functions are called in the image, where the next wrapper and the first of these functions have these numbers
abbrev pub numbers_from : ℕ → ℕ → List Function → List ℕ
numbers_from next place [] = []
numbers_from next place (f ∷ fs) = cond (is_wrapped f) next place ∷ numbers_from (one_if (is_wrapped f) next) (suc place) fs

-- those of a module's functions
abbrev pub called_numbers : Module → List ℕ
called_numbers m = numbers_from (length m.functions) 0 m.functions

-- a number past the functions calls nothing
abbrev pub called_at : Option ℕ → Callee
called_at None = callee.Symbol (symbol.Global 0)
called_at (Some n) = callee.Symbol (symbol.Function n)

abbrev pub callee_by : List ℕ → Callee → Callee
callee_by numbers (callee.Symbol (symbol.Function f)) = called_at (slice_get numbers f)
callee_by numbers x = x

-- an instruction in the image, by the numbers of what is called
abbrev pub op_by : List ℕ → Op → Op
op_by numbers (op.Call to ret x args) = op.Call to ret (callee_by numbers x) args
op_by numbers (op.Guard at size narrow) = op.Unreachable
op_by numbers (op.Check target) = op.Unreachable
op_by numbers o = o

-- Marks.

-- the check of what is called
abbrev pub check_of : Callee → List Op
check_of (callee.Register r) = op.Check (value.Register r) ∷ []
check_of (callee.Symbol s) = []

-- The image's instructions, blocks and functions.

abbrev pub lined : ℕ → List Op → List Instr
lined line os = map (λ o. record { op = o; line = line }) os

abbrev pub instr_by : List ℕ → (Op → Bool) → Instr → List Instr
instr_by numbers leaves i = lined i.line (unless_left (leaves i.op) (mark_of i.op)) ++ record { op = op_by numbers i.op; line = i.line } ∷ []

abbrev pub block_by : List ℕ → (Op → Bool) → Block → Block
block_by numbers leaves b = record { name = b.name; instrs = flat_map (instr_by numbers leaves) b.instrs }

abbrev pub function_by : List ℕ → (Op → Bool) → Function → Function
function_by numbers leaves f =
    record { name = f.name; params = f.params; locals = f.locals; ret = f.ret; blocks = option_map (map (block_by numbers leaves)) f.blocks; line = f.line }
