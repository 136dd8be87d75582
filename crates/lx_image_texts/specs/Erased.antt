-- The program of an image: its functions without their marks, with the calls of wrappers as calls of what they wrap.
use Rattle.std.specs.Prelude.{ℕ, Bool, not, Option, Some, None, List, map, filter, position, slice_get, option_map, unwrap_or, if◌then◌else◌}
use Rattle.lx_ir.specs.declared.module.Symbol.TheVariants as symbol
use Rattle.lx_ir.specs.declared.module.Block.{Block}
use Rattle.lx_ir.specs.declared.module.Function.{Function}
use Rattle.lx_ir.specs.declared.module.Module.{Module}
use Rattle.lx_ir.specs.declared.instr.Callee.{Callee}
use Rattle.lx_ir.specs.declared.instr.Callee.TheVariants as callee
use Rattle.lx_ir.specs.declared.instr.Op.{Op}
use Rattle.lx_ir.specs.declared.instr.Op.TheVariants as op
use Rattle.lx_ir.specs.Lawful.{is_own_name}
use Rattle.lx_image_texts.specs.Marks.{without_marks}
use Rattle.lx_image_texts.specs.Guards.{ops_of, BlockText, FunctionText}
use Rattle.lx_image_texts.specs.ImageFaults.{is_wrapper, has_wrapper_named}

-- the number of the import whose wrapper has this name: of the first one
abbrev pub wrapped_number : Module → List ℕ → Option ℕ
wrapped_number x name = position (has_wrapper_named name) x.functions

-- what a call of the function with this number calls in the program: in place of an import's wrapper the import
abbrev pub erased_number : Module → ℕ → Option Function → ℕ
erased_number x k None = k
erased_number x k (Some f) = unwrap_or (if is_own_name f.name then wrapped_number x f.name else None) k

-- the same of what is called, of an instruction, of the code of a block, of a block and of a function

abbrev pub erased_callee : Module → Callee → Callee
erased_callee x (callee.Symbol (symbol.Function k)) = callee.Symbol (symbol.Function (erased_number x k (slice_get x.functions k)))
erased_callee x y = y

abbrev pub erased_op : Module → Op → Op
erased_op x (op.Call to ret target args) = op.Call to ret (erased_callee x target) args
erased_op x o = o

abbrev pub erased_code : Module → List Op → List Op
erased_code x is = map (erased_op x) (without_marks is)

abbrev pub erased_block : Module → Block → BlockText
erased_block x b = record { name = b.name; code = erased_code x (ops_of b) }

abbrev pub erased_text : Module → Function → FunctionText
erased_text x f = record { name = f.name; params = f.params; locals = f.locals; ret = f.ret; blocks = option_map (map (erased_block x)) f.blocks }

-- a function of the program, by its name
abbrev pub is_of_program : Function → Bool
is_of_program f = not (is_wrapper f)

-- the functions of the program
abbrev pub erased_functions : Module → List FunctionText
erased_functions x = map (erased_text x) (filter is_of_program x.functions)
