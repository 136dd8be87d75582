-- A program with images of its modules: what runs of its functions, and which of their calls are calls of wrappers.
use Rattle.std.specs.Prelude.{ℕ, Option, Some, None, List, nat_eq, codes, drop, option_and_then, slice_get, if◌then◌else◌}
use Rattle.std.specs.List.{starts_with}
use Rattle.lx_ir.specs.declared.module.Function.{Function}
use Rattle.lx_ir.specs.declared.module.Module.{Module}
use Rattle.lx_ir.specs.declared.module.Symbol.TheVariants as symbol
use Rattle.lx_ir.specs.declared.instr.Callee.TheVariants as callee
use Rattle.lx_ir.specs.declared.instr.Op.{Op}
use Rattle.lx_ir.specs.declared.instr.Op.TheVariants as op
use Rattle.lx_model.specs.declared.program.Program.{Program}
use Rattle.lx_model.specs.declared.program.ProgramFunction.{ProgramFunction}
use Rattle.lx_model.specs.declared.program.ProgramFunction.TheVariants.{Of}
use Rattle.lx_model.specs.Program.{Home, function_of_entry, kernel_function}
use Rattle.lx_model.specs.Thread.{Routine, routine_or_none}

-- a program and its images, module by module
pub record Code : Type 0 where
  pub program : Program
  pub images : List Module

-- the function of an entry of the program's table: that of its module's image, or the kernel's own
abbrev pub image_of_entry : Code → Option ProgramFunction → Option Function
image_of_entry c (Some (Of (Some m) f)) = option_and_then (λ i. slice_get i.functions f) (slice_get c.images m)
image_of_entry c e = function_of_entry c.program e

-- the code that runs of a function: that of its module's image, or the kernel's own
abbrev pub image_function : Code → ℕ → Option Function
image_function c n = image_of_entry c (slice_get c.program.functions n)

-- its blocks and how many registers they give
abbrev pub image_routine : Code → ℕ → Routine
image_routine c n = routine_or_none (image_function c n)

-- the import that a called wrapper of an image wraps: what stands behind `lxfi.out.` in its name
abbrev pub wrapped_name : Option Function → Option (List ℕ)
wrapped_name None = None
wrapped_name (Some f) = if starts_with nat_eq f.name (codes "lxfi.out.") then Some (drop 9 f.name) else None

-- the import of the kernel that the function with this number wraps in a module's image; the kernel's text wraps none
abbrev pub out_import : Code → Home → ℕ → Option ℕ
out_import c None f = None
out_import c (Some m) f =
    option_and_then (kernel_function c.program) (wrapped_name (option_and_then (λ i. slice_get i.functions f) (slice_get c.images m)))

-- the import that a call calls by its wrapper
abbrev pub wrapped_import : Code → Home → Op → Option ℕ
wrapped_import c home (op.Call to ret (callee.Symbol (symbol.Function f)) args) = out_import c home f
wrapped_import c home _ = None
