-- The lines of wrappers: what runs where a call crosses.
use Rattle.std.specs.Prelude.{ℕ, Option, Some, None, List, [], ◌∷◌, find, slice_get, option_and_then, bytes_eq}
use Rattle.lx_ir.specs.declared.module.Function.{Function}
use Rattle.lx_ir.specs.declared.module.Symbol.TheVariants as symbol
use Rattle.lx_ir.specs.declared.instr.Callee.TheVariants as callee
use Rattle.lx_ir.specs.declared.instr.Op.{Op}
use Rattle.lx_ir.specs.declared.instr.Op.TheVariants as op
use Rattle.lx_image_texts.specs.WrapperText.{In, wrapper_name, wrapper_code, import_annotation}
use Rattle.lx_model.specs.declared.program.Program.{Program}
use Rattle.lx_model.specs.declared.program.ProgramFunction.{ProgramFunction}
use Rattle.lx_model.specs.declared.program.ProgramFunction.TheVariants.{Of}
use Rattle.lx_model.specs.Program.{Home, function_of}
use Rattle.lx_model.specs.Thread.{routine_or_none, first_code}
use Rattle.lx_images.specs.Code.{Code}

-- the lines of a wrapper: those of its first block, and none where there is no such function
abbrev pub lines_of : Option Function → List Op
lines_of f = first_code (routine_or_none f).blocks

-- the function with this number in the image of a module; the kernel's text has no image
abbrev pub function_in_image : Code → Home → ℕ → Option Function
function_in_image c None f = None
function_in_image c (Some m) f = option_and_then (λ i. slice_get i.functions f) (slice_get c.images m)

-- the lines of the wrapper that a call calls
abbrev pub called_lines : Code → Home → Op → List Op
called_lines c home (op.Call to ret (callee.Symbol (symbol.Function f)) args) = lines_of (function_in_image c home f)
called_lines c home _ = []

-- a wrapper without actions
abbrev pub plain_lines : List Op
plain_lines =
    op.Enter (symbol.Function 0) ∷ op.Call None None (callee.Symbol (symbol.Function 0)) [] ∷ op.Leave (symbol.Function 0) ∷ op.Ret None ∷ []

-- the wrapper that stands before calls into the function with this name
abbrev pub in_named : List ℕ → List Function → Option Function
in_named name fs = find (λ f. bytes_eq f.name (wrapper_name In name)) fs

-- the lines of a wrapper that an image has, or those without actions
abbrev pub lines_or_plain : Option Function → List Op
lines_or_plain None = plain_lines
lines_or_plain (Some w) = lines_of (Some w)

-- the lines of the wrapper before calls into a function of the kernel, which no image has: by the annotation of its export
abbrev pub kernel_lines : Program → ℕ → Function → List Op
kernel_lines p k g = wrapper_code g k (import_annotation p.interface g.name)

-- the lines of the wrapper of a function that is entered from elsewhere: of a module's function those in its image
abbrev pub in_lines_of : Code → Option ProgramFunction → Option Function → List Op
in_lines_of c (Some (Of (Some m) k)) (Some g) = lines_or_plain (option_and_then (λ i. in_named g.name i.functions) (slice_get c.images m))
in_lines_of c (Some (Of None k)) (Some g) = kernel_lines c.program k g
in_lines_of c e g = plain_lines

-- so it is of the function with this number in the program
abbrev pub in_lines : Code → ℕ → List Op
in_lines c n = in_lines_of c (slice_get c.program.functions n) (function_of c.program n)
