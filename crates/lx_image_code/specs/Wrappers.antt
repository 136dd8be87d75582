-- The wrappers by which calls cross, what their lines do, and the tables in which they stand.
use Rattle.std.specs.Prelude.{◌≡◌, ℕ, Option, Some, None, List, [], ◌∷◌, length, option_map, slice_get}
use Rattle.lx_ir.specs.declared.module.Function.{Function}
use Rattle.lx_ir.specs.declared.instr.Op.{Op}
use Rattle.lx_ir.specs.declared.instr.Op.TheVariants as op
use Rattle.lx_annot.specs.declared.interface.Interface.{Interface}
use Rattle.lx_image_texts.specs.WrapperText.{In, import_annotation, wrapper_of}
use Rattle.lx_model.specs.declared.program.Program.{Program}
use Rattle.lx_images.specs.Code.{Code}
use Rattle.lx_images.specs.Wrappers.{function_in_image, in_lines, kernel_lines, lines_of, plain_lines}
use Rattle.lx_image_code.specs.declared.line.Line.{Line}
use Rattle.lx_image_code.specs.declared.line.Line.TheVariants as line
use Rattle.lx_image_code.specs.declared.wrappers.Wrapper.{Wrapper}
use Rattle.lx_image_code.specs.declared.wrappers.Wrapper.TheVariants as wrapper

-- the lines of the wrapper of a function of the kernel's text, which has this number there; none, where there is no such function
abbrev pub lines_in_kernel : Program → ℕ → Option Function → List Op
lines_in_kernel p k None = []
lines_in_kernel p k (Some g) = kernel_lines p k g

-- the lines of a wrapper
abbrev pub wrapper_lines : Code → Wrapper → List Op
wrapper_lines c (wrapper.Image m f) = lines_of (function_in_image c (Some m) f)
wrapper_lines c (wrapper.Kernel k) = lines_in_kernel c.program k (slice_get c.program.kernel.functions k)
wrapper_lines c wrapper.Plain = plain_lines
wrapper_lines c wrapper.Missing = []

-- the first line of those that are left
abbrev pub first_op : List Op → Option Op
first_op [] = None
first_op (o ∷ os) = Some o

-- what a line does; where none is left, what no wrapper does
abbrev pub line_of : Option Op → Line
line_of (Some (op.Enter s)) = line.Enter
line_of (Some (op.Pre s k)) = line.Pre k
line_of (Some (op.Call to ret callee args)) = line.Call
line_of (Some (op.Post s k)) = line.Post k
line_of (Some (op.Leave s)) = line.Leave
line_of (Some (op.Ret v)) = line.Ret
line_of _ = line.Other

-- there is a wrapper for each function of the program by which it is entered from elsewhere
pub record HasEntered (c : Code) (entered : List Wrapper) : Type 0 where
  pub count : length entered ≡ length c.program.functions
  pub each : (n : ℕ) → (w : Wrapper) → slice_get entered n ≡ Some w → wrapper_lines c w ≡ in_lines c n

-- the wrapper of a function of the kernel's text with this number, by the annotation of its export
abbrev pub kernel_wrapper : Interface → ℕ → Function → Function
kernel_wrapper i k g = wrapper_of g k (import_annotation i g.name) In

-- these are the wrappers of the functions of the kernel's text, by their numbers there
abbrev pub AreKernelWrappers : Program → List Function → Type 0
AreKernelWrappers p made = (k : ℕ) → slice_get made k ≡ option_map (kernel_wrapper p.interface k) (slice_get p.kernel.functions k)
