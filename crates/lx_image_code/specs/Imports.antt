-- The imports that the wrappers of images wrap, in tables.
use Rattle.std.specs.Prelude.{ℕ, Option, Some, List, map, option_and_then, slice_get}
use Rattle.lx_ir.specs.declared.module.Function.{Function}
use Rattle.lx_ir.specs.declared.module.Module.{Module}
use Rattle.lx_model.specs.declared.program.Program.{Program}
use Rattle.lx_model.specs.Program.{kernel_function}
use Rattle.lx_images.specs.Image.{wrapped_name}

-- the kernel's function that a function of an image wraps, if it wraps one
abbrev pub wrapped_by : Program → Function → Option ℕ
wrapped_by p f = option_and_then (kernel_function p) (wrapped_name (Some f))

-- what each function of an image wraps
abbrev pub imports_in : Program → Module → List (Option ℕ)
imports_in p image = map (wrapped_by p) image.functions

-- and what those of each image wrap
abbrev pub imports_of : Program → List Module → List (List (Option ℕ))
imports_of p images = map (imports_in p) images

-- what the tables say of a function of an image
abbrev pub import_at : List (List (Option ℕ)) → ℕ → ℕ → Option ℕ
import_at tables m f = option_and_then (λ x. x) (option_and_then (λ imports. slice_get imports f) (slice_get tables m))
