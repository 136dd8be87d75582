-- The text of a bound.
use Rattle.std.specs.Prelude.{ℕ, Bool, Option, Some, None, List, [], ◌++◌, codes, slice_get, if◌then◌else◌}
use Rattle.std.specs.List.{enumerate_from, flat_map}
use Rattle.lx_ir.specs.declared.module.Function.{Function as TextFunction}
use Rattle.lx_model.specs.declared.program.Program.{Program}
use Rattle.lx_model.specs.declared.program.ProgramModule.{ProgramModule}
use Rattle.lx_model.specs.declared.program.ProgramFunction.{ProgramFunction}
use Rattle.lx_model.specs.declared.program.ProgramFunction.TheVariants.{Of}
use Rattle.lx_surface.specs.declared.Thing.TheVariants.{RefType, Function}
use Rattle.lx_surface.specs.declared.limits.Bound.{Bound}
use Rattle.lx_surface.specs.Bound.{allows}

-- a module can come to hold references of a type
unfoldable pub ref_line : List ℕ → List ℕ → List ℕ
ref_line name ty = codes "surface " ++ name ++ codes " ref " ++ ty ++ codes "\n"

-- and to call a function of the kernel
unfoldable pub call_line : List ℕ → List ℕ → List ℕ
call_line name function = codes "surface " ++ name ++ codes " call " ++ function ++ codes "\n"

abbrev pub line_if : Bool → List ℕ → List ℕ
line_if b line = if b then line else []

-- the line of a type of the interface
abbrev pub type_line : Bound → ℕ → List ℕ → ℕ × List ℕ → List ℕ
type_line b m name x = line_if (allows b m (RefType x.0)) (ref_line name x.1)

abbrev pub named_line : Bound → ℕ → List ℕ → ℕ → Option TextFunction → List ℕ
named_line b m name n None = []
named_line b m name n (Some f) = line_if (allows b m (Function n)) (call_line name f.name)

-- the line of a function of the kernel
abbrev pub entry_line : Program → Bound → ℕ → List ℕ → ℕ → ProgramFunction → List ℕ
entry_line p b m name n (Of None f) = named_line b m name n (slice_get p.kernel.functions f)
entry_line p b m name n _ = []

abbrev pub function_line : Program → Bound → ℕ → List ℕ → ℕ × ProgramFunction → List ℕ
function_line p b m name x = entry_line p b m name x.0 x.1

-- the lines of a module: types in the order of the interface, and the kernel's functions by number
abbrev pub module_lines : Program → Bound → ℕ × ProgramModule → List ℕ
module_lines p b x =
    flat_map (type_line b x.0 x.1.name) (enumerate_from 0 p.interface.reftypes)
    ++ flat_map (function_line p b x.0 x.1.name) (enumerate_from 0 p.functions)

abbrev pub bound_text : Program → Bound → List ℕ
bound_text p b = flat_map (module_lines p b) (enumerate_from 0 p.modules)
