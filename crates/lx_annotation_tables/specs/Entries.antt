-- The functions of a program by number.
use Rattle.std.specs.Prelude.{◌≡◌, ℕ, suc, ◌≤◌, true, Option, Some, List, [], ◌∷◌, map, option_and_then, slice_get, ⊤}
use Rattle.lx_ir.specs.declared.module.Function.{Function}
use Rattle.lx_ir.specs.Lookup.{is_defined}
use Rattle.lx_annot.specs.declared.action.Annotation.{Annotation}
use Rattle.lx_slot_types.specs.declared.Marked.{Marked}
use Rattle.lx_model.specs.declared.program.Program.{Program}
use Rattle.lx_model.specs.declared.program.ProgramModule.{ProgramModule}
use Rattle.lx_model.specs.declared.program.ProgramFunction.{ProgramFunction}
use Rattle.lx_model.specs.declared.program.ProgramFunction.TheVariants.{Native, Of}
use Rattle.lx_model.specs.Program.{module_of, annotation_of_entry, function_of_entry}
use Rattle.lx_serve.specs.declared.source.Source.{Source}
use Rattle.lx_serve.specs.Sources.{annotation_at}
use Rattle.lx_propagate.specs.Slots.{annotated_of}

-- a function that its text defines
pub record IsDefinedAt (functions : List Function) (k : ℕ) : Type 0 where
  pub function : Function
  pub there : slice_get functions k ≡ Some function
  pub defined : is_defined function ≡ true

-- a native, or a function that its text defines
unfoldable pub IsEntry : Program → ProgramFunction → Type 0
IsEntry p (Native k) = ⊤
IsEntry p (Of home k) = IsDefinedAt (module_of p home).functions k

-- what the function of an entry is annotated with
unfoldable pub annotation_of : Program → ProgramFunction → Option Annotation
annotation_of p e = annotation_of_entry p (Some e) (function_of_entry p (Some e))

-- what stands where a source says
unfoldable pub annotation_by : Program → Option Source → Option Annotation
annotation_by p source = option_and_then (annotation_at p.interface) source

-- the functions of each module that get a slot type
abbrev pub all_annotated : Program → List (List Marked)
all_annotated p = map (λ (m : ProgramModule). annotated_of p.interface m.«module») p.modules

-- functions in the order of their numbers, from this number on
abbrev pub RisesFrom : ℕ → List Marked → Type 0
RisesFrom n [] = ⊤
RisesFrom n (x ∷ xs) = (n ≤ x.function) × RisesFrom (suc x.function) xs

-- no two of one number
unfoldable pub IsRising : List Marked → Type 0
IsRising xs = RisesFrom 0 xs
