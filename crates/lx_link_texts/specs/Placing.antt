-- The program of a kernel, an interface and modules: numbers of functions and addresses of globals.
use Rattle.std.specs.Prelude.{ℕ, ◌+◌, ◌<◌, ◌≤◌, ◌^◌, Bool, true, false, All, IsTrue, Option, Some, None, List, [], ◌∷◌, ◌++◌, length}
use Rattle.lx_caps.specs.Regions.{globals_start, region_size, align_up}
use Rattle.lx_ir.specs.declared.types.NamedType.{NamedType}
use Rattle.lx_ir.specs.declared.module.GlobalVar.{GlobalVar}
use Rattle.lx_ir.specs.declared.module.Function.{Function}
use Rattle.lx_ir.specs.Layout.{size_of, is_lawful_type}
use Rattle.lx_ir.specs.Lookup.{is_defined}
use Rattle.lx_model.specs.declared.program.Program.{Program}
use Rattle.lx_model.specs.declared.program.ProgramModule.{ProgramModule}
use Rattle.lx_model.specs.declared.program.ProgramFunction.{ProgramFunction}
use Rattle.lx_model.specs.declared.program.ProgramFunction.TheVariants.{Native, Of}
use Rattle.lx_model.specs.declared.program.ProgramGlobal.{ProgramGlobal}
use Rattle.lx_model.specs.Program.{Home}
use Rattle.lx_ir.specs.declared.module.Module.{Module}
use Rattle.lx_link_texts.specs.declared.sources.Sources.{Sources}
use Rattle.lx_link_texts.specs.declared.globals.PlaceError.{PlaceError}
use Rattle.lx_link_texts.specs.declared.globals.PlaceError.TheVariants as errors

-- Functions.

abbrev pub natives : List ProgramFunction
natives = Native 0 ∷ Native 1 ∷ Native 2 ∷ Native 3 ∷ Native 4 ∷ Native 5 ∷ []

abbrev pub entry_if : Bool → ProgramFunction → List ProgramFunction
entry_if true x = x ∷ []
entry_if false x = []

-- the functions that a text defines, in its order, among those from the one with this number on
abbrev pub entries_from : Home → ℕ → List Function → List ProgramFunction
entries_from home k [] = []
entries_from home k (f ∷ fs) = entry_if (is_defined f) (Of home k) ++ entries_from home (k + 1) fs

-- those of the modules from the one with this number on
abbrev pub module_entries : ℕ → List ProgramModule → List ProgramFunction
module_entries k [] = []
module_entries k (m ∷ ms) = entries_from (Some k) 0 m.«module».functions ++ module_entries (k + 1) ms

-- the functions by number: the natives, then those that the kernel defines, then those of each module
unfoldable pub functions_of : Sources → List ProgramFunction
functions_of s = natives ++ entries_from None 0 s.kernel.functions ++ module_entries 0 s.modules

-- Globals.

-- how many bytes a global takes
unfoldable pub global_size : List NamedType → GlobalVar → ℕ
global_size types g = size_of types g.ty

abbrev pub place : Home → ℕ → ℕ → ProgramGlobal
place home k at = record { «module» = home; global = k; at = at }

-- where a global begins that is placed behind this end: at the next address divisible by 16
abbrev pub start_behind : ℕ → ℕ
start_behind end = align_up end 16

abbrev pub end_of : List NamedType → ℕ → GlobalVar → ℕ
end_of types end g = start_behind end + global_size types g

-- the globals of a text from the one with this number on, one behind another
abbrev pub places_from : List NamedType → Home → ℕ → ℕ → List GlobalVar → List ProgramGlobal
places_from types home k end [] = []
places_from types home k end (g ∷ gs) = place home k (start_behind end) ∷ places_from types home (k + 1) (end_of types end g) gs

-- where they end
abbrev pub end_behind : List NamedType → ℕ → List GlobalVar → ℕ
end_behind types end [] = end
end_behind types end (g ∷ gs) = end_behind types (end_of types end g) gs

-- the same for the modules from the one with this number on
abbrev pub module_places : ℕ → ℕ → List ProgramModule → List ProgramGlobal
module_places k end [] = []
module_places k end (m ∷ ms) =
    places_from m.«module».types (Some k) 0 end m.«module».globals
    ++ module_places (k + 1) (end_behind m.«module».types end m.«module».globals) ms

abbrev pub modules_end : ℕ → List ProgramModule → ℕ
modules_end end [] = end
modules_end end (m ∷ ms) = modules_end (end_behind m.«module».types end m.«module».globals) ms

abbrev pub kernel_end : Sources → ℕ
kernel_end s = end_behind s.kernel.types globals_start s.kernel.globals

-- the globals by address: the kernel's, then those of each module
unfoldable pub globals_of : Sources → List ProgramGlobal
globals_of s = places_from s.kernel.types None 0 globals_start s.kernel.globals ++ module_places 0 (kernel_end s) s.modules

-- where the last global ends
unfoldable pub globals_end : Sources → ℕ
globals_end s = modules_end (kernel_end s) s.modules

-- where the region of globals ends
abbrev pub last_end : ℕ
last_end = globals_start + region_size

-- globals have no place: their end is past the region, or it is not and there was not enough memory
abbrev pub IsPast : ℕ → PlaceError → Type 0
IsPast end errors.Past = last_end < end
IsPast end errors.Memory = end ≤ last_end

-- What numbers and sizes are within limits.

abbrev pub HasFewFunctions : ProgramModule → Type 0
HasFewFunctions m = length m.«module».functions < 2 ^ 32

-- a u32 numbers the globals of a module, and each is of a type within the limits
pub record HasLawfulGlobals (m : Module) : Type 0 where
  pub few : length m.globals < 2 ^ 32
  pub types : All (λ (g : GlobalVar). IsTrue (is_lawful_type m.types g.ty)) m.globals

abbrev pub HasGlobals : ProgramModule → Type 0
HasGlobals m = HasLawfulGlobals m.«module»

-- numbers of 32 bits count modules, functions and globals, and types are within the limits
pub record HasLimits (s : Sources) : Type 0 where
  pub modules : length s.modules < 2 ^ 32
  pub kernel_functions : length s.kernel.functions < 2 ^ 32
  pub kernel_globals : HasLawfulGlobals s.kernel
  pub functions : All HasFewFunctions s.modules
  pub globals : All HasGlobals s.modules

-- The program.

abbrev pub program_of : Sources → Program
program_of s =
    record {
      kernel = s.kernel;
      modules = s.modules;
      functions = functions_of s;
      globals = globals_of s;
      interface = s.interface;
    }
