-- The programs of the worked rows: one module `m`, over the kernel that the program brings along, over another one, or alone.
use Rattle.std.specs.Prelude.{ℕ, ◌+◌, Some, None, List, [], ◌∷◌, ◌++◌, codes, map}
use Rattle.lx_ir.specs.declared.module.Module.{Module}
use Rattle.lx_annot.specs.declared.interface.Interface.{Interface}
use Rattle.lx_model.specs.declared.program.Program.{Program}
use Rattle.lx_model.specs.declared.program.ProgramFunction.{ProgramFunction}
use Rattle.lx_model.specs.declared.program.ProgramFunction.TheVariants.{Native, Of}
use Rattle.lx_model.specs.declared.program.ProgramGlobal.{ProgramGlobal}
use Rattle.lx_model.specs.Program.{empty_module}
use Rattle.lx_generated_laws.specs.RowTexts.{no_interface}
use Rattle.lx_generated_laws.specs.Kernel.{kernel, interface}

abbrev pub natives : List ProgramFunction
natives = Native 0 ∷ Native 1 ∷ Native 2 ∷ Native 3 ∷ Native 4 ∷ Native 5 ∷ []

-- what stands below the module: a kernel, its functions, its globals, and an interface
pub record Base : Type 0 where
  pub kernel : Module
  pub functions : List ProgramFunction
  pub globals : List ProgramGlobal
  pub interface : Interface

-- the kernel and the interface that the program brings along: over them the functions of a module have the numbers from 19 on, and its globals stand
-- from 0x10000e0 on; `kmalloc`, the kernel's first function, has the number 6, `do_probe` 17
abbrev pub built_in : Base
built_in =
    record {
      kernel = kernel;
      functions = Of None 7 ∷ Of None 8 ∷ Of None 9 ∷ Of None 10 ∷ Of None 11 ∷ Of None 12 ∷ Of None 13 ∷ Of None 14 ∷ Of None 15 ∷ Of None 16 ∷ Of None 17 ∷ Of None 18 ∷ Of None 19 ∷ [];
      globals =
          record { «module» = None; global = 0; at = 0x1000000 }
          ∷ record { «module» = None; global = 1; at = 0x1000010 }
          ∷ record { «module» = None; global = 2; at = 0x1000020 } ∷ [];
      interface = interface;
    }

-- no kernel: the functions of a module have the numbers from 6 on, and its globals stand from 0x1000000 on
abbrev pub nothing : Base
nothing = record { kernel = empty_module; functions = []; globals = []; interface = no_interface }

-- the module's globals from this one on, by their addresses
abbrev pub own_globals : ℕ → List ℕ → List ProgramGlobal
own_globals k [] = []
own_globals k (a ∷ rest) = record { «module» = Some 0; global = k; at = a } ∷ own_globals (k + 1) rest

-- the module over what stands below it: the functions that its text defines, by their numbers there, and the addresses of its globals
abbrev pub over : Base → Module → List ℕ → List ℕ → Program
over base m functions places =
    record {
      kernel = base.kernel;
      modules = record { name = codes "m"; «module» = m } ∷ [];
      functions = natives ++ base.functions ++ map (Of (Some 0)) functions;
      globals = base.globals ++ own_globals 0 places;
      interface = base.interface;
    }
