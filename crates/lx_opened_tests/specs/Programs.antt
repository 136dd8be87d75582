-- The programs of the tests: a kernel and one module, which have no types and no globals.
use Rattle.std.specs.Prelude.{ℕ, Option, Some, None, List, [], ◌∷◌, codes}
use Rattle.lx_annot.specs.declared.expr.Ty.TheVariants as ty
use Rattle.lx_annot.specs.declared.interface.Interface.{Interface}
use Rattle.lx_annot.specs.declared.interface.Slot.{Slot}
use Rattle.lx_ir.specs.declared.module.Function.{Function}
use Rattle.lx_ir.specs.declared.module.Module.{Module}
use Rattle.lx_ir.specs.declared.types.Scalar.{Scalar}
use Rattle.lx_images.specs.Image.{Code}
use Rattle.lx_model.specs.Program.{no_annotation}
use Rattle.lx_model.specs.declared.program.Program.{Program}
use Rattle.lx_model.specs.declared.program.ProgramFunction.TheVariants.{Of}

-- a function without parameters that has no instruction
abbrev pub function_with : List ℕ → Option Scalar → Function
function_with name ret = record { name = name; params = []; locals = []; ret = ret; blocks = Some []; line = 1 }

abbrev pub silent : Function
silent = function_with [] None

-- a module of functions alone
abbrev pub module_with : List Function → Module
module_with fs = record { types = []; globals = []; functions = fs }

-- an interface of reference types and slot types alone
abbrev pub interface_with : List (List ℕ) → List Slot → Interface
interface_with reftypes slots = record { reftypes = reftypes; iterators = []; slots = slots; fields = []; exports = [] }

-- a program that defines nothing
abbrev pub empty : Program
empty = record {
  kernel = module_with [];
  modules = [];
  functions = [];
  globals = [];
  interface = interface_with [] [];
}

-- a program of one function, which its module defines
abbrev pub one_function : Function → Program
one_function f = record {
  kernel = module_with [];
  modules = record { name = []; «module» = module_with (f ∷ []) } ∷ [];
  functions = Of (Some 0) 0 ∷ [];
  globals = [];
  interface = interface_with [] [];
}

-- a program of one function that has no instruction
abbrev pub one_silent : Program
one_silent = one_function silent

-- its code, where its module has no image
abbrev pub silent_code : Code
silent_code = record { program = one_silent; images = [] }

-- a program of one function, which the kernel defines
abbrev pub kernel_alone : Function → Program
kernel_alone f = record {
  kernel = module_with (f ∷ []);
  modules = [];
  functions = Of None 0 ∷ [];
  globals = [];
  interface = interface_with [] [];
}

-- a slot type of functions without parameters, and without an annotation
abbrev pub slot_with : List ℕ → Slot
slot_with name = record { name = name; params = []; ret = ty.Void; annotation = no_annotation; line = 1 }

abbrev pub plain_slot : Slot
plain_slot = slot_with []

-- a program of one function of the kernel, one slot type, and a module that has nothing
abbrev pub slotted : Program
slotted = record {
  kernel = module_with (silent ∷ []);
  modules = record { name = []; «module» = module_with [] } ∷ [];
  functions = Of None 0 ∷ [];
  globals = [];
  interface = interface_with [] (plain_slot ∷ []);
}

-- a function without parameters that a text imports
abbrev pub import_with : List ℕ → Function
import_with name = record { name = name; params = []; locals = []; ret = None; blocks = None; line = 1 }

-- a program whose names name a native, a slot, a function of the kernel, one of the module, and nothing
abbrev pub naming_kernel : List Function
naming_kernel =
    function_with (codes "k.work") None ∷ import_with (codes "k.alloc") ∷ import_with (codes "k.slot.s") ∷ import_with (codes "k.other") ∷ []

abbrev pub naming_module : List Function
naming_module =
    import_with (codes "k.other") ∷ import_with (codes "lxfi_princ_alias") ∷ import_with (codes "k.work") ∷ function_with (codes "own") None ∷ []

abbrev pub naming : Program
naming = record {
  kernel = module_with naming_kernel;
  modules = record { name = []; «module» = module_with naming_module } ∷ [];
  functions = Of None 0 ∷ Of (Some 0) 3 ∷ [];
  globals = [];
  interface = interface_with [] (slot_with (codes "s") ∷ []);
}
