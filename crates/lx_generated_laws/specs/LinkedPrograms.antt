-- The programs of the worked runs, as linking gives them.
use Rattle.std.specs.Prelude.{◌≡◌, ℕ, Option, Some, List, [], ◌∷◌, codes, option_map, length}
use Rattle.lx_ir.specs.declared.module.Module.{Module}
use Rattle.lx_model.specs.declared.program.Program.{Program}
use Rattle.lx_model.specs.Program.{empty_module, kernel_function, address_of, global_address}
use Rattle.lx_generated_laws.specs.RowTexts.{no_interface}
use Rattle.lx_generated_laws.specs.Kernel.{kernel, interface}
use Rattle.lx_generated_laws.specs.ProgramRows.{one_module, past_module, alone}
use Rattle.lx_generated_laws.specs.Hooked as hooked
use Rattle.lx_generated_laws.specs.Instances as instances
use Rattle.lx_generated_laws.specs.Slots as slots
use Rattle.lx_generated_laws.specs.Spanned as spanned
use Rattle.lx_link_texts.specs.declared.sources.Sources.{Sources}
use Rattle.lx_link_texts.specs.Placing.{program_of}

-- one module `m`, without a kernel and an interface
abbrev pub lone : Module → Sources
lone m = record { kernel = empty_module; interface = no_interface; modules = record { name = codes "m"; «module» = m } ∷ [] }

-- one module `m` over the kernel and the interface that the program brings along
abbrev pub hosted : Module → Sources
hosted m = record { kernel = kernel; interface = interface; modules = record { name = codes "m"; «module» = m } ∷ [] }

-- the address of a function of the kernel
abbrev pub kernel_address : Program → List ℕ → Option ℕ
kernel_address p name = option_map address_of (kernel_function p name)

pub record WorkedPrograms : Type 0 where
  pub stored : program_of (lone one_module) ≡ alone one_module
  pub past : program_of (lone past_module) ≡ alone past_module
  pub spans : program_of (hosted spanned.the_module) ≡ spanned.program
  pub aliases : program_of (hosted instances.the_module) ≡ instances.program
  pub bends : program_of (hosted slots.the_module) ≡ slots.program
  pub hooks : program_of (hosted hooked.the_module) ≡ hooked.program
  -- the kernel's first function and its last, the first of a module, and a module's first global
  pub first : kernel_address (program_of (hosted spanned.the_module)) (codes "kmalloc") ≡ Some 0x10060
  pub last : kernel_address (program_of (hosted spanned.the_module)) (codes "do_xmit") ≡ Some 0x10120
  pub functions : address_of (length (program_of (hosted empty_module)).functions) ≡ 0x10130
  pub global : global_address (program_of (hosted spanned.the_module)) (Some 0) 0 ≡ 0x10000e0
