-- What the texts say that the program brings along and generates.
use Rattle.std.specs.Prelude.{List, ℕ, None}
use Rattle.lx_generate.specs.Generated.{module_text}
use Rattle.lx_generate.specs.Interface.{interface_text}
use Rattle.lx_generate.specs.Kernel.{kernel_text}
use Rattle.lx_ir.specs.declared.module.Module.{Module}
use Rattle.lx_ir.specs.Faults.{FirstFault}
use Rattle.lx_ir_calls.specs.declared.intrinsics.TextForm.TheVariants.{Program}
use Rattle.lx_ir_complete.specs.Same.{SameModules}
use Rattle.lx_ir_read.specs.Grammar.{IsModule}
use Rattle.lx_ir_read.specs.Reading.{SaysModule}
use Rattle.lx_annot_read.specs.Texts.{SaysInterface}
use Rattle.lx_annot_laws.specs.Statements.{IsInterface}
use Rattle.lx_generated_laws.specs.Generated.{the_module}
use Rattle.lx_generated_laws.specs.Kernel.{interface, kernel}

-- The text is by the grammar, and as it is read, a module that differs from this one in lines alone, and no fault stands in it.
pub record IsSoundText (text : List ℕ) (m : Module) : Type 0 where
  pub read : Module
  pub is : IsModule Program text read
  pub says : SaysModule Program text read
  pub same : SameModules read m
  pub no_fault : FirstFault read None

-- the kernel that the program brings along, and the module of a generated case

abbrev pub KernelIsSound : Type 0
KernelIsSound = IsSoundText kernel_text kernel

abbrev pub ModuleIsSound : Type 0
ModuleIsSound = IsSoundText module_text the_module

-- The interface's text is it by the grammar, and as it is read.
pub record InterfaceIsSaid : Type 0 where
  pub is : IsInterface interface_text interface
  pub says : SaysInterface interface_text interface
