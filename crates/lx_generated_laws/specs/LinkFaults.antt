-- The first fault of small texts.
use Rattle.std.specs.Prelude.{◌≡◌, ℕ, Some, None, List, [], ◌∷◌, codes}
use Rattle.lx_words.specs.declared.word.Width.TheVariants.{W8}
use Rattle.lx_ir.specs.declared.types.Scalar.TheVariants.{Int, Ptr}
use Rattle.lx_ir.specs.declared.module.Blank.TheVariants.{Zero}
use Rattle.lx_ir.specs.declared.module.Function.{Function}
use Rattle.lx_ir.specs.declared.module.Module.{Module}
use Rattle.lx_ir.specs.declared.instr.Callee.TheVariants as callee
use Rattle.lx_ir.specs.declared.instr.Op.TheVariants as op
use Rattle.lx_ir.specs.IrType.{One, Array}
use Rattle.lx_ir.specs.Init.{Empty}
use Rattle.lx_annot.specs.declared.interface.Interface.{Interface}
use Rattle.lx_generated_laws.specs.RowTexts.{i32, i64, line, block, define, declare, global, param, of_functions, no_interface}
use Rattle.lx_generated_laws.specs.Kernel.{kernel, interface}
use Rattle.lx_generated_laws.specs.Instances as instances
use Rattle.lx_generated_laws.specs.Slots as slots
use Rattle.lx_link_texts.specs.declared.sources.Sources.{Sources}
use Rattle.lx_link_texts.specs.declared.fault.FaultKind.TheVariants.{Missing, Unannotated, SignatureDiffers, TooLarge, KernelIndirect}
use Rattle.lx_link_texts.specs.declared.fault.Source.TheVariants as source
use Rattle.lx_link_texts.specs.Faults.{fault, text_fault, globals_fault}
use Rattle.lx_generated_laws.specs.LinkedPrograms.{lone, hosted}

-- a module of one global of bytes
abbrev pub of_bytes : ℕ → Module
of_bytes n = record { types = []; globals = global (codes "g") (Array n (One (Int W8))) (Empty Zero) ∷ []; functions = [] }

-- a kernel of functions alone, without modules
abbrev pub kernel_of : List Function → Interface → Sources
kernel_of fs i = record { kernel = of_functions fs; interface = i; modules = [] }

-- a function that calls its parameter
abbrev pub calls_parameter : Function
calls_parameter =
    define (codes "f") (param (codes "p") Ptr ∷ []) [] None
    (block (codes "0") (line (op.Call None None (callee.Register 0) []) ∷ line (op.Ret None) ∷ []) ∷ [])

pub record WorkedFaults : Type 0 where
  -- the modules of worked runs have none
  pub aliased : text_fault (hosted instances.the_module) ≡ None
  pub bent : text_fault (hosted slots.the_module) ≡ None
  -- an import that the interface does not export, one that the kernel lacks, and the kernel's own
  pub not_exported : text_fault (hosted (of_functions (declare (codes "do_probe") (param [] i64 ∷ []) (Some i32) ∷ []))) ≡ Some (fault Unannotated (source.Module 0) 0 (codes "do_probe"))
  pub missing : text_fault (hosted (of_functions (declare (codes "f") [] None ∷ []))) ≡ Some (fault Missing (source.Module 0) 0 (codes "f"))
  pub kernels_own : text_fault (hosted (of_functions (declare (codes "k.note") (param [] i64 ∷ []) None ∷ []))) ≡ Some (fault Missing (source.Module 0) 0 (codes "k.note"))
  -- signatures agree by widths
  pub other_width : text_fault (hosted (of_functions (declare (codes "kmalloc") (param [] i32 ∷ []) (Some Ptr) ∷ []))) ≡ Some (fault SignatureDiffers (source.Module 0) 0 (codes "kmalloc"))
  pub same_width : text_fault (hosted (of_functions (declare (codes "kmalloc") (param [] Ptr ∷ []) (Some i64) ∷ []))) ≡ None
  -- the alias is a module's alone, and of one signature
  pub no_alias : text_fault (hosted (of_functions (declare (codes "lxfi_princ_alias") (param [] Ptr ∷ []) None ∷ []))) ≡ Some (fault SignatureDiffers (source.Module 0) 0 (codes "lxfi_princ_alias"))
  pub kernels_alias : text_fault (kernel_of (declare (codes "lxfi_princ_alias") (param [] Ptr ∷ param [] Ptr ∷ []) None ∷ []) no_interface) ≡ Some (fault Missing source.Kernel 0 (codes "lxfi_princ_alias"))
  -- an interface over a kernel that does not define what is exported, at the interface's line
  pub no_export : text_fault (kernel_of [] interface) ≡ Some (fault Missing source.Interface 8 (codes "kmalloc"))
  -- a call through no slot type, and one without the pointer to the slot
  pub no_slot : text_fault (kernel_of (declare (codes "k.slot.probe") (param [] Ptr ∷ param [] Ptr ∷ []) (Some i32) ∷ []) no_interface) ≡ Some (fault Missing source.Kernel 0 (codes "k.slot.probe"))
  pub no_pointer : text_fault (kernel_of (declare (codes "k.slot.probe") (param [] Ptr ∷ []) (Some i32) ∷ []) (record interface { exports = [] })) ≡ Some (fault SignatureDiffers source.Kernel 0 (codes "k.slot.probe"))
  pub with_pointer : text_fault (kernel_of (declare (codes "k.slot.probe") (param [] Ptr ∷ param [] Ptr ∷ []) (Some i32) ∷ []) (record interface { exports = [] })) ≡ None
  pub indirect : text_fault (kernel_of (calls_parameter ∷ []) no_interface) ≡ Some (fault KernelIndirect source.Kernel 0 (codes "f"))
  pub modules_indirect : text_fault (lone (of_functions (calls_parameter ∷ []))) ≡ None
  -- a global that fills the region, and one byte more
  pub full : globals_fault (lone (of_bytes 1048576)) ≡ None
  pub too_full : globals_fault (lone (of_bytes 1048577)) ≡ Some (fault TooLarge (source.Module 0) 1 (codes "globals"))
