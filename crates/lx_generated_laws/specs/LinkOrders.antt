-- The first of two faults: the order of the passes, and what is first in a pass.
use Rattle.std.specs.Prelude.{◌≡◌, Some, None, List, [], ◌∷◌, codes, length}
use Rattle.lx_words.specs.declared.word.Width.TheVariants.{W8}
use Rattle.lx_ir.specs.declared.types.Scalar.TheVariants.{Int}
use Rattle.lx_ir.specs.declared.module.Blank.TheVariants.{Zero}
use Rattle.lx_ir.specs.declared.module.Function.{Function}
use Rattle.lx_ir.specs.declared.module.GlobalVar.{GlobalVar}
use Rattle.lx_ir.specs.declared.module.Module.{Module}
use Rattle.lx_ir.specs.declared.instr.Op.TheVariants as op
use Rattle.lx_ir.specs.IrType.{One, Array}
use Rattle.lx_ir.specs.Init.{Empty}
use Rattle.lx_generated_laws.specs.RowTexts.{i32, n32, to_function, to_nothing, arg, line, block, define, declare, global, of_functions, no_interface}
use Rattle.lx_generated_laws.specs.Devices.{device_module, ops}
use Rattle.lx_generated_laws.specs.Kernel.{kernel, interface}
use Rattle.lx_link_texts.specs.declared.sources.Sources.{Sources}
use Rattle.lx_link_texts.specs.declared.fault.FaultKind.TheVariants.{Missing, SignatureDiffers, TooLarge, KernelIndirect}
use Rattle.lx_link_texts.specs.declared.fault.Source.TheVariants as source
use Rattle.lx_link_texts.specs.Placing.{functions_of}
use Rattle.lx_link_texts.specs.Faults.{fault, text_fault, limit_fault, globals_fault, last_source}
use Rattle.lx_link.specs.Answers.{link_fault}
use Rattle.lx_generated_laws.specs.LinkedPrograms.{lone, hosted}
use Rattle.lx_generated_laws.specs.LinkFaults.{calls_parameter, kernel_of, of_bytes}
use Rattle.lx_generated_laws.specs.LinkCalls.{called, case_of}

-- an import that no kernel here defines
abbrev pub unknown : Function
unknown = declare (codes "f") [] None

-- `@probe`, which takes nothing, in a field that the interface types as `probe`, which takes a pointer
abbrev pub takes_nothing : Function
takes_nothing = define (codes "probe") [] [] (Some i32) (block (codes "0") (line (op.Ret (Some (arg i32 (n32 0)))) ∷ []) ∷ [])

-- a module whose `@probe` differs, with more globals and functions
abbrev pub differing : List GlobalVar → List Function → Module
differing gs fs = device_module (ops (codes "ops") (to_function 0) to_nothing ∷ gs) (takes_nothing ∷ fs)

-- one byte more than the region of globals has
abbrev pub too_large : GlobalVar
too_large = global (codes "g") (Array 1048577 (One (Int W8))) (Empty Zero)

-- two modules over the kernel and the interface that the program brings along
abbrev pub hosted_both : Module → Module → Sources
hosted_both m n =
    record {
      kernel = kernel;
      interface = interface;
      modules = record { name = codes "m"; «module» = m } ∷ record { name = codes "n"; «module» = n } ∷ [];
    }

-- one module over a kernel of functions alone
abbrev pub over : List Function → Module → Sources
over fs m = record { kernel = of_functions fs; interface = no_interface; modules = record { name = codes "m"; «module» = m } ∷ [] }

pub record WorkedOrders : Type 0 where
  -- an indirect call of the kernel, then an export that it lacks
  pub indirect_first : text_fault (kernel_of (calls_parameter ∷ []) interface) ≡ Some (fault KernelIndirect source.Kernel 0 (codes "f"))
  -- an export, then an import of the kernel
  pub export_first : text_fault (kernel_of (declare (codes "k.panic") [] None ∷ []) interface) ≡ Some (fault Missing source.Interface 8 (codes "kmalloc"))
  -- an import of the kernel, then one of a module
  pub kernel_first : text_fault (over (declare (codes "k.panic") [] None ∷ []) (of_functions (unknown ∷ []))) ≡ Some (fault Missing source.Kernel 0 (codes "k.panic"))
  -- an import, then an annotated function: of one module, and of the module behind it
  pub differs : text_fault (hosted (differing [] [])) ≡ Some (fault SignatureDiffers (source.Module 0) 0 (codes "probe"))
  pub import_first : text_fault (hosted (differing [] (unknown ∷ []))) ≡ Some (fault Missing (source.Module 0) 0 (codes "f"))
  pub import_behind : text_fault (hosted_both (differing [] []) (of_functions (unknown ∷ []))) ≡ Some (fault Missing (source.Module 1) 0 (codes "f"))
  -- the same fault of two modules
  pub module_first : text_fault (hosted_both (of_functions (unknown ∷ [])) (of_functions (declare (codes "k.note") [] None ∷ []))) ≡ Some (fault Missing (source.Module 0) 0 (codes "f"))
  -- an annotated function, then the globals
  pub differs_first : link_fault (hosted (differing (too_large ∷ []) [])) (case_of []) ≡ Some (fault SignatureDiffers (source.Module 0) 0 (codes "probe"))
  -- the functions, then the globals, whatever these are; 65,536 functions are not too many
  pub functions_first : (s : Sources) → length (functions_of s) ≡ 65537 → limit_fault s ≡ Some (fault TooLarge (last_source s.modules) 1 (codes "functions"))
  pub functions_within : (s : Sources) → length (functions_of s) ≡ 65536 → limit_fault s ≡ globals_fault s
  -- at line 1 of the last module, and of the kernel where there is none
  pub last_module : limit_fault (hosted_both (of_bytes 1048576) (of_functions [])) ≡ Some (fault TooLarge (source.Module 1) 1 (codes "globals"))
  pub kernel_alone : limit_fault (record { kernel = of_bytes 1048577; interface = no_interface; modules = [] }) ≡ Some (fault TooLarge source.Kernel 1 (codes "globals"))
  -- the globals, then the script
  pub globals_first : link_fault (lone (of_bytes 1048577)) (case_of (called 5 (Some 0) (codes "f") [] ∷ [])) ≡ Some (fault TooLarge (source.Module 0) 1 (codes "globals"))
