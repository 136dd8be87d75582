use Rattle.std.proofs.Common.{◌≡◌, drop}
use Rattle.lx_ir.specs.Faults.{first_some}
use Rattle.lx_link_texts.specs.Faults.{kernel_import_fault}
use Rattle.lx_link_texts.proofs.kernel.check_imports.Given as goal

abbrev pub invariant-loop-function : goal.invariant-loop-function
invariant-loop-function l = first_some (kernel_import_fault l.interface) l.kernel.functions ≡ first_some (kernel_import_fault l.interface) (drop l.function-index l.kernel.functions)
