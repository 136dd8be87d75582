-- The kernel and the module of generated cases, with the lines of other modules.
use Rattle.std.proofs.Common.{◌≡◌}
use Rattle.lx_ir.specs.declared.module.Module.{Module}
use Rattle.lx_ir_complete.specs.Same.{SameModules}
use Rattle.lx_generated_laws.specs.Generated.{the_module}
use Rattle.lx_generated_laws.specs.Kernel.{kernel}
use Rattle.lx_generated_laws.proofs.Lined.{lined, same_lined}

-- Nothing computes them but a proof that unfolds them, so that no other proof goes through them.

unfoldable pub host : Module → Module
host from = lined from kernel

unfoldable pub guest : Module → Module
guest from = lined from the_module

pub same_host : (k : Module) → SameModules k kernel → k ≡ host k
unfolding host
same_host k same = same_lined k kernel same

pub same_guest : (m : Module) → SameModules m the_module → m ≡ guest m
unfolding guest
same_guest m same = same_lined m the_module same
