-- Verified modules.
use Rattle.std.specs.Prelude.{◌≡◌, ◌<◌, true, ◌⊎◌, None, List, Contains, take}
use Rattle.lx_ir.specs.declared.module.Function.{Function}
use Rattle.lx_ir.specs.declared.module.Module.{Module}
use Rattle.lx_ir.specs.Lawful.{IsLawful}
use Rattle.lx_ir.specs.Faults.{FirstFault, FirstUnassigned, Read, reads_of, Walk, walk_assigns, assigns, instrs_at}

-- a lawful module in which none of the five faults stands
pub record IsVerified (m : Module) : Type 0 where
  pub lawful : IsLawful m
  pub no_fault : FirstFault m None
