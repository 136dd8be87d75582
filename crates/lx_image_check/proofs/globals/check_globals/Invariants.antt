use Rattle.std.proofs.Common.{◌≡◌, drop}
use Rattle.lx_ir.specs.Faults.{first_some}
use Rattle.lx_image_texts.specs.ImageFaults.{global_fault}
use Rattle.lx_image_check.proofs.globals.check_globals.Given as goal

abbrev pub invariant-loop-global : goal.invariant-loop-global
invariant-loop-global l = first_some (global_fault l.m) l.m.globals ≡ first_some (global_fault l.m) (drop l.global-index l.m.globals)
