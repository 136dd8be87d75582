use Rattle.std.proofs.Common.{◌≡◌, drop}
use Rattle.lx_ir.specs.Faults.{first_some}
use Rattle.lx_image_texts.specs.ImageFaults.{import_fault}
use Rattle.lx_image_check.proofs.globals.check_imports.Given as goal

abbrev pub invariant-loop-f : goal.invariant-loop-f
invariant-loop-f l = first_some import_fault l.m.functions ≡ first_some import_fault (drop l.f-index l.m.functions)
