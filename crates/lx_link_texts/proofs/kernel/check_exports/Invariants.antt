use Rattle.std.proofs.Common.{◌≡◌, drop}
use Rattle.lx_ir.specs.Faults.{first_some}
use Rattle.lx_link_texts.specs.Faults.{export_fault}
use Rattle.lx_link_texts.proofs.kernel.check_exports.Given as goal

abbrev pub invariant-loop-export : goal.invariant-loop-export
invariant-loop-export l = first_some (export_fault l.kernel) l.interface.exports ≡ first_some (export_fault l.kernel) (drop l.export-index l.interface.exports)
