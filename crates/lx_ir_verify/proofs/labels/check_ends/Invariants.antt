use Rattle.std.proofs.Common.{◌≡◌, drop}
use Rattle.lx_ir.specs.Faults.{first_some, end_fault}
use Rattle.lx_ir_verify.proofs.labels.check_ends.Given as goal

abbrev pub invariant-loop-block : goal.invariant-loop-block
invariant-loop-block l = first_some (end_fault l.f) l.blocks ≡ first_some (end_fault l.f) (drop l.block-index l.blocks)
