use Rattle.std.proofs.Common.{◌≡◌, drop}
use Rattle.lx_ir.specs.Faults.{first_some, label_fault}
use Rattle.lx_ir_verify.proofs.labels.check_block.Given as goal

abbrev pub invariant-loop-instr : goal.invariant-loop-instr
invariant-loop-instr l = first_some (label_fault l.f) l.instrs ≡ first_some (label_fault l.f) (drop l.instr-index l.instrs)
