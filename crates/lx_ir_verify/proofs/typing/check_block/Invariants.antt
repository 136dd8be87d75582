use Rattle.std.proofs.Common.{◌≡◌, drop}
use Rattle.lx_ir.specs.Faults.{first_some, type_fault}
use Rattle.lx_ir_verify.proofs.typing.check_block.Given as goal

abbrev pub invariant-loop-instr : goal.invariant-loop-instr
invariant-loop-instr l =
    first_some (type_fault l.m l.f l.types) l.instrs ≡ first_some (type_fault l.m l.f l.types) (drop l.instr-index l.instrs)
