use Rattle.std.proofs.Common.{◌≡◌, drop}
use Rattle.lx_ir.specs.Faults.{phi_faults}
use Rattle.lx_ir_verify.proofs.phis.check_instrs.Given as goal

abbrev pub invariant-loop-instr : goal.invariant-loop-instr
invariant-loop-instr l =
    phi_faults l.f l.join.name.now l.at_start l.instrs ≡ phi_faults l.f l.join.name.now l.behind_phis (drop l.instr-index l.instrs)
