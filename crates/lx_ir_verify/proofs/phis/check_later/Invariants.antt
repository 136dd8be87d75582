use Rattle.std.proofs.Common.{◌≡◌, drop, true}
use Rattle.lx_ir.specs.Faults.{first_some, phi_faults}
use Rattle.lx_ir_verify.proofs.phis.check_later.Given as goal

abbrev pub invariant-loop-block : goal.invariant-loop-block
invariant-loop-block l = first_some (λ c. phi_faults l.f c.name true c.instrs) l.blocks ≡ first_some (λ c. phi_faults l.f c.name true c.instrs) (drop l.block-index l.blocks)
