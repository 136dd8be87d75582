use Rattle.std.proofs.Common.{Option, Some, subst}
use Rattle.std.specs.Prelude.{option_map}
use Rattle.lx_ir.specs.Faults.{FirstUnassigned, Read, reads_of, read_fault}
use Rattle.lx_ir_verify.proofs.Orders.{of_one}
use Rattle.lx_ir_verify.proofs.registers.check_registers.Goals as goal

pub returns-in-Some : goal.returns-in-Some
returns-in-Some c =
    of_one (FirstUnassigned c.args.f.now (reads_of c.args.f.now)) (Some (read_fault c.args.f.now c.in-Some.x)) c.not_assigned.result
    (subst (λ (o : Option Read). FirstUnassigned c.args.f.now (reads_of c.args.f.now) (option_map (read_fault c.args.f.now) o)) c.in-Some.is c.in_ok-found.ensures)
    c.not_assigned.ensures
