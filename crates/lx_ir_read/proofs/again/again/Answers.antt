use Rattle.std.proofs.Common.{ap}
use Rattle.lx_ir_terms.specs.Context.{Context}
use Rattle.lx_ir_read.proofs.Drafts.{cleared}
use Rattle.lx_ir_read.proofs.again.again.Goals as goal

pub returns-clause-registers : goal.returns-clause-registers
returns-clause-registers c =
    cleared c.context.inside.names.now c.args.context.now.names c.args.found.now.statement c.add_registers.new.registers c.clear.new.self c.in_ok-add_registers.ensures c.clear.ensures (ap (λ (k : Context). k.names) c.context.view_is)
