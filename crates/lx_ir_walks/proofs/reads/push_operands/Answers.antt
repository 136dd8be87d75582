use Rattle.lx_ir.specs.Faults.{read_here}
use Rattle.lx_ir_walks.proofs.ReadLists.{appended, all_appended, flat_step, flat_end}
use Rattle.lx_ir_walks.proofs.reads.push_operands.Goals as goal

pub loop-operand-preserved : goal.loop-operand-preserved
loop-operand-preserved c =
    appended _ c.loop-operand.out.items c.push_value.new.out.items _ _ _ c.loop-operand.invariant
    (flat_step (λ a. read_here c.args.block c.args.place c.args.line a.value) c.args.operands.now c.loop-operand.operand-index c.operand-item.result c.loop-operand-test.true c.operand-item.is) c.in_ok-push_value.ensures

pub returns : goal.returns
returns c =
    all_appended _ c.loop-operand.out.items _ c.loop-operand.invariant
    (flat_end (λ a. read_here c.args.block c.args.place c.args.line a.value) c.args.operands.now c.loop-operand.operand-index c.loop-operand-test.false)
