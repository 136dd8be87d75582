use Rattle.lx_ir.specs.Lookup.{instrs_of}
use Rattle.lx_ir.specs.declared.module.Function.{Function}
use Rattle.lx_slot_types.specs.Sites.{function_sites}
use Rattle.lx_propagate.proofs.Adding.{adds_more}
use Rattle.lx_propagate.proofs.stores.add_functions.Goals as goal

pub loop-function-preserved : goal.loop-function-preserved
loop-function-preserved c =
    adds_more c.args.sums.now.interface c.args.m.now (λ (f : Function). function_sites c.args.m.now (instrs_of f)) c.args.functions.now c.loop-function.function-index c.function-item.result c.args.table.now.entries c.loop-function.table.entries c.add_function.new.table.entries c.loop-function-test.true c.function-item.is c.loop-function.invariant c.in_ok-add_function.ensures
