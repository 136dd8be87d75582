use Rattle.std.proofs.Common.{arith}
use Rattle.lx_propagate.specs.Decide.{marked_in}
use Rattle.lx_propagate.specs.Told.{told_sum}
use Rattle.lx_propagate.proofs.Passes.{marked_more, marked_done}
use Rattle.lx_propagate.proofs.decide.marked_in.Goals as goal

pub loop-k-preserved : goal.loop-k-preserved
loop-k-preserved c =
    marked_more (told_sum c.args.types.now) c.args.functions.now c.loop-k.k c.index-functions-k.result (marked_in (told_sum c.args.types.now) 0 c.args.functions.now) c.loop-k.list.items c.push_function_mark.new.out.items c.loop-k-test.true c.index-functions-k.is c.loop-k.invariant c.in_ok-push_function_mark.ensures

pub returns : goal.returns
returns c =
    marked_done (told_sum c.args.types.now) c.args.functions.now c.loop-k.k (marked_in (told_sum c.args.types.now) 0 c.args.functions.now) c.loop-k.list.items (omega arith) c.loop-k.invariant
