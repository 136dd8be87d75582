use Rattle.std.proofs.Common.{arith}
use Rattle.lx_surface.proofs.Beginnings.{all_opened, next_opened}
use Rattle.lx_surface.proofs.opening.open_functions.Goals as goal

pub loop-function-preserved : goal.loop-function-preserved
loop-function-preserved c =
    let less = c.loop-function-test.true in
    record {
      within = omega (arith, less);
      so_far = next_opened c.args.program.now c.args.work.now c.loop-function.work c.open_function.new.work c.loop-function.function c.loop-function.invariant.so_far c.in_ok-open_function.ensures;
    }

pub returns : goal.returns
returns c =
    let most = c.loop-function-test.false in
    let count = c.in_ok-count.ensures in
    let len = c.len.ensures in
    all_opened c.args.program.now c.args.work.now c.loop-function.work c.loop-function.function (omega (arith, most, count, len)) c.loop-function.invariant.so_far
