use Rattle.std.proofs.Common.{arith}
use Rattle.lx_surface.proofs.Gifts.{all_functions, next_function}
use Rattle.lx_surface.proofs.giving.give_each_function.Goals as goal

pub loop-number-preserved : goal.loop-number-preserved
loop-number-preserved c =
    let less = c.loop-number-test.true in
    record {
      within = omega (arith, less);
      so_far = next_function c.args.program.now c.args.work.now c.loop-number.work c.give_number.new.work c.args.gift.to c.args.gift.from c.loop-number.number c.loop-number.invariant.so_far c.in_ok-give_number.ensures;
    }

pub returns : goal.returns
returns c =
    let most = c.loop-number-test.false in
    let count = c.in_ok-count.ensures in
    let len = c.len.ensures in
    all_functions c.args.program.now c.args.work.now c.loop-number.work c.args.gift.to c.args.gift.from c.loop-number.number (omega (arith, most, count, len)) c.loop-number.invariant.so_far
