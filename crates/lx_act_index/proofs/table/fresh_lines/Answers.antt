use Rattle.std.proofs.Common.{arith}
use Rattle.lx_act_index.proofs.TableLemmas.{fresh_more}
use Rattle.lx_act_index.proofs.table.fresh_lines.Goals as goal

pub loop-part-preserved : goal.loop-part-preserved
loop-part-preserved c =
    let inv = c.loop-part.invariant in
    let test = c.loop-part-test.true in
    let end = c.parts_end-part-end.ensures in
    record {
      low = let a = inv.low in omega (arith, a);
      high = omega (arith, test, end);
      fresh = fresh_more c.args.threads.now c.args.saying c.args.range c.args.table.now.lines.items c.loop-part.fresh.items c.push.new.self.items c.loop-part.part c.in_ok-line.line c.in_ok-push.ensures.items c.in_ok-line.ensures inv.fresh;
    }
