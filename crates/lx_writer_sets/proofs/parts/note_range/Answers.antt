-- One part more.
use Rattle.std.proofs.Common.{arith}
use Rattle.lx_caps.specs.History.{same_principal}
use Rattle.lx_writer_sets.specs.Sets.{is_recorded}
use Rattle.lx_cap_nodes.proofs.Ranges.{noted_more}
use Rattle.lx_writer_sets.proofs.parts.note_range.Goals as goal

pub loop-part-preserved : goal.loop-part-preserved
loop-part-preserved g c =
    let inv = c.loop-part.invariant in
    record {
      low = omega (arith, inv.low);
      high = omega (arith, c.loop-part-test.true, c.parts_end-part-end.ensures, c.loop-part.auto.part-end);
      ready = c.note_part.ensures.ready;
      noted = λ b q.
          noted_more (same_principal q c.args.who) (is_recorded c.args.parts.now.lists b q) (is_recorded c.loop-part.parts.lists b q) (is_recorded c.note_part.new.self.lists b q)
          c.args.at c.args.size c.loop-part.part b (inv.noted b q) (c.note_part.ensures.records b q);
      room = omega (arith, inv.room, inv.low, c.note_part.ensures.takes);
      cost = let a = inv.cost in let b = inv.low in let t = c.tick.ensures in omega (arith, a, b, t);
    }
