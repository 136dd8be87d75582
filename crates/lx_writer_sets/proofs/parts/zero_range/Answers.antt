-- One part more.
use Rattle.std.proofs.Common.{arith}
use Rattle.lx_caps.specs.declared.Atom.TheVariants.{Byte}
use Rattle.lx_caps.specs.History.{owns}
use Rattle.lx_writer_sets.specs.Sets.{is_recorded}
use Rattle.lx_cap_nodes.proofs.Ranges.{zeroed_more}
use Rattle.lx_writer_sets.proofs.parts.zero_range.Goals as goal

pub loop-part-preserved : goal.loop-part-preserved
loop-part-preserved g c =
    let inv = c.loop-part.invariant in
    record {
      low = omega (arith, inv.low);
      high = omega (arith, c.loop-part-test.true, c.parts_end-part-end.ensures, c.loop-part.auto.part-end);
      ready = λ was. c.zero_part.ensures.ready (inv.ready was);
      kept = λ h stands b q.
          zeroed_more (is_recorded c.args.parts.now.lists b q) (owns h q (Byte b)) (is_recorded c.loop-part.parts.lists b q) (is_recorded c.zero_part.new.self.lists b q)
          c.args.at c.args.size c.loop-part.part b (inv.kept h stands b q) (c.zero_part.ensures.records h stands b q);
      room = omega (arith, inv.room, c.zero_part.ensures.keeps);
    }
