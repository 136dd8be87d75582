use Rattle.std.proofs.Common.{arith}
use Rattle.lx_annotation_tables.proofs.CountTables.{counted_all}
use Rattle.lx_annotation_tables.proofs.counts.action_counts.Goals as goal

pub returns : goal.returns
returns c =
    counted_all c.args.program.now c.loop-source.counts.items c.args.sources.now c.loop-source.source-index c.requires (omega (arith, c.loop-source-test.false)) c.loop-source.invariant.pre c.loop-source.invariant.post
