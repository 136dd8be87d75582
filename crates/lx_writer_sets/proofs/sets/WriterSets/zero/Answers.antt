use Rattle.std.proofs.Common.{arith}
use Rattle.lx_caps.specs.History.{without_zeros}
use Rattle.lx_writer_sets.proofs.Recording.{zeroed, zeroed_empty}
use Rattle.lx_writer_sets.proofs.sets.WriterSets.zero.Goals as goal

pub returns-then-size-gt0-clause-appends : goal.returns-then-size-gt0-clause-appends
returns-then-size-gt0-clause-appends g c h owned stands =
    zeroed c.history_laws.ensures c.args.self.now.parts.lists c.zero_range.new.parts.lists h c.args.at c.args.size stands (c.zero_range.ensures.records (without_zeros h) owned)

pub returns-else-size-gt0-clause-appends : goal.returns-else-size-gt0-clause-appends
returns-else-size-gt0-clause-appends g c h owned stands =
    zeroed_empty c.history_laws.ensures c.args.self.now.parts.lists h c.args.at c.args.size (omega (arith, c.if-size-gt0.false)) stands
