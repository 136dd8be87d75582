use Rattle.std.proofs.Common.{arith}
use Rattle.lx_writer_sets.proofs.BoundLemmas.{parts_within}
use Rattle.lx_writer_sets.proofs.Recording.{noted, noted_empty, noted_lend, noted_empty_lend}
use Rattle.lx_writer_sets.proofs.sets.WriterSets.note_counted.Goals as goal

pub returns-then-size-gt0-clause-appends : goal.returns-then-size-gt0-clause-appends
returns-then-size-gt0-clause-appends g c h stands =
    noted c.history_laws.ensures c.args.self.now.parts.lists c.note_range.new.parts.lists h c.args.who c.args.at c.args.size stands c.note_range.ensures.records

pub returns-then-size-gt0-clause-lends : goal.returns-then-size-gt0-clause-lends
returns-then-size-gt0-clause-lends g c h thread stands lending =
    noted_lend c.history_laws.ensures c.args.self.now.parts.lists c.note_range.new.parts.lists h thread c.args.who c.args.at c.args.size stands lending c.note_range.ensures.records

pub returns-else-size-gt0-clause-appends : goal.returns-else-size-gt0-clause-appends
returns-else-size-gt0-clause-appends g c h stands =
    noted_empty c.history_laws.ensures c.args.self.now.parts.lists h c.args.who c.args.at c.args.size (omega (arith, c.if-size-gt0.false)) stands

pub returns-else-size-gt0-clause-lends : goal.returns-else-size-gt0-clause-lends
returns-else-size-gt0-clause-lends g c h thread stands lending =
    noted_empty_lend c.history_laws.ensures c.args.self.now.parts.lists h thread c.args.who c.args.at c.args.size (omega (arith, c.if-size-gt0.false)) stands lending

pub returns-then-size-gt0-clause-bound : goal.returns-then-size-gt0-clause-bound
returns-then-size-gt0-clause-bound g c =
    let some = c.if-size-gt0.true in
    let cost = c.note_range.ensures.cost in
    parts_within c.args.steps.now c.note_range.new.steps c.args.at c.args.size (omega (arith, some)) cost
