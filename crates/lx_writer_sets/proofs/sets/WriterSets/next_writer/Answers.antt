-- The first writer that passes the test of those behind `after` is the next one.
use Rattle.std.proofs.Common.{refl}
use Rattle.lx_caps.specs.Precedence.{follows}
use Rattle.lx_writer_sets.proofs.sets.WriterSets.next_writer.Goals as goal

pub returns : goal.returns
returns c h stands = c.first_writer.ensures h stands (follows c.args.after) refl
