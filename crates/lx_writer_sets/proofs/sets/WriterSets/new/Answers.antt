use Rattle.lx_writer_sets.proofs.Recording.{records_none}
use Rattle.lx_writer_sets.proofs.sets.WriterSets.new.Goals as goal

pub returns : goal.returns
returns c = records_none c.new.result.lists c.new.ensures
