use Rattle.lx_writer_sets.proofs.Recording.{records_same}
use Rattle.lx_writer_sets.proofs.sets.WriterSets.reserve.Goals as goal

pub returns-in_err-reserve-clause-stays : goal.returns-in_err-reserve-clause-stays
returns-in_err-reserve-clause-stays c h stands = records_same c.args.self.now.parts.lists c.reserve.new.self.lists h c.reserve.ensures.lists stands

pub returns-in_ok-reserve-clause-stays : goal.returns-in_ok-reserve-clause-stays
returns-in_ok-reserve-clause-stays c h stands = records_same c.args.self.now.parts.lists c.reserve.new.self.lists h c.reserve.ensures.lists stands
