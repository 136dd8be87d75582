-- Loans and their end change no writer, and have no range.
use Rattle.std.proofs.Common.{refl}
use Rattle.lx_caps.specs.History.{without_zeros}
use Rattle.lx_writer_sets.proofs.recorded.RecordedCapStore.shut.Goals as goal

pub returns-clause-appends : goal.returns-clause-appends
returns-clause-appends g c = λ h is. record {
  owned = c.shut.ensures.appends (without_zeros h) is.owned;
  written = c.writer_set_laws.ensures.shut c.args.self.now.sets h c.args.thread c.args.count is.written;
  placed = (refl, is.placed);
}
