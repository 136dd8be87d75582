-- Zeros change nothing that is owned.
use Rattle.lx_caps.specs.History.{without_zeros}
use Rattle.lx_writer_sets.proofs.RecordedLemmas.{next_same}
use Rattle.lx_writer_sets.proofs.recorded.RecordedCapStore.next_owned.Goals as goal

pub returns : goal.returns
returns g c = λ h is. next_same c.history_laws.ensures h c.args.who c.args.after c.next_owned.result (c.next_owned.ensures (without_zeros h) is.owned)
