-- Zeros change nothing that is owned.
use Rattle.lx_caps.specs.History.{without_zeros}
use Rattle.lx_writer_sets.proofs.RecordedLemmas.{owner_same}
use Rattle.lx_writer_sets.proofs.recorded.RecordedCapStore.next_owner.Goals as goal

pub returns : goal.returns
returns g c = λ h is. owner_same c.history_laws.ensures h c.args.atom c.args.after c.next_owner.result (c.next_owner.ensures (without_zeros h) is.owned)
