-- Zeros change nothing that is held.
use Rattle.std.proofs.Common.{◌∙◌}
use Rattle.lx_caps.specs.History.{without_zeros}
use Rattle.lx_writer_sets.proofs.recorded.RecordedCapStore.holds.Goals as goal

pub returns : goal.returns
returns g c = λ h is. c.holds.ensures (without_zeros h) is.owned ∙ c.history_laws.ensures.holds_aside h c.args.who c.args.cap
