use Rattle.lx_slot_sums.proofs.Answering.{none_named}
use Rattle.lx_slot_sums.proofs.making.no_spreads.Goals as goal

pub returns : goal.returns
returns c = none_named c.args.sums.now c.new.result.items c.in_ok-named.named.items c.in_ok-named.ensures
