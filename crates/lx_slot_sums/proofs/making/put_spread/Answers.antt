use Rattle.lx_slot_sums.proofs.Answering.{joins}
use Rattle.lx_slot_sums.proofs.making.put_spread.Goals as goal

pub returns : goal.returns
returns c =
    joins c.args.spreads.now.all.items c.push.new.all.items c.args.spreads.now.named.items c.args.spread c.in_ok-number.number
    c.in_ok-number.ensures.number c.in_ok-number.ensures.list
