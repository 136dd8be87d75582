use Rattle.lx_surface.proofs.Gifts.{call_item, ref_item}
use Rattle.lx_surface.proofs.giving.give_item.Goals as goal

pub returns-in_ok-give_call-in-Call : goal.returns-in_ok-give_call-in-Call
returns-in_ok-give_call-in-Call c = call_item c.args.program.now c.args.work.now c.give_call.new.work c.args.gift.to c.args.gift.from c.args.item.now _ c.in-Call.is c.in_ok-give_call-in-Call.ensures

pub returns-in_ok-give-in-Ref : goal.returns-in_ok-give-in-Ref
returns-in_ok-give-in-Ref c = ref_item c.args.program.now c.args.work.now c.give.new.work c.args.gift.to c.args.gift.from c.args.item.now c.in-Ref.ty _ c.in-Ref.is c.in_ok-give-in-Ref.ensures
