use Rattle.std.proofs.Common.{Some, sym, ◌∙◌}
use Rattle.lx_surface.proofs.Gifts.{all_given, given_whole, marked}
use Rattle.lx_surface.proofs.giving.give_each.Goals as goal

pub returns-then-has : goal.returns-then-has
returns-then-has c = given_whole c.args.program.now c.args.work.now c.args.gift.to c.args.gift.from (Some c.args.number) (sym c.has.ensures ∙ c.if-has.true)

pub returns : goal.returns
returns c = all_given c.args.program.now c.args.work.now c.give_iterator.new.work _ c.args.gift.to c.args.gift.from (Some c.args.number) c.in_ok-give_iterator.ensures (marked c.give_iterator.new.work c.put.new.self c.args.gift.to c.args.gift.from (Some c.args.number) c.in_ok-put.ensures)
