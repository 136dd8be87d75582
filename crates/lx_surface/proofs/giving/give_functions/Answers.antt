use Rattle.std.proofs.Common.{None, sym, ◌∙◌}
use Rattle.lx_surface.proofs.Gifts.{all_given, any_whole, given_whole, marked, whole_any}
use Rattle.lx_surface.proofs.giving.give_functions.Goals as goal

pub returns-then-has : goal.returns-then-has
returns-then-has c = any_whole c.args.program.now c.args.work.now c.args.work.now c.args.gift.to c.args.gift.from (given_whole c.args.program.now c.args.work.now c.args.gift.to c.args.gift.from None (sym c.has.ensures ∙ c.if-has.true))

pub returns : goal.returns
returns c = any_whole c.args.program.now c.args.work.now _ c.args.gift.to c.args.gift.from (all_given c.args.program.now c.args.work.now c.give_each_function.new.work _ c.args.gift.to c.args.gift.from None (whole_any c.args.program.now c.args.work.now c.give_each_function.new.work c.args.gift.to c.args.gift.from c.in_ok-give_each_function.ensures) (marked c.give_each_function.new.work c.put.new.self c.args.gift.to c.args.gift.from None c.in_ok-put.ensures))
