use Rattle.std.proofs.Common.{sym, subst}
use Rattle.lx_surface.specs.Given.{Gave}
use Rattle.lx_surface.specs.Naming.{any_names, one_item_names}
use Rattle.lx_surface.proofs.Gifts.{this_iterator}
use Rattle.lx_surface.proofs.giving.give_iterator.Goals as goal

pub returns-in_ok-give_items-in-Some : goal.returns-in_ok-give_items-in-Some
returns-in_ok-give_items-in-Some c =
    this_iterator c.args.program.now c.args.work.now c.give_items.new.work c.args.gift.to c.args.gift.from c.args.number c.in-Some.iterator.now (sym c.in-Some.ensures)
    (subst (λ xs. Gave c.args.program.now c.args.work.now c.give_items.new.work c.args.gift.to c.args.gift.from (any_names (one_item_names c.args.program.now) xs)) c.as_slice.ensures c.in_ok-give_items-in-Some.ensures)
