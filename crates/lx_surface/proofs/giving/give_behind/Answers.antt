use Rattle.std.proofs.Common.{sym, subst}
use Rattle.lx_surface.specs.Names.{any_gives}
use Rattle.lx_surface.specs.Given.{Gave}
use Rattle.lx_surface.proofs.Gifts.{those_behind}
use Rattle.lx_surface.proofs.giving.give_behind.Goals as goal

pub returns-in_ok-give_actions-in-Some : goal.returns-in_ok-give_actions-in-Some
returns-in_ok-give_actions-in-Some c =
    those_behind c.args.program.now c.args.work.now c.give_actions.new.work c.args.gift.to c.args.gift.from c.args.function c.in-Some.annotation.now (sym c.in-Some.ensures)
    (subst (λ xs. Gave c.args.program.now c.args.work.now c.give_actions.new.work c.args.gift.to c.args.gift.from (any_gives c.args.program.now xs)) c.as_slice.ensures c.in_ok-give_actions-in-Some.ensures)
