use Rattle.std.proofs.Common.{sym, subst}
use Rattle.lx_opened_tests.specs.Opened.{IsOpened}
use Rattle.lx_opened_tests.proofs.events.act_in_parts.Goals as goal

pub returns-in-Ok : goal.returns-in-Ok
returns-in-Ok g c = λ counts opened. subst (λ w. IsOpened g.C.CapStore.stands w counts) (sym c.rebuilt.ensures) (c.act.ensures counts opened)
