use Rattle.std.specs.Prelude.{List}
use Rattle.lx_model.specs.declared.account.ImageCount.{ImageCount}
use Rattle.lx_opened_tests.specs.Opened.{IsOpened}
use Rattle.lx_opened_tests.proofs.events.act_all_in_parts.Given as goal

abbrev pub invariant-loop-thread : goal.invariant-loop-thread
invariant-loop-thread g l = (counts : List ImageCount) → IsOpened g.C.CapStore.stands l.fn.world counts → IsOpened g.C.CapStore.stands l.next counts
