use Rattle.std.specs.Prelude.{List}
use Rattle.lx_model.specs.declared.account.ImageCount.{ImageCount}
use Rattle.lx_opened_tests.specs.Opened.{IsOpened}
use Rattle.lx_opened_tests.proofs.runs.act_all.Given as goal

abbrev pub invariant-loop-thread : goal.invariant-loop-thread
invariant-loop-thread g l = (counts : List ImageCount) → IsOpened g.C.CapStore.stands l.fn.world counts → IsOpened g.C.CapStore.stands l.world counts
