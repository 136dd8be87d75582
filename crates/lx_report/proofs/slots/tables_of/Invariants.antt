use Rattle.lx_report.specs.Slots.{AreFirstTypes}
use Rattle.lx_report.proofs.slots.tables_of.Given as goal

abbrev pub invariant-loop-module : goal.invariant-loop-module
invariant-loop-module l = AreFirstTypes l.i l.modules l.module-index l.tables.items
