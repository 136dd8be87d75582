use Rattle.std.proofs.Common.{◌≡◌, Some, length}
use Rattle.lx_code.specs.Targets.{HasTable}
use Rattle.lx_code.proofs.Filled.{Each}
use Rattle.lx_code.proofs.tables.module_tables.Given as goal

abbrev pub invariant-loop-entry : goal.invariant-loop-entry
invariant-loop-entry l = record {
  count : length l.tables ≡ l.entry-index;
  each : Each (λ m table. HasTable l.lookup (Some m) table) l.tables;
}
