use Rattle.std.proofs.Common.{◌≡◌, length}
use Rattle.lx_model.specs.Program.{target}
use Rattle.lx_code.specs.Targets.{target_of}
use Rattle.lx_code.proofs.Filled.{Each}
use Rattle.lx_code.proofs.tables.table_of.Given as goal

abbrev pub invariant-loop-function : goal.invariant-loop-function
invariant-loop-function l = record {
  count : length l.table ≡ l.function-index;
  each : Each (λ k t. target_of t ≡ target l.lookup l.home k) l.table;
}
