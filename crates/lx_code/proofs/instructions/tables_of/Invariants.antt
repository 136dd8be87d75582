use Rattle.std.proofs.Common.{◌<◌, ℕ}
use Rattle.lx_code.specs.Fits.{at_place, op_at, HasIfLarge, HasTables}
use Rattle.lx_code.proofs.instructions.tables_of.Given as goal

abbrev pub invariant-loop-number : goal.invariant-loop-number
invariant-loop-number g l = record {
  fits : HasTables (g.C.PlacedText.has l.text).types (g.C.PlacedText.comes_to l.text) l.blocks l.tables.entries;
  large : (b : ℕ) → b < l.number → (k : ℕ) → HasIfLarge (op_at l.blocks b k) (at_place l.tables.entries b k);
}
