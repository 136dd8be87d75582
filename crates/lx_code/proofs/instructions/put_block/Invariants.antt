use Rattle.std.proofs.Common.{◌≡◌, ◌<◌, ℕ, Some, List, slice_get}
use Rattle.std.specs.Prelude.{option_map}
use Rattle.lx_ir.specs.declared.module.Block.{Block}
use Rattle.lx_code.specs.Fits.{at_place, HasIfLarge, HasTables, KeepsEach}
use Rattle.lx_code.proofs.instructions.put_block.Given as goal

abbrev pub invariant-loop-place : goal.invariant-loop-place
invariant-loop-place g l = record {
  fits : (blocks : List Block) → (b : Block) → slice_get blocks l.number ≡ Some b → b.instrs ≡ l.instrs → HasTables (g.C.PlacedText.has l.text).types (g.C.PlacedText.comes_to l.text) blocks l.fn.tables.entries → HasTables (g.C.PlacedText.has l.text).types (g.C.PlacedText.comes_to l.text) blocks l.tables.entries;
  kept : KeepsEach l.fn.tables.entries l.tables.entries;
  large : (k : ℕ) → k < l.place → HasIfLarge (option_map (λ i. i.op) (slice_get l.instrs k)) (at_place l.tables.entries l.number k);
}
