-- The places so far are those of bytes that the writer owns.
use Rattle.std.proofs.Common.{◌≡◌, ℕ, ◌+◌, ◌*◌, ◌<◌, ◌≤◌, not, ◌&&◌, ◌||◌, nat_le, nat_lt}
use Rattle.lx_caps.specs.declared.Atom.TheVariants.{Byte}
use Rattle.lx_caps.specs.History.{History, owns}
use Rattle.lx_cap_nodes.specs.Bits.{is_set}
use Rattle.lx_writer_sets.proofs.entry.kept_mask.Given as goal

abbrev pub invariant-loop-place : goal.invariant-loop-place
invariant-loop-place g l = record {
  low : l.fn.piece.from ≤ l.place;
  kept : (h : History) → g.C.CapStore.stands l.caps h → (k : ℕ) → k < 64
      → is_set l.mask k ≡ (is_set l.entry.mask k && (not (nat_le l.fn.piece.from k && nat_lt k l.place) || owns h l.entry.writer (Byte (l.fn.piece.part * 64 + k))));
}
