-- The starts outside have what they had.
use Rattle.std.proofs.Common.{◌≡◌, ℕ, false, ◌&&◌, nat_le}
use Rattle.std.specs.Ordering.{nat_cmp}
use Rattle.std.specs.BTreeMap.{btree_map_len, get}
use Rattle.lx_trace_text.proofs.blocks.take.Given as goal

abbrev pub invariant-loop-start : goal.invariant-loop-start
invariant-loop-start l = (q : ℕ) → (nat_le l.first q && nat_le q l.last) ≡ false → get nat_cmp l.blocks q ≡ get nat_cmp l.fn.blocks q

abbrev pub decreases-loop-start : goal.decreases-loop-start
decreases-loop-start l = btree_map_len l.blocks
