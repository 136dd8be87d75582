-- The nodes so far have lost the bytes, and the others are as they were.
use Rattle.std.proofs.Common.{◌≡◌, ◌≢◌, ◌+◌, ◌*◌, ◌<◌, ◌≤◌, ℕ, not, ◌&&◌, ◌||◌, nat_le, nat_lt, List, ◌++◌, length}
use Rattle.lx_caps.specs.declared.Principal.{Principal}
use Rattle.lx_caps.specs.declared.Atom.TheVariants.{Byte}
use Rattle.lx_caps.specs.History.{History, owns}
use Rattle.indexmap.specs.IndexMap as tables
use Rattle.lx_cap_nodes.specs.Words.{nodes_at}
use Rattle.lx_writer_sets.specs.declared.entry.Entry.{Entry}
use Rattle.lx_writer_sets.specs.Index.{AreIndexed}
use Rattle.lx_writer_sets.specs.Nodes.{AllNodes}
use Rattle.lx_writer_sets.specs.Sets.{is_given}
use Rattle.lx_writer_sets.specs.Walks.{from, HasCome}
use Rattle.lx_writer_sets.proofs.chain.forget.Given as goal

abbrev pub invariant-loop-node : goal.invariant-loop-node
invariant-loop-node g l = record {
  come : HasCome (nodes_at l.pool.places l.list) l.node;
  was : List (ℕ × Entry);
  left : List (ℕ × Entry);
  whole : nodes_at l.fn.pool.places l.list ≡ was ++ from l.node (nodes_at l.pool.places l.list);
  now : nodes_at l.pool.places l.list ≡ left ++ from l.node (nodes_at l.pool.places l.list);
  given : (h : History) → g.C.CapStore.stands l.caps h → (k : ℕ) → k < 64 → (q : Principal)
      → is_given left k q ≡ (is_given was k q && (not (nat_le l.piece.from k && nat_lt k l.piece.to) || owns h q (Byte (l.piece.part * 64 + k))));
  others : (k : ℕ) → k ≢ l.list → nodes_at l.pool.places k ≡ nodes_at l.fn.pool.places k;
  counts : (length l.pool.places ≡ length l.fn.pool.places) × (length l.pool.owners ≡ length l.fn.pool.owners);
  spare : l.fn.pool.spare ≤ l.pool.spare;
  keys : tables.spare l.fn.table ≤ tables.spare l.table;
  nodes : AllNodes l.fn.pool.places → AllNodes l.pool.places;
  indexed : AllNodes l.fn.pool.places → AreIndexed l.fn.table.entries l.fn.pool.places → AreIndexed l.table.entries l.pool.places;
}

abbrev pub decreases-loop-node : goal.decreases-loop-node
decreases-loop-node g l = length (from l.node (nodes_at l.pool.places l.list))
