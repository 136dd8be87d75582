use Rattle.std.proofs.Common.{◌≡◌, ◌-◌, ◌≤◌, ℕ, length}
use Rattle.lx_cap_nodes.specs.Words.{nodes_at}
use Rattle.lx_writer_sets.proofs.parts.add_parts.Given as goal

abbrev pub invariant-loop-count : goal.invariant-loop-count
invariant-loop-count l = record {
  counted : length l.pool.places ≡ l.count;
  few : l.count ≤ 0xc000;
  grows : l.fn.count ≤ l.count;
  lists : (k : ℕ) → nodes_at l.pool.places k ≡ nodes_at l.fn.pool.places k;
  rest : (l.pool.owners ≡ l.fn.pool.owners) × (l.pool.spare ≡ l.fn.pool.spare);
}

abbrev pub decreases-loop-count : goal.decreases-loop-count
decreases-loop-count l = 0xc000 - l.count
