use Rattle.std.proofs.Common.{◌≡◌, ◌||◌, ◌&&◌, true, Bool, length}
use Rattle.lx_caps.specs.declared.Atom.{Atom}
use Rattle.lx_caps.specs.Order.{is_behind, IsFirst}
use Rattle.lx_cap_nodes.specs.Words.{nodes_at}
use Rattle.lx_cap_lists.specs.Atoms.{atom_among, spot_fits}
use Rattle.lx_cap_lists.specs.Kept.{all_nodes}
use Rattle.lx_cap_lists.specs.Walks.{from, HasCome}
use Rattle.lx_cap_lists.proofs.lists.first_owned.Given as goal

abbrev pub invariant-loop-node : goal.invariant-loop-node
invariant-loop-node l = record {
  come : HasCome (nodes_at l.pool.owners l.list) l.node;
  fit : all_nodes (λ e. spot_fits e.spot) (from l.node (nodes_at l.pool.owners l.list)) ≡ true;
  so_far : Atom → Bool;
  first : IsFirst so_far l.first;
  rest : (x : Atom) → (so_far x || (is_behind l.after x && atom_among l.who (from l.node (nodes_at l.pool.owners l.list)) x)) ≡ (is_behind l.after x && atom_among l.who (nodes_at l.pool.owners l.list) x);
}

abbrev pub decreases-loop-node : goal.decreases-loop-node
decreases-loop-node l = length (from l.node (nodes_at l.pool.owners l.list))
