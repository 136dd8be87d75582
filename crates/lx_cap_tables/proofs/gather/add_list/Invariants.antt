use Rattle.std.proofs.Common.{◌≡◌, ◌||◌, ◌&&◌, true, length}
use Rattle.lx_caps.specs.declared.Atom.{Atom}
use Rattle.lx_cap_nodes.specs.Words.{nodes_at}
use Rattle.lx_cap_lists.specs.Atoms.{atom_among, spot_fits}
use Rattle.lx_cap_lists.specs.Kept.{all_nodes}
use Rattle.lx_cap_lists.specs.Walks.{from, HasCome}
use Rattle.lx_cap_tables.proofs.gather.add_list.Given as goal

abbrev pub invariant-loop-node : goal.invariant-loop-node
invariant-loop-node g l = record {
  come : HasCome (nodes_at l.pool.owners l.list) l.node;
  fit : all_nodes (λ e. spot_fits e.spot) (from l.node (nodes_at l.pool.owners l.list)) ≡ true;
  rest : (x : Atom) → (g.G.Gather.has l.out x || (g.G.Gather.of_kind x && atom_among l.who (from l.node (nodes_at l.pool.owners l.list)) x))
      ≡ (g.G.Gather.has l.fn.out x || (g.G.Gather.of_kind x && atom_among l.who (nodes_at l.pool.owners l.list) x));
}

abbrev pub decreases-loop-node : goal.decreases-loop-node
decreases-loop-node g l = length (from l.node (nodes_at l.pool.owners l.list))
