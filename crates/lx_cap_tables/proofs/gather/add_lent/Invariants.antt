use Rattle.std.proofs.Common.{◌≡◌, ◌≤◌, ◌&&◌, ◌||◌}
use Rattle.lx_caps.specs.declared.Atom.{Atom}
use Rattle.lx_cap_lists.specs.Owned.{lent_atom}
use Rattle.lx_cap_tables.proofs.gather.add_lent.Given as goal

abbrev pub invariant-loop-older : goal.invariant-loop-older
invariant-loop-older g l = record {
  high : l.older ≤ l.lent.count;
  added : (x : Atom) → g.G.Gather.has l.out x ≡ (g.G.Gather.has l.fn.out x || (g.G.Gather.of_kind x && lent_atom l.pool.owners l.owners.keys l.lent.who x l.lent.thread l.older));
}
