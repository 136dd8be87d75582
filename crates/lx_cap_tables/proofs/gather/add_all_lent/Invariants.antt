use Rattle.std.proofs.Common.{◌≡◌, ◌≤◌, ◌&&◌, ◌||◌}
use Rattle.lx_caps.specs.declared.Atom.{Atom}
use Rattle.lx_cap_lists.specs.Lists.{some_below}
use Rattle.lx_cap_lists.specs.Loans.{loans_of}
use Rattle.lx_cap_lists.specs.Owned.{lent_atom}
use Rattle.lx_cap_tables.proofs.gather.add_all_lent.Given as goal

abbrev pub invariant-loop-thread : goal.invariant-loop-thread
invariant-loop-thread g l = record {
  high : l.thread ≤ 16;
  added : (x : Atom) → g.G.Gather.has l.out x ≡ (g.G.Gather.has l.fn.out x || (g.G.Gather.of_kind x && some_below l.thread (λ t. lent_atom l.pool.owners l.owners.keys l.who x t (loans_of l.loans t))));
}
