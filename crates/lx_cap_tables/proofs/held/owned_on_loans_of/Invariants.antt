use Rattle.std.proofs.Common.{◌≤◌, ◌&&◌}
use Rattle.lx_caps.specs.Order.{is_behind, IsFirst}
use Rattle.lx_cap_lists.specs.Owned.{lent_atom}
use Rattle.lx_cap_tables.proofs.held.owned_on_loans_of.Given as goal

abbrev pub invariant-loop-older : goal.invariant-loop-older
invariant-loop-older l = record {
  high : l.older ≤ l.count;
  first : IsFirst (λ x. is_behind l.wanted.after x && lent_atom l.pool.owners l.owners.keys l.wanted.who x l.thread l.older) l.first;
}
