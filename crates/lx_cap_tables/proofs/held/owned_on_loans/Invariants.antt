use Rattle.std.proofs.Common.{◌≤◌, ◌&&◌}
use Rattle.lx_caps.specs.Order.{is_behind, IsFirst}
use Rattle.lx_cap_lists.specs.Lists.{some_below}
use Rattle.lx_cap_lists.specs.Loans.{loans_of}
use Rattle.lx_cap_lists.specs.Owned.{lent_atom}
use Rattle.lx_cap_tables.proofs.held.owned_on_loans.Given as goal

abbrev pub invariant-loop-thread : goal.invariant-loop-thread
invariant-loop-thread l = record {
  high : l.thread ≤ 16;
  first : IsFirst (λ x. is_behind l.wanted.after x && some_below l.thread (λ t. lent_atom l.pool.owners l.owners.keys l.wanted.who x t (loans_of l.loans t))) l.first;
}
