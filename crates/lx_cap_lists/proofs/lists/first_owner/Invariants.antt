use Rattle.std.proofs.Common.{◌≡◌, Bool, ◌||◌, ◌&&◌, length}
use Rattle.lx_caps.specs.declared.Principal.{Principal}
use Rattle.lx_caps.specs.Precedence.{follows, IsFirstPrincipal}
use Rattle.lx_cap_nodes.specs.Words.{nodes_at}
use Rattle.lx_cap_lists.specs.Entries.{bit_among}
use Rattle.lx_cap_lists.specs.Holders.{held_by}
use Rattle.lx_cap_lists.specs.Walks.{from, HasCome}
use Rattle.lx_cap_lists.proofs.lists.first_owner.Given as goal

abbrev pub invariant-loop-node : goal.invariant-loop-node
invariant-loop-node l = record {
  come : HasCome (nodes_at l.pool.places l.place) l.node;
  so_far : Principal → Bool;
  first : IsFirstPrincipal so_far l.first;
  rest : (q : Principal) → (so_far q || (follows l.after q && bit_among (held_by q) (from l.node (nodes_at l.pool.places l.place)) l.bit))
      ≡ (follows l.after q && bit_among (held_by q) (nodes_at l.pool.places l.place) l.bit);
}

abbrev pub decreases-loop-node : goal.decreases-loop-node
decreases-loop-node l = length (from l.node (nodes_at l.pool.places l.place))
