use Rattle.std.proofs.Common.{◌≡◌, Bool, ◌||◌, ◌&&◌, length}
use Rattle.lx_caps.specs.declared.Principal.{Principal}
use Rattle.lx_caps.specs.Precedence.{IsFirstPrincipal}
use Rattle.lx_cap_nodes.specs.Words.{nodes_at}
use Rattle.lx_writer_sets.specs.Sets.{writes_in}
use Rattle.lx_writer_sets.specs.Walks.{from, HasCome}
use Rattle.lx_writer_sets.proofs.chain.first_writer.Given as goal

-- the first of those so far, and they and the rest are all
abbrev pub invariant-loop-node : goal.invariant-loop-node
invariant-loop-node g l = record {
  come : HasCome (nodes_at l.pool.places l.list) l.node;
  so_far : (Principal → Bool) → (Principal → Bool) → Principal → Bool;
  first : (t : Principal → Bool) → g.T.PrincipalTest.stands l.test t → (p : Principal → Bool) → IsFirstPrincipal p l.fn.found → IsFirstPrincipal (so_far t p) l.first;
  rest : (t : Principal → Bool) → g.T.PrincipalTest.stands l.test t → (p : Principal → Bool) (q : Principal)
      → (so_far t p q || (t q && writes_in l.at.part (from l.node (nodes_at l.pool.places l.list)) l.at.slot q))
      ≡ (p q || (t q && writes_in l.at.part (nodes_at l.pool.places l.list) l.at.slot q));
}

abbrev pub decreases-loop-node : goal.decreases-loop-node
decreases-loop-node g l = length (from l.node (nodes_at l.pool.places l.list))
