use Rattle.std.proofs.Common.{◌≡◌, true, IfSome}
use Rattle.lx_cap_nodes.specs.Words.{is_live}
use Rattle.lx_store_tests.proofs.nodes.has_values.Given as goal

abbrev pub invariant-loop-want : goal.invariant-loop-want
invariant-loop-want l = IfSome l.node (λ n. is_live l.pool n ≡ true)
