use Rattle.std.proofs.Common.{◌≡◌, ◌<◌, ◌*◌, drop, length}
use Rattle.lx_memory.specs.Runs.{places, AreGreater}
use Rattle.lx_memory.proofs.runs.raise.Given as goal

abbrev pub invariant-loop-node : goal.invariant-loop-node
invariant-loop-node l = record {
  within : l.node < 2 * places;
  len : length l.nodes.items ≡ 2 * places;
  right : AreGreater l.nodes.items l.node;
  leaves : drop places l.nodes.items ≡ drop places l.initial.nodes.items;
}

abbrev pub decreases-loop-node : goal.decreases-loop-node
decreases-loop-node l = l.node
