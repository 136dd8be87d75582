use Rattle.std.proofs.Common.{◌<◌, ◌≤◌, ◌*◌, ◌-◌, ℕ, get_or}
use Rattle.lx_memory.proofs.Trees.{IsLevel}
use Rattle.lx_memory.proofs.runs.first_long.Given as goal

abbrev pub invariant-loop-level : goal.invariant-loop-level
invariant-loop-level l = record {
  power : IsLevel l.level;
  from : l.level ≤ l.node;
  to : l.node < 2 * l.level;
  long : l.count ≤ get_or l.nodes l.node 0;
  short : (x : ℕ) → l.level ≤ x → x < l.node → get_or l.nodes x 0 < l.count;
}

abbrev pub decreases-loop-level : goal.decreases-loop-level
decreases-loop-level l = 0x10000 - l.level
