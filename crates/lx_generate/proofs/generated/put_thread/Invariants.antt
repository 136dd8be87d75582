use Rattle.std.proofs.Common.{◌≡◌, ◌++◌, ◌≤◌, codes, flat_map}
use Rattle.std.specs.List.{range_with_len}
use Rattle.lx_generate.specs.Generated.{line_in}
use Rattle.lx_generate.proofs.generated.put_thread.Given as goal

-- the thread's calls below j are there
abbrev pub invariant-loop-j : goal.invariant-loop-j
invariant-loop-j l = (l.j ≤ l.n) × (l.case.items ≡ l.fn.case.items ++ (codes "thread\n" ++ flat_map (line_in l.n l.thread) (range_with_len 0 l.j)))
