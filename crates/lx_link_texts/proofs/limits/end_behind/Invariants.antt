use Rattle.std.proofs.Common.{◌≡◌, ◌≤◌, drop}
use Rattle.lx_link_texts.specs.Placing.{end_behind, last_end}
use Rattle.lx_link_texts.proofs.limits.end_behind.Given as goal

abbrev pub invariant-loop-global : goal.invariant-loop-global
invariant-loop-global l =
    (end_behind l.m.types l.end (drop l.global-index l.m.globals) ≡ end_behind l.m.types l.from l.m.globals)
    × (l.end ≤ last_end)
