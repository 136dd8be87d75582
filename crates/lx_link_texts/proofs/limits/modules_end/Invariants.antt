use Rattle.std.proofs.Common.{◌≡◌, ◌≤◌, drop}
use Rattle.lx_link_texts.specs.Placing.{last_end, modules_end}
use Rattle.lx_link_texts.proofs.limits.modules_end.Given as goal

abbrev pub invariant-loop-entry : goal.invariant-loop-entry
invariant-loop-entry l =
    (modules_end l.end (drop l.entry-index l.modules) ≡ modules_end l.from l.modules)
    × (l.end ≤ last_end)
