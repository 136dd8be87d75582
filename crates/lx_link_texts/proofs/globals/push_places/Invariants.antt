use Rattle.std.proofs.Common.{◌≡◌, ◌≤◌, ◌++◌, drop}
use Rattle.lx_link_texts.specs.Placing.{places_from, end_behind, last_end}
use Rattle.lx_link_texts.proofs.globals.push_places.Given as goal

abbrev pub invariant-loop-number : goal.invariant-loop-number
invariant-loop-number l =
    (l.places ++ places_from l.m.types l.home l.number l.end (drop l.number l.m.globals) ≡ l.initial.places ++ places_from l.m.types l.home 0 l.from l.m.globals)
    × (end_behind l.m.types l.end (drop l.number l.m.globals) ≡ end_behind l.m.types l.from l.m.globals)
    × (l.end ≤ last_end)
