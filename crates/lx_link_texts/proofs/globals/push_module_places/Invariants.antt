use Rattle.std.proofs.Common.{◌≡◌, ◌≤◌, ◌++◌, drop}
use Rattle.lx_link_texts.specs.Placing.{module_places, modules_end, last_end}
use Rattle.lx_link_texts.proofs.globals.push_module_places.Given as goal

abbrev pub invariant-loop-number : goal.invariant-loop-number
invariant-loop-number l =
    (l.places ++ module_places l.number l.end (drop l.number l.modules) ≡ l.initial.places ++ module_places 0 l.from l.modules)
    × (modules_end l.end (drop l.number l.modules) ≡ modules_end l.from l.modules)
    × (l.end ≤ last_end)
