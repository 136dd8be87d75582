use Rattle.std.proofs.Common.{◌≡◌, ◌++◌, drop}
use Rattle.lx_link_texts.specs.Placing.{module_entries}
use Rattle.lx_link_texts.proofs.functions.push_module_entries.Given as goal

abbrev pub invariant-loop-number : goal.invariant-loop-number
invariant-loop-number l =
    l.entries ++ module_entries l.number (drop l.number l.modules) ≡ l.initial.entries ++ module_entries 0 l.modules
