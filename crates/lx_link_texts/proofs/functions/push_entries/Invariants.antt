use Rattle.std.proofs.Common.{◌≡◌, ◌++◌, drop}
use Rattle.lx_link_texts.specs.Placing.{entries_from}
use Rattle.lx_link_texts.proofs.functions.push_entries.Given as goal

abbrev pub invariant-loop-number : goal.invariant-loop-number
invariant-loop-number l =
    l.entries ++ entries_from l.home l.number (drop l.number l.functions) ≡ l.initial.entries ++ entries_from l.home 0 l.functions
