use Rattle.std.proofs.Common.{◌≡◌, ◌+◌, ◌*◌, ◌≤◌, drop, length}
use Rattle.lx_link_texts.specs.Placing.{module_entries}
use Rattle.lx_link_texts.proofs.limits.count_modules.Given as goal

abbrev pub invariant-loop-entry : goal.invariant-loop-entry
invariant-loop-entry l =
    (l.count + length (module_entries l.entry-index (drop l.entry-index l.modules)) ≡ l.before + length (module_entries 0 l.modules))
    × (l.count ≤ 4294967301 + 4294967295 * l.entry-index)
