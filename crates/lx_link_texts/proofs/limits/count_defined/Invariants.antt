use Rattle.std.proofs.Common.{◌≡◌, ◌+◌, ◌≤◌, None, drop, length}
use Rattle.lx_link_texts.specs.Placing.{entries_from}
use Rattle.lx_link_texts.proofs.limits.count_defined.Given as goal

abbrev pub invariant-loop-function : goal.invariant-loop-function
invariant-loop-function l =
    (l.count + length (entries_from None l.function-index (drop l.function-index l.functions)) ≡ length (entries_from None 0 l.functions))
    × (l.count ≤ l.function-index)
