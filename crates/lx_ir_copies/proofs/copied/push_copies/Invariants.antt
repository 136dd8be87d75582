use Rattle.std.proofs.Common.{◌≡◌, ◌++◌, take}
use Rattle.lx_ir_copies.proofs.copied.push_copies.Given as goal

abbrev pub invariant-loop-value : goal.invariant-loop-value
invariant-loop-value g l = l.list ≡ l.initial.list ++ take l.value-index l.values
