-- The new entry, and what it leaves of those so far.
use Rattle.std.proofs.Common.{◌≡◌, ◌∷◌, take}
use Rattle.std.specs.List.{flat_map}
use Rattle.lx_caps.specs.Loans.{none_end}
use Rattle.lx_act_index.specs.Lines.{left_over}
use Rattle.lx_act_index.specs.Threads.{is_open}
use Rattle.lx_act_index.proofs.lines.line_with.Given as goal

abbrev pub invariant-loop-old : goal.invariant-loop-old
invariant-loop-old l = l.now ≡ l.new ∷ flat_map (left_over (is_open none_end l.threads) l.new) (take l.old-index l.line)
