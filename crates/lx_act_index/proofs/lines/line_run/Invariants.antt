-- No entry so far says anything of these bits, so those that are left decide.
use Rattle.std.proofs.Common.{◌≡◌, ◌<◌, ◌≤◌, ℕ, drop}
use Rattle.lx_caps.specs.History.{reaches}
use Rattle.lx_caps.specs.Loans.{none_end}
use Rattle.lx_act_index.specs.Lines.{line_giver}
use Rattle.lx_act_index.specs.Threads.{is_open}
use Rattle.lx_act_index.proofs.lines.line_run.Given as goal

abbrev pub invariant-loop-entry : goal.invariant-loop-entry
invariant-loop-entry l = record {
  more : l.bit < l.end;
  bound : l.end ≤ 64;
  alike : (k : ℕ) → l.bit ≤ k → k < l.end
      → line_giver l.asked.gifts (reaches l.asked.who) (is_open none_end l.threads) k l.line
      ≡ line_giver l.asked.gifts (reaches l.asked.who) (is_open none_end l.threads) k (drop l.entry-index l.line);
}
