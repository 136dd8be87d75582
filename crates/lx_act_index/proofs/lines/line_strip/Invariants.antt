-- No entry so far strips the atom, so those that are left decide.
use Rattle.std.proofs.Common.{◌≡◌, drop}
use Rattle.lx_act_index.specs.Lines.{line_strip}
use Rattle.lx_act_index.proofs.lines.line_strip.Given as goal

abbrev pub invariant-loop-entry : goal.invariant-loop-entry
invariant-loop-entry l = line_strip l.bit l.line ≡ line_strip l.bit (drop l.entry-index l.line)
