use Rattle.std.proofs.Common.{◌≡◌, ◌++◌, take}
use Rattle.std.specs.List.{flat_map, enumerate_from}
use Rattle.lx_why_text.specs.Text.{act_line}
use Rattle.lx_why_text.proofs.acts.put_acts.Given as goal

abbrev pub invariant-loop-n : goal.invariant-loop-n
invariant-loop-n l =
    l.out.items ≡ l.fn.out.items ++ flat_map (act_line l.teller.program.now l.teller.names) (take l.n (enumerate_from 0 l.acts))
