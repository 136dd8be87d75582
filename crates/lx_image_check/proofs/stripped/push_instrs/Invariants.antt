use Rattle.std.proofs.Common.{◌≡◌, ◌++◌, take}
use Rattle.lx_image_check.proofs.stripped.push_instrs.Given as goal

abbrev pub invariant-loop-instr : goal.invariant-loop-instr
invariant-loop-instr l = l.list ≡ l.initial.list ++ take l.instr-index l.instrs
