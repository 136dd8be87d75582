use Rattle.std.proofs.Common.{◌≡◌, ◌++◌, drop}
use Rattle.lx_image_check.specs.Program.{lines_of}
use Rattle.lx_image_check.proofs.erased.push_instrs.Given as goal

abbrev pub invariant-loop-instr : goal.invariant-loop-instr
invariant-loop-instr l = l.list ++ lines_of l.imports (drop l.instr-index l.instrs) ≡ l.initial.list ++ lines_of l.imports l.instrs
