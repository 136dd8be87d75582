use Rattle.std.proofs.Common.{◌≡◌, drop}
use Rattle.lx_image_check.specs.Compared.{lines_fault}
use Rattle.lx_image_check.proofs.lines.check_block.Given as goal

abbrev pub invariant-loop-instr : goal.invariant-loop-instr
invariant-loop-instr l = lines_fault l.name l.first (drop l.first l.wanted) l.instrs ≡ lines_fault l.name l.place (drop l.place l.wanted) (drop l.instr-index l.instrs)
