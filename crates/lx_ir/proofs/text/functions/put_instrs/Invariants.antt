use Rattle.std.proofs.Common.{◌≡◌, ◌++◌, take, flat_map}
use Rattle.lx_ir.specs.Text.{instr_text}
use Rattle.lx_ir.proofs.text.functions.put_instrs.Given as goal

abbrev pub invariant-loop-instr : goal.invariant-loop-instr
invariant-loop-instr l = l.out.items ≡ l.initial.out.items ++ flat_map (instr_text l.scope.m.now l.scope.f.now) (take l.instr-index l.instrs)
