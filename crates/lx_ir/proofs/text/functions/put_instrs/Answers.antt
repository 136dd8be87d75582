use Rattle.lx_words.proofs.Lists.{next_text, all_texts}
use Rattle.lx_ir.specs.Text.{instr_text}
use Rattle.lx_ir.proofs.text.functions.put_instrs.Goals as goal

pub loop-instr-preserved : goal.loop-instr-preserved
loop-instr-preserved c = next_text (instr_text c.args.scope.m.now c.args.scope.f.now) c.args.instrs.now c.loop-instr.instr-index c.instr-item.result c.instr-item.result _ _ _ c.loop-instr-test.true c.instr-item.is c.loop-instr.invariant c.in_ok-put_instr.ensures

pub returns : goal.returns
returns c = all_texts (instr_text c.args.scope.m.now c.args.scope.f.now) c.args.instrs.now c.loop-instr.instr-index _ _ c.loop-instr-test.false c.loop-instr.invariant
