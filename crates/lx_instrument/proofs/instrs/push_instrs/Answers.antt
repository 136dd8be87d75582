use Rattle.lx_instrument.specs.Made.{instr_by}
use Rattle.lx_spared.specs.Rooms.{spared_by}
use Rattle.lx_instrument.proofs.Counted.{flat_step, flat_end}
use Rattle.lx_instrument.proofs.instrs.push_instrs.Goals as goal

pub loop-instr-preserved : goal.loop-instr-preserved
loop-instr-preserved c =
    flat_step (instr_by c.args.numbers.now (spared_by c.args.rooms.now)) c.args.instrs.now c.loop-instr.instr-index c.instr-item.result _ _ _ c.loop-instr-test.true c.instr-item.is c.loop-instr.invariant c.in_ok-push_instr.ensures

pub returns : goal.returns
returns c = flat_end (instr_by c.args.numbers.now (spared_by c.args.rooms.now)) c.args.instrs.now c.loop-instr.instr-index _ _ c.loop-instr-test.false c.loop-instr.invariant
