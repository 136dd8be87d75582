use Rattle.lx_ir_walks.proofs.GivenBefore.{noted_next}
use Rattle.lx_ir_walks.proofs.givers.note_block.Goals as goal

pub loop-place-preserved : goal.loop-place-preserved
loop-place-preserved c = λ h.
    noted_next c.args.f.now c.loop-place.table.items c.note.new.table.items c.given_by.result c.args.block c.loop-place.place c.instrs_at-instrs.result.now c.index-instrs-place.result
    c.instrs_at-instrs.ensures c.loop-place-test.true c.index-instrs-place.is c.given_by.ensures c.note.ensures (c.loop-place.invariant h)
