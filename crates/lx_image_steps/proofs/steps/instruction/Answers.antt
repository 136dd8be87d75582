use Rattle.std.proofs.Common.{sym, Some, None}
use Rattle.lx_image_steps.specs.Standing.{block_at}
use Rattle.lx_images.specs.Image.{image_routine}
use Rattle.lx_image_steps.proofs.Places.{next_of_block}
use Rattle.lx_image_steps.proofs.Sized.{sized_head}
use Rattle.lx_image_steps.proofs.steps.instruction.Goals as goal

pub returns-in-Some-clause-sized : goal.returns-in-Some-clause-sized
returns-in-Some-clause-sized c =
    let run = c.args.run.now in
    let code = c.args.code.now in
    sized_head code run.function run.block run.place run.arrived c.in-Some.instr.now.op c.program-program.ensures.sized
    (sym (next_of_block c.instrs_of-instrs.result.now (block_at (image_routine code run.function).blocks run.block).code run.arrived run.place c.next_place.result (Some c.in-Some.instr.now)
    c.instrs_of-instrs.ensures c.next_place.ensures c.in-Some.ensures))

pub returns-in-None-clause-next : goal.returns-in-None-clause-next
returns-in-None-clause-next c =
    let run = c.args.run.now in
    let code = c.args.code.now in
    next_of_block c.instrs_of-instrs.result.now (block_at (image_routine code run.function).blocks run.block).code run.arrived run.place c.next_place.result None
    c.instrs_of-instrs.ensures c.next_place.ensures c.in-None.ensures
