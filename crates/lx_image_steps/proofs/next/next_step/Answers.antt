use Rattle.std.proofs.Common.{sym, Some, None}
use Rattle.lx_images.specs.Image.{image_routine}
use Rattle.lx_image_steps.specs.Standing.{block_at}
use Rattle.lx_image_steps.proofs.Places.{next_of_block}
use Rattle.lx_image_steps.proofs.Sized.{sized_head}
use Rattle.lx_image_steps.proofs.Tabled.{placed}
use Rattle.lx_image_steps.proofs.next.next_step.Goals as goal

pub step_at-requires-clause-sized : goal.step_at-requires-clause-sized
step_at-requires-clause-sized c =
    let run = c.args.run.now in
    let code = c.args.code.now in
    sized_head code run.function run.block run.place run.arrived c.in-Some.instr.now.op c.program-program.ensures.sized
    (sym (next_of_block c.instrs_of-instrs.result.now (block_at (image_routine code run.function).blocks run.block).code run.arrived run.place c.next_place-place.result (Some c.in-Some.instr.now)
    c.instrs_of-instrs.ensures c.next_place-place.ensures c.in-Some.ensures))

pub step_at-requires-clause-stands : goal.step_at-requires-clause-stands
step_at-requires-clause-stands c =
    let run = c.args.run.now in
    placed (image_routine c.args.code.now run.function).blocks run.block c.next_place-place.result c.instrs_of-instrs.result.now c.in-Some.instr.now c.instrs_of-instrs.ensures c.in-Some.ensures

pub returns-in_ok-step-in-Some : goal.returns-in_ok-step-in-Some
returns-in_ok-step-in-Some c =
    let run = c.args.run.now in
    let code = c.args.code.now in (
      c.in-Some.instr.now.op,
      sym (next_of_block c.instrs_of-instrs.result.now (block_at (image_routine code run.function).blocks run.block).code run.arrived run.place c.next_place-place.result (Some c.in-Some.instr.now)
          c.instrs_of-instrs.ensures c.next_place-place.ensures c.in-Some.ensures),
      c.in_ok-step-in-Some.ensures,
    )

pub returns-in-None : goal.returns-in-None
returns-in-None c =
    let run = c.args.run.now in
    let code = c.args.code.now in
    sym (next_of_block c.instrs_of-instrs.result.now (block_at (image_routine code run.function).blocks run.block).code run.arrived run.place c.next_place-place.result None
    c.instrs_of-instrs.ensures c.next_place-place.ensures c.in-None.ensures)
