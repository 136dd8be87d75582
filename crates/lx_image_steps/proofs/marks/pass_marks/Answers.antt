use Rattle.std.proofs.Common.{◌∙◌, refl, sym, ap, add-one}
use Rattle.std.proofs.lemmas.Option.{slice_get_read}
use Rattle.lx_ir.specs.declared.instr.Instr.{Instr}
use Rattle.lx_images.specs.Image.{image_routine, instruction_step}
use Rattle.lx_image_steps.specs.Marks.{marks_behind, moved}
use Rattle.lx_image_steps.specs.Standing.{block_at, rest_from, run_of}
use Rattle.lx_image_steps.proofs.Marking.{gone_past, stops}
use Rattle.lx_image_steps.proofs.Places.{op_placed}
use Rattle.lx_image_steps.proofs.marks.pass_marks.Goals as goal

pub loop-place-preserved : goal.loop-place-preserved
loop-place-preserved c v fs =
    let code = c.args.code.now in
    let run = c.args.run.now in
    let body = (block_at (image_routine code run.function).blocks run.block).code in
    let k = c.loop-place.place in
    let instr = c.index-instrs-place.result in
    let at = op_placed c.args.instrs.now body k instr c.requires (slice_get_read c.args.instrs.now _ k instr refl c.loop-place-test.true c.index-instrs-place.is) in
    c.loop-place.invariant v fs
    ∙ gone_past code v fs (run_of code run) run.arrived instr.op body k c.loop-place.marks c.in-Some.further at (ap (λ (i : Instr). marks_behind code.program (run_of code run) run.arrived c.loop-place.marks i.op) c.index-instrs-place.is ∙ sym c.in-Some.ensures)
    ∙ ap (λ j. instruction_step code v fs (rest_from run.arrived j body) c.in-Some.further (moved code run j)) (sym (add-one k))

pub returns-in-None-clause-plain : goal.returns-in-None-clause-plain
returns-in-None-clause-plain c =
    let code = c.args.code.now in
    let run = c.args.run.now in
    let body = (block_at (image_routine code run.function).blocks run.block).code in
    let k = c.loop-place.place in
    let instr = c.index-instrs-place.result in
    let at = op_placed c.args.instrs.now body k instr c.requires (slice_get_read c.args.instrs.now _ k instr refl c.loop-place-test.true c.index-instrs-place.is) in
    stops code.program (run_of code run) run.arrived instr.op body k c.loop-place.marks at (ap (λ (i : Instr). marks_behind code.program (run_of code run) run.arrived c.loop-place.marks i.op) c.index-instrs-place.is ∙ sym c.in-None.ensures)
