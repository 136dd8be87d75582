use Rattle.std.proofs.Common.{◌∙◌, ap}
use Rattle.lx_script.specs.Case.{Case}
use Rattle.lx_link.specs.Answers.{origin_name}
use Rattle.lx_input.specs.Checks.{passed}
use Rattle.lx_input.proofs.Parts.{kernel_stops, kernel_passed}
use Rattle.lx_input.proofs.linked.verify_texts.Goals as goal

pub returns-in-Ok-clause-turn : goal.returns-in-Ok-clause-turn
returns-in-Ok-clause-turn c =
    kernel_passed c.args.case.now c.args.kernel c.args.modules c.as_slice.result.now (passed c.verify_behind.result) (c.as_slice.ensures ∙ ap (λ (x : Case). x.modules) c.case.view_is)
    c.in-Ok.ensures.turn c.verify_behind.ensures.turn

pub returns-in-Err-clause-turn : goal.returns-in-Err-clause-turn
returns-in-Err-clause-turn c =
    kernel_stops c.args.case.now c.args.kernel c.args.modules c.origin_name.result.now c.in-Err.why (c.origin_name.ensures ∙ ap (λ (x : Case). origin_name x.kernel) c.case.view_is)
    c.in-Err.ensures.turn
