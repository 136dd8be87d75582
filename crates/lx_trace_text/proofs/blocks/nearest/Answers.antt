-- The last entry up to the address is the nearest block.
use Rattle.std.proofs.Common.{◌∙◌, sym, subst}
use Rattle.std.specs.Option.{IsSome}
use Rattle.std.proofs.lemmas.Map.Keys.{le_from_not_gt, ge_from_not_lt}
use Rattle.lx_trace_text.specs.Blocks.{Holds}
use Rattle.lx_trace_text.proofs.Nearest.{nearest_is, nearest_none, not_greater}
use Rattle.lx_trace_text.proofs.blocks.nearest.Goals as goal

pub returns-in-Some : goal.returns-in-Some
unfolding Holds
returns-in-Some c = λ bs h.
    let a = c.args.at in
    let k = c.in-Some.field-0-0.now in
    let range = c.range.ensures.in_range tt in
    let here = range.3 _ _ c.in-Some.ensures.steps in
    let last = range.4 _ _ c.in-Some.ensures.steps in
    sym (nearest_is bs a k c.in-Some.block.now (sym (h k) ∙ here.1) (le_from_not_gt k a here.0.1)
    (λ q up some. ge_from_not_lt k q (last q (tt, not_greater q a up) (subst IsSome (sym (h q)) some))))

pub returns-in-None : goal.returns-in-None
unfolding Holds
returns-in-None c = λ bs h.
    let a = c.args.at in
    let range = c.range.ensures.in_range tt in
    sym (nearest_none bs a (λ q up. sym (h q) ∙ range.5 c.in-None.ensures.steps.0 q (tt, not_greater q a up)))
