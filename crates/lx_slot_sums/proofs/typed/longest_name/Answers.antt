use Rattle.std.proofs.Common.{◌∙◌, ap, arith, max, length}
use Rattle.lx_slot_sums.proofs.Kept.{are_short, longest_more}
use Rattle.lx_slot_sums.proofs.typed.longest_name.Goals as goal

pub loop-field-init : goal.loop-field-init
loop-field-init c = λ j d h. absurd (omega (arith, h))

pub loop-field-preserved : goal.loop-field-preserved
loop-field-preserved c =
    longest_more c.as_slice-field-items.result.now c.loop-field.field-index c.field-item.result c.loop-field.longest _ c.loop-field.invariant c.field-item.is c.loop-field-test.true
    (c.greater-longest.ensures ∙ ap (λ l. max c.loop-field.longest (length l)) c.as_slice.ensures)

pub returns : goal.returns
returns c = are_short c.args.i.now c.as_slice-field-items.result.now c.loop-field.field-index c.loop-field.longest c.as_slice-field-items.ensures c.loop-field-test.false c.loop-field.invariant
