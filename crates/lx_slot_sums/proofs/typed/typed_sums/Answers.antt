use Rattle.std.proofs.Common.{◌∙◌, ap}
use Rattle.lx_slot_sums.specs.Classes.{at_text, place_or_none}
use Rattle.lx_slot_sums.specs.Fields.{sum_at}
use Rattle.lx_slot_sums.proofs.Numbering.{has_name}
use Rattle.lx_slot_sums.proofs.Statements.{has_fields, loop_step, none_typed}
use Rattle.lx_slot_sums.proofs.typed.typed_sums.Goals as goal

pub loop-field-init : goal.loop-field-init
loop-field-init c = λ name n k q. ap (λ es. sum_at es n k) c.new-table.ensures.empty ∙ none_typed c.args.i.now name n k

pub loop-field-preserved : goal.loop-field-preserved
loop-field-preserved c =
    let number =
    c.class_of-name.ensures
    ∙ ap (λ t. place_or_none (at_text c.args.numbers.now.entries t)) c.as_slice.ensures
    ∙ ap place_or_none (has_name c.args.i.now.fields c.args.numbers.now.entries c.field-item.result.name c.requires.named) in
    loop_step c.args.i.now c.args.classes.now c.as_slice-fields.result.now c.loop-field.field-index c.field-item.result c.loop-field.table.entries c.put_sum.new.table.entries c.with_slot-sum.result c.len-count.result c.class_of-name.result
    c.requires.classed c.len-count.ensures c.as_slice-fields.ensures c.loop-field-test.true c.field-item.is number c.loop-field.invariant c.with_slot-sum.ensures c.in_ok-put_sum.ensures

pub returns : goal.returns
returns c = has_fields c.args.i.now c.as_slice-fields.result.now c.loop-field.field-index c.loop-field.table.entries c.loop-field-test.false c.as_slice-fields.ensures c.loop-field.invariant
