use Rattle.std.proofs.Common.{◌++◌, ◌∙◌, ap, flat_map}
use Rattle.lx_words.proofs.Lists.{next_text, all_texts}
use Rattle.lx_ir.specs.Text.{named_type_text}
use Rattle.lx_ir.proofs.text.put_types.Goals as goal

pub loop-entry-preserved : goal.loop-entry-preserved
loop-entry-preserved c = next_text (named_type_text c.args.m.now) c.as_slice-entry-items.result.now c.loop-entry.entry-index c.entry-item.result c.entry-item.result _ _ _ c.loop-entry-test.true c.entry-item.is c.loop-entry.invariant c.in_ok-put_named_type.ensures

pub returns : goal.returns
returns c = all_texts (named_type_text c.args.m.now) c.as_slice-entry-items.result.now c.loop-entry.entry-index _ _ c.loop-entry-test.false c.loop-entry.invariant
    ∙ ap (λ xs. c.args.out.now.items ++ flat_map (named_type_text c.args.m.now) xs) c.as_slice-entry-items.ensures
