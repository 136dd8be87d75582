use Rattle.std.proofs.Common.{◌++◌, ◌∙◌, ap, flat_map}
use Rattle.lx_words.proofs.Lists.{next_text, all_texts}
use Rattle.lx_ir.specs.Text.{global_var_text}
use Rattle.lx_ir.proofs.text.put_globals.Goals as goal

pub loop-global-preserved : goal.loop-global-preserved
loop-global-preserved c = next_text (global_var_text c.args.m.now) c.as_slice-global-items.result.now c.loop-global.global-index c.global-item.result c.global-item.result _ _ _ c.loop-global-test.true c.global-item.is c.loop-global.invariant c.in_ok-put_global_var.ensures

pub returns : goal.returns
returns c = all_texts (global_var_text c.args.m.now) c.as_slice-global-items.result.now c.loop-global.global-index _ _ c.loop-global-test.false c.loop-global.invariant
    ∙ ap (λ xs. c.args.out.now.items ++ flat_map (global_var_text c.args.m.now) xs) c.as_slice-global-items.ensures
