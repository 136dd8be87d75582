use Rattle.std.proofs.Common.{◌++◌, ◌∙◌, ap, flat_map}
use Rattle.lx_words.proofs.Lists.{next_text, all_texts}
use Rattle.lx_ir.specs.Text.{function_text}
use Rattle.lx_ir.proofs.text.put_functions.Goals as goal

pub loop-function-preserved : goal.loop-function-preserved
loop-function-preserved c = next_text (function_text c.args.m.now) c.as_slice-function-items.result.now c.loop-function.function-index c.function-item.result c.function-item.result _ _ _ c.loop-function-test.true c.function-item.is c.loop-function.invariant c.in_ok-put_function.ensures

pub returns : goal.returns
returns c = all_texts (function_text c.args.m.now) c.as_slice-function-items.result.now c.loop-function.function-index _ _ c.loop-function-test.false c.loop-function.invariant
    ∙ ap (λ xs. c.args.out.now.items ++ flat_map (function_text c.args.m.now) xs) c.as_slice-function-items.ensures
