use Rattle.lx_words.proofs.Lists.{map_step, map_end, list_all_item}
use Rattle.lx_ir.specs.Lawful.{is_lawful_function}
use Rattle.lx_image_texts.specs.Spared.{is_spared}
use Rattle.lx_instrument.specs.Made.{function_by}
use Rattle.lx_instrument.proofs.image.push_spared_functions.Goals as goal

pub push_spared_function-requires : goal.push_spared_function-requires
push_spared_function-requires c = list_all_item (is_lawful_function c.args.m.now) c.args.functions.now c.loop-f.f-index c.f-item.result c.loop-f-test.true c.f-item.is c.requires

pub loop-f-preserved : goal.loop-f-preserved
loop-f-preserved c =
    map_step (λ f. function_by c.args.numbers.now (is_spared c.args.m.now f) f) c.args.functions.now c.loop-f.f-index c.f-item.result _ _ _ c.loop-f-test.true c.f-item.is c.loop-f.invariant c.in_ok-push_spared_function.ensures

pub returns : goal.returns
returns c = map_end (λ f. function_by c.args.numbers.now (is_spared c.args.m.now f) f) c.args.functions.now c.loop-f.f-index _ _ c.loop-f-test.false c.loop-f.invariant
