use Rattle.lx_image_texts.specs.WrapperText.{in_wrapper}
use Rattle.lx_wrap.proofs.Steps.{filter_more}
use Rattle.lx_wrap.proofs.module.push_in_wrappers.Goals as goal

pub loop-marked-preserved : goal.loop-marked-preserved
loop-marked-preserved c =
    filter_more (in_wrapper c.args.i.now c.args.m.now) c.args.annotated.now c.loop-marked.marked-index _ c.args.list.now.items c.loop-marked.list.items c.push_in_wrapper.new.list.items c.loop-marked-test.true c.loop-marked.invariant c.in_ok-push_in_wrapper.ensures
