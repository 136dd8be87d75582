use Rattle.std.proofs.Common.{◌++◌, map}
use Rattle.lx_image_texts.specs.WrapperText.{post_lines, unlined}
use Rattle.lx_wrap.proofs.Steps.{post_step}
use Rattle.lx_wrap.proofs.lines.push_post_lines.Goals as goal

pub loop-place-preserved : goal.loop-place-preserved
loop-place-preserved c =
    let all = c.args.code.now ++ map unlined (post_lines c.args.f 0 c.args.actions.now) in
    post_step c.args.f c.args.actions.now c.loop-place.place c.loop-place.code c.push_post.new.code all c.loop-place-test.true c.loop-place.invariant c.in_ok-push_post.ensures
