use Rattle.lx_words.proofs.Options.{if_ok}
use Rattle.lx_cli.proofs.Judging.{judged, present}
use Rattle.lx_cli.proofs.images.check_input.Goals as goal

pub returns : goal.returns
returns c =
    if_ok c.judge_image.result
    (λ a said. judged c.args.input.now c.unwrap-image.result.now a (present c.args.input.now.besides.image c.unwrap-image.result c.as_ref.result c.as_ref.ensures.value c.unwrap-image.ensures) said)
    c.judge_image.ensures
