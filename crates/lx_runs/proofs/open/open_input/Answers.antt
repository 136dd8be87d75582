use Rattle.lx_words.proofs.Options.{if_ok}
use Rattle.lx_runs.proofs.Opening.{opened_with}
use Rattle.lx_runs.proofs.open.open_input.Goals as goal

pub open_made-requires-clause-made : goal.open_made-requires-clause-made
open_made-requires-clause-made g c = (c.args.guarding, c.in-Ok.ensures.made)

pub returns-in-Ok-clause-full : goal.returns-in-Ok-clause-full
returns-in-Ok-clause-full g c =
    if_ok c.open_made.result
    (λ opened full. opened_with g.C.CapStore.stands c.args.guarding c.args.input.program c.args.input.script c.in-Ok.made.images.items opened.world c.in-Ok.ensures.made full)
    c.open_made.ensures.full
