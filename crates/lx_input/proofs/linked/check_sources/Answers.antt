use Rattle.lx_input.proofs.Parts.{texts_passed, texts_alike}
use Rattle.lx_input.proofs.linked.check_sources.Goals as goal

pub returns-in-Ok-clause-turn : goal.returns-in-Ok-clause-turn
returns-in-Ok-clause-turn c =
    texts_passed c.args.name.now c.args.sources c.check_slots.result c.in-Ok.ensures.turn
    (texts_alike c.args.name.now c.args.sources c.in-Ok.kernel c.in-Ok.modules.items c.check_slots.result c.in-Ok.ensures.kernel c.in-Ok.ensures.modules c.check_slots.ensures.turn)
