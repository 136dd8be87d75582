use Rattle.lx_words.proofs.Lists.{map_step, map_end}
use Rattle.lx_instrument.specs.Made.{function_by}
use Rattle.lx_spared.specs.Rooms.{spared_by}
use Rattle.lx_instrument.proofs.image.push_full_functions.Goals as goal

pub loop-f-preserved : goal.loop-f-preserved
loop-f-preserved c =
    map_step (function_by c.args.numbers.now (spared_by c.args.rooms.now)) c.args.functions.now c.loop-f.f-index c.f-item.result _ _ _ c.loop-f-test.true c.f-item.is c.loop-f.invariant c.in_ok-push_function.ensures

pub returns : goal.returns
returns c = map_end (function_by c.args.numbers.now (spared_by c.args.rooms.now)) c.args.functions.now c.loop-f.f-index _ _ c.loop-f-test.false c.loop-f.invariant
