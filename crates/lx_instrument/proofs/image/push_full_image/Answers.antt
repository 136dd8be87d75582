use Rattle.std.proofs.Common.{◌∙◌}
use Rattle.std.proofs.lemmas.Result.{IfOk-equal}
use Rattle.lx_instrument.proofs.Laws.{full_image}
use Rattle.lx_instrument.proofs.image.push_full_image.Goals as goal

pub returns : goal.returns
returns c =
    IfOk-equal c.push_wrappers.result _ _ _ c.push_wrappers.ensures
    (full_image c.args.i.now c.args.m.now c.as_slice-2.result.now c.as_slice.result.now c.none-rooms.result c.args.list.now.items c.push_full_functions.new.list.items (c.as_slice.ensures ∙ c.in_ok-numbers.ensures) c.none-rooms.ensures c.as_slice-2.ensures c.in_ok-push_full_functions.ensures)
