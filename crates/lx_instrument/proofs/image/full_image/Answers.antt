use Rattle.std.proofs.Common.{◌∙◌}
use Rattle.lx_instrument.proofs.Laws.{made_full}
use Rattle.lx_instrument.proofs.image.full_image.Goals as goal

pub returns : goal.returns
returns c =
    made_full c.args.i.now c.args.m.now (record { types = c.in_ok-types.types; globals = c.in_ok-globals.globals; functions = c.in_ok-functions.functions })
    c.in_ok-types.ensures (c.in_ok-globals.ensures ∙ c.as_slice.ensures) c.in_ok-functions.ensures
