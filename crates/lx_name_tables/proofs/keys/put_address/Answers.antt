use Rattle.std.proofs.Common.{◌∙◌, ap, cond, Some}
use Rattle.lx_name_tables.specs.Keys.{at_key}
use Rattle.lx_name_tables.proofs.Same.{key_of_global}
use Rattle.lx_name_tables.proofs.keys.put_address.Goals as goal

pub returns : goal.returns
returns c = λ home g.
    c.in_ok-insert.ensures.updates.0 (home, g)
    ∙ ap (λ b. cond b (Some c.args.global.now.at) (at_key c.args.addresses.now.entries home g))
    (key_of_global c.args.global.now.«module» home c.args.global.now.global g)
