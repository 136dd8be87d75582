use Rattle.std.proofs.Common.{◌∙◌}
use Rattle.lx_propagate.specs.Decide.{marked_in}
use Rattle.lx_propagate.specs.Told.{told_sum}
use Rattle.lx_propagate.proofs.Agree.{annotated_is}
use Rattle.lx_propagate.proofs.module.annotated_of.Goals as goal

pub returns : goal.returns
returns c =
    c.from_vec.ensures
    ∙ (c.in_ok-list.ensures
    ∙ ((λ j. marked_in (told_sum c.args.types.now) 0 (c.as_slice.ensures j)) ∙ annotated_is c.args.i.now c.args.m.now c.args.types.now c.requires.types))
