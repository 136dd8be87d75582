use Rattle.std.proofs.Common.{◌≡◌, Option, ◌∙◌, subst}
use Rattle.lx_propagate.specs.Answers.{GivesOr}
use Rattle.lx_propagate.specs.Decide.{first_conflict}
use Rattle.lx_propagate.specs.Slots.{Conflict, conflict_of}
use Rattle.lx_propagate.specs.Told.{told_sum}
use Rattle.lx_propagate.proofs.Agree.{conflict_is}
use Rattle.lx_propagate.proofs.module.check_module.Goals as goal

pub returns : goal.returns
returns g c =
    let e : first_conflict c.args.i.now (told_sum c.args.types.now) 0 c.as_slice.result.now ≡ conflict_of c.args.i.now c.args.m.now =
    (λ j. first_conflict c.args.i.now (told_sum c.args.types.now) 0 (c.as_slice.ensures j)) ∙ conflict_is c.args.i.now c.args.m.now c.args.types.now c.requires in
    subst (λ (x : Option Conflict). GivesOr (g.M.Means.lacks c.args.means.now) x c.check_functions.result) e c.check_functions.ensures
