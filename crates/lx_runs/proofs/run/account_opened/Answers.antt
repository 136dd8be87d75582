use Rattle.std.proofs.Common.{◌∙◌, sym, ap}
use Rattle.lx_words.proofs.Options.{if_ok}
use Rattle.lx_images.specs.Image.{Code}
use Rattle.lx_runs.specs.Runs.{images_of}
use Rattle.lx_runs.proofs.Ran.{account_told, opened, opened_code}
use Rattle.lx_runs.proofs.run.account_opened.Goals as goal

-- the world whose account is given stands for the run's
pub account-told-requires-clause-stands : goal.account-told-requires-clause-stands
account-told-requires-clause-stands g c =
    let given = c.requires in
    let o = given.2 in
    let stands = g.C.CapStore.stands in
    let code = opened_code stands given.0 given.1 c.args.world o in
    let came = c.in-Ok.ensures.runs.runs code (opened stands given.0 given.1 c.args.world o) o.stands_for in (code, came.0, came.1.stands_for)

pub account-told-requires-clause-images : goal.account-told-requires-clause-images
account-told-requires-clause-images g c =
    let given = c.requires in
    let o = given.2 in
    let stands = g.C.CapStore.stands in
    let code = opened_code stands given.0 given.1 c.args.world o in
    let came = c.in-Ok.ensures.runs.runs code (opened stands given.0 given.1 c.args.world o) o.stands_for in
    given.3 ∙ ap (λ (d : Code). images_of d.program) (sym came.1.stands_for.code)

pub returns-in-Ok : goal.returns-in-Ok
returns-in-Ok g c =
    if_ok c.account-told.result
    (λ a is. λ p script o. account_told g.C.CapStore.stands p script c.args.world o c.simulation_laws.ensures c.in-Ok.done a c.in-Ok.ensures.runs is) c.account-told.ensures
