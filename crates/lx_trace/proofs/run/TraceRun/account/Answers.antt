use Rattle.std.proofs.Common.{◌∙◌, ap, sym}
use Rattle.std.proofs.lemmas.Result.{IfOk-weaker}
use Rattle.lx_images.specs.Image.{Code}
use Rattle.lx_runs.specs.Runs.{images_of}
use Rattle.lx_simulation.specs.Images.{code_of}
use Rattle.lx_trace.specs.Run.{image_behind}
use Rattle.lx_trace.specs.Trace.{behind}
use Rattle.lx_trace.proofs.run.TraceRun.account.Goals as goal

pub account-requires-clause-stands : goal.account-requires-clause-stands
account-requires-clause-stands g c =
    let given = c.requires in
    (code_of given.0 given.3.images, image_behind given.0 given.3.images given.1 given.2, given.3.world)

pub account-requires-clause-images : goal.account-requires-clause-images
account-requires-clause-images g c = let given = c.requires in given.4 ∙ ap (λ (d : Code). images_of d.program) (sym given.3.world.code)

pub returns : goal.returns
returns g c =
    let laws = c.simulation_laws.ensures in
    IfOk-weaker c.account.result _ _ (λ a is. λ p script s run.
    let code = code_of p run.images in
    let v = image_behind p run.images script s in
    is code v run.world ∙ laws.showing.accounts code (behind p script s) v (laws.guarded_runs code run.accepted run.guarded script s)) c.account.ensures
