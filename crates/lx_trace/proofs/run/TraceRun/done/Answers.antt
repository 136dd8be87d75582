use Rattle.std.proofs.Common.{◌∙◌}
use Rattle.lx_simulation.specs.Images.{code_of}
use Rattle.lx_trace.specs.Run.{image_behind}
use Rattle.lx_trace.specs.Trace.{behind}
use Rattle.lx_trace.proofs.run.TraceRun.done.Goals as goal

pub returns : goal.returns
returns g c = λ p script s run.
    let laws = c.simulation_laws.ensures in
    let code = code_of p run.images in
    let v = image_behind p run.images script s in
    c.done.ensures code v run.world ∙ laws.showing.done code (behind p script s) v (laws.guarded_runs code run.accepted run.guarded script s)
