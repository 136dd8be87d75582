use Rattle.std.proofs.Common.{◌∙◌, ap}
use Rattle.std.proofs.lemmas.Result.{err_from_is_err_and}
use Rattle.lx_world.specs.Wants.{asked_of}
use Rattle.lx_images.specs.ImageWorld.{image_opening, image_run}
use Rattle.lx_simulation.specs.Images.{code_of}
use Rattle.lx_why.proofs.Behind.{asked_same}
use Rattle.lx_why.proofs.Standing.{moved}
use Rattle.lx_why.proofs.run.WhyRun.prepare.Goals as goal

pub returns-clause-ok : goal.returns-clause-ok
returns-clause-ok g c = λ p script s st.
    let laws = c.simulation_laws.ensures in
    let code = code_of p st.images in
    let v = image_run code s (image_opening code script) in
    let both = c.in_ok-catch_up.ensures.ok p script s (moved _ p script s c.args.self.now c.local.new.self c.local.ensures.stands st) in
    record {
      stands_for = both.0;
      caught_up = both.1;
      asks = ap (λ w. asked_of w c.args.thread) c.catch_up.ensures.world ∙ c.in_ok-local.ensures.asks code v st.world ∙ asked_same laws code st.accepted st.guarded script s c.args.thread;
    }

pub returns-in_err-catch_up-clause-err : goal.returns-in_err-catch_up-clause-err
returns-in_err-catch_up-clause-err g c =
    let q = err_from_is_err_and c.from_residual-in_err-catch_up.result c.from_residual-in_err-catch_up.ensures.1 in
    rw q.1 (λ p script s st. c.in_err-catch_up.ensures.err p script s (moved _ p script s c.args.self.now c.local.new.self c.local.ensures.stands st))
