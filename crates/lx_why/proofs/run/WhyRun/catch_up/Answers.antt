use Rattle.std.proofs.Common.{◌≤◌, List, length, subst}
use Rattle.std.proofs.lemmas.Result.{err_from_is_err_and}
use Rattle.lx_caps.specs.History.{without_zeros}
use Rattle.lx_caps.specs.declared.Act.{Act}
use Rattle.lx_images.specs.ImageWorld.{image_opening, image_run}
use Rattle.lx_simulation.specs.Images.{code_of}
use Rattle.lx_why.specs.Why.{behind}
use Rattle.lx_why.proofs.Standing.{acts_are, caught}
use Rattle.lx_why.proofs.run.WhyRun.catch_up.Goals as goal

pub returns-clause-ok : goal.returns-clause-ok
returns-clause-ok g c = λ p script s st.
    let code = code_of p st.images in
    let v = image_run code s (image_opening code script) in
    let same = (c.simulation_laws.ensures.guarded_runs code st.accepted st.guarded script s).state in
    let acts = c.acts-acts.result.now in
    let are = acts_are (behind p script s) v.state acts same (c.acts-acts.ensures.alone (without_zeros v.state.history) (c.store.ensures v.state.history (c.caps.ensures p v.state (c.shared.ensures code v st.world)))) in
    (caught _ p script s c.args.self.now c.catch_up.new.self acts are c.catch_up.ensures.noted c.catch_up.ensures.within st, subst (λ (l : List Act). length l ≤ c.catch_up.new.self.seen) are c.in_ok-catch_up.ensures.all)

pub returns-in_err-catch_up-clause-err : goal.returns-in_err-catch_up-clause-err
returns-in_err-catch_up-clause-err g c =
    let q = err_from_is_err_and c.from_residual.result c.from_residual.ensures.1 in
    rw q.1
    (λ p script s st.
    let code = code_of p st.images in
    let v = image_run code s (image_opening code script) in
    let same = (c.simulation_laws.ensures.guarded_runs code st.accepted st.guarded script s).state in
    let acts = c.acts-acts.result.now in
    let are = acts_are (behind p script s) v.state acts same (c.acts-acts.ensures.alone (without_zeros v.state.history) (c.store.ensures v.state.history (c.caps.ensures p v.state (c.shared.ensures code v st.world)))) in
    caught _ p script s c.args.self.now c.catch_up.new.self acts are c.catch_up.ensures.noted c.catch_up.ensures.within st)
