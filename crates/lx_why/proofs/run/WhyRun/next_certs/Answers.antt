use Rattle.std.proofs.Common.{◌∙◌, ap, subst, sym, option_copied}
use Rattle.std.proofs.lemmas.Result.{IfOk-weaker}
use Rattle.lx_caps.specs.History.{History}
use Rattle.lx_act_index.specs.Standing.{StandsForActs}
use Rattle.lx_certificates.specs.Told.{told}
use Rattle.lx_images.specs.ImageWorld.{image_opening, image_run}
use Rattle.lx_simulation.specs.Images.{code_of}
use Rattle.lx_why.specs.Why.{behind}
use Rattle.lx_why.proofs.Behind.{all_noted, certs_are}
use Rattle.lx_why.proofs.run.WhyRun.next_certs.Goals as goal

pub returns-in-Some : goal.returns-in-Some
returns-in-Some g c =
    IfOk-weaker c.request_certs.result _ _ (λ certs are. λ p script s ready.
    let st = ready.stands_for in
    let code = code_of p st.images in
    let w = behind p script s in
    let v = image_run code s (image_opening code script) in
    let same = (c.simulation_laws.ensures.guarded_runs code st.accepted st.guarded script s).state in
    let index = subst (λ (h : History). StandsForActs c.args.self.now.noted.index (told h)) (sym same.history) (all_noted c.told_laws.ensures w c.args.self.now.noted ready.caught_up st.noted) in
    let asks = sym ready.asks ∙ sym c.request.ensures ∙ ap option_copied c.in-Some.is in
    certs_are p w c.args.thread v.state c.in-Some.request.now certs same asks (are p v.state (c.shared.ensures code v st.world) index)) c.request_certs.ensures
