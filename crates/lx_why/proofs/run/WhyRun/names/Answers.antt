use Rattle.std.proofs.Common.{◌∙◌, ap, length}
use Rattle.std.proofs.lemmas.Result.{IfOk-weaker}
use Rattle.std.specs.List.{flat_map}
use Rattle.lx_principals.specs.Instances.{Instances}
use Rattle.lx_slot_types.specs.Gets.{below}
use Rattle.lx_images.specs.Image.{Code}
use Rattle.lx_images.specs.ImageWorld.{image_opening, image_run}
use Rattle.lx_model.specs.Account.{instance_names}
use Rattle.lx_model.specs.declared.program.Program.{Program}
use Rattle.lx_simulation.specs.Images.{code_of}
use Rattle.lx_why.specs.Why.{behind}
use Rattle.lx_why.proofs.run.WhyRun.names.Goals as goal

pub returns : goal.returns
returns g c =
    IfOk-weaker c.instance_names.result _ _ (λ out is. λ p script s st.
    let code = code_of p st.images in
    let v = image_run code s (image_opening code script) in
    let same = (c.simulation_laws.ensures.guarded_runs code st.accepted st.guarded script s).state in
    let kept = ap (λ (x : Instances). x.names) (c.names.ensures p v.state (c.shared.ensures code v st.world)) ∙ same.names in
    let modules = c.in_ok-modules.ensures ∙ c.len.ensures ∙ ap (λ (q : Program). length q.modules) c.program.ensures ∙ ap (λ (q : Code). length q.program.modules) st.world.code in
    is ∙ ap (λ ns. flat_map (instance_names ns) (below c.in_ok-modules.modules)) kept ∙ ap (λ n. flat_map (instance_names (behind p script s).state.names) (below n)) modules) c.instance_names.ensures
