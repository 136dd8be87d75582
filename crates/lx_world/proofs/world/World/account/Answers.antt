use Rattle.std.proofs.Common.{length, ap, ◌∙◌, arith}
use Rattle.std.specs.List.{flat_map, enumerate_from}
use Rattle.lx_principals.specs.Instances.{Instances}
use Rattle.lx_slot_types.specs.Gets.{below}
use Rattle.lx_model.specs.declared.program.Program.{Program}
use Rattle.lx_model.specs.Account.{instance_names}
use Rattle.lx_model.specs.State.{module_principals}
use Rattle.lx_world.specs.OwnerAccounts.{owned_in}
use Rattle.lx_images.specs.Image.{Code}
use Rattle.lx_world.specs.Accounts.{runner_outcomes}
use Rattle.lx_world.proofs.Gathered.{account_of}
use Rattle.lx_world.proofs.world.World.account.Goals as goal

pub owners-requires : goal.owners-requires
owners-requires g c =
    let st = c.requires.stands in
    let modules = c.in_ok-modules.ensures ∙ (c.len.ensures ∙ ap (λ (q : Program). length q.modules) c.program-program.ensures.whole) in
    let same = ap (λ (q : Code). length q.program.modules) st.2.code in
    let kept = ap (λ (x : Instances). x.modules) (c.names-instances.ensures st.0.program st.1.state st.2.shared) in
    omega (arith, modules, same, kept)

pub instance_names-requires : goal.instance_names-requires
instance_names-requires g c =
    let st = c.requires.stands in
    let modules = c.in_ok-modules.ensures ∙ (c.len.ensures ∙ ap (λ (q : Program). length q.modules) c.program-program.ensures.whole) in
    let same = ap (λ (q : Code). length q.program.modules) st.2.code in
    let kept = ap (λ (x : Instances). x.modules) (c.names-instances.ensures st.0.program st.1.state st.2.shared) in
    omega (arith, modules, same, kept)

pub returns : goal.returns
returns g c = λ m w s.
    let code = c.args.self.now.code in
    let h = w.state.history in
    let whole = c.program-program.ensures.whole in
    let kept = ap (λ (x : Instances). x.names) (c.names-instances.ensures m.program w.state s.shared) in
    let modules = c.in_ok-modules.ensures ∙ (c.len.ensures ∙ ap (λ (q : Program). length q.modules) whole) in
    let types = c.in_ok-types.ensures ∙ (c.len-2.ensures ∙ ap (λ (q : Program). length q.interface.reftypes) whole) in
    account_of g.C.CapStore.stands c.args.self.now m w s c.in_ok-schedule.schedule c.from_vec.result c.in_ok-notes.notes c.args.images c.from_vec-2.result c.from_vec-3.result
    (c.in_ok-schedule.ensures ∙ c.threads.ensures m.program w.state s.shared)
    (c.from_vec.ensures ∙ (c.in_ok-outcomes.ensures ∙ ap (λ rs. flat_map runner_outcomes (enumerate_from 0 rs)) c.as_slice.ensures.value))
    (c.in_ok-notes.ensures ∙ c.notes.ensures m.program w.state s.shared)
    c.requires.images
    (c.from_vec-2.ensures
    ∙ (c.in_ok-owners.ensures h (c.caps.ensures m.program w.state s.shared)
    ∙ (ap (λ ns. flat_map (owned_in c.in_ok-types.types h) (flat_map (module_principals ns) (below c.in_ok-modules.modules))) kept
    ∙ (ap (λ n. flat_map (owned_in c.in_ok-types.types h) (flat_map (module_principals w.state.names) (below n))) modules
    ∙ ap (λ n. flat_map (owned_in n h) (flat_map (module_principals w.state.names) (below (length code.program.modules)))) types))))
    (c.from_vec-3.ensures
    ∙ (c.in_ok-names.ensures
    ∙ (ap (λ ns. flat_map (instance_names ns) (below c.in_ok-modules.modules)) kept
    ∙ ap (λ n. flat_map (instance_names w.state.names) (below n)) modules)))
