use Rattle.std.proofs.Common.{◌∙◌, ap, refl, subst, ◌++◌, ◌∷◌, [], List, ℕ, ◌≡◌, true}
use Rattle.lx_model.specs.declared.program.Program.{Program}
use Rattle.lx_model.specs.Serve.{serve}
use Rattle.lx_model.specs.State.{State}
use Rattle.lx_run_laws.specs.Servable.{is_servable}
use Rattle.lx_serve.proofs.Answered.{entered}
use Rattle.lx_serve.specs.Stands.{Serves, StandsForState}
use Rattle.lx_serve.specs.declared.shared.SharedPart.{SharedPart}
use Rattle.lx_serve.proofs.shared.SharedPart.serve.Goals as goal

pub returns-in-Ok-clause-served : goal.returns-in-Ok-clause-served
returns-in-Ok-clause-served g c =
    let old = c.args.self.now in
    let new : SharedPart g.row.C.Denot = record { linked = old.linked; monitor = c.answer.new.self; journal = c.push.new.journal } in
    subst
    (λ (p : Program). (s : State) → StandsForState g.C.CapStore.stands p old s → is_servable p c.args.thread c.args.request.now ≡ true
    → Serves g.C.CapStore.stands p new c.in-Ok.reply (serve p s c.args.thread c.args.request.now))
    c.get-program.ensures.program
    (λ s st servable.
    entered g.C.CapStore.stands c.get-program.result.now s c.args.thread c.args.request.now old new c.in-Ok.reply st refl
    (c.push.ensures.appends ∙ ap (λ (l : List ℕ). l ++ c.args.thread ∷ []) c.make_room.ensures.stays) (c.in-Ok.ensures.gives s st.keeps))
