-- Every world that a run reaches is within the bound.
use Rattle.std.proofs.Common.{◌≡◌, ℕ, Bool, true, false, Option, Some, None, option_map, List, [], ◌∷◌, slice_get, refl, sym, subst, ◌∙◌}
use Rattle.std.proofs.lemmas.Option.{slice_get-map, same_Some}
use Rattle.lx_caps.specs.declared.Atom.TheVariants as atom
use Rattle.lx_caps.specs.declared.Principal.{Principal}
use Rattle.lx_caps.specs.History.{is_of, same_principal}
use Rattle.lx_caps.specs.Loans.{none_end}
use Rattle.lx_model.specs.declared.program.Program.{Program}
use Rattle.lx_model.specs.declared.program.ScriptCall.{ScriptCall}
use Rattle.lx_model.specs.Enter.{text_of_principal}
use Rattle.lx_model.specs.Next.{absorb, next}
use Rattle.lx_model.specs.Serve.{serve}
use Rattle.lx_model.specs.Thread.{Thread, fresh_thread, has_work}
use Rattle.lx_model.specs.World.{World, event, event_of, event_if, opening, run}
use Rattle.lx_surface.specs.declared.Thing.TheVariants.{RefType, Function}
use Rattle.lx_surface.specs.Laws.{IsBounded}
use Rattle.lx_surface.proofs.Frames.{AllWellCalled, AsksAllowed, next_allowed}
use Rattle.lx_surface.proofs.Given.{AllWithin, Giver, called_within, of_text, owner, referred_within, same_text}
use Rattle.lx_surface.proofs.Opened.{opening_within}
use Rattle.lx_surface.proofs.Replies.{absorbed}
use Rattle.lx_surface.proofs.Serving.{IsServedWell, served_well}
use Rattle.lx_model.proofs.Threads.{set_all}

-- what was given is within the bound, and each function was called by somebody who can call it
pub record IsReached (p : Program) (w : World) : Type 0 where
  pub within : AllWithin p w.state.history
  pub frames : (t : ℕ) (x : Thread) → slice_get w.threads t ≡ Some x → AllWellCalled p x.frames

event_if_reached : (p : Program) (t : ℕ) (w : World) (x : Thread) (b : Bool) → slice_get w.threads t ≡ Some x → IsReached p w → IsReached p (event_if b p t w x)
event_if_reached p t w x false at reached = reached
event_if_reached p t w x true at reached =
    let r = (next p t x).request in
    let y = (next p t x).thread in
    let asks : AsksAllowed p y.frames r = next_allowed p t x (reached.frames t x at) in
    let served : IsServedWell p r.who (serve p w.state t r) = served_well p w.state t r asks.allowed reached.within in
    record {
      within = served.within;
      frames = set_all (λ (z : Thread). AllWellCalled p z.frames) w.threads t (absorb p t y r (serve p w.state t r).reply) reached.frames
          (absorbed p t y r (serve p w.state t r).reply served.reply asks.all);
    }

event_of_reached : (p : Program) (t : ℕ) (w : World) (o : Option Thread) → slice_get w.threads t ≡ o → IsReached p w → IsReached p (event_of o p t w)
event_of_reached p t w None at reached = reached
event_of_reached p t w (Some x) at reached = event_if_reached p t w x (has_work x) at reached

run_from : (p : Program) (s : List ℕ) (w : World) → IsReached p w → IsReached p (run p s w)
run_from p [] w reached = reached
run_from p (t ∷ ts) w reached = run_from p ts (event p t w) (event_of_reached p t w (slice_get w.threads t) refl reached)

fresh_called : (p : Program) (o : Option (List ScriptCall)) (x : Thread) → option_map fresh_thread o ≡ Some x → AllWellCalled p x.frames
fresh_called p None x e = absurd (cc)
fresh_called p (Some c) x e = subst (λ (y : Thread). AllWellCalled p y.frames) (same_Some (fresh_thread c) x e) tt

opening_reached : (p : Program) (script : List (List ScriptCall)) → IsReached p (opening p script)
opening_reached p script = record {
  within = opening_within p;
  frames = λ t x at. fresh_called p (slice_get script t) x (sym (slice_get-map fresh_thread script t) ∙ at);
}

-- owners

owner_text : (q : Principal) (m : ℕ) → is_of m q ≡ true → (r : Principal) → same_principal q r ≡ true → text_of_principal r ≡ Some m
owner_text q m is r same = same_text q r m same (of_text m q is)

bounded : (p : Program) (w : World) → IsReached p w → IsBounded p w
bounded p w reached = record {
  refs = λ m ty a q is owned.
      let giver : Giver p (same_principal q) (atom.Ref ty a) = owner p (same_principal q) none_end w.state.history (atom.Ref ty a) owned reached.within in
      referred_within p (same_principal q) ty a m (RefType ty) giver (owner_text q m is) refl;
  calls = λ m a g q is there owned.
      let giver : Giver p (same_principal q) (atom.Call a) = owner p (same_principal q) none_end w.state.history (atom.Call a) owned reached.within in
      called_within p (same_principal q) a m (Function g) giver (owner_text q m is) there;
}

pub run_bounded : (p : Program) (script : List (List ScriptCall)) (schedule : List ℕ) → IsBounded p (run p schedule (opening p script))
run_bounded p script schedule = bounded p _ (run_from p schedule (opening p script) (opening_reached p script))
