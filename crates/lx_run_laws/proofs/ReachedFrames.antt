-- The worlds that a run reaches.
use Rattle.std.proofs.Common.{◌≡◌, ℕ, Bool, true, false, Option, Some, None, option_map, List, [], ◌∷◌, slice_get, refl, sym, subst, ◌∙◌}
use Rattle.std.proofs.lemmas.Option.{slice_get-map, same_Some}
use Rattle.lx_caps.specs.declared.Principal.{Principal}
use Rattle.lx_caps.specs.Names.{Namings}
use Rattle.lx_model.specs.declared.program.Program.{Program}
use Rattle.lx_model.specs.declared.program.ScriptCall.{ScriptCall}
use Rattle.lx_model.specs.declared.request.Request.{Request}
use Rattle.lx_model.specs.declared.request.What.{What}
use Rattle.lx_model.specs.declared.request.What.TheVariants as what
use Rattle.lx_model.specs.Next.{absorb, next}
use Rattle.lx_model.specs.Serve.{serve}
use Rattle.lx_model.specs.State.{State}
use Rattle.lx_model.specs.Thread.{Frame, Thread, fresh_thread, has_work}
use Rattle.lx_model.specs.World.{World, event, event_of, event_if, opening, run}
use Rattle.lx_run_laws.specs.Listed.{has_homes}
use Rattle.lx_run_laws.specs.Texts.{action_asker, asker, caller_principal, top_principal, GoesBetween, IsBetween}
use Rattle.lx_run_laws.proofs.ReachedEntering.{IsKnown}
use Rattle.lx_run_laws.proofs.Frames.{AllFit, IsAskedFrom, all_known, next_fits}
use Rattle.lx_run_laws.proofs.Given.{AllGiven, IsCounted, counted_more, or_kernel_more}
use Rattle.lx_run_laws.proofs.Names.{HasGrown, same_names}
use Rattle.lx_run_laws.proofs.OpeningGiven.{opening_given}
use Rattle.lx_run_laws.proofs.ReachedReplies.{absorbed_fits}
use Rattle.lx_run_laws.proofs.Served.{DestKnown, ServedFits, StateFits, served_fits}
use Rattle.lx_model.proofs.Threads.{set_all}

-- its state and its threads' frames are such
pub record Reached (p : Program) (w : World) : Type 0 where
  pub state : StateFits p w.state
  pub frames : (t : ℕ) (x : Thread) → slice_get w.threads t ≡ Some x → AllFit (IsKnown p w.state.names) p x.frames

-- who asks, and to whom an action gives, is there

abbrev Knows : Program → Namings → List Frame → Type 0
Knows p names frames = AllFit (IsKnown p names) p frames

top_known : (p : Program) (names : Namings) (frames : List Frame) → Knows p names frames → IsKnown p names (top_principal frames)
top_known p names [] fit = λ homes. tt
top_known p names (f ∷ fs) fit = fit.0.known

caller_known : (p : Program) (names : Namings) (frames : List Frame) → Knows p names frames → IsKnown p names (caller_principal frames)
caller_known p names [] fit = λ homes. tt
caller_known p names (f ∷ fs) fit = top_known p names fs fit.1

action_known : (p : Program) (names : Namings) (frames : List Frame) (post : Bool) → Knows p names frames → IsKnown p names (action_asker post frames)
action_known p names frames true fit = top_known p names frames fit
action_known p names frames false fit = caller_known p names frames fit

asker_known : (p : Program) (names : Namings) (frames : List Frame) (w : What) → Knows p names frames → IsKnown p names (asker frames w)
asker_known p names frames (what.Load at width) fit = top_known p names frames fit
asker_known p names frames (what.Store at w) fit = top_known p names frames fit
asker_known p names frames (what.Copy to from len) fit = top_known p names frames fit
asker_known p names frames (what.Fill to byte len) fit = top_known p names frames fit
asker_known p names frames (what.Alloca at size) fit = top_known p names frames fit
asker_known p names frames (what.Enter way args) fit = top_known p names frames fit
asker_known p names frames (what.Perform n post k env source dest) fit = action_known p names frames post fit
asker_known p names frames (what.Return low high) fit = top_known p names frames fit
asker_known p names frames (what.Native k args) fit = top_known p names frames fit
asker_known p names frames (what.Finish o) fit = λ homes. tt

given_known : (p : Program) (names : Namings) (frames : List Frame) (post : Bool) (source dest : Principal) → GoesBetween post frames source dest → Knows p names frames → IsKnown p names dest
given_known p names frames true source dest between fit = subst (IsKnown p names) (sym between.1) (caller_known p names frames fit)
given_known p names frames false source dest between fit = subst (IsKnown p names) (sym between.1) (top_known p names frames fit)

dest_known : (p : Program) (names : Namings) (frames : List Frame) (w : What) → IsBetween frames w → Knows p names frames → DestKnown p names w
dest_known p names frames (what.Load at width) between fit = tt
dest_known p names frames (what.Store at w) between fit = tt
dest_known p names frames (what.Copy to from len) between fit = tt
dest_known p names frames (what.Fill to byte len) between fit = tt
dest_known p names frames (what.Alloca at size) between fit = tt
dest_known p names frames (what.Enter way args) between fit = tt
dest_known p names frames (what.Perform n post k env source dest) between fit = given_known p names frames post source dest between fit
dest_known p names frames (what.Return low high) between fit = tt
dest_known p names frames (what.Native k args) between fit = tt
dest_known p names frames (what.Finish o) between fit = tt

-- a request of such a thread is served
asked_served : (p : Program) (s : State) (t : ℕ) (frames : List Frame) (r : Request) → StateFits p s → IsAskedFrom (IsKnown p s.names) p frames r → ServedFits p s (serve p s t r)
asked_served p s t frames r fit h =
    served_fits p s t r fit (subst (IsKnown p s.names) (sym h.who) (asker_known p s.names frames r.what h.fit)) (dest_known p s.names frames r.what h.between h.fit)

known_more : (p : Program) (old new : Namings) → HasGrown old new → (q : Principal) → IsKnown p old q → IsKnown p new q
known_more p old new grown q is homes = or_kernel_more (IsCounted p old) (IsCounted p new) (counted_more p old new grown) q (is homes)

frames_more : (p : Program) (old new : Namings) (frames : List Frame) → HasGrown old new → Knows p old frames → Knows p new frames
frames_more p old new frames grown fit = all_known (IsKnown p old) (IsKnown p new) p frames (known_more p old new grown) fit

-- one event

event_if_reached : (p : Program) (t : ℕ) (w : World) (x : Thread) (b : Bool) → slice_get w.threads t ≡ Some x → Reached p w → Reached p (event_if b p t w x)
event_if_reached p t w x false at reached = reached
event_if_reached p t w x true at reached =
    let r = (next p t x).request in
    let x2 = (next p t x).thread in
    let answer = serve p w.state t r in
    let h = next_fits (IsKnown p w.state.names) p t x (reached.frames t x at) in
    let served : ServedFits p w.state answer = asked_served p w.state t x2.frames r reached.state h in
    let names = answer.state.names in
    record {
      state = served.state;
      frames = set_all (λ (z : Thread). Knows p names z.frames) w.threads t (absorb p t x2 r answer.reply)
          (λ u z there. frames_more p w.state.names names z.frames served.grown (reached.frames u z there))
          (absorbed_fits (IsKnown p names) p t x2 r answer.reply
          (record { fit = frames_more p w.state.names names x2.frames served.grown h.fit; who = h.who; between = h.between }) served.reply);
    }

event_of_reached : (p : Program) (t : ℕ) (w : World) (o : Option Thread) → slice_get w.threads t ≡ o → Reached p w → Reached p (event_of o p t w)
event_of_reached p t w None at reached = reached
event_of_reached p t w (Some x) at reached = event_if_reached p t w x (has_work x) at reached

-- names only grow

if_grown : (p : Program) (t : ℕ) (w : World) (x : Thread) (b : Bool) → slice_get w.threads t ≡ Some x → Reached p w → HasGrown w.state.names (event_if b p t w x).state.names
if_grown p t w x false at reached = same_names w.state.names
if_grown p t w x true at reached =
    (asked_served p w.state t (next p t x).thread.frames (next p t x).request reached.state (next_fits (IsKnown p w.state.names) p t x (reached.frames t x at))).grown

of_grown : (p : Program) (t : ℕ) (w : World) (o : Option Thread) → slice_get w.threads t ≡ o → Reached p w → HasGrown w.state.names (event_of o p t w).state.names
of_grown p t w None at reached = same_names w.state.names
of_grown p t w (Some x) at reached = if_grown p t w x (has_work x) at reached

pub event_grown : (p : Program) (t : ℕ) (w : World) → Reached p w → HasGrown w.state.names (event p t w).state.names
event_grown p t w reached = of_grown p t w (slice_get w.threads t) refl reached

-- runs

event_reached : (p : Program) (t : ℕ) (w : World) → Reached p w → Reached p (event p t w)
event_reached p t w reached = event_of_reached p t w (slice_get w.threads t) refl reached

run_from : (p : Program) (s : List ℕ) (w : World) → Reached p w → Reached p (run p s w)
run_from p [] w reached = reached
run_from p (t ∷ ts) w reached = run_from p ts (event p t w) (event_reached p t w reached)

-- the opening

fresh_fits : (p : Program) (names : Namings) (o : Option (List ScriptCall)) (x : Thread) → option_map fresh_thread o ≡ Some x → Knows p names x.frames
fresh_fits p names None x e = absurd (cc)
fresh_fits p names (Some c) x e = subst (λ (y : Thread). Knows p names y.frames) (same_Some (fresh_thread c) x e) tt

opening_reached : (p : Program) (script : List (List ScriptCall)) → (has_homes p ≡ true → AllGiven (IsCounted p []) (opening p script).state.history) → Reached p (opening p script)
opening_reached p script given = record {
  state = record { numbered = tt; given = given };
  frames = λ t x at. fresh_fits p [] (slice_get script t) x (sym (slice_get-map fresh_thread script t) ∙ at);
}

pub run_reached : (p : Program) (script : List (List ScriptCall)) (s : List ℕ) → Reached p (run p s (opening p script))
run_reached p script s = run_from p s (opening p script) (opening_reached p script (λ homes. opening_given p))
