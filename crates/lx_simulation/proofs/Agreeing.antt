-- The laws of the machine of images, from those of the machine that counts.
use Rattle.std.proofs.Common.{◌≡◌, ℕ, List, map, refl, sym, subst, ap}
use Rattle.lx_model.specs.declared.program.ScriptCall.{ScriptCall}
use Rattle.lx_model.specs.declared.request.What.{What}
use Rattle.lx_model.specs.declared.request.Request.{Request}
use Rattle.lx_model.specs.declared.request.Reply.{Reply}
use Rattle.lx_model.specs.declared.request.Reply.TheVariants.{Value, Done, Entered, Ended}
use Rattle.lx_model.specs.Laws.{ModelLaws}
use Rattle.lx_model.specs.Thread.{Thread}
use Rattle.lx_model.specs.Next.{Step, Goes, Asks, request, step, absorb}
use Rattle.lx_model.specs.World.{World, event, opening, run}
use Rattle.lx_images.specs.Guarded.{Accepted}
use Rattle.lx_images.specs.Image.{Code, ImageThread, ImageStep, image_step, image_absorb}
use Rattle.lx_images.specs.Image.{Goes as ImageGoes, Asks as ImageAsks}
use Rattle.lx_images.specs.ImageWorld.{ImageWorld, image_event, image_opening, image_run}
use Rattle.lx_images.specs.Stands.{Well, WorldWell, StoresHeld, SameState, AskAlike, AbsorbAlike, StepsAgree, ThreadStands, StandsFor}
use Rattle.lx_simulation.proofs.Counted.{ImageThread as CountedThread, ImageStep as CountedStep, image_absorb as counted_absorb, image_step as counted_step}
use Rattle.lx_simulation.proofs.Counted.{Goes as CountedGoes, Asks as CountedAsks}
use Rattle.lx_simulation.proofs.CountedWorld.{ImageWorld as CountedWorld, image_event as counted_event, image_opening as counted_opening, image_run as counted_run}
use Rattle.lx_simulation.proofs.CountedStands.{image_of, StandsFor as CountedStandsFor, StepsAgree as CountedStepsAgree, AbsorbAlike as CountedAbsorbAlike}
use Rattle.lx_simulation.proofs.Worded.{Alike, AbsorbAlike as BothAbsorb, StepsAlike, AllAlike, WorldsAlike}
use Rattle.lx_simulation.proofs.WordedSteps.{steps_alike}
use Rattle.lx_simulation.proofs.WordedRuns.{event_alike, run_alike, opening_alike}
use Rattle.lx_simulation.proofs.Standing.{stands_of, alike_of, all_alike, all_stand}
use Rattle.lx_simulation.proofs.Runs.{event_agrees, what_alike}
use Rattle.lx_simulation.proofs.Steps.{step_agrees}

-- a step

-- a reply is taken in by what was asked
by_what : (c : Code) (t : ℕ) (v : ImageThread) (r s : Request) (reply : Reply) → s.what ≡ r.what → image_absorb c t v s reply ≡ image_absorb c t v r reply
by_what c t v r s (Ended o) e = refl
by_what c t v r s (Value x) e = ap (λ (y : What). image_absorb c t v (request r.who y) (Value x)) e
by_what c t v r s Done e = ap (λ (y : What). image_absorb c t v (request r.who y) Done) e
by_what c t v r s (Entered n p x) e = ap (λ (y : What). image_absorb c t v (request r.who y) (Entered n p x)) e

counted_by_what : (c : Code) (t : ℕ) (v : CountedThread) (r s : Request) (reply : Reply) → s.what ≡ r.what → counted_absorb c t v s reply ≡ counted_absorb c t v r reply
counted_by_what c t v r s (Ended o) e = refl
counted_by_what c t v r s (Value x) e = ap (λ (y : What). counted_absorb c t v (request r.who y) (Value x)) e
counted_by_what c t v r s Done e = ap (λ (y : What). counted_absorb c t v (request r.who y) Done) e
counted_by_what c t v r s (Entered n p x) e = ap (λ (y : What). counted_absorb c t v (request r.who y) (Entered n p x)) e

absorbs_too : (c : Code) (t : ℕ) (thread : Thread) (v : CountedThread) (u : ImageThread) (r s : Request) → s.what ≡ r.what → CountedAbsorbAlike c t thread v r → BothAbsorb c v u s → AbsorbAlike c t thread u r
absorbs_too c t thread v u r s e h b reply ans =
    let one = h reply ans in
    let alike : Alike c (counted_absorb c t v r reply) (image_absorb c t u r reply)
    = subst (λ (y : CountedThread). Alike c y (image_absorb c t u r reply)) (counted_by_what c t v r s reply e)
    (subst (λ (y : ImageThread). Alike c (counted_absorb c t v s reply) y) (by_what c t u r s reply e) (b t reply)) in
    (one.0, stands_of c (absorb c.program t thread r reply) (image_absorb c t u r reply) (subst (λ (y : CountedThread). Alike c y (image_absorb c t u r reply)) one.1 alike))

steps_joined : (c : Code) (t : ℕ) (a : Step) (i : CountedStep) (j : ImageStep) → CountedStepsAgree c t a i → StepsAlike c i j → StepsAgree c t a j
steps_joined c t (Goes thread) (CountedGoes v) (ImageGoes u) h b = (h.0, stands_of c thread u (subst (λ (y : CountedThread). Alike c y u) h.1 b))
steps_joined c t (Asks thread r) (CountedAsks v s) (ImageAsks u q) h b =
    (subst (AskAlike c thread r) (sym b.0) h.0, h.1, absorbs_too c t thread v u r s (what_alike c thread r s h.0) h.2 b.1)
steps_joined c t (Goes thread) (CountedAsks v s) j h b = absurd h
steps_joined c t (Asks thread r) (CountedGoes v) j h b = absurd h
steps_joined c t (Goes thread) (CountedGoes v) (ImageAsks u q) h b = absurd b
steps_joined c t (Asks thread r) (CountedAsks v s) (ImageGoes u) h b = absurd b

-- one step of a thread is one step of the image thread that stands for it
pub steps_agree : (c : Code) → Accepted c → (t : ℕ) (thread : Thread) (v : ImageThread) → Well c.program t thread → ThreadStands c thread v → StepsAgree c t (step c.program t thread) (image_step c v)
steps_agree c acc t thread v well s =
    steps_joined c t (step c.program t thread) (counted_step c (image_of c thread)) (image_step c v) (step_agrees c acc t thread well)
    (steps_alike c acc.wraps (image_of c thread) v (alike_of c thread v s))

-- worlds

pub worlds_joined : (c : Code) (w : World) (x : CountedWorld) (v : ImageWorld) → CountedStandsFor c w x → WorldsAlike c x v → StandsFor c w v
worlds_joined c w x v s a =
    record {
      state = subst (SameState w.state) (sym a.state) s.state;
      threads = all_stand c w.threads v.threads (subst (λ (ys : List CountedThread). AllAlike c ys v.threads) s.threads a.threads);
    }

abbrev counting_world : Code → World → ImageWorld → CountedWorld
counting_world c w v = record { state = v.state; threads = map (image_of c) w.threads }

pub events_agree : ModelLaws → (c : Code) → Accepted c → (t : ℕ) (w : World) (v : ImageWorld) → WorldWell c.program w → StandsFor c w v → StoresHeld c w → StandsFor c (event c.program t w) (image_event c t v)
events_agree laws c acc t w v well s held =
    let x = counting_world c w v in
    worlds_joined c (event c.program t w) (counted_event c t x) (image_event c t v)
    (event_agrees laws c acc t w x well (record { state = s.state; threads = refl }) held).1
    (event_alike c acc.wraps t x v (record { state = refl; threads = all_alike c w.threads v.threads s.threads }))

-- what holds of the runs of the machine that counts holds of those of images
pub runs_agree : (c : Code) → Accepted c → (script : List (List ScriptCall)) (schedule : List ℕ) → CountedStandsFor c (run c.program schedule (opening c.program script)) (counted_run c schedule (counted_opening c script)) →
    StandsFor c (run c.program schedule (opening c.program script)) (image_run c schedule (image_opening c script))
runs_agree c acc script schedule s =
    worlds_joined c (run c.program schedule (opening c.program script)) (counted_run c schedule (counted_opening c script)) (image_run c schedule (image_opening c script)) s
    (run_alike c acc.wraps schedule (counted_opening c script) (image_opening c script) (opening_alike c script))
