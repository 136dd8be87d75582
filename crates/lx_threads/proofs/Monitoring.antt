-- A run of images is the monitor's run of each world that the images stand for throughout.
use Rattle.std.proofs.Common.{◌≡◌, ◌∙◌, sym, ap, subst, refl, ℕ, true, Option, Some, None, List, [], ◌∷◌, ◌++◌, map}
use Rattle.std.specs.Prelude.{slice_get, slice_set}
use Rattle.std.proofs.lemmas.Bool.{and_from}
use Rattle.std.proofs.lemmas.List.{map-append}
use Rattle.lx_model.specs.declared.program.Program.{Program}
use Rattle.lx_model.specs.declared.request.Entry.{Entry as JournalEntry}
use Rattle.lx_model.specs.declared.request.Request.{Request}
use Rattle.lx_model.specs.Next.{next}
use Rattle.lx_model.specs.Serve.{serve}
use Rattle.lx_model.specs.State.{State}
use Rattle.lx_model.specs.Thread.{Thread, has_work}
use Rattle.lx_model.specs.World.{World, works, can_act, event, run, is_done, is_whole}
use Rattle.lx_run_laws.proofs.Stops.{worked}
use Rattle.lx_run_laws.proofs.Journal.{noted}
use Rattle.lx_images.specs.Image.{Code, ImageThread}
use Rattle.lx_images.specs.ImageWorld.{ImageWorld, image_run}
use Rattle.lx_images.specs.Shown.{shown}
use Rattle.lx_images.specs.Stands.{StandsFor, Seen, seen}
use Rattle.lx_simulation.specs.Showing.{ShowingLaws}
use Rattle.lx_caplock.specs.declared.knowledge.Entry.{Entry}
use Rattle.lx_caplock.specs.Serving.{served_by}
use Rattle.lx_threads.specs.Machines.{IsEvent, AreEvents}
use Rattle.lx_threads.specs.Monitor.{threads_of}
use Rattle.lx_threads.specs.Imaged.{imaged, IsImageRun}
use Rattle.lx_threads.specs.Monitored.{StandsThroughout, IsMonitorEvent, AreMonitorEvents, IsMonitored}
use Rattle.lx_threads.proofs.Schedules.{world, absorbed, event_is, shown_at}

-- a thread that can act is there
acting : (o : Option Thread) → works o ≡ true → (x : Thread) × (o ≡ Some x) × (has_work x ≡ true)
acting None idle = absurd (cc)
acting (Some x) work = (x, refl, work)

-- the last of a list
abbrev last : {A : Type 0} → A → List A → A
last d [] = d
last d (x ∷ xs) = last x xs

last_is : {A : Type 0} (d : A) (xs : List A) (x : A) → last d (xs ++ x ∷ []) ≡ x
last_is d [] x = refl
last_is d (y ∷ ys) x = last_is y ys x

-- the last entries of journals that show the same show the same
same_last : (xs ys : List JournalEntry) (x y : JournalEntry) → map seen (xs ++ x ∷ []) ≡ map seen (ys ++ y ∷ []) → seen x ≡ seen y
same_last xs ys x y same =
    let at : Seen = seen x in
    sym (last_is at (map seen xs) (seen x))
    ∙ (ap (last at) (sym (map-append seen xs (x ∷ [])) ∙ (same ∙ map-append seen ys (y ∷ []))) ∙ last_is at (map seen ys) (seen y))

module _ (showing : ShowingLaws) (c : Code) where
  -- the world and the images behind an event
  behind_event : (s : State) (vs : List ImageThread) (e : Entry) (v : ImageThread) (w : World) → IsEvent (imaged c) c.program s vs e v → StandsThroughout c w (world s vs)
      → StandsThroughout c (event c.program e.thread w) (world (served_by c.program s e).state (slice_set vs e.thread (absorbed c e v)))
  behind_event s vs e v w is throughout = λ ts.
      subst (λ (u : ImageWorld). StandsFor c (run c.program ts (event c.program e.thread w)) (image_run c ts u)) (event_is c s vs e v is) (throughout (e.thread ∷ ts))

  event_of_monitor : (s : State) (vs : List ImageThread) (e : Entry) (v : ImageThread) (w : World) → IsEvent (imaged c) c.program s vs e v → StandsThroughout c w (world s vs) → IsMonitorEvent c.program w e
  event_of_monitor s vs e v w is throughout =
      let p : Program = c.program in
      let t : ℕ = e.thread in
      let shows : can_act (shown (world s vs)) t ≡ true = ap works (shown_at vs t v is.there) ∙ is.next.work in
      let at = acting (slice_get w.threads t) (sym (showing.acts c w (world s vs) (throughout []) t) ∙ shows) in
      let x : Thread = at.0 in
      let r : Request = (next p t x).request in
      let journals = (behind_event s vs e v w is throughout []).state.journal in
      let theirs : (event p t w).state.journal ≡ w.state.journal ++ record { thread = t; request = r; reply = (serve p w.state t r).reply } ∷ []
      = ap (λ (u : World). u.state.journal) (worked p t w x at.1 at.2) ∙ noted p w.state t r in
      let same : seen (record { thread = t; request = e.request; reply = (served_by p s e).reply }) ≡ seen (record { thread = t; request = r; reply = (serve p w.state t r).reply })
      = same_last s.journal w.state.journal _ _ (sym (ap (map seen) (noted p s t e.request)) ∙ (journals ∙ ap (map seen) theirs)) in record {
        thread = x;
        there = at.1;
        work = at.2;
        what = ap (λ (z : Seen). z.what) same;
        reply = is.reply ∙ ap (λ (z : Seen). z.reply) same;
      }

  events_of_monitor : (s : State) (vs us : List ImageThread) (w : World) (history : List Entry) → AreEvents (imaged c) c.program s vs history us → StandsThroughout c w (world s vs) → AreMonitorEvents c.program w history
  events_of_monitor s vs us w [] all throughout = tt
  events_of_monitor s vs us w (e ∷ es) all throughout = (
    event_of_monitor s vs e all.0 w all.1 throughout,
    events_of_monitor (served_by c.program s e).state (slice_set vs e.thread (absorbed c e all.0)) us (event c.program e.thread w) es all.2 (behind_event s vs e all.0 w all.1 throughout),
  )

  whole_of_monitor : (w : World) (history : List Entry) → AreMonitorEvents c.program w history → is_done (run c.program (threads_of history) w) ≡ true → is_whole c.program (threads_of history) w ≡ true
  whole_of_monitor w [] all done = done
  whole_of_monitor w (e ∷ es) all done =
      and_from (can_act w e.thread) (is_whole c.program (threads_of es) (event c.program e.thread w)) (ap works all.0.there ∙ all.0.work) (whole_of_monitor (event c.program e.thread w) es all.1 done)

  pub monitored : (before behind : ImageWorld) (history : List Entry) → IsImageRun c before history behind → is_done (shown behind) ≡ true → (w : World) → StandsThroughout c w before → IsMonitored c w history behind
  monitored before behind history ran ended w throughout =
      let s : List ℕ = threads_of history in
      let stands : StandsFor c (run c.program s w) behind = subst (StandsFor c (run c.program s w)) (sym ran.run) (throughout s) in
      let events = events_of_monitor before.state before.threads behind.threads w history ran.events throughout in
      let done : is_done (run c.program s w) ≡ true = sym (showing.done c (run c.program s w) behind stands) ∙ ended in record {
        events = events;
        stands_for = stands;
        schedule = sym (showing.schedules c (run c.program s w) behind stands) ∙ (ran.schedule ∙ ap (λ (l : List ℕ). l ++ s) (showing.schedules c w before (throughout [])));
        done = done;
        whole = whole_of_monitor w history events done;
      }
