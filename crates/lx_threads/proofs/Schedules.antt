-- Events of the threads of images are a run of images.
use Rattle.std.proofs.Common.{◌≡◌, ◌∙◌, sym, ap, ℕ, true, Some, List, [], ◌∷◌, map}
use Rattle.std.specs.Prelude.{option_map, slice_get, slice_set}
use Rattle.std.proofs.lemmas.Option.{slice_get-map}
use Rattle.std.proofs.lemmas.Bool.{and_from}
use Rattle.lx_model.specs.declared.request.Request.{Request}
use Rattle.lx_model.specs.Serve.{serve}
use Rattle.lx_model.specs.State.{State}
use Rattle.lx_model.specs.World.{works, can_act, is_done}
use Rattle.lx_images.specs.Image.{Code, ImageThread, image_next, image_absorb}
use Rattle.lx_images.specs.ImageWorld.{ImageWorld, image_event, image_event_of, image_event_if, image_run}
use Rattle.lx_images.specs.Shown.{shown, shown_thread, image_is_whole}
use Rattle.lx_caplock.specs.declared.knowledge.Entry.{Entry}
use Rattle.lx_caplock.specs.Serving.{served_by, state_after}
use Rattle.lx_threads.specs.Machines.{IsEvent, AreEvents}
use Rattle.lx_threads.specs.Monitor.{threads_of}
use Rattle.lx_threads.proofs.Journals.{schedule_after}
use Rattle.lx_threads.specs.Imaged.{imaged, IsImageRun, ImageMonitorLaws}

abbrev pub world : State → List ImageThread → ImageWorld
world s vs = record { state = s; threads = vs }

-- what is shown of a thread that is there
pub shown_at : (vs : List ImageThread) (t : ℕ) (v : ImageThread) → slice_get vs t ≡ Some v → slice_get (map shown_thread vs) t ≡ Some (shown_thread v)
shown_at vs t v there = slice_get-map shown_thread vs t ∙ ap (option_map shown_thread) there

module _ (c : Code) where
  -- the thread behind the reply of an entry
  abbrev pub absorbed : Entry → ImageThread → ImageThread
  absorbed e v = image_absorb c e.thread (image_next c v).thread (image_next c v).request e.reply

  pub event_is : (s : State) (vs : List ImageThread) (e : Entry) (v : ImageThread) → IsEvent (imaged c) c.program s vs e v
      → image_event c e.thread (world s vs) ≡ world (served_by c.program s e).state (slice_set vs e.thread (absorbed e v))
  event_is s vs e v is =
      let w = world s vs in let t = e.thread in let q : (image_next c v).request ≡ e.request = sym is.next.request in
      let answer : (serve c.program s t (image_next c v).request).reply ≡ e.reply = ap (λ (r : Request). (serve c.program s t r).reply) q ∙ sym is.reply in
      ap (λ o. image_event_of o c t w) is.there
      ∙ ap (λ b. image_event_if b c t w v) is.next.work
      ∙ (λ j. world (serve c.program s t (q j)).state (slice_set vs t (image_absorb c t (image_next c v).thread (image_next c v).request (answer j))))

  ran : (s : State) (vs ws : List ImageThread) (history : List Entry) → AreEvents (imaged c) c.program s vs history ws → image_run c (threads_of history) (world s vs) ≡ world (state_after c.program s history) ws
  ran s vs ws [] all = ap (world s) all
  ran s vs ws (e ∷ es) all =
      ap (image_run c (threads_of es)) (event_is s vs e all.0 all.1)
      ∙ ran (served_by c.program s e).state (slice_set vs e.thread (absorbed e all.0)) ws es all.2

  is_run : (w : ImageWorld) (ws : List ImageThread) (history : List Entry) → AreEvents (imaged c) c.program w.state w.threads history ws → IsImageRun c w history (world (state_after c.program w.state history) ws)
  is_run w ws history all = record { events = all; run = sym (ran w.state w.threads ws history all); schedule = schedule_after c.program w.state history }

  -- where no thread has work at the end, the schedule is whole
  whole : (s : State) (vs ws : List ImageThread) (history : List Entry) → AreEvents (imaged c) c.program s vs history ws → is_done (shown (world (state_after c.program s history) ws)) ≡ true
      → image_is_whole c (threads_of history) (world s vs) ≡ true
  whole s vs ws [] all done = ap (λ us. is_done (shown (world s us))) all ∙ done
  whole s vs ws (e ∷ es) all done =
      and_from (can_act (shown (world s vs)) e.thread) (image_is_whole c (threads_of es) (image_event c e.thread (world s vs)))
      (ap works (shown_at vs e.thread all.0 all.1.there) ∙ all.1.next.work)
      (ap (image_is_whole c (threads_of es)) (event_is s vs e all.0 all.1)
      ∙ whole (served_by c.program s e).state (slice_set vs e.thread (absorbed e all.0)) ws es all.2 done)

pub image_monitor_laws : ImageMonitorLaws
image_monitor_laws = record {
  runs = λ c before history threads events. is_run c before threads history events;
  whole = λ c before history threads events done. whole c before.state before.threads threads history events done;
}
