-- Events of the monitor's threads are its run.
use Rattle.std.proofs.Common.{◌≡◌, ◌∙◌, sym, ap, Bool, true, List, [], ◌∷◌}
use Rattle.std.specs.Prelude.{slice_set, ◌&&◌}
use Rattle.lx_model.specs.declared.program.Program.{Program}
use Rattle.lx_model.specs.declared.request.Request.{Request}
use Rattle.lx_model.specs.Next.{next, absorb}
use Rattle.lx_model.specs.Serve.{serve}
use Rattle.lx_model.specs.State.{State}
use Rattle.lx_model.specs.Thread.{Thread}
use Rattle.lx_model.specs.World.{World, run, event, event_of, event_if, works, can_act, is_done, is_whole}
use Rattle.lx_caplock.specs.declared.knowledge.Entry.{Entry}
use Rattle.lx_caplock.specs.Serving.{served_by, state_after}
use Rattle.lx_threads.specs.Machines.{IsEvent, AreEvents}
use Rattle.lx_threads.specs.Monitor.{monitored, threads_of, IsRun}
use Rattle.lx_threads.proofs.Journals.{schedule_after}

abbrev world : State → List Thread → World
world s xs = record { state = s; threads = xs }

module _ (p : Program) where
  event_is : (s : State) (xs : List Thread) (e : Entry) (x : Thread) → IsEvent (monitored p) p s xs e x
      → event p e.thread (world s xs) ≡ world (served_by p s e).state (slice_set xs e.thread (absorb p e.thread (next p e.thread x).thread (next p e.thread x).request e.reply))
  event_is s xs e x is =
      let w = world s xs in let t = e.thread in let q : (next p t x).request ≡ e.request = sym is.next.request in
      let answer : (serve p s t (next p t x).request).reply ≡ e.reply = ap (λ (r : Request). (serve p s t r).reply) q ∙ sym is.reply in
      ap (λ o. event_of o p t w) is.there
      ∙ ap (λ b. event_if b p t w x) is.next.work
      ∙ (λ j. world (serve p s t (q j)).state (slice_set xs t (absorb p t (next p t x).thread (next p t x).request (answer j))))

  ran : (s : State) (xs ys : List Thread) (history : List Entry) → AreEvents (monitored p) p s xs history ys → run p (threads_of history) (world s xs) ≡ world (state_after p s history) ys
  ran s xs ys [] all = ap (world s) all
  ran s xs ys (e ∷ es) all =
      ap (run p (threads_of es)) (event_is s xs e all.0 all.1)
      ∙ ran (served_by p s e).state (slice_set xs e.thread (absorb p e.thread (next p e.thread all.0).thread (next p e.thread all.0).request e.reply)) ys es all.2

  pub is_run : (w : World) (ys : List Thread) (history : List Entry) → AreEvents (monitored p) p w.state w.threads history ys → IsRun p w history (world (state_after p w.state history) ys)
  is_run w ys history all = record { events = all; run = sym (ran w.state w.threads ys history all); schedule = schedule_after p w.state history }

  both_true : (a b : Bool) → a ≡ true → b ≡ true → (a && b) ≡ true
  both_true a b is also = ap (λ c. c && b) is ∙ also

  -- where no thread has work at the end, the schedule is whole
  pub whole : (s : State) (xs ys : List Thread) (history : List Entry) → AreEvents (monitored p) p s xs history ys → is_done (world (state_after p s history) ys) ≡ true → is_whole p (threads_of history) (world s xs) ≡ true
  whole s xs ys [] all done = ap (λ zs. is_done (world s zs)) all ∙ done
  whole s xs ys (e ∷ es) all done =
      both_true (can_act (world s xs) e.thread) (is_whole p (threads_of es) (event p e.thread (world s xs)))
      (ap works all.1.there ∙ all.1.next.work)
      (ap (is_whole p (threads_of es)) (event_is s xs e all.0 all.1)
      ∙ whole (served_by p s e).state (slice_set xs e.thread (absorb p e.thread (next p e.thread all.0).thread (next p e.thread all.0).request e.reply)) ys es all.2 done)
