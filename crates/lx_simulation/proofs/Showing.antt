-- What a world of images shows is what the monitor's world shows that it stands for.
use Rattle.std.proofs.Common.{◌≡◌, ℕ, ◌+◌, Bool, not, ◌&&◌, ◌||◌, List, [], ◌∷◌, ◌++◌, map, Option, Some, None, refl, sym, ◌∙◌, ap}
use Rattle.std.specs.Prelude.{flat_map, slice_get, option_map}
use Rattle.std.specs.List.{enumerate_from, list_any}
use Rattle.std.proofs.lemmas.Option.{slice_get-map}
use Rattle.lx_ir.specs.declared.module.Module.{Module}
use Rattle.lx_model.specs.declared.program.Program.{Program}
use Rattle.lx_model.specs.declared.program.ScriptCall.{ScriptCall}
use Rattle.lx_model.specs.declared.request.Entry.{Entry}
use Rattle.lx_model.specs.declared.account.Account.{Account}
use Rattle.lx_model.specs.Account.{account, schedule_of, thread_outcomes, outcomes_of}
use Rattle.lx_model.specs.State.{State}
use Rattle.lx_model.specs.Thread.{Thread, has_work}
use Rattle.lx_model.specs.World.{World, can_act, event, is_done, is_whole, opening, run, works}
use Rattle.lx_images.specs.Image.{Code, ImageThread}
use Rattle.lx_images.specs.ImageWorld.{ImageWorld, image_event, image_opening, image_run}
use Rattle.lx_images.specs.Shown.{shown, shown_thread, image_is_whole}
use Rattle.lx_images.specs.Stands.{SameState, StandsFor, Seen, seen, ThreadStands, ThreadsStand}
use Rattle.lx_simulation.specs.Images.{code_of}
use Rattle.lx_model.proofs.Turns.{run_more}

-- the threads of what was seen of the journal's entries
threads_seen : (js : List Entry) → map (λ (e : Entry). e.thread) js ≡ map (λ (x : Seen). x.thread) (map seen js)
threads_seen [] = refl
threads_seen (j ∷ js) = ap (λ (ts : List ℕ). j.thread ∷ ts) (threads_seen js)

pub schedules : (c : Code) (w : World) (v : ImageWorld) → StandsFor c w v → schedule_of (shown v) ≡ schedule_of w
schedules c w v stands =
    threads_seen v.state.journal ∙ (ap (λ (xs : List Seen). map (λ (x : Seen). x.thread) xs) stands.state.journal ∙ sym (threads_seen w.state.journal))

-- a thread without its frames
abbrev bare : Thread → Thread
bare t = record { calls = t.calls; ended = t.ended; fuel = t.fuel; due = t.due; frames = [] }

-- image threads show what the threads show that they stand for
shown_one : (c : Code) (thread : Thread) (v : ImageThread) → ThreadStands c thread v → shown_thread v ≡ bare thread
shown_one c thread v s = λ j. record { calls = s.calls j; ended = s.ended j; fuel = s.fuel j; due = s.due j; frames = [] }

shown_all : (c : Code) (ts : List Thread) (vs : List ImageThread) → ThreadsStand c ts vs → map shown_thread vs ≡ map bare ts
shown_all c [] vs e = ap (map shown_thread) e
shown_all c (t ∷ ts) [] s = absurd s
shown_all c (t ∷ ts) (v ∷ vs) s = λ j. shown_one c t v s.0 j ∷ shown_all c ts vs s.1 j

-- a thread and the image thread that stands for it have ended the same calls
outcomes_alike : (n : ℕ) (ts : List Thread) → flat_map thread_outcomes (enumerate_from n (map bare ts)) ≡ flat_map thread_outcomes (enumerate_from n ts)
outcomes_alike n [] = refl
outcomes_alike n (t ∷ ts) = ap (λ rest. thread_outcomes (n, t) ++ rest) (outcomes_alike (n + 1) ts)

outcomes : (c : Code) (w : World) (v : ImageWorld) → StandsFor c w v → outcomes_of (shown v) ≡ outcomes_of w
outcomes c w v stands =
    ap (λ (xs : List Thread). flat_map thread_outcomes (enumerate_from 0 xs)) (shown_all c w.threads v.threads stands.threads) ∙ outcomes_alike 0 w.threads

-- what an account tells of the state besides the schedule
told : (v w : State) → SameState w v → (record v { journal = w.journal }) ≡ w
told v w same = λ k. record {
  memory = same.memory k;
  blocks = same.blocks k;
  names = same.names k;
  history = same.history k;
  notes = same.notes k;
  journal = w.journal;
}

abbrev account_of : Program → List Thread → State → Account
account_of p threads s = account p (record { state = s; threads = threads })

pub accounts : (c : Code) (w : World) (v : ImageWorld) → StandsFor c w v → account c.program (shown v) ≡ account c.program w
accounts c w v stands =
    let state = told v.state w.state stands.state in
    λ k. record {
      schedule = schedules c w v stands k;
      outcomes = outcomes c w v stands k;
      notes = stands.state.notes k;
      images = (account c.program w).images;
      owners = (account_of c.program w.threads (state k)).owners;
      names = (account_of c.program w.threads (state k)).names;
    }

-- work

works_shown : (x : Option Thread) → works (option_map bare x) ≡ works x
works_shown None = refl
works_shown (Some t) = refl

pub acts : (c : Code) (w : World) (v : ImageWorld) → StandsFor c w v → (t : ℕ) → can_act (shown v) t ≡ can_act w t
acts c w v stands t =
    ap (λ (xs : List Thread). works (slice_get xs t)) (shown_all c w.threads v.threads stands.threads)
    ∙ (ap works (slice_get-map bare w.threads t) ∙ works_shown (slice_get w.threads t))

any_shown : (ts : List Thread) → list_any has_work (map bare ts) ≡ list_any has_work ts
any_shown [] = refl
any_shown (t ∷ ts) = ap (λ (b : Bool). has_work t || b) (any_shown ts)

pub done : (c : Code) (w : World) (v : ImageWorld) → StandsFor c w v → is_done (shown v) ≡ is_done w
done c w v stands = ap (λ (xs : List Thread). not (list_any has_work xs)) (shown_all c w.threads v.threads stands.threads) ∙ ap not (any_shown w.threads)

-- schedules

pub image_run_further : (c : Code) (s : List ℕ) (t : ℕ) (v : ImageWorld) → image_run c (s ++ t ∷ []) v ≡ image_event c t (image_run c s v)
image_run_further c [] t v = refl
image_run_further c (x ∷ s) t v = image_run_further c s t (image_event c x v)

-- where the worlds stand for each other behind each schedule, what is left of one is whole for both or for neither
whole_from : (c : Code) (w : World) (v : ImageWorld) → ((s : List ℕ) → StandsFor c (run c.program s w) (image_run c s v)) → (before ts : List ℕ)
    → image_is_whole c ts (image_run c before v) ≡ is_whole c.program ts (run c.program before w)
whole_from c w v all before [] = done c (run c.program before w) (image_run c before v) (all before)
whole_from c w v all before (t ∷ ts) =
    let first = acts c (run c.program before w) (image_run c before v) (all before) t in
    let rest : image_is_whole c ts (image_event c t (image_run c before v)) ≡ is_whole c.program ts (event c.program t (run c.program before w)) =
    ap (λ (x : ImageWorld). image_is_whole c ts x) (sym (image_run_further c before t v))
    ∙ (whole_from c w v all (before ++ t ∷ []) ts
    ∙ ap (λ (x : World). is_whole c.program ts x) (run_more c.program before t w)) in
    λ k. first k && rest k

pub wholes : (p : Program) (images : List Module) (script : List (List ScriptCall))
    → ((s : List ℕ) → StandsFor (code_of p images) (run p s (opening p script)) (image_run (code_of p images) s (image_opening (code_of p images) script)))
    → (schedule : List ℕ) → image_is_whole (code_of p images) schedule (image_opening (code_of p images) script) ≡ is_whole p schedule (opening p script)
wholes p images script all schedule = whole_from (code_of p images) (opening p script) (image_opening (code_of p images) script) all [] schedule
