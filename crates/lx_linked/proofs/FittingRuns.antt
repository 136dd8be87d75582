-- So it is with each thread of each world that a run reaches.
use Rattle.std.proofs.Common.{◌≡◌, ℕ, zero, suc, ◌<◌, ◌≤◌, Bool, true, false, All, List, [], ◌∷◌, length, map, Option, Some, None, ◌⊎◌, inl, inr, refl, subst, ap}
use Rattle.std.specs.Prelude.{slice_get, slice_set}
use Rattle.std.proofs.lemmas.Option.{slice_get_within}
use Rattle.lx_words.proofs.Tests.{less_most}
use Rattle.lx_words.proofs.Options.{none_some, some_same}
use Rattle.lx_words.proofs.Lists.{all_got}
use Rattle.lx_model.specs.declared.program.Program.{Program}
use Rattle.lx_model.specs.declared.program.ScriptCall.{ScriptCall}
use Rattle.lx_model.specs.Thread.{Thread, fresh_thread, has_work}
use Rattle.lx_model.specs.Next.{absorb, next}
use Rattle.lx_model.specs.Serve.{serve}
use Rattle.lx_model.specs.World.{World, after_request, event, event_if, event_of, opening, run}
use Rattle.lx_model.specs.Fits.{Fits}
use Rattle.lx_link_texts.specs.WellFormed.{FitsCall, FitsCalls, IsWellFormed}
use Rattle.lx_linked.specs.Threads.{ThreadFits}
use Rattle.lx_linked.proofs.Steps.{next_fits}
use Rattle.lx_linked.proofs.Taking.{kept}
use Rattle.lx_linked.proofs.Serving.{served}

-- before the first call

pub opens : (p : Program) (t : ℕ) (calls : List ScriptCall) → t < 16 → All (FitsCall p) calls → ThreadFits p t (fresh_thread calls)
opens p t calls few fit = record { few = few; calls = fit; frames = tt }

-- a thread asks as it may

pub asks : (p : Program) (t : ℕ) (thread : Thread) → IsWellFormed p → ThreadFits p t thread → Fits p t (next p t thread).request
asks p t thread wf h = (next_fits p wf t thread h).1

-- worlds

abbrev AllFit : Program → World → Type 0
AllFit p w = (t : ℕ) (thread : Thread) → slice_get w.threads t ≡ Some thread → ThreadFits p t thread

mapped : {A B : Type 0} (f : A → B) (xs : List A) (k : ℕ) (y : B) → slice_get (map f xs) k ≡ Some y → (x : A) × (slice_get xs k ≡ Some x) × (f x ≡ y)
mapped f [] k y e = none_some e
mapped f (x ∷ xs) zero y e = (x, refl, some_same e)
mapped f (x ∷ xs) (suc k) y e = mapped f xs k y e

opening_fits : (p : Program) (script : List (List ScriptCall)) → length script ≤ 16 → FitsCalls p script → AllFit p (opening p script)
opening_fits p script few fit t thread e =
    let x = mapped fresh_thread script t thread e in
    subst (ThreadFits p t) x.2 (opens p t x.0 (less_most t (length script) 16 (slice_get_within script t x.0 x.1) few) (all_got (All (FitsCall p)) script t x.0 fit x.1))

-- the element that is set, or one that was there
set_get : {A : Type 0} (xs : List A) (t k : ℕ) (x y : A) → slice_get (slice_set xs t x) k ≡ Some y → ((t ≡ k) × (x ≡ y)) ⊎ (slice_get xs k ≡ Some y)
set_get [] t k x y e = none_some e
set_get (z ∷ xs) zero zero x y e = inl (refl, some_same e)
set_get (z ∷ xs) zero (suc k) x y e = inr e
set_get (z ∷ xs) (suc t) zero x y e = inr e
set_get (z ∷ xs) (suc t) (suc k) x y e = elim (set_get xs t k x y e) [ inl a ↦ inl (ap suc a.0, a.1) | inr b ↦ inr b ]

requested : (p : Program) → IsWellFormed p → (t : ℕ) (w : World) (thread : Thread) → AllFit p w → ThreadFits p t thread → AllFit p (after_request p t w (next p t thread))
requested p wf t w thread all h k other e =
    let r = (next p t thread).request in
    let x = absorb p t (next p t thread).thread r (serve p w.state t r).reply in
    let fits : ThreadFits p t x = kept p t thread (serve p w.state t r).reply wf h (served p w.state t r (asks p t thread wf h)) in
    elim (set_get w.threads t k x other e) [
      | inl here ↦ subst (λ (n : ℕ). ThreadFits p n other) here.0 (subst (ThreadFits p t) here.1 fits)
      | inr there ↦ all k other there
    ]

worked : (p : Program) → IsWellFormed p → (t : ℕ) (w : World) (thread : Thread) (works : Bool) → AllFit p w → ThreadFits p t thread → AllFit p (event_if works p t w thread)
worked p wf t w thread false all h = all
worked p wf t w thread true all h = requested p wf t w thread all h

found : (p : Program) → IsWellFormed p → (t : ℕ) (w : World) (o : Option Thread) → slice_get w.threads t ≡ o → AllFit p w → AllFit p (event_of o p t w)
found p wf t w None e all = all
found p wf t w (Some thread) e all = worked p wf t w thread (has_work thread) all (all t thread e)

run_fits : (p : Program) → IsWellFormed p → (schedule : List ℕ) (w : World) → AllFit p w → AllFit p (run p schedule w)
run_fits p wf [] w all = all
run_fits p wf (t ∷ schedule) w all = run_fits p wf schedule (event p t w) (found p wf t w (slice_get w.threads t) refl all)

pub runs : (p : Program) (script : List (List ScriptCall)) (schedule : List ℕ) (t : ℕ) (thread : Thread) → IsWellFormed p → length script ≤ 16 → FitsCalls p script → slice_get (run p schedule (opening p script)).threads t ≡ Some thread →
    ThreadFits p t thread × Fits p t (next p t thread).request
runs p script schedule t thread wf few fit e =
    let h = run_fits p wf schedule (opening p script) (opening_fits p script few fit) t thread e in
    (h, asks p t thread wf h)
