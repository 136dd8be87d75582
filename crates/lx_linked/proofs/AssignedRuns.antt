-- Whatever the schedule, the machine with other words comes to the same worlds.
use Rattle.std.proofs.Common.{◌≡◌, ℕ, zero, suc, ◌+◌, ◌*◌, ◌<◌, Bool, true, false, List, [], ◌∷◌, length, map, Option, Some, None, refl, sym, subst, ◌∙◌, ap}
use Rattle.std.specs.Prelude.{All, slice_get, slice_set}
use Rattle.std.proofs.lemmas.List.Elements.{All-head, All-tail}
use Rattle.lx_words.specs.Word.{Word}
use Rattle.lx_words.proofs.Tests.{false_true}
use Rattle.lx_words.proofs.Options.{none_some, some_same}
use Rattle.lx_words.proofs.Lists.{map_length}
use Rattle.lx_ir.specs.declared.module.Function.{Function}
use Rattle.lx_ir.specs.declared.module.Parameter.{Parameter}
use Rattle.lx_ir.specs.Layout.{width_of}
use Rattle.lx_model.specs.declared.program.Program.{Program}
use Rattle.lx_model.specs.declared.program.ScriptCall.{ScriptCall}
use Rattle.lx_model.specs.Fits.{widths, FitsFunction}
use Rattle.lx_model.specs.Program.{home_or_kernel, module_of, function_of, param_widths}
use Rattle.lx_model.specs.Thread.{Activation, Frame, Thread, fresh_thread, has_work}
use Rattle.lx_model.specs.Next.{Step, Goes, Asks, Asking, step, next, next_within, absorb}
use Rattle.lx_model.specs.Serve.{serve}
use Rattle.lx_model.specs.State.{State}
use Rattle.lx_model.specs.World.{World, event_if, event_of, event, opening, run}
use Rattle.lx_link_texts.specs.WellFormed.{FitsCall, FitsCalls}
use Rattle.lx_simulation.proofs.Walking.{no_ops}
use Rattle.lx_simulation.proofs.Counting.{widths_length}
use Rattle.lx_simulation.proofs.Frames.{AllVerified, sound_at}
use Rattle.lx_linked.specs.Filled.{Fill, filled, filled_within, filled_next, filled_absorb, after_filled, filled_event_if, filled_event_of, filled_event, filled_run}
use Rattle.lx_linked.specs.Alike.{ReadsNext, AlikeFrames, AlikeThreads, behind_steps, behind_filled, AlikeWorlds}
use Rattle.lx_linked.proofs.Standing.{held, next_same}
use Rattle.lx_linked.proofs.AssignedEffects.{StandsBy}
use Rattle.lx_linked.proofs.Signatures.{Linked, Takes}
use Rattle.lx_linked.proofs.Entering.{top_code, served_fits}
use Rattle.lx_linked.proofs.Frames.{with_all, thread_with, FramesStood, CallsFit, ThreadStood, AskedWell, as_many}
use Rattle.lx_linked.proofs.Stepping.{StepSame, step_same}
use Rattle.lx_linked.proofs.Replying.{absorbed_same}

-- up to the next request

abbrev asking_with : List (List Word) → Asking → Asking
asking_with rs a = record { thread = thread_with rs a.thread; request = a.request }

abbrev AskingSame : Program → Asking → Asking → Type 0
AskingSame p a b = (rs : List (List Word)) × (b ≡ asking_with rs a) × ThreadStood p a.thread rs × AskedWell p a.thread.frames a.request.what

abbrev filled_on : Fill → Program → ℕ → Thread → Step → Step
filled_on fill p t before i = elim i [ Goes further ↦ Goes (filled fill p t before further) | Asks further r ↦ Asks further r ]

abbrev asking_of : ℕ → Program → ℕ → Step → Asking
asking_of n p t i = elim i [ Goes further ↦ next_within n p t further | Asks further r ↦ record { thread = further; request = r } ]

abbrev filled_of : Fill → ℕ → Program → ℕ → Step → Asking
filled_of fill n p t i = elim i [ Goes further ↦ filled_within fill n p t further | Asks further r ↦ record { thread = further; request = r } ]

asking_by : (fill : Fill) (p : Program) (t n : ℕ) (before : Thread) (i k : Step) → StepSame fill p t before i k →
    ((thread : Thread) (qs : List (List Word)) → ThreadStood p thread qs → AskingSame p (next_within n p t thread) (filled_within fill n p t (thread_with qs thread))) →
    AskingSame p (asking_of n p t i) (filled_of fill n p t (filled_on fill p t before k))
asking_by fill p t n before (Goes x) k same ih =
    subst (λ (j : Step). AskingSame p (next_within n p t x) (filled_of fill n p t (filled_on fill p t before j))) (sym same.1)
    (subst (λ (y : Thread). AskingSame p (next_within n p t x) (filled_within fill n p t y)) (sym same.2.1) (ih x same.2.0 same.2.2))
asking_by fill p t n before (Asks x r) k same ih =
    subst (λ (j : Step). AskingSame p (record { thread = x; request = r }) (filled_of fill n p t (filled_on fill p t before j))) (sym same.1) (same.0, refl, same.2, same.3)

within_same : (fill : Fill) (p : Program) → Linked p → (t n : ℕ) (thread : Thread) (qs : List (List Word)) → ThreadStood p thread qs → AskingSame p (next_within n p t thread) (filled_within fill n p t (thread_with qs thread))
within_same fill p l t zero thread qs st = (qs, refl, st, tt)
within_same fill p l t (suc n) thread qs st = asking_by fill p t n (thread_with qs thread) (step p t thread) (step p t (thread_with qs thread)) (step_same fill p l t thread qs st) (within_same fill p l t n)

next_same_asking : (fill : Fill) (p : Program) → Linked p → (t : ℕ) (thread : Thread) (qs : List (List Word)) → ThreadStood p thread qs → AskingSame p (next p t thread) (filled_next fill p t (thread_with qs thread))
next_same_asking fill p l t thread qs st =
    subst (λ (n : ℕ). AskingSame p (next p t thread) (filled_within fill (2 * thread.fuel + n + 1) p t (thread_with qs thread))) (sym (as_many p thread.frames qs st.0))
    (within_same fill p l t (2 * thread.fuel + length thread.frames + 1) thread qs st)

-- worlds

abbrev pub ThreadSame : Program → Thread → Thread → Type 0
ThreadSame p x y = (qs : List (List Word)) × (y ≡ thread_with qs x) × ThreadStood p x qs

abbrev pub ThreadsSame : Program → List Thread → List Thread → Type 0
ThreadsSame p [] [] = Unit {0}
ThreadsSame p (x ∷ xs) (y ∷ ys) = ThreadSame p x y × ThreadsSame p xs ys
ThreadsSame p _ _ = ⊥

abbrev pub WorldSame : Program → World → World → Type 0
WorldSame p w v = (v.state ≡ w.state) × ThreadsSame p w.threads v.threads

abbrev GotSame : Program → Option Thread → Option Thread → Type 0
GotSame p None o = o ≡ None
GotSame p (Some x) o = (y : Thread) × (o ≡ Some y) × ThreadSame p x y

got_same : (p : Program) (xs ys : List Thread) (t : ℕ) → ThreadsSame p xs ys → GotSame p (slice_get xs t) (slice_get ys t)
got_same p [] [] t same = refl
got_same p [] (y ∷ ys) t same = absurd same
got_same p (x ∷ xs) [] t same = absurd same
got_same p (x ∷ xs) (y ∷ ys) zero same = (y, refl, same.0)
got_same p (x ∷ xs) (y ∷ ys) (suc t) same = got_same p xs ys t same.1

set_same : (p : Program) (xs ys : List Thread) (t : ℕ) (x y : Thread) → ThreadsSame p xs ys → ThreadSame p x y → ThreadsSame p (slice_set xs t x) (slice_set ys t y)
set_same p [] [] t x y same one = tt
set_same p [] (b ∷ ys) t x y same one = absurd same
set_same p (a ∷ xs) [] t x y same one = absurd same
set_same p (a ∷ xs) (b ∷ ys) zero x y same one = (one, same.1)
set_same p (a ∷ xs) (b ∷ ys) (suc t) x y same one = (same.0, set_same p xs ys t x y same.1 one)

lengths_same : (p : Program) (xs ys : List Thread) → ThreadsSame p xs ys → length ys ≡ length xs
lengths_same p [] [] same = refl
lengths_same p [] (y ∷ ys) same = absurd same
lengths_same p (x ∷ xs) [] same = absurd same
lengths_same p (x ∷ xs) (y ∷ ys) same = ap suc (lengths_same p xs ys same.1)

absorbed : (fill : Fill) (p : Program) → Linked p → (t : ℕ) (s : State) (a : Asking) (rs : List (List Word)) → ThreadStood p a.thread rs → AskedWell p a.thread.frames a.request.what →
    ThreadSame p (absorb p t a.thread a.request (serve p s t a.request).reply) (filled_absorb fill p t (thread_with rs a.thread) a.request (serve p s t a.request).reply)
absorbed fill p l t s a rs st asked =
    absorbed_same fill p l t a.thread.calls a.thread.ended a.thread.fuel a.thread.due a.thread.frames rs a.request.who a.request.what (serve p s t a.request).reply st.1 st.0 asked
    (served_fits p s (top_code a.thread.frames) t a.request.who a.request.what asked)

answered : (fill : Fill) (p : Program) → Linked p → (t : ℕ) (w v : World) (a b : Asking) (s : State) → s ≡ w.state → ThreadsSame p w.threads v.threads → AskingSame p a b →
    WorldSame p (record { state = (serve p w.state t a.request).state; threads = slice_set w.threads t (absorb p t a.thread a.request (serve p w.state t a.request).reply) }) (after_filled fill p t v b (serve p s t b.request))
answered fill p l t w v a b s e threads same =
    subst (λ (c : Asking). WorldSame p (record { state = (serve p w.state t a.request).state; threads = slice_set w.threads t (absorb p t a.thread a.request (serve p w.state t a.request).reply) }) (after_filled fill p t v c (serve p s t c.request))) (sym same.1)
    (subst (λ (x : State). WorldSame p (record { state = (serve p w.state t a.request).state; threads = slice_set w.threads t (absorb p t a.thread a.request (serve p w.state t a.request).reply) }) (after_filled fill p t v (asking_with same.0 a) (serve p x t a.request))) (sym e)
    (refl, set_same p w.threads v.threads t (absorb p t a.thread a.request (serve p w.state t a.request).reply) (filled_absorb fill p t (thread_with same.0 a.thread) a.request (serve p w.state t a.request).reply) threads (absorbed fill p l t w.state a same.0 same.2 same.3)))

event_by : (fill : Fill) (p : Program) → Linked p → (t : ℕ) (w v : World) (thread : Thread) (qs : List (List Word)) (works : Bool) → WorldSame p w v → ThreadStood p thread qs → WorldSame p (event_if works p t w thread) (filled_event_if works fill p t v (thread_with qs thread))
event_by fill p l t w v thread qs false same st = same
event_by fill p l t w v thread qs true same st = answered fill p l t w v (next p t thread) (filled_next fill p t (thread_with qs thread)) v.state same.0 same.1 (next_same_asking fill p l t thread qs st)

event_at : (fill : Fill) (p : Program) → Linked p → (t : ℕ) (w v : World) (x y : Option Thread) → WorldSame p w v → GotSame p x y → WorldSame p (event_of x p t w) (filled_event_of y fill p t v)
event_at fill p l t w v None y same got = subst (λ (o : Option Thread). WorldSame p w (filled_event_of o fill p t v)) (sym got) same
event_at fill p l t w v (Some thread) y same got =
    subst (λ (o : Option Thread). WorldSame p (event_of (Some thread) p t w) (filled_event_of o fill p t v)) (sym got.1)
    (subst (λ (z : Thread). WorldSame p (event_of (Some thread) p t w) (filled_event_of (Some z) fill p t v)) (sym got.2.1)
    (event_by fill p l t w v thread got.2.0 (has_work thread) same got.2.2))

event_same : (fill : Fill) (p : Program) → Linked p → (t : ℕ) (w v : World) → WorldSame p w v → WorldSame p (event p t w) (filled_event fill p t v)
event_same fill p l t w v same = event_at fill p l t w v (slice_get w.threads t) (slice_get v.threads t) same (got_same p w.threads v.threads t same.1)

run_same : (fill : Fill) (p : Program) → Linked p → (schedule : List ℕ) (w v : World) → WorldSame p w v → WorldSame p (run p schedule w) (filled_run fill p schedule v)
run_same fill p l [] w v same = same
run_same fill p l (t ∷ ts) w v same = run_same fill p l ts (event p t w) (filled_event fill p t v) (event_same fill p l t w v same)

-- the opening

call_takes : (p : Program) (n : ℕ) (args : List Word) → FitsFunction p n args → Takes p false (length args) n
call_takes p n args f g e = (
  sym (map_length (λ (w : Word). w.width) args)
      ∙ (widths_length (widths args) (param_widths f.0) f.2 ∙ (map_length (λ (x : Parameter). width_of x.ty) f.0.params ∙ ap (λ (x : Function). length x.params) (some_same (sym f.1 ∙ e)))),
  λ h. false_true h,
)

calls_fit : (p : Program) (calls : List ScriptCall) → All (FitsCall p) calls → CallsFit p calls
calls_fit p [] a = tt
calls_fit p (c ∷ cs) a = (call_takes p c.function c.args (All-head (FitsCall p) c cs a), calls_fit p cs (All-tail (FitsCall p) c cs a))

fresh_same : (p : Program) (script : List (List ScriptCall)) → FitsCalls p script → ThreadsSame p (map fresh_thread script) (map fresh_thread script)
fresh_same p [] a = tt
fresh_same p (calls ∷ script) a =
    (([], refl, (tt, calls_fit p calls (All-head (All (FitsCall p)) calls script a))), fresh_same p script (All-tail (All (FitsCall p)) calls script a))

-- what is alike

run_alike : (p : Program) → AllVerified p → (a : Activation) (qs : List Word) (f : Option Function) → function_of p a.function ≡ f → StandsBy f a qs → (r : ℕ) → ReadsNext a r → (r < length a.registers) × (held qs r ≡ held a.registers r)
run_alike p ver a qs None ef st r reads = no_ops (sym st.0 ∙ reads.2)
run_alike p ver a qs (Some g) ef st r reads = next_same (module_of p (home_or_kernel p a.function)) g (sound_at p ver a.function g ef) a qs st r reads

frames_alike : (p : Program) → AllVerified p → (fs : List Frame) (qs : List (List Word)) → FramesStood p fs qs → AlikeFrames fs (with_all qs fs)
frames_alike p ver [] [] st = tt
frames_alike p ver [] (q ∷ qs) st = absurd st
frames_alike p ver (f ∷ fs) [] st = absurd st
frames_alike p ver (f ∷ fs) (q ∷ qs) st = (refl, record { same = refl; reads = run_alike p ver f.run q (function_of p f.run.function) refl st.0 }, frames_alike p ver fs qs st.2)

thread_alike : (p : Program) → AllVerified p → (thread : Thread) (qs : List (List Word)) → ThreadStood p thread qs → AlikeThreads thread (thread_with qs thread)
thread_alike p ver thread qs st = record { same = refl; frames = frames_alike p ver thread.frames qs st.0 }

abbrev behind_of : ℕ → Program → ℕ → Thread → Step → Thread
behind_of n p t thread i = elim i [ Goes further ↦ behind_steps n p t further | Asks further r ↦ thread ]

abbrev behind_filled_of : Fill → ℕ → Program → ℕ → Thread → Step → Thread
behind_filled_of fill n p t thread i = elim i [ Goes further ↦ behind_filled fill n p t further | Asks further r ↦ thread ]

behind_by : (fill : Fill) (p : Program) → AllVerified p → (t n : ℕ) (thread : Thread) (qs : List (List Word)) (i k : Step) → ThreadStood p thread qs → StepSame fill p t (thread_with qs thread) i k →
    ((x : Thread) (rs : List (List Word)) → ThreadStood p x rs → AlikeThreads (behind_steps n p t x) (behind_filled fill n p t (thread_with rs x))) →
    AlikeThreads (behind_of n p t thread i) (behind_filled_of fill n p t (thread_with qs thread) (filled_on fill p t (thread_with qs thread) k))
behind_by fill p ver t n thread qs (Goes x) k st same ih =
    subst (λ (j : Step). AlikeThreads (behind_steps n p t x) (behind_filled_of fill n p t (thread_with qs thread) (filled_on fill p t (thread_with qs thread) j))) (sym same.1)
    (subst (λ (y : Thread). AlikeThreads (behind_steps n p t x) (behind_filled fill n p t y)) (sym same.2.1) (ih x same.2.0 same.2.2))
behind_by fill p ver t n thread qs (Asks x r) k st same ih =
    subst (λ (j : Step). AlikeThreads thread (behind_filled_of fill n p t (thread_with qs thread) (filled_on fill p t (thread_with qs thread) j))) (sym same.1) (thread_alike p ver thread qs st)

steps_alike : (fill : Fill) (p : Program) → Linked p → (t n : ℕ) (thread : Thread) (qs : List (List Word)) → ThreadStood p thread qs → AlikeThreads (behind_steps n p t thread) (behind_filled fill n p t (thread_with qs thread))
steps_alike fill p l t zero thread qs st = thread_alike p l.verified thread qs st
steps_alike fill p l t (suc n) thread qs st =
    behind_by fill p l.verified t n thread qs (step p t thread) (step p t (thread_with qs thread)) st (step_same fill p l t thread qs st) (steps_alike fill p l t n)

got_alike : (fill : Fill) (p : Program) → Linked p → (t n : ℕ) (x y : Option Thread) (thread other : Thread) → GotSame p x y → x ≡ Some thread → y ≡ Some other → AlikeThreads (behind_steps n p t thread) (behind_filled fill n p t other)
got_alike fill p l t n None y thread other got ex ey = none_some ex
got_alike fill p l t n (Some x) y thread other got ex ey =
    let here : other ≡ thread_with got.2.0 thread = some_same (sym ey ∙ got.1) ∙ (got.2.1 ∙ ap (thread_with got.2.0) (some_same ex)) in
    subst (λ (z : Thread). AlikeThreads (behind_steps n p t thread) (behind_filled fill n p t z)) (sym here)
    (steps_alike fill p l t n thread got.2.0 (subst (λ (z : Thread). ThreadStood p z got.2.0) (some_same ex) got.2.2))

worlds_alike : (fill : Fill) (p : Program) → Linked p → (w v : World) → WorldSame p w v → AlikeWorlds fill p w v
worlds_alike fill p l w v same =
    record {
      state = same.0;
      threads = lengths_same p w.threads v.threads same.1;
      steps = λ t n thread other ew ev. got_alike fill p l t n (slice_get w.threads t) (slice_get v.threads t) thread other (got_same p w.threads v.threads t same.1) ew ev;
    }

pub runs_alike : (p : Program) → Linked p → (script : List (List ScriptCall)) (schedule : List ℕ) → FitsCalls p script → (fill : Fill) → AlikeWorlds fill p (run p schedule (opening p script)) (filled_run fill p schedule (opening p script))
runs_alike p l script schedule fits fill =
    worlds_alike fill p l (run p schedule (opening p script)) (filled_run fill p schedule (opening p script)) (run_same fill p l schedule (opening p script) (opening p script) (refl, fresh_same p script fits))
