-- Whatever the schedule, each function keeps the bytes that it has on the stack.
use Rattle.std.proofs.Common.{◌≡◌, ℕ, zero, suc, ◌+◌, ◌-◌, ◌<◌, ◌≤◌, Bool, true, false, List, [], ◌∷◌, Option, Some, None, ◌⊎◌, inl, inr, refl, arith, leb-true}
use Rattle.std.specs.Prelude.{Ok, Err}
use Rattle.lx_words.specs.Word.{Word}
use Rattle.lx_caps.specs.declared.Principal.{Principal}
use Rattle.lx_caps.specs.declared.Principal.TheVariants.{Kernel}
use Rattle.lx_caps.specs.declared.Cap.TheVariants as cap
use Rattle.lx_caps.specs.declared.Act.TheVariants.{Strip}
use Rattle.lx_caps.specs.Regions.{stack_start, stack_end}
use Rattle.lx_caps.specs.History.{History}
use Rattle.lx_annot.specs.Value.{Found}
use Rattle.lx_model.specs.declared.program.Program.{Program}
use Rattle.lx_model.specs.declared.program.ScriptCall.{ScriptCall}
use Rattle.lx_model.specs.declared.request.Outcome.{Outcome}
use Rattle.lx_model.specs.declared.request.Way.{Way}
use Rattle.lx_model.specs.declared.request.What.{What}
use Rattle.lx_model.specs.declared.request.What.TheVariants as what
use Rattle.lx_model.specs.declared.request.Request.{Request}
use Rattle.lx_model.specs.Program.{NativeCall, Alloc, Free, ZeroBytes, TryLock, NoteValue, AliasPrincipal, native_call}
use Rattle.lx_model.specs.Thread.{Thread, top_of_stack}
use Rattle.lx_model.specs.Next.{absorb, request}
use Rattle.lx_model.specs.State.{State}
use Rattle.lx_model.specs.Enter.{Running, entered_function, runs_as}
use Rattle.lx_model.specs.Decide.{decide}
use Rattle.lx_model.specs.Serve.{serve_by, serve, entering, entering_as, with_block, after_try_lock, after_native, grant_what}
use Rattle.lx_images.specs.Kept.{Kept, OnStack, AskKept, StepKept}
use Rattle.std.specs.Prelude.{map, length, slice_get, slice_set}
use Rattle.lx_words.proofs.Tests.{suc_same}
use Rattle.lx_caps.specs.Regions.{stack_size}
use Rattle.lx_model.specs.declared.request.Outcome.TheVariants.{Budget}
use Rattle.lx_model.specs.Thread.{fresh_thread, has_work}
use Rattle.lx_model.specs.Next.{Step, Goes, Asks, Asking, step, next_within, next}
use Rattle.lx_model.specs.World.{World, after_request, event_if, event_of, event, opening, run}
use Rattle.lx_simulation.proofs.CountedStands.{Each}
use Rattle.lx_images.specs.Kept.{WorldKept}
use Rattle.lx_simulation.proofs.Keeping.{served_kept, stacks_from, stacks_to}
use Rattle.lx_simulation.proofs.KeepingSteps.{step_kept}
use Rattle.lx_simulation.proofs.Runs.{each_get}
use Rattle.lx_simulation.proofs.Sparing.{Spares, spares_strip_above, spares_strip_below, spares_grant, perform_spares, same_history, ends_above, frames_spared}
use Rattle.lx_model.proofs.Passing.{passed}

-- up to the next request

abbrev AskingKept : Program → State → ℕ → Asking → Type 0
AskingKept p s t a = AskKept p s t a.thread a.request

asking_kept : (p : Program) (s : State) (t n : ℕ) (i : Step) → StepKept p s t i →
    ((thread : Thread) → Kept s.history t thread → AskingKept p s t (next_within n p t thread)) →
    AskingKept p s t (elim i [ Goes further ↦ next_within n p t further | Asks further r ↦ record { thread = further; request = r } ])
asking_kept p s t n (Goes thread) k ih = ih thread k
asking_kept p s t n (Asks thread r) k ih = k

pub within_kept : (p : Program) (s : State) (t n : ℕ) (thread : Thread) → t < 16 → Kept s.history t thread → AskingKept p s t (next_within n p t thread)
within_kept p s t zero thread low k = served_kept p s t thread.calls thread.ended thread.fuel thread.due thread.frames Kernel (what.Finish Budget) low k tt
within_kept p s t (suc n) thread low k = asking_kept p s t n (step p t thread) (step_kept p s t thread low k) (λ further h. within_kept p s t n further low h)

-- other threads

apart : (k t : ℕ) → (k ≡ t → ⊥) → (stack_end k ≤ stack_start t) ⊎ (stack_end t ≤ stack_start k)
apart k t ne = grind (arith, ne)

strip_apart : (k t at size : ℕ) (h : History) → (k ≡ t → ⊥) → stack_start t ≤ at → at + size ≤ stack_end t → Spares (stack_start k) (stack_end k) h (Strip (cap.Write at size) ∷ h)
strip_apart k t at size h ne l u =
    elim (apart k t ne) [
      | inl below ↦ spares_strip_above (stack_start k) (stack_end k) at size h (omega (arith, below, l))
      | inr above ↦ spares_strip_below (stack_start k) (stack_end k) at size h (omega (arith, above, u))
    ]

return_size : (low high end : ℕ) → low ≤ high → high ≤ end → low + (high - low) ≤ end
return_size low high end l u = omega (arith, l, u)

unchanged_block : (low high : ℕ) (s : State) (at size : ℕ) → Spares low high s.history (with_block at size s).history
unchanged_block low high s zero size = same_history low high s.history
unchanged_block low high s (suc n) size = same_history low high s.history

unchanged_lock : (low high : ℕ) (s : State) (at n : ℕ) → Spares low high s.history (after_try_lock s at n).state.history
unchanged_lock low high s at zero = same_history low high s.history
unchanged_lock low high s at (suc n) = same_history low high s.history

unchanged_native : (low high : ℕ) (s : State) (t : ℕ) (who : Principal) (n : NativeCall) (args : List Word) → Spares low high s.history (after_native s t who n args).state.history
unchanged_native low high s t who Alloc args = unchanged_block low high s _ _
unchanged_native low high s t who Free args = same_history low high s.history
unchanged_native low high s t who ZeroBytes args = λ q b l u o. o
unchanged_native low high s t who TryLock args = unchanged_lock low high s _ _
unchanged_native low high s t who NoteValue args = same_history low high s.history
unchanged_native low high s t who AliasPrincipal args = same_history low high s.history

unchanged_found : (low high : ℕ) (p : Program) (s : State) (who : Principal) (way : Way) (n : ℕ) (found : Found Running) → Spares low high s.history (entering_as p s who way n found).state.history
unchanged_found low high p s who way n (Err at) = same_history low high s.history
unchanged_found low high p s who way n (Ok r) = same_history low high s.history

unchanged_enter : (low high : ℕ) (p : Program) (s : State) (who : Principal) (way : Way) (args : List Word) (n : Option ℕ) → Spares low high s.history (entering p s who way args n).state.history
unchanged_enter low high p s who way args None = same_history low high s.history
unchanged_enter low high p s who way args (Some n) = unchanged_found low high p s who way n (runs_as p s who way n args)

others_granted : (k : ℕ) (p : Program) (s : State) (t : ℕ) (who : Principal) (w : What) → k < 16 → (k ≡ t → ⊥) → OnStack t w → decide p s t (request who w) ≡ None →
    Spares (stack_start k) (stack_end k) s.history (grant_what p s t who w).state.history
others_granted k p s t who (what.Alloca at size) low ne on e =
    spares_grant (stack_start k) (stack_end k) who (cap.Write at size) s.history (Strip (cap.Write at size) ∷ s.history)
    (strip_apart k t at size s.history ne on (leb-true _ _ (passed _ _ e)))
others_granted k p s t who (what.Return from to) low ne on e = strip_apart k t from (to - from) s.history ne on.0 (return_size from to (stack_end t) on.1 on.2)
others_granted k p s t who (what.Enter way args) low ne on e = unchanged_enter (stack_start k) (stack_end k) p s who way args (entered_function p s way)
others_granted k p s t who (what.Perform n post i env source dest) low ne on e =
    perform_spares (stack_start k) (stack_end k) p s t n post i env source dest (stacks_from k) (stacks_to k low)
others_granted k p s t who (what.Native n args) low ne on e = unchanged_native (stack_start k) (stack_end k) s t who (native_call n) args
others_granted k p s t who (what.Finish o) low ne on e = strip_apart k t (stack_start t) stack_size s.history ne (omega arith) (omega arith)
others_granted k p s t who w low ne on e = same_history (stack_start k) (stack_end k) s.history

others_by : (o : Option Outcome) (k : ℕ) (p : Program) (s : State) (t : ℕ) (who : Principal) (w : What) → k < 16 → (k ≡ t → ⊥) → OnStack t w → decide p s t (request who w) ≡ o →
    Spares (stack_start k) (stack_end k) s.history (serve_by o p s t (request who w)).state.history
others_by (Some o) k p s t who w low ne on e = strip_apart k t (stack_start t) stack_size s.history ne (omega arith) (omega arith)
others_by None k p s t who w low ne on e = others_granted k p s t who w low ne on e

-- what a thread asks for leaves the stacks of the others
pub others_spared : (k : ℕ) (p : Program) (s : State) (t : ℕ) (r : Request) → k < 16 → (k ≡ t → ⊥) → OnStack t r.what →
    Spares (stack_start k) (stack_end k) s.history (serve p s t r).state.history
others_spared k p s t r low ne on = others_by (decide p s t r) k p s t r.who r.what low ne on refl

lt_le : {a b c : ℕ} → a < b → b ≤ c → a < c
lt_le h k = omega (arith, h, k)

other_kept : (k : ℕ) (p : Program) (s : State) (t : ℕ) (r : Request) (thread : Thread) → k < 16 → (k ≡ t → ⊥) → OnStack t r.what → Kept s.history k thread → Kept (serve p s t r).state.history k thread
other_kept k p s t r thread low ne on kept =
    let top : top_of_stack k thread.frames ≤ stack_end k = ends_above s.history k thread.frames kept in
    frames_spared s.history (serve p s t r).state.history k thread.frames
    (λ q b l u o. others_spared k p s t r low ne on q b l (lt_le u top) o) kept

-- an event

each_weaker : (P Q : ℕ → Thread → Type 0) (xs : List Thread) → ((k : ℕ) (x : Thread) → P k x → Q k x) → Each P xs → Each Q xs
each_weaker P Q [] h w = tt
each_weaker P Q (x ∷ xs) h w = (h 0 x w.0, each_weaker (λ k. P (suc k)) (λ k. Q (suc k)) xs (λ k. h (suc k)) w.1)

zero_suc : (k : ℕ) → zero ≡ suc k → ⊥
zero_suc k e = omega (arith, e)

suc_zero : (k : ℕ) → suc k ≡ zero → ⊥
suc_zero k e = omega (arith, e)

each_change : (P Q : ℕ → Thread → Type 0) (xs : List Thread) (t : ℕ) (y : Thread) → ((k : ℕ) → (k ≡ t → ⊥) → (x : Thread) → P k x → Q k x) → Q t y → Each P xs → Each Q (slice_set xs t y)
each_change P Q [] t y h q w = tt
each_change P Q (x ∷ xs) zero y h q w = (q, each_weaker (λ k. P (suc k)) (λ k. Q (suc k)) xs (λ k. h (suc k) (suc_zero k)) w.1)
each_change P Q (x ∷ xs) (suc t) y h q w =
    (h 0 (zero_suc t) x w.0, each_change (λ k. P (suc k)) (λ k. Q (suc k)) xs t y (λ k ne. h (suc k) (λ e. ne (suc_same k t e))) q w.1)

abbrev Seated : History → ℕ → Thread → Type 0
Seated h t thread = (t < 16) × Kept h t thread

asked_world : (p : Program) (t : ℕ) (w : World) (a : Asking) → t < 16 → WorldKept w → AskingKept p w.state t a → WorldKept (after_request p t w a)
asked_world p t w a low kept k =
    each_change (Seated w.state.history) (Seated (serve p w.state t a.request).state.history) w.threads t (absorb p t a.thread a.request (serve p w.state t a.request).reply)
    (λ i ne x h. (h.0, other_kept i p w.state t a.request x h.0 ne k.1 h.1)) (low, k.0) kept

event_by : (p : Program) (t : ℕ) (w : World) (thread : Thread) (works : Bool) → WorldKept w → (t < 16) × Kept w.state.history t thread → WorldKept (event_if works p t w thread)
event_by p t w thread false kept k = kept
event_by p t w thread true kept k = asked_world p t w (next p t thread) k.0 kept (within_kept p w.state t _ thread k.0 k.1)

event_at : (p : Program) (t : ℕ) (w : World) (thread : Option Thread) → WorldKept w → slice_get w.threads t ≡ thread → WorldKept (event_of thread p t w)
event_at p t w None kept e = kept
event_at p t w (Some thread) kept e = event_by p t w thread (has_work thread) kept (each_get (Seated w.state.history) w.threads t thread kept e)

pub event_kept : (p : Program) (t : ℕ) (w : World) → WorldKept w → WorldKept (event p t w)
event_kept p t w kept = event_at p t w (slice_get w.threads t) kept refl

-- a run

run_from : (p : Program) (schedule : List ℕ) (w : World) → WorldKept w → WorldKept (run p schedule w)
run_from p [] w kept = kept
run_from p (t ∷ ts) w kept = run_from p ts (event p t w) (event_kept p t w kept)

no_room : (calls : List ScriptCall) (script : List (List ScriptCall)) → length (calls ∷ script) ≤ 0 → ⊥
no_room calls script l = grind (arith, l)

one_less : (calls : List ScriptCall) (script : List (List ScriptCall)) (n : ℕ) → length (calls ∷ script) ≤ suc n → length script ≤ n
one_less calls script n l = grind (arith, l)

pub fresh_kept : (P : ℕ → Thread → Type 0) (script : List (List ScriptCall)) (n : ℕ) → length script ≤ n → ((k : ℕ) → k < n → (calls : List ScriptCall) → P k (fresh_thread calls)) → Each P (map fresh_thread script)
fresh_kept P [] n l h = tt
fresh_kept P (calls ∷ script) zero l h = absurd (no_room calls script l)
fresh_kept P (calls ∷ script) (suc n) l h = (h 0 (omega arith) calls, fresh_kept (λ k. P (suc k)) script n (one_less calls script n l) (λ k b. h (suc k) (omega (arith, b))))

pub run_kept : (p : Program) (script : List (List ScriptCall)) (schedule : List ℕ) → length script ≤ 16 → WorldKept (run p schedule (opening p script))
run_kept p script schedule l = run_from p schedule (opening p script) (fresh_kept (Seated (opening p script).state.history) script 16 l (λ k b calls. (b, tt)))
