-- Whatever the schedule, the world of accepted images stands for the monitor's, though spared stores lack their guards.
use Rattle.std.proofs.Common.{◌≡◌, ℕ, zero, suc, ◌<◌, ◌≤◌, Bool, true, false, List, [], ◌∷◌, length, map, Option, Some, None, Ok, Err, refl, sym, subst, ◌∙◌, ap}
use Rattle.std.specs.Prelude.{All, slice_get}
use Rattle.std.proofs.lemmas.List.Elements.{All-head, All-tail}
use Rattle.lx_words.specs.Word.{Word}
use Rattle.lx_words.proofs.Options.{none_some, some_same}
use Rattle.lx_words.proofs.Lists.{map_length}
use Rattle.lx_caps.specs.declared.Principal.{Principal}
use Rattle.lx_caps.specs.History.{History}
use Rattle.lx_caps.specs.Laws.{HistoryLaws}
use Rattle.lx_caps.specs.LoanLaws.{LoanLaws}
use Rattle.lx_annot.specs.Value.{Found}
use Rattle.lx_ir.specs.declared.module.Function.{Function}
use Rattle.lx_ir.specs.declared.module.Parameter.{Parameter}
use Rattle.lx_ir.specs.Layout.{width_of}
use Rattle.lx_model.specs.declared.program.Program.{Program}
use Rattle.lx_model.specs.declared.program.ScriptCall.{ScriptCall}
use Rattle.lx_model.specs.declared.request.Outcome.{Outcome}
use Rattle.lx_model.specs.declared.request.Way.{Way}
use Rattle.lx_model.specs.declared.request.What.{What}
use Rattle.lx_model.specs.declared.request.What.TheVariants as what
use Rattle.lx_model.specs.declared.request.Reply.TheVariants.{Ended}
use Rattle.lx_model.specs.declared.request.Request.{Request}
use Rattle.lx_model.specs.Program.{Home, home_or_kernel, function_of, param_widths}
use Rattle.lx_model.specs.Fits.{widths, FitsFunction}
use Rattle.lx_model.specs.Laws.{ModelLaws}
use Rattle.lx_model.specs.State.{State}
use Rattle.lx_model.specs.Thread.{Activation, Stage, Pre, Body, Post, Crossing, Frame, Thread, fresh_thread, has_work}
use Rattle.lx_model.specs.Effect.{text_of, types_of}
use Rattle.lx_ir.specs.declared.instr.Instr.{Instr}
use Rattle.lx_ir.specs.declared.instr.Op.TheVariants as op
use Rattle.lx_ir.specs.IrType.{IrType}
use Rattle.lx_ir.specs.Lookup.{instrs_of}
use Rattle.lx_model.specs.Next.{Step, Goes, Asks, Asking, step, next, next_within, absorb, request}
use Rattle.lx_model.specs.Enter.{Running, entered_function, runs_as}
use Rattle.lx_model.specs.Decide.{decide}
use Rattle.lx_model.specs.Serve.{serve, serve_by, grant_what, entering, entering_as}
use Rattle.lx_model.specs.World.{World, event_if, event_of, event, opening, run}
use Rattle.lx_simulation.proofs.Counted.{Code}
use Rattle.lx_simulation.proofs.CountedWorld.{ImageWorld, image_event, image_opening, image_run}
use Rattle.lx_images.specs.Guarded.{Accepted, SlotCalls}
use Rattle.lx_simulation.proofs.CountedStands.{Each, Well, WorldWell, StandsFor, StoresHeld}
use Rattle.lx_images.specs.Kept.{Kept, WorldKept, AskKept}
use Rattle.lx_images.specs.Places.{PlacesKept, AllPlaces, WorldPlaces, IsLiveAt, IsLive, IsIn, PlaceKept}
use Rattle.lx_images.specs.Fitting.{ScriptFits}
use Rattle.lx_simulation.proofs.Counting.{CountFits, count_in, widths_length, entry_counts}
use Rattle.lx_simulation.proofs.Frames.{AllVerified, AskedWell, CallsFit, StoodBy, StoodIn, StageStood, TopStood, WaitStood, FramesStood, ThreadStood, StepStood, step_stood, ReplyFits, taken_stood}
use Rattle.lx_simulation.proofs.Walking.{is_assigned, Registered, RegisteredIn, place_kept}
use Rattle.lx_simulation.proofs.Held.{store_held}
use Rattle.lx_simulation.proofs.KeepingRuns.{within_kept, event_kept, fresh_kept}
use Rattle.lx_simulation.proofs.Runs.{each_get, each_set, event_agrees, fresh_well, opening_stands}

-- what is replied fits what was asked

ended_fits : (p : Program) (w : What) (o : Outcome) → ReplyFits p w (Ended o)
ended_fits p (what.Enter way args) o = tt
ended_fits p (what.Finish e) o = tt
ended_fits p w o = tt

found_fits : (p : Program) (s : State) (who : Principal) (way : Way) (args : List Word) (n : ℕ) (found : Found Running) → CountFits p n args → ReplyFits p (what.Enter way args) (entering_as p s who way n found).reply
found_fits p s who way args n (Err at) count = tt
found_fits p s who way args n (Ok r) count = count

entering_fits : (p : Program) (s : State) (who : Principal) (way : Way) (args : List Word) (n : Option ℕ) → ((k : ℕ) → n ≡ Some k → CountFits p k args) → ReplyFits p (what.Enter way args) (entering p s who way args n).reply
entering_fits p s who way args None count = tt
entering_fits p s who way args (Some n) count = found_fits p s who way args n (runs_as p s who way n args) (count n refl)

granted_fits : (p : Program) (s : State) (t : ℕ) (who : Principal) (gs : List Frame) (w : What) → AskedWell p gs w → decide p s t (request who w) ≡ None → ReplyFits p w (grant_what p s t who w).reply
granted_fits p s t who gs (what.Enter way args) asked e = entering_fits p s who way args (entered_function p s way) (λ k ek. entry_counts p s who way args k asked.0 e ek)
granted_fits p s t who gs (what.Finish o) asked e = tt
granted_fits p s t who gs w asked e = tt

by_fits : (o : Option Outcome) (p : Program) (s : State) (t : ℕ) (who : Principal) (gs : List Frame) (w : What) → AskedWell p gs w → decide p s t (request who w) ≡ o → ReplyFits p w (serve_by o p s t (request who w)).reply
by_fits (Some o) p s t who gs w asked e = ended_fits p w o
by_fits None p s t who gs w asked e = granted_fits p s t who gs w asked e

-- a request that is served and taken in
served_stood : (p : Program) → AllVerified p → (s : State) (t : ℕ) (thread : Thread) (r : Request) → ThreadStood p thread → AskedWell p thread.frames r.what → ThreadStood p (absorb p t thread r (serve p s t r).reply)
served_stood p ver s t thread r st asked =
    taken_stood p ver t thread.calls thread.ended thread.fuel thread.due thread.frames r.who r.what (serve p s t r).reply st.1 asked (by_fits (decide p s t r) p s t r.who thread.frames r.what asked refl)

-- up to the next request

abbrev AskingStood : Program → Asking → Type 0
AskingStood p a = ThreadStood p a.thread × AskedWell p a.thread.frames a.request.what

asking_stood : (p : Program) (t n : ℕ) (i : Step) → StepStood p i → ((thread : Thread) → ThreadStood p thread → AskingStood p (next_within n p t thread)) →
    AskingStood p (elim i [ Goes further ↦ next_within n p t further | Asks further r ↦ record { thread = further; request = r } ])
asking_stood p t n (Goes thread) st ih = ih thread st
asking_stood p t n (Asks thread r) st ih = st

within_stood : (p : Program) → AllVerified p → SlotCalls p → (t n : ℕ) (thread : Thread) → ThreadStood p thread → AskingStood p (next_within n p t thread)
within_stood p ver slots t zero thread st = (st, tt)
within_stood p ver slots t (suc n) thread st = asking_stood p t n (step p t thread) (step_stood p ver slots t thread st) (within_stood p ver slots t n)

next_stood : (p : Program) → AllVerified p → SlotCalls p → (t : ℕ) (thread : Thread) → ThreadStood p thread → AskingStood p (next p t thread)
next_stood p ver slots t thread st = within_stood p ver slots t _ thread st

-- an event

abbrev pub WorldStood : Program → World → Type 0
WorldStood p w = Each (λ t thread. ThreadStood p thread) w.threads

event_by : (p : Program) → AllVerified p → SlotCalls p → (t : ℕ) (w : World) (thread : Thread) (works : Bool) → WorldStood p w → ThreadStood p thread → WorldStood p (event_if works p t w thread)
event_by p ver slots t w thread false stood st = stood
event_by p ver slots t w thread true stood st =
    let a : Asking = next p t thread in
    let asked : AskingStood p a = next_stood p ver slots t thread st in
    each_set (λ t thread. ThreadStood p thread) w.threads t (absorb p t a.thread a.request (serve p w.state t a.request).reply) stood (served_stood p ver w.state t a.thread a.request asked.0 asked.1)

event_at : (p : Program) → AllVerified p → SlotCalls p → (t : ℕ) (w : World) (thread : Option Thread) → WorldStood p w → slice_get w.threads t ≡ thread → WorldStood p (event_of thread p t w)
event_at p ver slots t w None stood e = stood
event_at p ver slots t w (Some thread) stood e = event_by p ver slots t w thread (has_work thread) stood (each_get (λ t thread. ThreadStood p thread) w.threads t thread stood e)

event_stood : (p : Program) → AllVerified p → SlotCalls p → (t : ℕ) (w : World) → WorldStood p w → WorldStood p (event p t w)
event_stood p ver slots t w stood = event_at p ver slots t w (slice_get w.threads t) stood refl

-- so each bare store is held

abbrev Seat : History → ℕ → Thread → Type 0
Seat h t thread = (t < 16) × Kept h t thread

stores_held : HistoryLaws → LoanLaws → (c : Code) → Accepted c → (w : World) → WorldKept w → WorldStood c.program w → StoresHeld c w
stores_held laws loans c acc w kept stood t thread got =
    let k : Seat w.state.history t thread = each_get (Seat w.state.history) w.threads t thread kept got in
    let a : AskKept c.program w.state t (next c.program t thread).thread (next c.program t thread).request = within_kept c.program w.state t _ thread k.0 k.1 in
    store_held laws loans c acc w.state.history t (next c.program t thread).thread k.0 a.2 (next_stood c.program acc.verified acc.slots t thread (each_get (λ t thread. ThreadStood c.program thread) w.threads t thread stood got)).0

-- a run

abbrev pub RunsOn : Code → World → ImageWorld → Type 0
RunsOn c w v = WorldWell c.program w × WorldKept w × WorldStood c.program w × StandsFor c w v

goes_on : ModelLaws → HistoryLaws → LoanLaws → (c : Code) → Accepted c → (t : ℕ) (w : World) (v : ImageWorld) → RunsOn c w v → RunsOn c (event c.program t w) (image_event c t v)
goes_on laws owners loans c acc t w v r =
    let e = event_agrees laws c acc t w v r.0 r.3 (stores_held owners loans c acc w r.1 r.2) in
    (e.0, event_kept c.program t w r.1, event_stood c.program acc.verified acc.slots t w r.2, e.1)

run_on : ModelLaws → HistoryLaws → LoanLaws → (c : Code) → Accepted c → (schedule : List ℕ) (w : World) (v : ImageWorld) → RunsOn c w v → RunsOn c (run c.program schedule w) (image_run c schedule v)
run_on laws owners loans c acc [] w v r = r
run_on laws owners loans c acc (t ∷ ts) w v r = run_on laws owners loans c acc ts (event c.program t w) (image_event c t v) (goes_on laws owners loans c acc t w v r)

-- the opening

call_fits : (p : Program) (n : ℕ) (args : List Word) → FitsFunction p n args → CountFits p n args
call_fits p n args f g e =
    count_in (home_or_kernel p n) g args
    (sym (map_length (λ (w : Word). w.width) args)
    ∙ (widths_length (widths args) (param_widths f.0) f.2 ∙ (map_length (λ (x : Parameter). width_of x.ty) f.0.params ∙ ap (λ (x : Function). length x.params) (some_same (sym f.1 ∙ e)))))

calls_fit : (p : Program) (calls : List ScriptCall) → All (λ (c : ScriptCall). FitsFunction p c.function c.args) calls → CallsFit p calls
calls_fit p [] a = tt
calls_fit p (c ∷ cs) a =
    (call_fits p c.function c.args (All-head (λ (c : ScriptCall). FitsFunction p c.function c.args) c cs a), calls_fit p cs (All-tail (λ (c : ScriptCall). FitsFunction p c.function c.args) c cs a))

fresh_stood : (p : Program) (script : List (List ScriptCall)) → ScriptFits p script → Each (λ t thread. ThreadStood p thread) (map fresh_thread script)
fresh_stood p [] a = tt
fresh_stood p (calls ∷ script) a =
    ((tt, calls_fit p calls (All-head (All (λ (c : ScriptCall). FitsFunction p c.function c.args)) calls script a)), fresh_stood p script (All-tail (All (λ (c : ScriptCall). FitsFunction p c.function c.args)) calls script a))

opens : (c : Code) (script : List (List ScriptCall)) → length script ≤ 16 → ScriptFits c.program script → RunsOn c (opening c.program script) (image_opening c script)
opens c script few fits = (
  fresh_well (Well c.program) script (λ k calls. tt),
  fresh_kept (Seat (opening c.program script).state.history) script 16 few (λ k b calls. (b, tt)),
  fresh_stood c.program script fits,
  opening_stands c script,
)

pub runs_on : ModelLaws → HistoryLaws → LoanLaws → (c : Code) → Accepted c → (script : List (List ScriptCall)) (schedule : List ℕ) → length script ≤ 16 → ScriptFits c.program script →
    RunsOn c (run c.program schedule (opening c.program script)) (image_run c schedule (image_opening c script))
runs_on laws owners loans c acc script schedule few fits =
    run_on laws owners loans c acc schedule (opening c.program script) (image_opening c script) (opens c script few fits)

pub run_stands : ModelLaws → HistoryLaws → LoanLaws → (c : Code) → Accepted c → (script : List (List ScriptCall)) (schedule : List ℕ) → length script ≤ 16 → ScriptFits c.program script →
    StandsFor c (run c.program schedule (opening c.program script)) (image_run c schedule (image_opening c script))
run_stands laws owners loans c acc script schedule few fits = (runs_on laws owners loans c acc script schedule few fits).3

-- the registers of allocas

live_stage : (p : Program) (a : Activation) (s : Stage) → IsLiveAt s → StageStood p a s → StoodIn p a
live_stage p a (Pre k) l st = st
live_stage p a Body l st = st
live_stage p a (Post k v) l st = absurd l

live_top : (p : Program) (a : Activation) (x : Option Crossing) → IsLive x → TopStood p a x → StoodIn p a
live_top p a None l st = st
live_top p a (Some c) l st = live_stage p a c.stage l st

place_by : (p : Program) (a : Activation) (m : ℕ) (g : Function) (i : Instr) (r : ℕ) (ty : IrType) (f : Option Function) → f ≡ Some g → text_of p a ≡ Some m → IsIn i (instrs_of g) → i.op ≡ op.Alloca r ty →
    StoodBy (text_of p a) (types_of p a) f a → PlaceKept (types_of p a) a r ty
place_by p a m g i r ty None ef et at ei st = none_some ef
place_by p a m g i r ty (Some k) ef et at ei st =
    let reg : Registered (types_of p a) k a st.walk st.block st.place = subst (λ (x : Home). RegisteredIn x (types_of p a) k a st.walk st.block st.place) et st.registered in
    place_kept (is_assigned k st.walk st.block st.place r) (types_of p a) a r ty (reg.1 i r ty (subst (λ (x : Function). IsIn i (instrs_of x)) (sym (some_same ef)) at) ei)

frame_places : (p : Program) (f : Frame) → (IsLive f.crossing → StoodIn p f.run) → PlacesKept p f
frame_places p f st m g i r ty live et ef at ei = place_by p f.run m g i r ty (function_of p f.run.function) ef et at ei (st live)

waiting_places : (p : Program) (fs : List Frame) → WaitStood p fs → AllPlaces p fs
waiting_places p [] st = tt
waiting_places p (f ∷ fs) st = (frame_places p f (λ live. st.0), waiting_places p fs st.2)

all_places : (p : Program) (fs : List Frame) → FramesStood p fs → AllPlaces p fs
all_places p [] st = tt
all_places p (f ∷ fs) st = (frame_places p f (λ live. live_top p f.run f.crossing live st.0), waiting_places p fs st.1)

each_places : (p : Program) (threads : List Thread) → Each (λ t thread. ThreadStood p thread) threads → Each (λ t thread. AllPlaces p thread.frames) threads
each_places p [] st = tt
each_places p (x ∷ xs) st = (all_places p x.frames st.0.0, each_places p xs st.1)

run_stood : (p : Program) → AllVerified p → SlotCalls p → (schedule : List ℕ) (w : World) → WorldStood p w → WorldStood p (run p schedule w)
run_stood p ver slots [] w st = st
run_stood p ver slots (t ∷ ts) w st = run_stood p ver slots ts (event p t w) (event_stood p ver slots t w st)

pub threads_stood : (p : Program) → AllVerified p → SlotCalls p → (script : List (List ScriptCall)) (schedule : List ℕ) → ScriptFits p script → WorldStood p (run p schedule (opening p script))
threads_stood p ver slots script schedule fits = run_stood p ver slots schedule (opening p script) (fresh_stood p script fits)

pub run_places : (p : Program) → AllVerified p → SlotCalls p → (script : List (List ScriptCall)) (schedule : List ℕ) → ScriptFits p script → WorldPlaces p (run p schedule (opening p script))
run_places p ver slots script schedule fits = each_places p (run p schedule (opening p script)).threads (threads_stood p ver slots script schedule fits)
