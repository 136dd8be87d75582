-- Runs of both machines are alike.
use Rattle.std.proofs.Common.{◌≡◌, ℕ, zero, suc, ◌+◌, ◌*◌, Bool, true, false, List, [], ◌∷◌, length, map, Option, Some, None, refl, sym, subst, ◌∙◌, ap}
use Rattle.std.specs.Prelude.{slice_get, slice_set}
use Rattle.lx_model.specs.declared.program.ScriptCall.{ScriptCall}
use Rattle.lx_model.specs.declared.request.Outcome.TheVariants.{Budget}
use Rattle.lx_model.specs.declared.request.Request.{Request}
use Rattle.lx_model.specs.Serve.{Served, serve}
use Rattle.lx_model.specs.Thread.{first_fuel, has_call}
use Rattle.lx_model.specs.Next.{finish}
use Rattle.lx_simulation.proofs.Counted.{Code, ImageThread as CountedThread, ImageStep as CountedStep, ImageAsking as CountedAsking, image_step as counted_step, image_next_within as counted_next_within, image_next as counted_next, image_absorb as counted_absorb}
use Rattle.lx_simulation.proofs.Counted.{Goes as CountedGoes, Asks as CountedAsks}
use Rattle.lx_simulation.proofs.CountedWorld.{ImageWorld as CountedWorld, image_event_if as counted_event_if, image_event_of as counted_event_of, image_event as counted_event, image_run as counted_run, image_opening as counted_opening, fresh_image_thread as fresh_counted_thread}
use Rattle.lx_images.specs.Image.{ImageThread, ImageStep, Goes, Asks, ImageAsking, image_step, image_next_within, image_next, image_absorb}
use Rattle.lx_images.specs.ImageWorld.{ImageWorld, image_event_if, image_event_of, image_event, image_run, image_opening, fresh_image_thread}
use Rattle.lx_images.specs.WrapperLines.{WrapsWell}
use Rattle.lx_simulation.proofs.Worded.{Worded, counted, lined, line_thread, Alike, AbsorbAlike, StepsAlike, AllAlike, WorldsAlike}
use Rattle.lx_simulation.proofs.WordedReplies.{made, finishes}
use Rattle.lx_simulation.proofs.WordedSteps.{steps_alike}

-- both come to the same request
abbrev pub AskingAlike : Code → CountedAsking → ImageAsking → Type 0
AskingAlike c a b = (b.request ≡ a.request) × AbsorbAlike c a.thread b.thread a.request

budget_alike : (c : Code) (v : CountedThread) (u : ImageThread) → Alike c v u → AbsorbAlike c v u (finish Budget)
budget_alike c v u a =
    subst (λ (y : ImageThread). AbsorbAlike c v y (finish Budget)) (sym a.reads)
    (subst (λ (y : CountedThread). AbsorbAlike c y (line_thread c a.both) (finish Budget)) (sym a.counts)
    (finishes c a.both.calls a.both.ended a.both.fuel a.both.due a.both.frames a.both.shadow Budget a.placed))

further : (n : ℕ) (c : Code) (i : CountedStep) (s : ImageStep) → StepsAlike c i s → ((v : CountedThread) (u : ImageThread) → Alike c v u → AskingAlike c (counted_next_within n c v) (image_next_within n c u)) →
    AskingAlike c
    (elim i [ CountedGoes w ↦ counted_next_within n c w | CountedAsks w r ↦ record { thread = w; request = r } ])
    (elim s [ Goes w ↦ image_next_within n c w | Asks w r ↦ record { thread = w; request = r } ])
further n c (CountedGoes v) (Goes u) a ih = ih v u a
further n c (CountedAsks v r) (Asks u s) a ih = (a.0, a.1)
further n c (CountedGoes v) (Asks u s) a ih = absurd a
further n c (CountedAsks v r) (Goes u) a ih = absurd a

next_within : (n : ℕ) (c : Code) → WrapsWell c → (v : CountedThread) (u : ImageThread) → Alike c v u → AskingAlike c (counted_next_within n c v) (image_next_within n c u)
next_within zero c h v u a = (refl, budget_alike c v u a)
next_within (suc n) c h v u a = further n c (counted_step c v) (image_step c u) (steps_alike c h v u a) (λ w y b. next_within n c h w y b)

many : (c : Code) (ws : List Worded) → length (map (lined c) ws) ≡ length (map counted ws)
many c [] = refl
many c (w ∷ ws) = ap suc (many c ws)

as_many : (c : Code) (v : CountedThread) (u : ImageThread) → Alike c v u → 2 * u.fuel + length u.frames + 1 ≡ 2 * v.fuel + length v.frames + 1
as_many c v u a =
    ap (λ (y : ImageThread). 2 * y.fuel + length y.frames + 1) a.reads
    ∙ (ap (λ (n : ℕ). 2 * a.both.fuel + n + 1) (many c a.both.frames) ∙ ap (λ (y : CountedThread). 2 * y.fuel + length y.frames + 1) (sym a.counts))

-- both come to the same request in as many steps
pub next_alike : (c : Code) → WrapsWell c → (v : CountedThread) (u : ImageThread) → Alike c v u → AskingAlike c (counted_next c v) (image_next c u)
next_alike c h v u a =
    subst (λ (n : ℕ). AskingAlike c (counted_next c v) (image_next_within n c u)) (sym (as_many c v u a)) (next_within (2 * v.fuel + length v.frames + 1) c h v u a)

-- worlds

set_alike : (c : Code) (vs : List CountedThread) (us : List ImageThread) (t : ℕ) (v : CountedThread) (u : ImageThread) → AllAlike c vs us → Alike c v u → AllAlike c (slice_set vs t v) (slice_set us t u)
set_alike c [] [] t v u all a = tt
set_alike c (x ∷ vs) (y ∷ us) zero v u all a = (a, all.1)
set_alike c (x ∷ vs) (y ∷ us) (suc t) v u all a = (all.0, set_alike c vs us t v u all.1 a)
set_alike c [] (y ∷ us) t v u all a = absurd all
set_alike c (x ∷ vs) [] t v u all a = absurd all

abbrev OneAlike : Code → Option CountedThread → Option ImageThread → Type 0
OneAlike c None None = Unit {0}
OneAlike c (Some v) (Some u) = Alike c v u
OneAlike c _ _ = ⊥

got_alike : (c : Code) (vs : List CountedThread) (us : List ImageThread) (t : ℕ) → AllAlike c vs us → OneAlike c (slice_get vs t) (slice_get us t)
got_alike c [] [] t all = tt
got_alike c (x ∷ vs) (y ∷ us) zero all = all.0
got_alike c (x ∷ vs) (y ∷ us) (suc t) all = got_alike c vs us t all.1
got_alike c [] (y ∷ us) t all = absurd all
got_alike c (x ∷ vs) [] t all = absurd all

same_calls : (c : Code) (v : CountedThread) (u : ImageThread) → Alike c v u → has_call u.calls ≡ has_call v.calls
same_calls c v u a = ap (λ (y : ImageThread). has_call y.calls) a.reads ∙ ap (λ (y : CountedThread). has_call y.calls) (sym a.counts)

event_if : (c : Code) → WrapsWell c → (t : ℕ) (x : CountedWorld) (y : ImageWorld) (v : CountedThread) (u : ImageThread) (b d : Bool) → d ≡ b → WorldsAlike c x y → Alike c v u →
    WorldsAlike c (counted_event_if b c t x v) (image_event_if d c t y u)
event_if c h t x y v u false false e ww a = ww
event_if c h t x y v u true false e ww a = cc
event_if c h t x y v u false true e ww a = cc
event_if c h t x y v u true true e ww a =
    let asks = next_alike c h v u a in
    let same : serve c.program y.state t (image_next c u).request ≡ serve c.program x.state t (counted_next c v).request = λ j. serve c.program (ww.state j) t (asks.0 j) in
    record {
      state = ap (λ (s : Served). s.state) same;
      threads = set_alike c x.threads y.threads t (counted_absorb c t (counted_next c v).thread (counted_next c v).request (serve c.program x.state t (counted_next c v).request).reply)
          (image_absorb c t (image_next c u).thread (image_next c u).request (serve c.program y.state t (image_next c u).request).reply) ww.threads
          (subst (λ (r : Request). Alike c (counted_absorb c t (counted_next c v).thread (counted_next c v).request (serve c.program x.state t (counted_next c v).request).reply) (image_absorb c t (image_next c u).thread r (serve c.program y.state t (image_next c u).request).reply)) (sym asks.0)
          (subst (λ (s : Served). Alike c (counted_absorb c t (counted_next c v).thread (counted_next c v).request (serve c.program x.state t (counted_next c v).request).reply) (image_absorb c t (image_next c u).thread (counted_next c v).request s.reply)) (sym same)
          (asks.1 t (serve c.program x.state t (counted_next c v).request).reply)));
    }

event_of : (c : Code) → WrapsWell c → (t : ℕ) (x : CountedWorld) (y : ImageWorld) (v : Option CountedThread) (u : Option ImageThread) → WorldsAlike c x y → OneAlike c v u →
    WorldsAlike c (counted_event_of v c t x) (image_event_of u c t y)
event_of c h t x y None None ww a = ww
event_of c h t x y (Some v) (Some u) ww a = event_if c h t x y v u (has_call v.calls) (has_call u.calls) (same_calls c v u a) ww a
event_of c h t x y None (Some u) ww a = absurd a
event_of c h t x y (Some v) None ww a = absurd a

pub event_alike : (c : Code) → WrapsWell c → (t : ℕ) (x : CountedWorld) (y : ImageWorld) → WorldsAlike c x y → WorldsAlike c (counted_event c t x) (image_event c t y)
event_alike c h t x y ww = event_of c h t x y (slice_get x.threads t) (slice_get y.threads t) ww (got_alike c x.threads y.threads t ww.threads)

pub run_alike : (c : Code) → WrapsWell c → (schedule : List ℕ) (x : CountedWorld) (y : ImageWorld) → WorldsAlike c x y → WorldsAlike c (counted_run c schedule x) (image_run c schedule y)
run_alike c h [] x y ww = ww
run_alike c h (t ∷ ts) x y ww = run_alike c h ts (counted_event c t x) (image_event c t y) (event_alike c h t x y ww)

fresh_alike : (c : Code) (script : List (List ScriptCall)) → AllAlike c (map fresh_counted_thread script) (map fresh_image_thread script)
fresh_alike c [] = tt
fresh_alike c (calls ∷ script) = (made c calls [] (first_fuel calls) None [] [] tt, fresh_alike c script)

pub opening_alike : (c : Code) (script : List (List ScriptCall)) → WorldsAlike c (counted_opening c script) (image_opening c script)
opening_alike c script = record { state = refl; threads = fresh_alike c script }
