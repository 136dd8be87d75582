-- The worlds that a run reaches, and what their events are.
use Rattle.std.proofs.Common.{◌≡◌, ◌≢◌, ℕ, ◌≤◌, ◌<◌, Bool, true, false, not, ◌&&◌, Option, Some, None, option_map, List, [], ◌∷◌, length, map, slice_get, slice_set, refl, sym, ap, subst, ◌∙◌, arith}
use Rattle.std.proofs.lemmas.Bool.{and_parts, true≢false, not-true}
use Rattle.std.proofs.lemmas.List.{length-map}
use Rattle.std.proofs.lemmas.Option.{slice_get-map, slice_get_within}
use Rattle.lx_words.proofs.Tests.{not_and}
use Rattle.lx_caps.specs.declared.Principal.{Principal}
use Rattle.lx_caps.specs.declared.Principal.TheVariants.{Kernel}
use Rattle.lx_caps.specs.History.{History}
use Rattle.lx_caps.specs.OwnerLaws.{OwnerLaws}
use Rattle.lx_caps.specs.Placed.{AllPlaced}
use Rattle.lx_model.specs.declared.program.Program.{Program}
use Rattle.lx_model.specs.declared.program.ScriptCall.{ScriptCall}
use Rattle.lx_model.specs.declared.request.Way.{Way}
use Rattle.lx_model.specs.declared.request.Way.TheVariants.{Script, Direct, Indirect, Slot}
use Rattle.lx_model.specs.declared.request.What.{What}
use Rattle.lx_model.specs.declared.request.What.TheVariants as what
use Rattle.lx_model.specs.Authority.{is_module}
use Rattle.lx_model.specs.Next.{next, absorb}
use Rattle.lx_model.specs.Opening.{opening_history}
use Rattle.lx_model.specs.Plain.{forget_thread, forget_world, plain_event, plain_event_of, plain_event_if, plain_run}
use Rattle.lx_model.specs.PlainLaws.{PlainLaws, HoldsInMemory, NamesKernel, NamesKernelBy, is_refusal}
use Rattle.lx_model.specs.Serve.{serve}
use Rattle.lx_model.specs.Thread.{Thread, fresh_thread, has_work}
use Rattle.lx_model.specs.World.{World, event, event_of, event_if, opening, run}
use Rattle.lx_run_laws.specs.RequestLaws.{RequestLaws}
use Rattle.lx_run_laws.specs.OnStack.{AreOnStack}
use Rattle.lx_run_laws.specs.Servable.{is_servable, is_servable_way, is_servable_what}
use Rattle.lx_run_laws.specs.PlainRuns.{refuses, is_refused_event, IsPlain, ArePlain, is_unrefused, IsPlainRun}
use Rattle.lx_run_laws.proofs.Placed.{served_placed}
use Rattle.lx_run_laws.proofs.Replaced.{set_all, set_back, set_length}
use Rattle.lx_run_laws.proofs.Endings.{IsCalm, turn_calm, threads_calm}
use Rattle.lx_model.proofs.Threads.{set_here}

-- at most 16 threads keep to their stacks, and what is granted, stripped and zeroed lies in memory
pub record Reached (w : World) : Type 0 where
  pub placed : AllPlaced w.state.history
  pub few : length w.threads ≤ 16
  pub stacks : (t : ℕ) (x : Thread) → slice_get w.threads t ≡ Some x → AreOnStack t x.frames

fresh_on : (t : ℕ) (o : Option (List ScriptCall)) (x : Thread) → option_map fresh_thread o ≡ Some x → AreOnStack t x.frames
fresh_on t None x e = absurd (cc)
fresh_on t (Some c) x e = subst (λ (y : Thread). AreOnStack t y.frames) (same (fresh_thread c) x e) tt where
  same : (y z : Thread) → Some y ≡ Some z → y ≡ z
  same y z e = cc

pub opening_reached : (p : Program) (script : List (List ScriptCall)) → length script ≤ 16 → AllPlaced (opening_history p) → Reached (opening p script)
opening_reached p script few placed = record {
  placed = placed;
  few = let same : length (map fresh_thread script) ≡ length script = length-map script fresh_thread in omega (arith, same, few);
  stacks = λ t x at. fresh_on t (slice_get script t) x (sym (slice_get-map fresh_thread script t) ∙ at);
}

some_thread : (w : World) (t : ℕ) (x : Thread) → Reached w → slice_get w.threads t ≡ Some x → t < 16
some_thread w t x reached at = let below : t < length w.threads = slice_get_within w.threads t x at in omega (arith, below, reached.few)

servable : (laws : RequestLaws) (p : Program) (t : ℕ) (w : World) (x : Thread) → Reached w → slice_get w.threads t ≡ Some x → is_servable p t (next p t x).request ≡ true
servable laws p t w x reached at = laws.asks p t x (some_thread w t x reached at) (reached.stacks t x at)

event_if_reached : (laws : RequestLaws) (p : Program) (t : ℕ) (w : World) (x : Thread) (b : Bool) → slice_get w.threads t ≡ Some x → Reached w → Reached (event_if b p t w x)
event_if_reached laws p t w x false at reached = reached
event_if_reached laws p t w x true at reached =
    let y : Thread = absorb p t (next p t x).thread (next p t x).request (serve p w.state t (next p t x).request).reply in
    record {
      placed = served_placed p w.state t (next p t x).request reached.placed (servable laws p t w x reached at);
      few = let same : length (slice_set w.threads t y) ≡ length w.threads = set_length w.threads t y in omega (arith, same, reached.few);
      stacks = set_all (λ u (z : Thread). AreOnStack u z.frames) w.threads t y reached.stacks (laws.stays p w.state t x (reached.stacks t x at));
    }

event_of_reached : (laws : RequestLaws) (p : Program) (t : ℕ) (w : World) (o : Option Thread) → slice_get w.threads t ≡ o → Reached w → Reached (event_of o p t w)
event_of_reached laws p t w None at reached = reached
event_of_reached laws p t w (Some x) at reached = event_if_reached laws p t w x (has_work x) at reached

event_reached : (laws : RequestLaws) (p : Program) (t : ℕ) (w : World) → Reached w → Reached (event p t w)
event_reached laws p t w reached = event_of_reached laws p t w (slice_get w.threads t) refl reached

pub run_reached : (laws : RequestLaws) (p : Program) (s : List ℕ) (w : World) → Reached w → Reached (run p s w)
run_reached laws p [] w reached = reached
run_reached laws p (t ∷ ts) w reached = run_reached laws p ts (event p t w) (event_reached laws p t w reached)

-- what the law of one event asks for

not_kernel : (who : Principal) → is_module who ≡ true → who ≢ Kernel
not_kernel who is same = true≢false (sym is ∙ ap is_module same)

in_memory : (owners : OwnerLaws) (h : History) → AllPlaced h → HoldsInMemory h
in_memory owners h placed who at size is held = owners.held_in_memory h who at size placed (not_kernel who is) held

named_by : (p : Program) (way : Way) → is_servable_way p way ≡ true → NamesKernelBy p way
named_by p (Script n) is = tt
named_by p (Direct n) is = is
named_by p (Indirect a) is = tt
named_by p (Slot slot ty) is = tt

named : (p : Program) (t : ℕ) (w : What) → is_servable_what p t w ≡ true → NamesKernel p w
named p t (what.Load at width) is = tt
named p t (what.Store at w) is = tt
named p t (what.Copy to from len) is = tt
named p t (what.Fill to byte len) is = tt
named p t (what.Alloca at size) is = tt
named p t (what.Enter way args) is = named_by p way is
named p t (what.Perform n post k env source dest) is = tt
named p t (what.Return low high) is = tt
named p t (what.Native k args) is = tt
named p t (what.Finish o) is = tt

-- one event

-- the plain programs' thread with this number
plain_at : (p : Program) (t : ℕ) (w : World) (o : Option Thread) → slice_get w.threads t ≡ o
    → plain_event p t (forget_world w) ≡ plain_event_of (option_map forget_thread o) p t (forget_world w)
plain_at p t w o at = ap (λ found. plain_event_of found p t (forget_world w)) (slice_get-map forget_thread w.threads t ∙ ap (option_map forget_thread) at)

if_plain : (plains : PlainLaws) (owners : OwnerLaws) (laws : RequestLaws) (p : Program) (t : ℕ) (w : World) (x : Thread) (b : Bool) → has_work x ≡ b → slice_get w.threads t ≡ Some x
    → Reached w → (b && is_refusal (serve p w.state t (next p t x).request).reply) ≡ false → plain_event p t (forget_world w) ≡ forget_world (event p t w)
if_plain plains owners laws p t w x true work at reached kept =
    plains.plain p t w x at (in_memory owners w.state.history reached.placed)
    (named p t (next p t x).request.what (and_parts _ (is_servable_what p t (next p t x).request.what) (servable laws p t w x reached at)).1) kept
if_plain plains owners laws p t w x false idle at reached kept =
    plain_at p t w (Some x) at
    ∙ (ap (λ b. plain_event_if b p t (forget_world w) (forget_thread x)) idle
    ∙ (ap (λ b. forget_world (event_if b p t w x)) (sym idle) ∙ ap (λ found. forget_world (event_of found p t w)) (sym at)))

of_plain : (plains : PlainLaws) (owners : OwnerLaws) (laws : RequestLaws) (p : Program) (t : ℕ) (w : World) (o : Option Thread) → slice_get w.threads t ≡ o
    → Reached w → refuses o p t w ≡ false → plain_event p t (forget_world w) ≡ forget_world (event p t w)
of_plain plains owners laws p t w None at reached kept =
    plain_at p t w None at ∙ ap (λ found. forget_world (event_of found p t w)) (sym at)
of_plain plains owners laws p t w (Some x) at reached kept = if_plain plains owners laws p t w x (has_work x) refl at reached kept

event_plain : (plains : PlainLaws) (owners : OwnerLaws) (laws : RequestLaws) (p : Program) (t : ℕ) (w : World) → Reached w → IsPlain p t w
event_plain plains owners laws p t w reached kept = of_plain plains owners laws p t w (slice_get w.threads t) refl reached kept

-- runs

run_events : (plains : PlainLaws) (owners : OwnerLaws) (laws : RequestLaws) (p : Program) (s : List ℕ) (w : World) → Reached w → ArePlain p s w
run_events plains owners laws p [] w reached = tt
run_events plains owners laws p (t ∷ ts) w reached =
    (event_plain plains owners laws p t w reached, run_events plains owners laws p ts (event p t w) (event_reached laws p t w reached))

run_plain : (p : Program) (s : List ℕ) (w : World) → ArePlain p s w → is_unrefused p s w ≡ true → plain_run p s (forget_world w) ≡ forget_world (run p s w)
run_plain p [] w are kept = refl
run_plain p (t ∷ ts) w are kept =
    let both = and_parts (not (is_refused_event p t w)) (is_unrefused p ts (event p t w)) kept in
    ap (plain_run p ts) (are.0 (not-true (is_refused_event p t w) both.0)) ∙ run_plain p ts (event p t w) are.1 both.1

-- a run whose outcomes are no refusals

abbrev AllCalm : World → Type 0
AllCalm w = (t : ℕ) (x : Thread) → slice_get w.threads t ≡ Some x → IsCalm x

if_calm : (p : Program) (t : ℕ) (w : World) (x : Thread) (b : Bool) → has_work x ≡ b → slice_get w.threads t ≡ Some x → AllCalm (event_if b p t w x)
    → AllCalm w × ((b && is_refusal (serve p w.state t (next p t x).request).reply) ≡ false)
if_calm p t w x false idle at calm = (calm, refl)
if_calm p t w x true work at calm =
    let answer = (serve p w.state t (next p t x).request).reply in
    let y : Thread = absorb p t (next p t x).thread (next p t x).request answer in
    let now = turn_calm p t x answer work (calm t y (set_here w.threads t x y at)) in
    (set_back IsCalm w.threads t x y at (λ later. (turn_calm p t x answer work later).0) calm, now.1)

of_calm : (p : Program) (t : ℕ) (w : World) (o : Option Thread) → slice_get w.threads t ≡ o → AllCalm (event_of o p t w) → AllCalm w × (refuses o p t w ≡ false)
of_calm p t w None at calm = (calm, refl)
of_calm p t w (Some x) at calm = if_calm p t w x (has_work x) refl at calm

event_calm : (p : Program) (t : ℕ) (w : World) → AllCalm (event p t w) → AllCalm w × (is_refused_event p t w ≡ false)
event_calm p t w calm = of_calm p t w (slice_get w.threads t) refl calm

run_calm : (p : Program) (s : List ℕ) (w : World) → AllCalm (run p s w) → AllCalm w × (is_unrefused p s w ≡ true)
run_calm p [] w calm = (calm, refl)
run_calm p (t ∷ ts) w calm =
    let later = run_calm p ts (event p t w) calm in
    let now = event_calm p t w later.0 in
    (now.0, not_and (is_refused_event p t w) (is_unrefused p ts (event p t w)) now.1 later.1)

pub is_plain_run : (plains : PlainLaws) (owners : OwnerLaws) (laws : RequestLaws) (p : Program) (script : List (List ScriptCall)) (s : List ℕ) → length script ≤ 16 → AllPlaced (opening_history p)
    → IsPlainRun p script s
is_plain_run plains owners laws p script s few placed =
    let events = run_events plains owners laws p s (opening p script) (opening_reached p script few placed) in
    record {
      events = events;
      unrefused = run_plain p s (opening p script) events;
      told = λ none. (run_calm p s (opening p script) (threads_calm 0 (run p s (opening p script)).threads none)).1;
    }
