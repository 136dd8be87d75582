-- Each refusal of a run has its cause.
use Rattle.std.proofs.Common.{◌≡◌, ◌⊎◌, inl, inr, ⊎_elim, ℕ, zero, suc, Bool, true, false, Option, Some, None, List, [], ◌∷◌, refl, sym, ap, subst, ◌∙◌, map, slice_get, slice_set}
use Rattle.std.proofs.lemmas.Option.{same_Some}
use Rattle.lx_model.specs.declared.program.Program.{Program}
use Rattle.lx_model.specs.declared.program.ScriptCall.{ScriptCall}
use Rattle.lx_model.specs.declared.request.Outcome.{Outcome}
use Rattle.lx_model.specs.declared.request.Outcome.TheVariants.{Refused}
use Rattle.lx_model.specs.declared.request.Refusal.{Refusal}
use Rattle.lx_model.specs.declared.request.Reply.TheVariants.{Ended}
use Rattle.lx_model.specs.declared.request.Request.{Request}
use Rattle.lx_model.specs.declared.request.What.{What}
use Rattle.lx_model.specs.declared.request.What.TheVariants as what
use Rattle.lx_model.specs.Next.{absorb, next, request}
use Rattle.lx_model.specs.PlainLaws.{is_refused}
use Rattle.lx_model.specs.Serve.{serve}
use Rattle.lx_model.specs.State.{State}
use Rattle.lx_model.specs.Thread.{Thread, fresh_thread, has_work}
use Rattle.lx_model.specs.World.{World, event, event_if, event_of, opening}
use Rattle.lx_run_laws.specs.Causes.{is_finish}
use Rattle.lx_run_laws.specs.Caused.{IsCaused, AreCaused}
use Rattle.lx_run_laws.proofs.Explaining.{is_explained}
use Rattle.lx_run_laws.proofs.Finishing.{OwesNone, absorb_plain, brings_refusal, next_plain}
use Rattle.lx_run_laws.proofs.Needing.{not_false}
use Rattle.lx_run_laws.proofs.Replying.{same_end}

-- to no thread a refusal is due
abbrev OweNone : List Thread → Type 0
OweNone threads = (t : ℕ) (x : Thread) → slice_get threads t ≡ Some x → OwesNone x

owed_set : (xs : List Thread) (i : ℕ) (y : Thread) → OweNone xs → OwesNone y → OweNone (slice_set xs i y)
owed_set [] i y all h t x is = absurd (cc)
owed_set (z ∷ zs) zero y all h zero x is = subst OwesNone (same_Some y x is) h
owed_set (z ∷ zs) zero y all h (suc t) x is = all (suc t) x is
owed_set (z ∷ zs) (suc i) y all h zero x is = all zero x is
owed_set (z ∷ zs) (suc i) y all h (suc t) x is = owed_set zs i y (λ u v at. all (suc u) v at) h t x is

fresh_owed : (script : List (List ScriptCall)) → OweNone (map fresh_thread script)
fresh_owed [] t x is = absurd (cc)
fresh_owed (calls ∷ more) zero x is = subst OwesNone (same_Some (fresh_thread calls) x is) refl
fresh_owed (calls ∷ more) (suc t) x is = fresh_owed more t x is

event_if_owed : (b : Bool) (p : Program) (t : ℕ) (w : World) (x : Thread) → OweNone w.threads → OwesNone x → OweNone (event_if b p t w x).threads
event_if_owed false p t w x all h = all
event_if_owed true p t w x all h =
    owed_set w.threads t (absorb p t (next p t x).thread (next p t x).request (serve p w.state t (next p t x).request).reply) all
    (absorb_plain p t (next p t x).thread (next p t x).request (serve p w.state t (next p t x).request).reply (next_plain p t x h).0)

event_of_owed : (found : Option Thread) (p : Program) (t : ℕ) (w : World) → OweNone w.threads → ((x : Thread) → found ≡ Some x → OwesNone x) → OweNone (event_of found p t w).threads
event_of_owed None p t w all h = all
event_of_owed (Some x) p t w all h = event_if_owed (has_work x) p t w x all (h x refl)

event_owed : (p : Program) (t : ℕ) (w : World) → OweNone w.threads → OweNone (event p t w).threads
event_owed p t w all = event_of_owed (slice_get w.threads t) p t w all (all t)

-- a request that brings no refusal, and is refused, has a cause

finish_caused : {A : Type 0} (p : Program) (s : State) (t : ℕ) (r : Request) (o : Outcome) (x : Refusal) → r.what ≡ what.Finish o → brings_refusal r.what ≡ false
    → (serve p s t r).reply ≡ Ended (Refused x) → A
finish_caused p s t r o x finishes none is =
    let brought = subst (λ (w : What). (serve p s t (request r.who w)).reply ≡ Ended (Refused x)) finishes is in
    not_false (is_refused o) (ap is_refused (same_end o (Refused x) brought)) (sym (ap brings_refusal finishes) ∙ none)

-- a request is a finish, or none
finishes : (w : What) → (is_finish w ≡ false) ⊎ ((o : Outcome) × (w ≡ what.Finish o))
finishes (what.Load at width) = inl refl
finishes (what.Store at v) = inl refl
finishes (what.Copy to from len) = inl refl
finishes (what.Fill to byte len) = inl refl
finishes (what.Alloca at size) = inl refl
finishes (what.Enter way args) = inl refl
finishes (what.Perform n post k env source dest) = inl refl
finishes (what.Return low high) = inl refl
finishes (what.Native k args) = inl refl
finishes (what.Finish o) = inr (o, refl)

is_caused : (p : Program) (s : State) (t : ℕ) (r : Request) (x : Refusal) → brings_refusal r.what ≡ false → (serve p s t r).reply ≡ Ended (Refused x) → IsCaused p s r x
is_caused p s t r x none is =
    ⊎_elim (λ goes. ((is_explained p s t r).has_cause x goes is, λ for. (is_explained p s t r).unmet x goes for is)) (λ finish. finish_caused p s t r finish.0 x finish.1 none is) (finishes r.what)

run_caused : (p : Program) (schedule : List ℕ) (w : World) → OweNone w.threads → AreCaused p schedule w
run_caused p [] w all = tt
run_caused p (t ∷ ts) w all =
    ((λ thread x at work is. is_caused p w.state t (next p t thread).request x (next_plain p t thread (all t thread at)).1 is), run_caused p ts (event p t w) (event_owed p t w all))

pub opening_caused : (p : Program) (script : List (List ScriptCall)) (schedule : List ℕ) → AreCaused p schedule (opening p script)
opening_caused p script schedule = run_caused p schedule (opening p script) (fresh_owed script)
