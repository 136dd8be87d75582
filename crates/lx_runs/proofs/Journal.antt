-- The journal tells the schedule.
use Rattle.std.proofs.Common.{◌≡◌, ◌∙◌, sym, ap, refl, ℕ, Bool, true, false, List, [], ◌∷◌, ◌++◌, append_assoc, map, Option, Some, None, slice_get}
use Rattle.std.proofs.lemmas.Bool.{and_parts}
use mathlib.Core.List.{append-nil}
use Rattle.lx_model.specs.declared.program.Program.{Program}
use Rattle.lx_model.specs.declared.request.Entry.{Entry}
use Rattle.lx_model.specs.declared.request.Request.{Request}
use Rattle.lx_model.specs.Account.{schedule_of}
use Rattle.lx_model.specs.Decide.{decide}
use Rattle.lx_model.specs.Serve.{serve_by, serve}
use Rattle.lx_model.specs.State.{State}
use Rattle.lx_model.specs.Thread.{Thread, has_work}
use Rattle.lx_model.specs.Next.{next}
use Rattle.lx_model.specs.World.{World, event, event_of, event_if, works, can_act, run, is_whole}
use Rattle.lx_run_laws.proofs.Journal.{decided}

map_more : (es : List Entry) (e : Entry) → map (λ (x : Entry). x.thread) (es ++ e ∷ []) ≡ map (λ (x : Entry). x.thread) es ++ e.thread ∷ []
map_more [] e = refl
map_more (x ∷ es) e = ap (λ (l : List ℕ). x.thread ∷ l) (map_more es e)

serve_notes : (p : Program) (s : State) (t : ℕ) (r : Request) → map (λ (x : Entry). x.thread) (serve p s t r).state.journal ≡ map (λ (x : Entry). x.thread) s.journal ++ t ∷ []
serve_notes p s t r =
    let x = serve_by (decide p s t r) p s t r in
    map_more x.state.journal (record { thread = t; request = r; reply = x.reply })
    ∙ ap (λ (l : List Entry). map (λ (e : Entry). e.thread) l ++ t ∷ []) (decided (decide p s t r) p s t r)

event_if_notes : (p : Program) (t : ℕ) (w : World) (x : Thread) (b : Bool) → b ≡ true → schedule_of (event_if b p t w x) ≡ schedule_of w ++ t ∷ []
event_if_notes p t w x true is = serve_notes p w.state t (next p t x).request
event_if_notes p t w x false is = absurd cc

event_of_notes : (p : Program) (t : ℕ) (w : World) (o : Option Thread) → works o ≡ true → schedule_of (event_of o p t w) ≡ schedule_of w ++ t ∷ []
event_of_notes p t w None is = absurd cc
event_of_notes p t w (Some x) is = event_if_notes p t w x (has_work x) is

run_notes : (p : Program) (s : List ℕ) (w : World) → is_whole p s w ≡ true → schedule_of (run p s w) ≡ schedule_of w ++ s
run_notes p [] w whole = sym (append-nil (schedule_of w))
run_notes p (t ∷ ts) w whole =
    let both = and_parts (can_act w t) (is_whole p ts (event p t w)) whole in
    run_notes p ts (event p t w) both.1 ∙ ap (λ (l : List ℕ). l ++ ts) (event_of_notes p t w (slice_get w.threads t) both.0) ∙ append_assoc (schedule_of w) (t ∷ []) ts

-- the journal of a whole run from an empty one is its schedule
pub schedule_ran : (p : Program) (s : List ℕ) (w : World) → schedule_of w ≡ [] → is_whole p s w ≡ true → schedule_of (run p s w) ≡ s
schedule_ran p s w none whole = run_notes p s w whole ∙ ap (λ (l : List ℕ). l ++ s) none
