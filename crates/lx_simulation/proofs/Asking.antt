-- Where each store has its guard an image thread asks what the monitor's thread asks, for the same principal.
use Rattle.std.proofs.Common.{◌≡◌, ℕ, zero, suc, List, [], ◌∷◌, Some, inl, inr, sym, subst, ◌∙◌}
use Rattle.std.specs.Prelude.{slice_get}
use Rattle.lx_words.proofs.Tests.{true_false}
use Rattle.lx_words.proofs.Options.{none_some, some_same}
use Rattle.lx_model.specs.declared.program.ScriptCall.{ScriptCall}
use Rattle.lx_model.specs.declared.request.Request.{Request}
use Rattle.lx_model.specs.Laws.{ModelLaws}
use Rattle.lx_model.specs.Thread.{Thread}
use Rattle.lx_model.specs.Next.{next}
use Rattle.lx_model.specs.World.{opening, run}
use Rattle.lx_images.specs.Guarded.{Accepted}
use Rattle.lx_images.specs.ImageCode.{stores_in}
use Rattle.lx_images.specs.Image.{Code, ImageThread, image_next}
use Rattle.lx_images.specs.ImageWorld.{image_opening, image_run}
use Rattle.lx_images.specs.Stands.{Well, AskAlike, ThreadStands, ThreadsStand}
use Rattle.lx_simulation.specs.Simulation.{AllGuarded}
use Rattle.lx_simulation.proofs.Counted.{image_next as counted_next}
use Rattle.lx_simulation.proofs.CountedStands.{image_of}
use Rattle.lx_simulation.proofs.Agreeing.{runs_agree}
use Rattle.lx_simulation.proofs.Guarded.{none_bare, guarded_run_agrees}
use Rattle.lx_simulation.proofs.Runs.{next_agrees, each_get}
use Rattle.lx_simulation.proofs.Standing.{alike_of}
use Rattle.lx_simulation.proofs.WordedRuns.{next_alike}

-- no ask is a spared one
not_spared : (c : Code) → Accepted c → AllGuarded c → (thread : Thread) (r s : Request) → AskAlike c thread r s → s ≡ r
not_spared c acc all thread r s (inl e) = e
not_spared c acc all thread r s (inr a) =
    true_false (sym a.bare ∙ none_bare c acc all a.frame.run.function a.«module» a.text a.frame.run.label (stores_in a.behind))

pub asks_same : ModelLaws → (c : Code) → Accepted c → AllGuarded c → (t : ℕ) (thread : Thread) (v : ImageThread) → Well c.program t thread → ThreadStands c thread v → (image_next c v).request ≡ (next c.program t thread).request
asks_same laws c acc all t thread v well s =
    (next_alike c acc.wraps (image_of c thread) v (alike_of c thread v s)).0
    ∙ not_spared c acc all (next c.program t thread).thread (next c.program t thread).request (counted_next c (image_of c thread)).request (next_agrees laws c acc t thread well).0

-- a thread of a world and its image thread
pub stands_at : (c : Code) (threads : List Thread) (vs : List ImageThread) (t : ℕ) (thread : Thread) (v : ImageThread) → ThreadsStand c threads vs → slice_get threads t ≡ Some thread → slice_get vs t ≡ Some v → ThreadStands c thread v
stands_at c [] vs t thread v s et ev = none_some et
stands_at c (x ∷ threads) [] t thread v s et ev = absurd s
stands_at c (x ∷ threads) (y ∷ vs) zero thread v s et ev =
    subst (λ (z : Thread). ThreadStands c z v) (some_same et) (subst (ThreadStands c x) (some_same ev) s.0)
stands_at c (x ∷ threads) (y ∷ vs) (suc t) thread v s et ev = stands_at c threads vs t thread v s.1 et ev

pub asks_in_run : ModelLaws → (c : Code) → Accepted c → AllGuarded c → (script : List (List ScriptCall)) (schedule : List ℕ) (t : ℕ) (thread : Thread) (v : ImageThread) →
    slice_get (run c.program schedule (opening c.program script)).threads t ≡ Some thread → slice_get (image_run c schedule (image_opening c script)).threads t ≡ Some v →
    (image_next c v).request ≡ (next c.program t thread).request
asks_in_run laws c acc all script schedule t thread v et ev =
    let ran = guarded_run_agrees laws c acc all script schedule in
    let stands = runs_agree c acc script schedule ran.1 in
    asks_same laws c acc all t thread v (each_get (Well c.program) (run c.program schedule (opening c.program script)).threads t thread ran.0 et)
    (stands_at c (run c.program schedule (opening c.program script)).threads (image_run c schedule (image_opening c script)).threads t thread v stands.threads et ev)
