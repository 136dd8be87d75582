-- A traced run, as its world changes.
use Rattle.std.proofs.Common.{sym, subst, ℕ, List, [], ◌∷◌, ◌++◌}
use Rattle.lx_caps.specs.History.{History}
use Rattle.lx_model.specs.declared.program.Program.{Program}
use Rattle.lx_model.specs.declared.program.ScriptCall.{ScriptCall}
use Rattle.lx_images.specs.Image.{Code}
use Rattle.lx_images.specs.ImageWorld.{ImageWorld, image_event, image_opening}
use Rattle.lx_simulation.specs.Images.{code_of}
use Rattle.lx_simulation.proofs.Showing.{image_run_further}
use Rattle.lx_world.specs.declared.world.World.{World as Held}
use Rattle.lx_world.specs.Exact.{IsExact, IsExactBut}
use Rattle.lx_world.specs.Worlds.{StandsForWorld}
use Rattle.lx_trace.specs.Run.{IsOfRun, IsPrepared, StandsForTrace, image_behind}
use Rattle.lx_trace.specs.declared.run.TraceRun.{TraceRun}

module _ {C : Type 0} (stands : C → History → Type 0) (p : Program) (script : List (List ScriptCall)) (s : List ℕ) where
  -- another world stands for the same
  abbrev pub stays : (old : TraceRun C) (world : Held C) → ((c : Code) (v : ImageWorld) → StandsForWorld stands c old.world v → StandsForWorld stands c world v)
      → IsOfRun stands p script s old → IsOfRun stands p script s (record { world = world; lines = old.lines })
  stays old world keeps run = record {
    formed = run.formed;
    images = run.images;
    accepted = run.accepted;
    guarded = run.guarded;
    world = keeps (code_of p run.images) (image_behind p run.images script s) run.world;
    lines = run.lines;
  }

  -- of which one thread may be on its way
  pub prepared : (t : ℕ) (old : TraceRun C) (world : Held C) → ((c : Code) (v : ImageWorld) → StandsForWorld stands c old.world v → StandsForWorld stands c world v)
      → ((c : Code) (v : ImageWorld) → IsExact c old.world v → IsExactBut t c world v) → StandsForTrace stands p script s old → IsPrepared stands p script s t (record { world = world; lines = old.lines })
  prepared t old world keeps apart st = record {
    of_run = stays old world keeps st.of_run;
    exact = apart (code_of p st.of_run.images) (image_behind p st.of_run.images script s) st.exact;
  }

  -- or for one event more
  abbrev further : (t : ℕ) (old : TraceRun C) (world : Held C) → ((c : Code) (v : ImageWorld) → StandsForWorld stands c old.world v → StandsForWorld stands c world (image_event c t v))
      → IsOfRun stands p script s old → IsOfRun stands p script (s ++ t ∷ []) (record { world = world; lines = old.lines })
  further t old world goes run = record {
    formed = run.formed;
    images = run.images;
    accepted = run.accepted;
    guarded = run.guarded;
    world =
        let code = code_of p run.images in
        subst (StandsForWorld stands code world) (sym (image_run_further code s t (image_opening code script))) (goes code (image_behind p run.images script s) run.world);
    lines = run.lines;
  }

  pub gone_on : (t : ℕ) (old : TraceRun C) (world : Held C) → ((c : Code) (v : ImageWorld) → StandsForWorld stands c old.world v → StandsForWorld stands c world (image_event c t v))
      → ((c : Code) (v : ImageWorld) → StandsForWorld stands c old.world v → IsExactBut t c old.world v → IsExact c world (image_event c t v))
      → IsPrepared stands p script s t old → StandsForTrace stands p script (s ++ t ∷ []) (record { world = world; lines = old.lines })
  gone_on t old world goes exact ready =
      let code = code_of p ready.of_run.images in
      let v = image_behind p ready.of_run.images script s in
      record {
        of_run = further t old world goes ready.of_run;
        exact = subst (IsExact code world) (sym (image_run_further code s t (image_opening code script))) (exact code v ready.of_run.world ready.exact);
      }
