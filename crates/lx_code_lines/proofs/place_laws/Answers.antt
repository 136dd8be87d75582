-- The laws are lemmas.
use Rattle.std.proofs.Common.{ℕ, ◌+◌, ◌*◌, List, length, refl}
use Rattle.std.specs.Prelude.{◌≡◌, Some, slice_get}
use Rattle.lx_model.specs.declared.program.Program.{Program}
use Rattle.lx_model.specs.declared.program.ScriptCall.{ScriptCall}
use Rattle.lx_model.specs.Thread.{Thread}
use Rattle.lx_model.specs.Next.{next}
use Rattle.lx_model.specs.World.{opening, run}
use Rattle.lx_link_texts.specs.WellFormed.{IsWellFormed, FitsCalls}
use Rattle.lx_images.specs.Guarded.{Accepted}
use Rattle.lx_images.specs.HasImages.{IsLinked}
use Rattle.lx_images.specs.Image.{Code}
use Rattle.lx_images.specs.ImageWorld.{image_opening, image_run}
use Rattle.lx_images.specs.Stands.{Well, WorldWell, StandsFor}
use Rattle.lx_simulation.proofs.Asking.{stands_at}
use Rattle.lx_simulation.proofs.Frames.{FramesStood, ThreadStood}
use Rattle.lx_simulation.proofs.Guarded.{guarded_run_agrees}
use Rattle.lx_simulation.proofs.Runs.{each_get}
use Rattle.lx_simulation.proofs.SparedRuns.{runs_on, threads_stood}
use Rattle.lx_code_lines.specs.PlaceLaws.{AllAskThere}
use Rattle.lx_code_lines.specs.Place.{asker}
use Rattle.lx_code_lines.proofs.Askers.{step_asks, image_step_asks}
use Rattle.lx_code_lines.proofs.Asking.{asks_there}
use Rattle.lx_code_lines.proofs.Meaning.{asker_stood, frames_mean, asked_line}
use Rattle.lx_code_lines.proofs.place_laws.Goals as goal

pub returns : goal.returns
returns c = record {
  asks = step_asks c.model_laws.ensures;
  image_asks = image_step_asks;
  same = λ code acc. asks_there c.simulation_laws.ensures code c.model_laws.ensures acc;
  in_runs = λ code acc all script schedule. there code acc script schedule
      (guarded_run_agrees c.model_laws.ensures code acc all script schedule).0 (c.simulation_laws.ensures.guarded_runs code acc all script schedule);
  in_fitting_runs = λ code acc script schedule few fits. there code acc script schedule
      (runs_on c.model_laws.ensures c.history_laws.ensures c.loan_laws.ensures code acc script schedule few fits).0 (c.simulation_laws.ensures.runs code acc script schedule few fits);
  means = λ p wf script schedule fits t thread got. frames_mean p (c.simulation_laws.ensures.linked p wf).verified (asker p t thread).frames (stood p wf script schedule fits t thread got);
  has_line = λ p wf script schedule fits t thread got more x at. asked_line p (c.simulation_laws.ensures.linked p wf).verified t (asker p t thread) (next p t thread).thread (next p t thread).request
      (stood p wf script schedule fits t thread got) (step_asks c.model_laws.ensures p t thread) more x at;
  rows = record {
    place = refl;
    line = refl;
    first = refl;
    past = refl;
    before = refl;
    no_block = refl;
    no_function = refl;
    asks = refl;
    ends = refl;
    script = refl;
    pre = refl;
    body = refl;
    post = refl;
    outside = refl;
    marked = refl;
  };
} where
  there : (code : Code) → Accepted code → (script : List (List ScriptCall)) (schedule : List ℕ) → WorldWell code.program (run code.program schedule (opening code.program script))
      → StandsFor code (run code.program schedule (opening code.program script)) (image_run code schedule (image_opening code script)) → AllAskThere code script schedule
  there code acc script schedule well stands t thread v et ev =
      asks_there c.simulation_laws.ensures code c.model_laws.ensures acc t thread v (each_get (Well code.program) (run code.program schedule (opening code.program script)).threads t thread well et)
      (stands_at code (run code.program schedule (opening code.program script)).threads (image_run code schedule (image_opening code script)).threads t thread v stands.threads et ev)

  stood : (p : Program) → IsWellFormed p → (script : List (List ScriptCall)) (schedule : List ℕ) → FitsCalls p script → (t : ℕ) (thread : Thread) → slice_get (run p schedule (opening p script)).threads t ≡ Some thread → FramesStood p (asker p t thread).frames
  stood p wf script schedule fits t thread got =
      let linked : IsLinked p = c.simulation_laws.ensures.linked p wf in
      let st : ThreadStood p thread = each_get (λ t thread. ThreadStood p thread) (run p schedule (opening p script)).threads t thread (threads_stood p linked.verified linked.slots script schedule fits) got in
      (asker_stood p linked.verified linked.slots t (2 * thread.fuel + length thread.frames + 1) thread st).0
