-- The laws are lemmas.
use Rattle.std.proofs.Common.{ℕ, ◌≤◌, List, length}
use Rattle.lx_ir.specs.declared.module.Module.{Module}
use Rattle.lx_model.specs.declared.program.Program.{Program}
use Rattle.lx_model.specs.declared.program.ScriptCall.{ScriptCall}
use Rattle.lx_model.specs.World.{opening, run}
use Rattle.lx_link_texts.specs.WellFormed.{IsWellFormed, FitsCalls}
use Rattle.lx_images.specs.ImageWorld.{image_opening, image_run}
use Rattle.lx_images.specs.Stands.{StandsFor}
use Rattle.lx_images.specs.Guarded.{Accepted}
use Rattle.lx_simulation.specs.Images.{code_of, AreImages}
use Rattle.lx_simulation.proofs.Linking.{linked}
use Rattle.lx_simulation.proofs.Accepting.{images_accepted}
use Rattle.lx_simulation.proofs.SparedRuns.{run_stands, run_places}
use Rattle.lx_simulation.proofs.Guarded.{guarded_run_agrees}
use Rattle.lx_simulation.proofs.FullImages.{all_guarded}
use Rattle.lx_simulation.proofs.Asking.{asks_same, asks_in_run}
use Rattle.lx_simulation.proofs.KeepingRuns.{run_kept}
use Rattle.lx_simulation.proofs.Agreeing.{steps_agree, events_agree, runs_agree}
use Rattle.lx_simulation.proofs.ImageAsking.{image_next_within-stable}
use Rattle.lx_simulation.proofs.EnterFirst.{formed_enter}
use Rattle.lx_simulation.proofs.ByLines.{lines_lead, calls_go}
use Rattle.lx_simulation.proofs.Guarding.{erased-image}
use Rattle.lx_simulation.proofs.InOrder.{enters_first, entered_crosses, called_crosses}
use Rattle.lx_simulation.proofs.Lacking.{never_asked}
use Rattle.lx_simulation.proofs.FormedImages.{images_formed, all_images_formed, none_unformed}
use Rattle.lx_simulation.proofs.Showing.{accounts, acts, done, schedules, wholes}
use Rattle.lx_simulation.proofs.simulation_laws.Goals as goal

pub returns : goal.returns
returns c = record {
  stands = stands;
  linked = linked;
  images_are = images_accepted;
  runs = λ code acc script schedule few fits. runs_agree code acc script schedule (run_stands c.model_laws.ensures c.history_laws.ensures c.loan_laws.ensures code acc script schedule few fits);
  guarded_runs = λ code acc all script schedule. runs_agree code acc script schedule (guarded_run_agrees c.model_laws.ensures code acc all script schedule).1;
  asks = asks_same c.model_laws.ensures;
  asked_in_runs = asks_in_run c.model_laws.ensures;
  guarded = all_guarded;
  keeps = run_kept;
  places = run_places;
  events = events_agree c.model_laws.ensures;
  steps = steps_agree;
  image_asks = image_next_within-stable;
  by_lines = record { lines = lines_lead; calls = calls_go };
  showing = record {
    accounts = accounts;
    schedules = schedules;
    acts = acts;
    done = done;
    wholes = λ p images w are script schedule few fits. wholes p images script (λ s. stands p images w are script s few fits) schedule;
  };
  crossing = record { enters = enters_first; entered = entered_crosses; called = called_crosses; skipped = never_asked };
  forming = record { image = images_formed; images = all_images_formed; unformed = none_unformed; enters = formed_enter };
  erases = erased-image;
} where
  stands : (p : Program) (images : List Module) → IsWellFormed p → AreImages p images → (script : List (List ScriptCall)) (schedule : List ℕ) → length script ≤ 16 → FitsCalls p script
      → StandsFor (code_of p images) (run p schedule (opening p script)) (image_run (code_of p images) schedule (image_opening (code_of p images) script))
  stands p images w are script schedule few fits =
      let acc : Accepted (code_of p images) = images_accepted (code_of p images) (record { linked = linked p w; images = are }) in
      runs_agree (code_of p images) acc script schedule (run_stands c.model_laws.ensures c.history_laws.ensures c.loan_laws.ensures (code_of p images) acc script schedule few fits)
