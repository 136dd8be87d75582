-- What a run of images tells is told of the monitor's run of the program.
use Rattle.std.proofs.Common.{◌≡◌, ◌∙◌, sym, subst, refl, ℕ, true, List, Option, Some, None}
use Rattle.lx_caps.specs.History.{History}
use Rattle.lx_caps.specs.Placed.{AllPlaced}
use Rattle.lx_images.specs.Image.{Code}
use Rattle.lx_images.specs.ImageWorld.{ImageWorld, image_opening, image_run}
use Rattle.lx_images.specs.Shown.{shown}
use Rattle.lx_images.specs.Stands.{StandsFor}
use Rattle.lx_threads.specs.Running.{AreRun}
use Rattle.lx_world.specs.declared.world.World.{World as Held}
use Rattle.lx_world.specs.Worlds.{StandsForWorld}
use Rattle.lx_linked.specs.Laws.{LinkedLaws}
use Rattle.lx_model.specs.Account.{account}
use Rattle.lx_model.specs.Opening.{opening_history}
use Rattle.lx_model.specs.declared.account.Account.{Account}
use Rattle.lx_model.specs.declared.program.Program.{Program}
use Rattle.lx_model.specs.declared.program.ScriptCall.{ScriptCall}
use Rattle.lx_model.specs.World.{is_whole, opening, run}
use Rattle.lx_run_laws.specs.Laws.{RunLaws}
use Rattle.lx_simulation.specs.Images.{code_of}
use Rattle.lx_simulation.specs.Simulation.{SimulationLaws}
use Rattle.lx_threads.specs.Monitor.{threads_of}
use Rattle.lx_runs.specs.Opened.{IsOpened}
use Rattle.lx_runs.specs.Replays.{image_broken_at}
use Rattle.lx_runs.specs.Reports.{IsAccountOfRun, IsAsked, TellsRun, broken_at}
use Rattle.lx_runs.specs.Runs.{ReportsOf}
use Rattle.lx_runs.specs.declared.told.Told.{Told}
use Rattle.lx_runs.specs.declared.told.Told.TheVariants as told
use Rattle.lx_runs.proofs.Imaged.{broken_from}
use Rattle.lx_runs.proofs.Reported.{told_of}
use Rattle.lx_runs.proofs.Wholes.{unbroken_whole}

module _ {C : Type 0} (stands : C → History → Type 0) (p : Program) (script : List (List ScriptCall)) (world : Held C) (o : IsOpened stands p script world) where
  -- the code that is opened, and its world before the first event
  abbrev pub opened_code : Code
  opened_code = code_of p o.images

  abbrev pub opened : ImageWorld
  opened = image_opening opened_code script

  placed : AllPlaced (opening_history p)
  placed = o.stands_for.shared.keeps.history.placed

  module _ (laws : SimulationLaws) where
    -- behind each schedule it stands for the monitor's world
    behind : (s : List ℕ) → StandsFor opened_code (run p s (opening p script)) (image_run opened_code s opened)
    behind s = laws.stands p o.images o.formed o.are_images script s o.few o.fits

    same_broken : (s : List ℕ) → image_broken_at opened_code s opened ≡ broken_at p s (opening p script)
    same_broken s = broken_from laws.showing opened_code (opening p script) opened behind s

    -- the account of the world behind a whole schedule

    pub account_told : (done : Held C) (a : Account) → AreRun stands world done → ((c : Code) (v : ImageWorld) → StandsForWorld stands c done v → a ≡ account c.program (shown v)) → IsAccountOfRun p script a
    account_told done a ran is =
        let s = threads_of ran.history in
        let came = ran.runs opened_code opened o.stands_for in
        let monitored = came.1.monitored (opening p script) behind in (
          s,
          monitored.whole,
          is opened_code came.0 came.1.stands_for ∙ laws.showing.accounts opened_code (run p s (opening p script)) came.0 monitored.stands_for,
        )

    module _ (runs : RunLaws) (linked : LinkedLaws) where
      -- the report of a world that stands for the one behind a whole schedule
      reported : (s : List ℕ) (asked : Option (List ℕ)) (done : Held C) (t : Told) → is_whole p s (opening p script) ≡ true → IsAsked asked s
          → StandsForWorld stands opened_code done (image_run opened_code s opened) → ReportsOf stands done t → TellsRun p script asked t
      reported s asked done t whole is_asked at (text, returned, is, tells) =
          told_of p script s asked t whole is_asked (runs.authorised p s (opening p script)) (runs.plain p script s o.few placed)
          (linked.explained p o.formed script s) (linked.fitting p o.formed script s o.few o.fits)
          (text, returned, is, tells opened_code (image_run opened_code s opened) (run p s (opening p script)) at (behind s))

      pub run_told : (done : Held C) (t : Told) → AreRun stands world done → ReportsOf stands done t → TellsRun p script None t
      run_told done t ran said =
          let s = threads_of ran.history in
          let came = ran.runs opened_code opened o.stands_for in
          reported s None done t (came.1.monitored (opening p script) behind).whole tt
          (subst (λ (v : ImageWorld). StandsForWorld stands opened_code done v) came.1.run.run came.1.stands_for) said

      pub replay_told : (s : List ℕ) (done : Held C) (t : Told) → image_broken_at opened_code s opened ≡ None
          → StandsForWorld stands opened_code done (image_run opened_code s opened) → ReportsOf stands done t → TellsRun p script (Some s) t
      replay_told s done t none at said = reported s (Some s) done t (unbroken_whole p s (opening p script) (sym (same_broken s) ∙ none)) refl at said

    pub broken_told : (s : List ℕ) (entry : ℕ) → image_broken_at opened_code s opened ≡ Some entry → TellsRun p script (Some s) (told.Broken entry)
    broken_told s entry is = (s, refl, sym (same_broken s) ∙ is)
