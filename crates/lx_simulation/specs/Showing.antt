-- What a world of images shows is what the monitor's world shows that it stands for.
use Rattle.std.specs.Prelude.{◌≡◌, ℕ, ◌≤◌, List, length}
use Rattle.lx_ir.specs.declared.module.Module.{Module}
use Rattle.lx_link_texts.specs.WellFormed.{IsWellFormed, FitsCalls}
use Rattle.lx_model.specs.declared.program.Program.{Program}
use Rattle.lx_model.specs.declared.program.ScriptCall.{ScriptCall}
use Rattle.lx_model.specs.Account.{account, schedule_of}
use Rattle.lx_model.specs.World.{World, can_act, is_done, is_whole, opening}
use Rattle.lx_images.specs.Image.{Code}
use Rattle.lx_images.specs.ImageWorld.{ImageWorld, image_opening}
use Rattle.lx_images.specs.Shown.{shown, image_is_whole}
use Rattle.lx_images.specs.Stands.{StandsFor}
use Rattle.lx_simulation.specs.Images.{code_of, AreImages}

pub record ShowingLaws : Type 0 where
  -- the account is the monitor's: it tells nothing of frames, nor for whom a request was made
  pub accounts : (c : Code) (w : World) (v : ImageWorld) → StandsFor c w v → account c.program (shown v) ≡ account c.program w
  -- so is the schedule
  pub schedules : (c : Code) (w : World) (v : ImageWorld) → StandsFor c w v → schedule_of (shown v) ≡ schedule_of w
  -- the same threads have work
  pub acts : (c : Code) (w : World) (v : ImageWorld) → StandsFor c w v → (t : ℕ) → can_act (shown v) t ≡ can_act w t
  pub done : (c : Code) (w : World) (v : ImageWorld) → StandsFor c w v → is_done (shown v) ≡ is_done w
  -- a schedule is whole for the images of a well-formed program exactly where it is for the program
  pub wholes : (p : Program) (images : List Module) → IsWellFormed p → AreImages p images → (script : List (List ScriptCall)) (schedule : List ℕ) → length script ≤ 16 → FitsCalls p script → image_is_whole (code_of p images) schedule (image_opening (code_of p images) script) ≡ is_whole p schedule (opening p script)
