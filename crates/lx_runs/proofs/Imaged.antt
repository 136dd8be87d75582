-- A schedule is broken for a world of images where it is for the world that it stands for.
use Rattle.std.proofs.Common.{◌≡◌, ap, List, [], ◌∷◌, ℕ}
use Rattle.lx_images.specs.Image.{Code}
use Rattle.lx_images.specs.ImageWorld.{ImageWorld, image_event, image_run}
use Rattle.lx_images.specs.Shown.{shown}
use Rattle.lx_images.specs.Stands.{StandsFor}
use Rattle.lx_model.specs.World.{World, can_act, event, run}
use Rattle.lx_simulation.specs.Showing.{ShowingLaws}
use Rattle.lx_runs.specs.Replays.{image_broken_at}
use Rattle.lx_runs.specs.Reports.{broken_at}
use Rattle.lx_runs.proofs.Wholes.{entry_if, end_if}

-- where the worlds stand for each other behind each schedule, a schedule is broken at the same entry for both
pub broken_from : (laws : ShowingLaws) (c : Code) (w : World) (v : ImageWorld) → ((s : List ℕ) → StandsFor c (run c.program s w) (image_run c s v))
    → (s : List ℕ) → image_broken_at c s v ≡ broken_at c.program s w
broken_from laws c w v all [] = ap end_if (laws.done c w v (all []))
broken_from laws c w v all (t ∷ ts) =
    let first : can_act (shown v) t ≡ can_act w t = laws.acts c w v (all []) t in
    let rest : image_broken_at c ts (image_event c t v) ≡ broken_at c.program ts (event c.program t w) =
    broken_from laws c (event c.program t w) (image_event c t v) (λ s. all (t ∷ s)) ts in
    λ k. entry_if (first k) (rest k)
