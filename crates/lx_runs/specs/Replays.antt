-- Where a schedule is not whole for a world of images.
use Rattle.std.specs.Prelude.{ℕ, suc, List, [], ◌∷◌, Option, Some, None, option_map, if◌then◌else◌}
use Rattle.lx_model.specs.World.{can_act, is_done}
use Rattle.lx_images.specs.Image.{Code}
use Rattle.lx_images.specs.ImageWorld.{ImageWorld, image_event}
use Rattle.lx_images.specs.Shown.{shown}

-- the first entry of a schedule, counted from 0, that names a thread without work, or the number of entries where work remains behind the last
abbrev pub image_broken_at : Code → List ℕ → ImageWorld → Option ℕ
image_broken_at c [] v = if is_done (shown v) then None else Some 0
image_broken_at c (t ∷ ts) v = if can_act (shown v) t then option_map suc (image_broken_at c ts (image_event c t v)) else Some 0
