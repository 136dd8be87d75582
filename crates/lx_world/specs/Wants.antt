-- What a thread asks, and which requests may want memory.
use Rattle.std.specs.Prelude.{ℕ, Bool, true, not, Option, Some, None, List, option_and_then, option_map, slice_get}
use Rattle.lx_model.specs.declared.request.Request.{Request}
use Rattle.lx_images.specs.Image.{Code, image_next}
use Rattle.lx_images.specs.ImageWorld.{ImageWorld}
use Rattle.lx_interp.specs.declared.runner.Runner.{Runner}
use Rattle.lx_interp.specs.Runner.{request_of}
use Rattle.lx_serve.specs.Room.{takes_no_memory}
use Rattle.lx_world.specs.declared.world.World.{World}

-- register steps are due, or what is asked takes memory
abbrev pub may_want : Option Request → Bool
may_want None = true
may_want (Some q) = not (takes_no_memory q.what)

-- what a thread asks; nothing, where register steps are due
abbrev pub asked_at : List Runner → ℕ → Option Request
asked_at rs t = option_and_then request_of (slice_get rs t)

-- the same of a world's thread
abbrev pub asked_of : {C : Type 0} → World C → ℕ → Option Request
asked_of w t = asked_at w.runners.list.items t

-- what the thread with this number asks next in the world of images, if there is such a thread
abbrev pub image_asks : Code → ℕ → ImageWorld → Option Request
image_asks c t v = option_map (λ x. (image_next c x).request) (slice_get v.threads t)
