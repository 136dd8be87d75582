-- What a world of images shows without its frames. An account is of that alone.
use Rattle.std.specs.Prelude.{ℕ, Bool, ◌&&◌, List, [], ◌∷◌, map}
use Rattle.lx_model.specs.Thread.{Thread}
use Rattle.lx_model.specs.World.{World, can_act, is_done}
use Rattle.lx_images.specs.Image.{Code, ImageThread}
use Rattle.lx_images.specs.ImageWorld.{ImageWorld, image_event}

-- of a thread: its calls, those that have ended, the fuel that is left, and an outcome that it comes to
abbrev pub shown_thread : ImageThread → Thread
shown_thread v = record { calls = v.calls; ended = v.ended; fuel = v.fuel; due = v.due; frames = [] }

-- what all threads share, and what each thread shows
abbrev pub shown : ImageWorld → World
shown v = record { state = v.state; threads = map shown_thread v.threads }

-- each entry names a thread that has work, and none has work at the end
abbrev pub image_is_whole : Code → List ℕ → ImageWorld → Bool
image_is_whole c [] v = is_done (shown v)
image_is_whole c (t ∷ ts) v = can_act (shown v) t && image_is_whole c ts (image_event c t v)
