-- Which calls threads are in.
use Rattle.std.specs.Prelude.{ℕ, Option, length, option_and_then, option_map, slice_get}
use Rattle.lx_images.specs.Image.{ImageThread}
use Rattle.lx_images.specs.ImageWorld.{ImageWorld}
use Rattle.lx_interp.specs.declared.runner.Runner.{Runner}
use Rattle.lx_interp.specs.Runner.{calls_left}

-- how many calls of a thread have ended, and the function that the first one left calls; none, where none is left
abbrev pub call_of : ImageThread → Option (ℕ × ℕ)
call_of x = option_map (λ call. (length x.ended, call.function)) (slice_get x.calls 0)

-- the same of the thread with this number, if there is one
abbrev pub call_at : ImageWorld → ℕ → Option (ℕ × ℕ)
call_at v t = option_and_then call_of (slice_get v.threads t)

-- as a runner keeps it
abbrev pub kept_call : Runner → Option (ℕ × ℕ)
kept_call r = option_map (λ call. (length r.endings.items, call.function)) (slice_get (calls_left r) 0)
