-- Runners that are exactly at their threads: no register step is taken, and nothing is asked.
use Rattle.std.specs.Prelude.{◌≡◌, ℕ, false, nat_eq, List, Some, slice_get}
use Rattle.lx_images.specs.Image.{Code, ImageThread}
use Rattle.lx_images.specs.ImageWorld.{ImageWorld}
use Rattle.lx_interp.specs.declared.runner.Runner.{Runner}
use Rattle.lx_interp.specs.Runner.{IsAt}
use Rattle.lx_world.specs.declared.world.World.{World}

-- each runner is exactly at its thread
pub record AreAt (c : Code) (rs : List Runner) (xs : List ImageThread) : Type 0 where
  pub each : (k : ℕ) (r : Runner) (x : ImageThread) → slice_get rs k ≡ Some r → slice_get xs k ≡ Some x → IsAt c k r x

-- and each but that of one thread
pub record AreAtBut (t : ℕ) (c : Code) (rs : List Runner) (xs : List ImageThread) : Type 0 where
  pub others : (k : ℕ) (r : Runner) (x : ImageThread) → nat_eq k t ≡ false → slice_get rs k ≡ Some r → slice_get xs k ≡ Some x → IsAt c k r x

-- the world runs this code, and each of its runners is exactly at its thread
pub record IsExact {C : Type 0} (c : Code) (w : World C) (v : ImageWorld) : Type 0 where
  pub code : w.code ≡ c
  pub threads : AreAt c w.runners.list.items v.threads

-- and each but that of one thread, of which register steps may be taken
pub record IsExactBut {C : Type 0} (t : ℕ) (c : Code) (w : World C) (v : ImageWorld) : Type 0 where
  pub code : w.code ≡ c
  pub threads : AreAtBut t c w.runners.list.items v.threads
