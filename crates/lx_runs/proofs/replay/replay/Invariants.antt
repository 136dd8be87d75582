use Rattle.std.proofs.Common.{drop}
use Rattle.lx_images.specs.Image.{Code}
use Rattle.lx_images.specs.ImageWorld.{ImageWorld}
use Rattle.lx_world.specs.Worlds.{StandsForWorld}
use Rattle.lx_runs.proofs.Replays.{IsLeft}
use Rattle.lx_runs.proofs.replay.replay.Given as goal

abbrev pub invariant-loop-entry : goal.invariant-loop-entry
invariant-loop-entry g l = (c : Code) (v : ImageWorld) → StandsForWorld g.C.CapStore.stands c l.fn.world v
    → (u : ImageWorld) × StandsForWorld g.C.CapStore.stands c l.world u × IsLeft c l.schedule v l.entry (drop l.entry l.schedule) u
