use Rattle.std.proofs.Common.{[], ◌∷◌}
use Rattle.lx_caplock.specs.History.{entry}
use Rattle.lx_caplock.proofs.lock.CapLock.ask_at.Given as goal

abbrev pub ghosts-note : goal.ghosts-note
ghosts-note g a = record { added = entry a.place.now.me.0.number a._thread a._request.now a._reply.now ∷ [] }
