use Rattle.std.proofs.Common.{◌≡◌, drop}
use Rattle.lx_caps.specs.History.{History}
use Rattle.lx_model.specs.Opening.{globals_granted}
use Rattle.lx_opening.proofs.grants.grant_globals.Given as goal

abbrev pub invariant-loop-place : goal.invariant-loop-place
invariant-loop-place g l =
    (h : History) → g.C.CapStore.stands l.fn.caps h
    → (mid : History) × g.C.CapStore.stands l.caps mid
    × (globals_granted l.code l.home (drop l.place l.globals) mid ≡ globals_granted l.code l.home l.code.globals h)
