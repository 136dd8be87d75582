use Rattle.std.proofs.Common.{◌≡◌, drop}
use Rattle.lx_caps.specs.Memory.{Memory}
use Rattle.lx_model.specs.Opening.{with_globals}
use Rattle.lx_actions.specs.Shown.{IsShownBy}
use Rattle.lx_opening.proofs.inits.put_globals.Given as goal

abbrev pub invariant-loop-global : goal.invariant-loop-global
invariant-loop-global l =
    (m : Memory) → IsShownBy l.fn.space m
    → (mid : Memory) × IsShownBy l.space mid × (with_globals l.code (drop l.global-index l.code.globals) mid ≡ with_globals l.code l.code.globals m)
