use Rattle.lx_caps.specs.History.{History}
use Rattle.lx_model.specs.Opening.{calls_granted}
use Rattle.lx_slot_types.specs.Gets.{below}
use Rattle.lx_opening.proofs.grants.grant_calls.Given as goal

abbrev pub invariant-loop-function : goal.invariant-loop-function
invariant-loop-function g l =
    (h : History) → g.C.CapStore.stands l.fn.caps h
    → g.C.CapStore.stands l.caps (calls_granted l.code l.home (below l.function) h)
