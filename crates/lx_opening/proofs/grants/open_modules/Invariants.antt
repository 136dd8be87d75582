use Rattle.lx_caps.specs.History.{History}
use Rattle.lx_model.specs.Opening.{modules_opened}
use Rattle.lx_slot_types.specs.Gets.{below}
use Rattle.lx_opening.proofs.grants.open_modules.Given as goal

abbrev pub invariant-loop-home : goal.invariant-loop-home
invariant-loop-home g l =
    (h : History) → g.C.CapStore.stands l.fn.caps h
    → g.C.CapStore.stands l.caps (modules_opened l.code (below l.home) h)
