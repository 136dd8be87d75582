-- The writers among the modules so far.
use Rattle.std.proofs.Common.{◌≡◌}
use Rattle.std.specs.Prelude.{filter, flat_map}
use Rattle.lx_caps.specs.History.{History}
use Rattle.lx_caps.specs.Writers.{is_slot_writer}
use Rattle.lx_model.specs.State.{module_principals}
use Rattle.lx_slot_types.specs.Gets.{below}
use Rattle.lx_writer_sets.specs.RecordedStands.{StandsRecorded}
use Rattle.lx_why.proofs.writers.all_writers.Given as goal

abbrev pub invariant-loop-home : goal.invariant-loop-home
invariant-loop-home g l =
    (h : History) → StandsRecorded g.C.CapStore.stands l.caps h → l.writers ≡ filter (is_slot_writer h l.slot) (flat_map (module_principals l.names.names) (below l.home))
