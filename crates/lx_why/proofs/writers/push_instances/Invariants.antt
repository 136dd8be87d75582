-- The writers among the instances so far.
use Rattle.std.proofs.Common.{◌≡◌, ◌++◌, map}
use Rattle.std.specs.Prelude.{filter}
use Rattle.lx_caps.specs.History.{History}
use Rattle.lx_caps.specs.Writers.{is_slot_writer}
use Rattle.lx_caps.specs.declared.Principal.TheVariants.{Inst}
use Rattle.lx_slot_types.specs.Gets.{below}
use Rattle.lx_writer_sets.specs.RecordedStands.{StandsRecorded}
use Rattle.lx_why.proofs.writers.push_instances.Given as goal

abbrev pub invariant-loop-instance : goal.invariant-loop-instance
invariant-loop-instance g l =
    (h : History) → StandsRecorded g.C.CapStore.stands l.caps h → l.writers ≡ l.fn.writers ++ filter (is_slot_writer h l.slot) (map (Inst l.home) (below l.instance))
