use Rattle.std.proofs.Common.{sym, subst, []}
use Rattle.std.specs.Arc.{arc_value}
use Rattle.lx_caps.specs.History.{History}
use Rattle.lx_writer_sets.specs.RecordedStands.{StandsRecorded}
use Rattle.lx_opened_tests.proofs.Programs.{silent_owns}
use Rattle.lx_opened_tests.proofs.world.shared.Goals as goal

-- the module owns the call of its function
pub part_of-requires-clause-owned : goal.part_of-requires-clause-owned
part_of-requires-clause-owned g c =
    subst (λ (h : History). StandsRecorded g.C.CapStore.stands c.grant.new.self h) (sym (silent_owns (arc_value c.args.program) c.requires.tested))
    (c.grant.ensures.appends [] (c.reserve.ensures.stays [] c.new-caps.ensures))
