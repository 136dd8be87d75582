use Rattle.std.proofs.Common.{subst}
use Rattle.lx_slot_sums.specs.Classes.{IsClassed}
use Rattle.lx_slot_sums.specs.Sums.{Typing}
use Rattle.lx_slot_sums.proofs.Kept.{join_step}
use Rattle.lx_slot_sums.proofs.field_sums.FieldSums.join.Goals as goal

pub returns : goal.returns
returns c =
    join_step c.args.self.now c.self.inside.classes c.as_slice.result.now c.args.a c.args.b c.join.result
    (subst (λ (t : Typing). IsClassed t.interface c.self.inside.classes) c.self.view_is c.self.invariant.classes_are)
    c.as_slice.ensures c.join.ensures
