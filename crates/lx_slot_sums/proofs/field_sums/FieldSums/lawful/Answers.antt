use Rattle.std.proofs.Common.{subst}
use Rattle.lx_slot_sums.specs.Sums.{Typing}
use Rattle.lx_slot_sums.specs.Within.{HasLawfulTypes}
use Rattle.lx_slot_sums.proofs.field_sums.FieldSums.lawful.Goals as goal

pub returns : goal.returns
returns c = subst (λ (t : Typing). HasLawfulTypes t.text) c.self.view_is c.self.invariant.lawful
