use Rattle.std.proofs.Common.{subst}
use Rattle.lx_simulation.specs.Accepted.{AreOfTexts}
use Rattle.lx_opening.proofs.code.compared_code.Goals as goal

pub checked_code-requires-clause-texts : goal.checked_code-requires-clause-texts
checked_code-requires-clause-texts c = subst (AreOfTexts c.args.program) c.as_slice.ensures.value c.in-Ok.ensures.same

pub returns-in-Ok-checked_code-clause-same : goal.returns-in-Ok-checked_code-clause-same
returns-in-Ok-checked_code-clause-same c = subst (AreOfTexts c.args.program) c.as_slice.ensures.value c.in-Ok.ensures.same
