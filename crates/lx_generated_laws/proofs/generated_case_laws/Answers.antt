use Rattle.lx_generated_laws.proofs.Cases.{cases_are_said}
use Rattle.lx_generated_laws.proofs.generated_case_laws.Goals as goal

pub returns : goal.returns
returns c = cases_are_said c.number_texts.ensures
