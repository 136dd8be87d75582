use Rattle.lx_generated_laws.proofs.Inputs.{files_are_inputs}
use Rattle.lx_generated_laws.proofs.generated_input_laws.Goals as goal

pub returns : goal.returns
returns c = files_are_inputs c.generated_case_laws.ensures c.builtin_laws.ensures.kernel c.builtin_laws.ensures.interface c.builtin_laws.ensures.generated
