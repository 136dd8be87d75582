use Rattle.lx_input.proofs.Settled.{input_one, input_ends}
use Rattle.lx_input.proofs.input.input_laws.Goals as goal

pub returns : goal.returns
returns c = record {
  one = input_one c.verifier_laws.ensures.one c.file_laws.ensures.one;
  missing = input_ends c.verifier_laws.ensures.one c.file_laws.ensures.one c.file_laws.ensures.missing;
}
