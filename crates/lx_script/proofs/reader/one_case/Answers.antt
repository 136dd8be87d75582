use Rattle.lx_script.proofs.Again.{one_value, one_fault, not_both, either}
use Rattle.lx_script.proofs.Faulty.{has_place}
use Rattle.lx_script.proofs.reader.one_case.Goals as goal

pub returns-clause-value : goal.returns-clause-value
returns-clause-value c = one_value

pub returns-clause-fault : goal.returns-clause-fault
returns-clause-fault c = one_fault

pub returns-clause-apart : goal.returns-clause-apart
returns-clause-apart c = not_both

pub returns-clause-either : goal.returns-clause-either
returns-clause-either c = either

pub returns-clause-place : goal.returns-clause-place
returns-clause-place c = has_place
