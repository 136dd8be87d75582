use Rattle.lx_script.proofs.OneWay.{one_value, one_fault, not_both}
use Rattle.lx_script.proofs.schedule.one_schedule.Goals as goal

pub returns-clause-value : goal.returns-clause-value
returns-clause-value c = one_value

pub returns-clause-fault : goal.returns-clause-fault
returns-clause-fault c = one_fault

pub returns-clause-apart : goal.returns-clause-apart
returns-clause-apart c = not_both
