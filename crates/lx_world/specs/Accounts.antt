-- What is reported of the runners of a world.
use Rattle.std.specs.Prelude.{ℕ, List, map}
use Rattle.lx_model.specs.declared.account.CallOutcome.{CallOutcome}
use Rattle.lx_model.specs.Thread.{Ending}
use Rattle.lx_interp.specs.declared.runner.Runner.{Runner}

-- a thread's calls that have ended
abbrev pub call_outcome : ℕ → Ending → CallOutcome
call_outcome thread e = record { thread = thread; function = e.function; outcome = e.outcome }

abbrev pub runner_outcomes : ℕ × Runner → List CallOutcome
runner_outcomes x = map (call_outcome x.0) x.1.endings.items
