use Rattle.std.proofs.Common.{◌++◌, [], map, refl, ap, ◌∙◌, arith}
use Rattle.lx_world.specs.Accounts.{call_outcome, runner_outcomes}
use Rattle.lx_world.proofs.Numbered.{numbered_more_at, numbered_all}
use Rattle.lx_world.proofs.outcomes.outcomes.Goals as goal

pub loop-thread-preserved : goal.loop-thread-preserved
loop-thread-preserved c =
    numbered_more_at runner_outcomes c.args.runners.now c.args.runners.now c.loop-thread.thread c.index-runners-thread.result [] _ _ refl (omega arith) c.index-runners-thread.is c.loop-thread.invariant
    (c.in_ok-put_endings.ensures ∙ ap (λ es. c.loop-thread.out.items ++ map (call_outcome c.loop-thread.thread) es) c.endings.ensures.kept)

pub returns : goal.returns
returns c = numbered_all runner_outcomes c.args.runners.now c.loop-thread.thread [] _ (omega arith) c.loop-thread.invariant
