use Rattle.lx_interp.proofs.runner.Runner.take_step.Goals as goal

pub returns-in-Some-clause-steps : goal.returns-in-Some-clause-steps
returns-in-Some-clause-steps c = c.finish.ensures.steps c.args.code.now
