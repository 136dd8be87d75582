use Rattle.std.proofs.Common.{refl, ap, ◌∙◌, List, Some, arith}
use Rattle.lx_words.specs.Word.{Word}
use Rattle.lx_frames.specs.Frames.{args_on, function_on}
use Rattle.lx_interp.specs.Runner.{action_of}
use Rattle.lx_interp.proofs.Takings.{budget_action, performs}
use Rattle.lx_interp.proofs.runner.Runner.perform.Goals as goal

pub returns-then-self-eq0-clause-steps : goal.returns-then-self-eq0-clause-steps
returns-then-self-eq0-clause-steps c = λ p ready.
    let old = c.args.self.now in
    budget_action p old c.stop.new.self (function_on old.stack.top) (args_on old.stack.top) c.args.post c.args.index c.args.value.now c.if-self-eq0.true (c.stop.ensures.stops p)

pub returns-clause-steps : goal.returns-clause-steps
returns-clause-steps c = λ p ready.
    let old = c.args.self.now in
    performs p old _ (function_on old.stack.top) (args_on old.stack.top) c.args.post c.args.index c.args.value.now (omega (arith, c.if-self-eq0.false)) ready
    refl refl refl refl refl refl refl (ap Some (c.action.ensures ∙ ap (λ (xs : List Word). action_of old.stack.shadow.principals (function_on old.stack.top) xs c.args.post c.args.index c.args.value.now) c.in_ok-copy.ensures))
