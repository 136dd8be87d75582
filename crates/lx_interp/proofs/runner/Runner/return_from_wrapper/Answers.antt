use Rattle.std.proofs.Common.{◌∙◌}
use Rattle.lx_interp.specs.Runner.{thread_of}
use Rattle.lx_interp.proofs.Lines.{returns_by}
use Rattle.lx_interp.proofs.Takings.{goes_to}
use Rattle.lx_interp.proofs.runner.Runner.return_from_wrapper.Goals as goal

pub returns-clause-steps : goal.returns-clause-steps
returns-clause-steps c =
    let p = c.args.code.now in
    let old = c.args.self.now in
    let h = c.leave_wrapper.ensures in
    goes_to p old c.leave_wrapper.new.self _ _ (returns_by p (thread_of p old) old.stack.top old.stack.below c.requires.line) h.number h.calls h.ended h.marks (h.request ∙ c.requires.request) h.state
