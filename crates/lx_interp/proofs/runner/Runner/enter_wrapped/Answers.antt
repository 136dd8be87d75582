use Rattle.std.proofs.Common.{refl}
use Rattle.lx_interp.proofs.Replies.{shown_becomes}
use Rattle.lx_interp.proofs.runner.Runner.enter_wrapped.Goals as goal

pub returns-clause-becomes : goal.returns-clause-becomes
returns-clause-becomes c = λ able room.
    shown_becomes c.args.code.now c.args.self.now _ _ _ refl refl refl refl refl refl refl (c.enter_wrapped.ensures able room)
