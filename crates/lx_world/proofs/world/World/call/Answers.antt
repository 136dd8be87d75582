use Rattle.std.proofs.Common.{◌∙◌}
use Rattle.lx_world.proofs.InCall.{kept_calls}
use Rattle.lx_world.proofs.world.World.call.Goals as goal

pub returns : goal.returns
returns g c = λ p w st. c.kept_call.ensures ∙ kept_calls p 0 c.args.thread c.args.self.now.runners.list.items w.threads st.threads
