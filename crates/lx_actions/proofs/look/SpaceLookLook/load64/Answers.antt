use Rattle.std.proofs.Common.{◌∙◌}
use Rattle.lx_actions.proofs.Looking.{looked}
use Rattle.lx_actions.proofs.look.SpaceLookLook.load64.Goals as goal

pub returns : goal.returns
returns c =
    c.ok.ensures.value ∙ looked c.args.self.now.space.now c.args.at c.read.result c.read.ensures.fault c.read.ensures.told
