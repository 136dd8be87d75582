use Rattle.std.proofs.Common.{◌∙◌, ap}
use Rattle.lx_model.specs.declared.program.Program.{Program}
use Rattle.lx_model.specs.Program.{target}
use Rattle.lx_code.proofs.named.Names.target.Goals as goal

pub returns : goal.returns
returns c = c.target.ensures ∙ c.self.invariant.targets c.args.home c.args.function ∙ ap (λ (p : Program). target p c.args.home c.args.function) c.self.view_is
