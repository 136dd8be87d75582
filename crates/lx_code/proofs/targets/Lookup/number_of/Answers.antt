use Rattle.std.proofs.Common.{◌∙◌, ap}
use Rattle.lx_model.specs.declared.program.Program.{Program}
use Rattle.lx_model.specs.Program.{number_of}
use Rattle.lx_code.proofs.targets.Lookup.number_of.Goals as goal

pub returns : goal.returns
returns c =
    c.copied.ensures
    ∙ c.get.ensures.value
    ∙ c.self.invariant.numbers_of c.args.home c.args.function
    ∙ ap (λ (p : Program). number_of p c.args.home c.args.function) c.self.view_is
