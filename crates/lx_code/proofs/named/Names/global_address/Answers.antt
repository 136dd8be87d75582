use Rattle.std.proofs.Common.{◌∙◌, ap, Option, ℕ}
use Rattle.std.specs.Prelude.{unwrap_or}
use Rattle.lx_model.specs.declared.program.Program.{Program}
use Rattle.lx_model.specs.Program.{global_address}
use Rattle.lx_code.proofs.named.Names.global_address.Goals as goal

pub returns : goal.returns
returns c =
    c.unwrap_or.ensures
    ∙ ap (λ (o : Option ℕ). unwrap_or o 0) (c.address.ensures ∙ c.self.invariant.addresses c.args.home c.args.number)
    ∙ ap (λ (p : Program). global_address p c.args.home c.args.number) c.self.view_is
