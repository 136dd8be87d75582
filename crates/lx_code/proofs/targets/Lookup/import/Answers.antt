use Rattle.std.proofs.Common.{ap, sym, ◌∙◌, Option, ℕ}
use Rattle.lx_model.specs.Program.{import}
use Rattle.lx_code.proofs.targets.Lookup.import.Goals as goal

pub returns-in-Some : goal.returns-in-Some
returns-in-Some c =
    c.module_import.ensures c.in-Some.module_number ∙ ap (λ (h : Option ℕ). import c.args.self.now h c.args.name.now) (sym c.in-Some.is)
