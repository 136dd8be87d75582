use Rattle.std.proofs.Common.{◌∙◌, ap, sym}
use Rattle.std.specs.Prelude.{slice_get}
use Rattle.lx_ir.specs.declared.module.Module.{Module}
use Rattle.lx_name_tables.specs.Places.{defines}
use Rattle.lx_name_tables.proofs.Firsts.{found_at}
use Rattle.lx_name_tables.proofs.texts.TextNames.defined.Goals as goal

pub returns-in-Some : goal.returns-in-Some
returns-in-Some c =
    found_at (defines c.args.name.now) c.args.self.now.functions c.in-Some.place _ (sym c.in-Some.ensures)
    (c.function_in.ensures ∙ ap (λ (m : Module). slice_get m.functions c.in-Some.place) c.self.view_is)
