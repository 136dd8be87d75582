use Rattle.std.proofs.Common.{ap, sym, subst, ◌∙◌}
use Rattle.std.specs.Prelude.{IsTrue}
use Rattle.lx_ir.specs.Layout.{is_lawful_type, size_of}
use Rattle.lx_ir.specs.declared.module.Module.{Module}
use Rattle.lx_opening.proofs.Globals.{placed_type}
use Rattle.lx_opening.proofs.grants.global_size.Goals as goal

pub size_of-requires : goal.size_of-requires
size_of-requires c =
    subst (λ (m : Module). IsTrue (is_lawful_type m.types c.args.variable.now.ty)) (sym c.text.ensures)
    (placed_type c.args.code.now c.args.global.now c.args.variable.now c.requires.placed c.requires.there)

pub returns : goal.returns
returns c = c.size_of.ensures ∙ ap (λ (m : Module). size_of m.types c.args.variable.now.ty) c.text.ensures
