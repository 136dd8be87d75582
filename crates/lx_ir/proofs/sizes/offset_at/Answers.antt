use Rattle.std.proofs.Common.{◌≡◌, sym, ap, ◌∙◌}
use Rattle.lx_ir.specs.IrType.{Named}
use Rattle.lx_ir.specs.TypeNodes.{type_of_node}
use Rattle.lx_ir.proofs.Fits.{named_start}
use Rattle.lx_ir.proofs.sizes.offset_at.Goals as goal

pub returns-in-Named : goal.returns-in-Named
returns-in-Named c =
    let e : Named c.in-Named.number ≡ c.args.t.now = sym (ap type_of_node c.in-Named.is) ∙ c.t.view_is in
    named_start c.args.m.now.types c.in-Named.number c.args.t.now c.args.field c.field_start.result e c.field_start.ensures c.requires
