use Rattle.std.proofs.Common.{length, [], ap, ◌∙◌}
use Rattle.lx_ir_tables.specs.Numbering.{Numbering, numbering}
use Rattle.lx_ir_tables.proofs.Noting.{fresh}
use Rattle.lx_ir_tables.proofs.numbering.Numbering.clear.Goals as goal

pub invariant_of-self : goal.invariant_of-self
invariant_of-self c =
    let f = fresh c.forget_all.new.table.items c.forget_all.new.things.items (length c.self.inside.table.items) c.forget_all.ensures.table c.forget_all.ensures.none in
    (f.holds, f.few)

pub returns : goal.returns
returns c =
    (fresh c.forget_all.new.table.items c.forget_all.new.things.items (length c.self.inside.table.items) c.forget_all.ensures.table c.forget_all.ensures.none).view
    ∙ ap (λ (t : Numbering). numbering t.count []) c.self.view_is
