use Rattle.std.proofs.Common.{arith, ◌∙◌}
use Rattle.lx_ir_tables.proofs.Noting.{noted_holds}
use Rattle.lx_ir_tables.proofs.numbering.Numbering.add.Goals as goal

pub invariant_of-self-2 : goal.invariant_of-self-2
invariant_of-self-2 c =
    let n = noted_holds c.self.inside.table.items c.self.inside.things.items c.push.new.self.items c.note.new.table.items c.args.name c.len-number.result c.self.invariant.0 (c.len-number.ensures ∙ c.self.inside.things.ok.0) c.in_ok-push.ensures.items c.note.ensures in
    (n.0, omega (arith, c.if-number.false, c.in_ok-push.ensures.len, c.len-number.ensures))
