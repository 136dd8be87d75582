use Rattle.std.proofs.Common.{length, ◌∙◌}
use Rattle.lx_ir_tables.proofs.Noting.{forgotten_by, fewer}
use Rattle.lx_ir_tables.proofs.numbering.forget_all.Goals as goal

pub loop-name-preserved : goal.loop-name-preserved
loop-name-preserved c = record {
  table = forgotten_by (length c.args.table.now.items) c.len.result c.loop-name.table.items c.forget.new.table.items c.loop-name.things.items c.pop.new.self.items c.in-Some.name c.loop-name.invariant.table c.in-Some.ensures.items (c.len.ensures ∙ c.pop.new.self.ok.0) c.forget.ensures;
  few = fewer c.loop-name.things.items c.pop.new.self.items c.in-Some.name 4294967296 c.in-Some.ensures.items c.loop-name.invariant.few;
}
