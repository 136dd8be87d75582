use Rattle.lx_ir_tables.proofs.Noting.{fresh}
use Rattle.lx_ir_tables.proofs.numbering.Numbering.new.Goals as goal

pub invariant_of-result : goal.invariant_of-result
invariant_of-result c =
    let f = fresh c.in_ok-table.table.items c.new.result.items c.args.count c.in_ok-table.ensures c.new.ensures.items in
    (f.holds, f.few)

pub returns : goal.returns
returns c = (fresh c.in_ok-table.table.items c.new.result.items c.args.count c.in_ok-table.ensures c.new.ensures.items).view
