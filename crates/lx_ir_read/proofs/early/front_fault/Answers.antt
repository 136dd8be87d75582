use Rattle.lx_ir_read.proofs.Drafts.{front_is}
use Rattle.lx_ir_read.proofs.early.front_fault.Goals as goal

pub returns : goal.returns
returns c =
    front_is c.args.form c.args.ir.now c.args.reading.now c.as_slice-found.result.now c.len.result c.in_ok-types.types c.table.result.now c.in_ok-named.named c.as_slice.result.now c.naming_types-context.result c.left_at-stop.result c.as_slice-2.result.now c.in_ok-early.early c.first_of.result
    c.as_slice-found.ensures c.len.ensures c.in_ok-types.ensures c.table.ensures c.in_ok-named.ensures c.as_slice.ensures c.naming_types-context.ensures c.left_at-stop.ensures c.as_slice-2.ensures c.in_ok-early.ensures c.first_of.ensures
