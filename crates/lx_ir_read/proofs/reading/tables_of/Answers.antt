use Rattle.lx_ir_read.proofs.Drafts.{tables_are}
use Rattle.lx_ir_read.proofs.reading.tables_of.Goals as goal

pub returns : goal.returns
returns c = tables_are c.args.form c.args.ir.now c.args.found.now c.in_ok-types.types c.as_slice.result.now c.in_ok-symbols.symbols c.in_ok-shapes.shapes c.in_ok-types.ensures c.as_slice.ensures c.in_ok-shapes.ensures c.in_ok-symbols.ensures
