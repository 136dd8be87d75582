use Rattle.std.proofs.Common.{◌∙◌}
use Rattle.lx_ir_read.proofs.Drafts.{types_are}
use Rattle.lx_ir_read.proofs.reading.types_in.Goals as goal

pub returns : goal.returns
returns c = types_are c.args.form c.args.ir.now c.args.found.now c.len.result c.in_ok-types.types c.in_ok-numbers.numbers c.in_ok-named.named c.len.ensures c.in_ok-types.ensures (c.in_ok-numbers.ensures ∙ c.table.ensures) (c.in_ok-named.ensures ∙ c.in_ok-entries.ensures)
