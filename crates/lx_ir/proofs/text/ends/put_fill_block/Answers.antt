use Rattle.std.proofs.lemmas.Result.{IfOk-equal}
use Rattle.lx_words.proofs.Lists.{joined_three}
use Rattle.lx_ir.proofs.text.ends.put_fill_block.Goals as goal

pub returns : goal.returns
returns c = IfOk-equal c.put_written.result _ _ _ c.put_written.ensures (joined_three _ _ _ _ _ _ c.in_ok-put.ensures c.in_ok-put_scalar.ensures)
