use Rattle.std.proofs.lemmas.Result.{IfOk-equal}
use Rattle.lx_words.proofs.Lists.{joined_three}
use Rattle.lx_ir.proofs.text.constants.put_moved.Goals as goal

pub returns : goal.returns
returns c = IfOk-equal c.put_offset_argument.result _ _ _ c.put_offset_argument.ensures (joined_three _ _ _ _ _ _ c.in_ok-put.ensures c.in_ok-put_symbol.ensures)
