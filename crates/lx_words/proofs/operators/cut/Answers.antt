use Rattle.lx_words.proofs.Masks.{cut_by_mask}
use Rattle.lx_words.proofs.operators.cut.Goals as goal

pub returns : goal.returns
returns c = cut_by_mask c.args.width c.args.bits c.mask.result c.mask.ensures
