use Rattle.lx_annot_read.proofs.TokensSay.{tokens_say}
use Rattle.lx_annot_read.proofs.text.tokens_say_all.Goals as goal

pub returns : goal.returns
returns c text other tokens others i a e = tokens_say text other tokens others i a e
