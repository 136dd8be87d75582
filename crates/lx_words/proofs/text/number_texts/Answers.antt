use Rattle.lx_words.proofs.Injective.{number_texts}
use Rattle.lx_words.proofs.text.number_texts.Goals as goal

pub returns : goal.returns
returns c = number_texts
