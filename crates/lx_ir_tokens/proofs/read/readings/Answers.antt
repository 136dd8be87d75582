use Rattle.lx_words.specs.declared.token.TokenRule.TheVariants.{Ir}
use Rattle.lx_ir_tokens.proofs.OneReading.{all_readings}
use Rattle.lx_ir_tokens.proofs.read.readings.Goals as goal

pub returns : goal.returns
returns c = λ text. all_readings text (c.one_way.ensures Ir text)
