use Rattle.std.proofs.Common.{◌≡◌, drop}
use Rattle.lx_words.specs.Text.{number_from}
use Rattle.lx_ir_tokens.proofs.said.magnitude.Given as goal

abbrev pub invariant-loop-digit : goal.invariant-loop-digit
invariant-loop-digit l = number_from 10 l.number (drop l.digit-index l.digits) ≡ number_from 10 0 l.digits
