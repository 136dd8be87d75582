use Rattle.std.proofs.Common.{◌∙◌, arith}
use Rattle.lx_slot_sums.proofs.Numbering.{has_name, too_long}
use Rattle.lx_slot_sums.proofs.typed.number_of_name.Goals as goal

pub returns-then-name-longest : goal.returns-then-name-longest
returns-then-name-longest c = λ fields h s. too_long fields c.args.longest c.args.name.now s (omega (arith, c.if-name-longest.true))

pub returns-else-name-longest : goal.returns-else-name-longest
returns-else-name-longest c = λ fields h s. c.number_at.ensures ∙ has_name fields c.args.numbers.now.entries c.args.name.now h
