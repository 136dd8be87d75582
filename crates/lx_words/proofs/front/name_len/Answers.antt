use Rattle.std.proofs.Common.{refl}
use Rattle.lx_words.specs.Lexemes.{is_name, ends_name, some_all, is_name_byte}
use Rattle.lx_words.proofs.Fronts.{led_to, name_quote, name_plain, same_to}
use Rattle.lx_words.proofs.front.name_len.Goals as goal

pub returns-then-first-eq34 : goal.returns-then-first-eq34
returns-then-first-eq34 c = led_to is_name ends_name c.args.text.now c.in_ok-first.first c.in_ok-first.rest.now c.quoted_rest_len.result c.one_more.result c.one_more.ensures c.in_ok-first.ensures refl (λ bs. name_quote _ bs c.if-first-eq34.true) c.quoted_rest_len.ensures

pub returns-else-first-eq34 : goal.returns-else-first-eq34
returns-else-first-eq34 c = same_to is_name (some_all is_name_byte) c.args.text.now c.in_ok-first.first c.in_ok-first.rest.now c.some_len.result c.in_ok-first.ensures refl (λ bs. name_plain _ bs c.if-first-eq34.false) (c.some_len.ensures is_name_byte c.plain_name_len.ensures)
