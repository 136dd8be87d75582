use Rattle.std.proofs.Common.{refl, ap, sym, ◌&&◌}
use Rattle.lx_words.specs.Lexemes.{ends_name, ends_quoted, is_quoted_name_byte}
use Rattle.lx_words.proofs.Fronts.{led_to}
use Rattle.lx_words.proofs.front.quoted_rest_len.Goals as goal

pub returns : goal.returns
returns c = led_to ends_name (ends_quoted is_quoted_name_byte) c.args.text.now c.in_ok-first.first c.in_ok-first.rest.now c.closed_len.result c.one_more.result c.one_more.ensures c.in_ok-first.ensures refl
    (λ bs. ap (λ b. b && ends_quoted is_quoted_name_byte bs) (sym c.if-not-stands_in_quoted_name.ensures)) (c.closed_len.ensures is_quoted_name_byte refl c.quoted_name_len.ensures)
