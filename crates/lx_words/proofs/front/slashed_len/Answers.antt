use Rattle.std.proofs.Common.{refl, false, Some}
use Rattle.std.specs.List.{list_all}
use Rattle.lx_words.specs.Lexemes.{is_slashed, is_line_byte, ends_block}
use Rattle.lx_words.proofs.Fronts.{led_to, run_to, slashed_line, slashed_block}
use Rattle.lx_words.proofs.front.slashed_len.Goals as goal

pub returns-then-first-eq47 : goal.returns-then-first-eq47
returns-then-first-eq47 c = led_to is_slashed (list_all is_line_byte) c.args.text.now c.in_ok-first.first c.in_ok-first.rest.now (Some c.line_len.result) c.one_more.result c.one_more.ensures c.in_ok-first.ensures refl (λ bs. slashed_line _ bs c.if-first-eq47.true) (run_to is_line_byte c.in_ok-first.rest.now c.line_len.result c.line_len.ensures)

pub returns-then-first-eq42 : goal.returns-then-first-eq42
returns-then-first-eq42 c = led_to is_slashed (ends_block false) c.args.text.now c.in_ok-first.first c.in_ok-first.rest.now c.block_len.result c.one_more-then-first-eq42.result c.one_more-then-first-eq42.ensures c.in_ok-first.ensures refl (λ bs. slashed_block _ bs c.if-first-eq47.false c.if-first-eq42.true) c.block_len.ensures

pub one_more-requires : goal.one_more-requires
one_more-requires c = (run_to is_line_byte c.in_ok-first.rest.now c.line_len.result c.line_len.ensures).within
