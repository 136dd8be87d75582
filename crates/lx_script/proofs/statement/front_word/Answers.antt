use Rattle.std.proofs.Common.{arith, sym}
use Rattle.std.proofs.lemmas.List.Sums.{prefix_len-le-length}
use Rattle.lx_script.specs.LineParts.{is_letter, is_space}
use Rattle.lx_script.proofs.Cutting.{first_word, no_word_left}
use Rattle.lx_script.proofs.statement.front_word.Goals as goal

pub split_at-requires : goal.split_at-requires
split_at-requires c = omega (arith, c.spaces_len.ensures, prefix_len-le-length is_space c.args.text.now)

pub split_at-requires-2 : goal.split_at-requires-2
split_at-requires-2 c = omega (arith, c.word_len.ensures, prefix_len-le-length is_letter c.split_at.result.1.now)

pub returns-then-is_empty : goal.returns-then-is_empty
returns-then-is_empty c =
    no_word_left c.args.text.now c.split_at.result.1.now c.split_at-2.result.0.now c.spaces_len.result c.word_len.result c.spaces_len.ensures c.split_at.ensures.back c.word_len.ensures c.split_at-2.ensures.front (sym c.if-is_empty.ensures)

pub returns-else-is_empty : goal.returns-else-is_empty
returns-else-is_empty c =
    first_word c.args.text.now c.split_at.result.1.now c.split_at-2.result.0.now c.split_at-2.result.1.now c.spaces_len.result c.word_len.result c.spaces_len.ensures c.split_at.ensures.back c.word_len.ensures c.split_at-2.ensures.front c.split_at-2.ensures.back (sym c.if-is_empty.ensures)
