use Rattle.std.proofs.Common.{◌∷◌, ◌-◌, length, take, drop, arith, ap, ◌∙◌}
use Rattle.std.proofs.lemmas.Bool.{ne_eqb}
use Rattle.std.proofs.lemmas.List.Sums.{prefix_len-le-length}
use Rattle.lx_words.specs.Lexemes.{is_within}
use Rattle.lx_script.proofs.Cutting.{ends_with_text, ends_with_feed, ends_with_byte, none_first, first_and_tail}
use Rattle.lx_script.proofs.statement.front_statement.Goals as goal

pub split_at-requires : goal.split_at-requires
split_at-requires c = omega (arith, c.line_len.ensures, prefix_len-le-length (is_within 32 126) c.args.text.now)

pub returns-in-None-clause-front : goal.returns-in-None-clause-front
returns-in-None-clause-front c =
    rw c.statement_in.ensures
    (ends_with_text c.args.row c.line_len.result c.args.text.now c.split_at.result.0.now c.split_at.result.1.now c.line_len.ensures c.split_at.ensures.front c.split_at.ensures.back (none_first c.split_at.result.1.now c.in-None.ensures.value))

pub returns-in-Some-eq10-clause-front : goal.returns-in-Some-eq10-clause-front
returns-in-Some-eq10-clause-front c =
    let rest = take (length c.split_at.result.1.now - 1) (drop 1 c.split_at.result.1.now) in
    rw c.statement_in-in-Some-eq10.ensures
    (ends_with_feed c.args.row c.line_len.result c.args.text.now c.split_at.result.0.now c.split_at.result.1.now rest c.line_len.ensures c.split_at.ensures.front c.split_at.ensures.back (first_and_tail c.split_at.result.1.now c.in-Some-eq10.field-0.now c.in-Some-eq10.ensures.value ∙ ap (λ b. b ∷ rest) c.in-Some-eq10.field-0-test))

pub returns-in-Some-clause-front : goal.returns-in-Some-clause-front
returns-in-Some-clause-front c =
    let rest = take (length c.split_at.result.1.now - 1) (drop 1 c.split_at.result.1.now) in
    rw c.statement_in-in-Some.ensures
    (ends_with_byte c.args.row c.line_len.result c.args.text.now c.split_at.result.0.now c.split_at.result.1.now c.in-Some.byte.now rest c.line_len.ensures c.split_at.ensures.front c.split_at.ensures.back (first_and_tail c.split_at.result.1.now c.in-Some.byte.now c.in-Some.ensures.value) (ne_eqb c.in-Some.byte.now 10 c.in-Some.byte-test.1))
