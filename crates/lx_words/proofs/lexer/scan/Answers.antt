use Rattle.std.proofs.Common.{◌+◌, arith}
use Rattle.lx_words.proofs.Pieces.{reach_to}
use Rattle.lx_words.proofs.Standing.{tokens_stand}
use Rattle.lx_words.proofs.lexer.scan.Goals as goal

pub loop-rest-preserved : goal.loop-rest-preserved
loop-rest-preserved c = record {
  so_far = reach_to c.args.rule c.args.text.now c.loop-rest.tokens c.loop-rest.at c.loop-rest.line c.loop-rest.rest.now c.in-Some.lexeme (c.in-Some.behind + 1) c.split_at.result.0.now c.split_at.result.1.now c.add_token.new.tokens c.line_feeds.result
      c.loop-rest.invariant.so_far c.split_at.ensures.front c.split_at.ensures.back c.in-Some.ensures c.in_ok-add_token.ensures c.line_feeds.ensures.value;
  place = omega (arith, c.loop-rest.invariant.place, c.split_at.ensures.front_len, c.split_at.ensures.back_len);
  lines = omega (arith, c.loop-rest.invariant.lines, c.line_feeds.ensures.within);
}

pub returns-in_default-clause-each : goal.returns-in_default-clause-each
returns-in_default-clause-each c =
    tokens_stand c.args.rule c.args.text.now c.loop-rest.tokens c.loop-rest.at c.loop-rest.line c.loop-rest.rest.now c.loop-rest.invariant.so_far

pub returns-clause-each : goal.returns-clause-each
returns-clause-each c =
    tokens_stand c.args.rule c.args.text.now c.loop-rest.tokens c.loop-rest.at c.loop-rest.line c.loop-rest.rest.now c.loop-rest.invariant.so_far
