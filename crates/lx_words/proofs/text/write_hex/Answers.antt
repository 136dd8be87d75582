use Rattle.std.proofs.Common.{arith, ◌+◌, ◌∙◌}
use Rattle.std.proofs.lemmas.List.{length-set}
use Rattle.lx_words.specs.Text.{digits_to}
use Rattle.lx_words.proofs.HexText.{hex_step, hex_more, hex_end}
use Rattle.lx_words.proofs.text.write_hex.Goals as goal

pub loop-rest-preserved : goal.loop-rest-preserved
loop-rest-preserved c =
    let so_far = c.loop-rest.invariant in
    let step = hex_step c.loop-rest.left c.loop-rest.rest c.loop-rest-test.true so_far.fits in
    record {
      most = omega arith;
      least = omega (arith, step.0);
      size = length-set c.loop-rest.buffer (c.loop-rest.left + 1) c.hex_digit.result ∙ so_far.size;
      fits = step.1;
      so_far = hex_more c.loop-rest.buffer c.loop-rest.left c.loop-rest.rest c.hex_digit.result (digits_to 16 32 c.args.v) so_far.size so_far.most so_far.least c.loop-rest-test.true c.hex_digit.ensures so_far.so_far;
    }

pub returns-clause-text : goal.returns-clause-text
returns-clause-text c =
    let so_far = c.loop-rest.invariant in
    hex_end c.loop-rest.buffer c.loop-rest.left c.loop-rest.rest c.hex_digit-2.result (digits_to 16 32 c.args.v) so_far.size so_far.most so_far.least (omega arith) c.hex_digit-2.ensures so_far.so_far
