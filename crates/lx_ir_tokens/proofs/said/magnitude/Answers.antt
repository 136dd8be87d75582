use Rattle.std.proofs.Common.{◌^◌, arith}
use Rattle.lx_words.proofs.Values.{too_large}
use Rattle.lx_ir_tokens.proofs.said.magnitude.Goals as goal

pub returns-in_err-checked_mul : goal.returns-in_err-checked_mul
returns-in_err-checked_mul c =
    rw (c.from_residual.ensures) (too_large 10 (2 ^ 128) c.loop-digit.number c.loop-digit.digit-index c.args.digits.now (omega arith) c.loop-digit-test.true c.loop-digit.invariant (omega (arith, c.in_err-checked_mul.ensures)))

pub returns-in_err-number : goal.returns-in_err-number
returns-in_err-number c =
    rw (c.from_residual-in_err-number.ensures) (too_large 10 (2 ^ 128) c.loop-digit.number c.loop-digit.digit-index c.args.digits.now (omega arith) c.loop-digit-test.true c.loop-digit.invariant (omega (arith, c.in_err-number.ensures, c.in_ok-checked_mul.ensures, c.digit_value.ensures)))
