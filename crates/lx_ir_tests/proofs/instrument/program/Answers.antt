use Rattle.std.proofs.Common.{◌+◌, ◌<◌, ◌^◌, length, sym, subst, arith}
use Rattle.lx_ir.specs.Lawful.{IsPlain}
use Rattle.lx_ir_tests.proofs.instrument.program.Goals as goal

-- What is read is lawful, and plain as a program.

pub verify-requires : goal.verify-requires
verify-requires c =
    let few : length c.args.text.now + 1 < 2 ^ 32 = omega (arith, c.if-text-gt1000000.false) in
    c.whole_laws.ensures.lawful _ _ _ few c.in_ok-module.ensures.module

pub returns : goal.returns
returns c = subst IsPlain (sym c.in_ok-verified.ensures.whole) (c.whole_laws.ensures.plain _ _ c.in_ok-module.ensures.module)
