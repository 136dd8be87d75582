use Rattle.std.proofs.Common.{◌+◌, ◌<◌, ◌^◌, length, arith}
use Rattle.lx_ir_tests.proofs.check.verified.Goals as goal

-- What is read is lawful.
pub verify-requires : goal.verify-requires
verify-requires c =
    let few : length c.args.text.now + 1 < 2 ^ 32 = omega (arith, c.if-text-gt1000000.false) in
    c.whole_laws.ensures.lawful _ _ _ few c.in_ok-module.ensures.module
