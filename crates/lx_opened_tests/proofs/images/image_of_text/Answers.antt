use Rattle.std.proofs.Common.{◌+◌, ◌<◌, ◌^◌, length, arith}
use Rattle.lx_opened_tests.proofs.images.image_of_text.Goals as goal

-- What is read is lawful.
pub verify-requires : goal.verify-requires
verify-requires c =
    let few : length c.args.text.now + 1 < 2 ^ 32 = omega (arith, c.if-text-gt1000000.false) in
    c.whole_laws.ensures.lawful _ _ _ few c.in_ok-module.ensures.module
