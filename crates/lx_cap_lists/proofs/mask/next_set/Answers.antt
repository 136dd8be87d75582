use Rattle.std.proofs.Common.{arith, w64, ◌/◌, ◌^◌}
use Rattle.std.specs.Int.{trailing_zeros}
use Rattle.std.proofs.lemmas.Bool.Decides.{nat_tests}
use Rattle.std.proofs.Math.Nat.{div-le_self}
use Rattle.std.proofs.lemmas.Nat.Bits.{bit_at-trailing_zeros}
use Rattle.lx_cap_lists.proofs.NextBit.{none_left, next_found}
use Rattle.lx_cap_lists.proofs.mask.next_set.Goals as goal

pub returns-then-left-eq0 : goal.returns-then-left-eq0
returns-then-left-eq0 c = none_left c.args.mask c.args.place (grind (arith, nat_tests, c.if-left-eq0.true))

pub returns-else-left-eq0 : goal.returns-else-left-eq0
returns-else-left-eq0 c =
    let left = c.args.mask / 2 ^ c.args.place in
    let found = bit_at-trailing_zeros w64 left (grind (arith, nat_tests, c.if-left-eq0.false)) (omega (arith, div-le_self c.args.mask (2 ^ c.args.place), c.ranges.mask.fits)) in
    next_found c.args.mask c.args.place (trailing_zeros w64 left) c.ranges.mask.fits (found.1, found.2)
