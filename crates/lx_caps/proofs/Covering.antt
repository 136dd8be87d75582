-- Which bytes a piece of memory covers.
use Rattle.std.proofs.Common.{arith, true, ℕ, ◌+◌, ◌<◌, ◌≡◌, ◌≤◌, ◌^◌, false}
use Rattle.std.proofs.lemmas.Bool.Decides.{nat_tests}
use Rattle.lx_caps.specs.Regions.{covers, mapped}

pub covers_parts : (at size b : ℕ) → covers at size b ≡ true → (at ≤ b) × (b < at + size)
covers_parts at size b is = grind (arith, nat_tests)

pub placed_within : (at size : ℕ) → mapped at size ≡ true → 0 < size → at + size + 63 < 2 ^ 64
placed_within at size is some = grind (arith, nat_tests, is, some)

pub none_covered : (at b : ℕ) → covers at 0 b ≡ false
none_covered at b = grind (arith, nat_tests)

pub slot_end : (slot : ℕ) → mapped slot 8 ≡ true → slot + 8 ≤ 2 ^ 64
slot_end slot is = grind (arith, nat_tests)

pub covers_above : (at size b : ℕ) → at + size ≤ b → covers at size b ≡ false
covers_above at size b h = grind (arith, h)
