-- Where a key stands among the keys.
use Rattle.std.proofs.Common.{None, Option, Some, arith, ℕ, ◌+◌, ◌≡◌, ◌≤◌, true}
use Rattle.std.proofs.lemmas.Bool.Decides.{nat_tests}
use Rattle.lx_cap_lists.specs.Tables.{behind_parts, Key, same_key}

pub behind_far : (o : Option ℕ) (l : ℕ) → behind_parts o ≡ Some l → 0xc000 ≤ l
behind_far None l e = absurd cc
behind_far (Some i) l e = let is : 0xc000 + i ≡ l = cc in omega (arith, is)

pub same_parts : (x y : Key) → same_key x y ≡ true → x ≡ y
same_parts x y e =
    let a : x.0 ≡ y.0 = grind (arith, nat_tests, e) in
    let b : x.1 ≡ y.1 = grind (arith, nat_tests, e) in
    λ j. (a j, b j)
