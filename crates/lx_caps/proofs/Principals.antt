-- That the same principals are equal.
use Rattle.std.proofs.Common.{arith, refl, true, ◌≡◌}
use Rattle.std.proofs.lemmas.Bool.Decides.{nat_tests}
use Rattle.lx_caps.specs.History.{same_principal}
use Rattle.lx_caps.specs.declared.Principal.{Principal}
use Rattle.lx_caps.specs.declared.Principal.TheVariants.{Global, Inst, Kernel, Shared}

pub same_principal_itself : (q : Principal) → same_principal q q ≡ true
same_principal_itself Kernel = refl
same_principal_itself (Shared m) = grind arith
same_principal_itself (Global m) = grind arith
same_principal_itself (Inst m k) = grind arith

pub same_principal_is : (p q : Principal) → same_principal p q ≡ true → p ≡ q
same_principal_is Kernel Kernel t = refl
same_principal_is (Shared m) (Shared n) t = grind (arith, nat_tests, t)
same_principal_is (Global m) (Global n) t = grind (arith, nat_tests, t)
same_principal_is (Inst m k) (Inst n l) t = grind (arith, nat_tests, t)
same_principal_is _ _ t = cc
