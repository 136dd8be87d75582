-- One more module has its image.
use Rattle.std.proofs.Common.{◌≡◌, ℕ, ◌+◌, ◌<◌, Bool, true, false, nat_lt, List, refl, subst, arith, ltb-true}
use Rattle.std.proofs.lemmas.Bool.Decides.{nat_tests}
use Rattle.lx_ir.specs.declared.module.Module.{Module}
use Rattle.lx_model.specs.declared.program.Program.{Program}
use Rattle.lx_simulation.specs.Accepted.{HasImageAt}

is_last : (m k : ℕ) → m < k + 1 → nat_lt m k ≡ false → k ≡ m
is_last m k less e = grind (arith, nat_tests, less, e)

by : (p : Program) (images : List Module) (k m : ℕ) (b : Bool) → ((n : ℕ) → n < k → HasImageAt p images n) → HasImageAt p images k → m < k + 1 → nat_lt m k ≡ b → HasImageAt p images m
by p images k m true before here less e = before m (ltb-true m k e)
by p images k m false before here less e = subst (HasImageAt p images) (is_last m k less e) here

pub one_more : (p : Program) (images : List Module) (k : ℕ) → ((n : ℕ) → n < k → HasImageAt p images n) → HasImageAt p images k → (m : ℕ) → m < k + 1 → HasImageAt p images m
one_more p images k before here m less = by p images k m (nat_lt m k) before here less refl
