-- Which ranges lie in memory, and what is decided of writes.
use Rattle.std.proofs.Common.{◌≡◌, refl, ℕ, ◌+◌, ◌<◌, ◌≤◌, true, arith}
use Rattle.std.proofs.lemmas.Bool.Decides.{nat_tests}
use Rattle.lx_caps.specs.declared.Principal.{Principal}
use Rattle.lx_caps.specs.declared.Principal.TheVariants.{Kernel, Shared, Global, Inst}
use Rattle.lx_caps.specs.declared.Cap.TheVariants.{Write}
use Rattle.lx_caps.specs.Regions.{mapped, stack_start, stack_end}
use Rattle.lx_caps.specs.History.{holds}
use Rattle.lx_model.specs.State.{State}
use Rattle.lx_model.specs.Act.{unless}
use Rattle.lx_model.specs.Decide.{decide_write}
use Rattle.lx_serve.specs.Decisions.{unwritable}

-- a part of a thread's stack lies in memory
pub stack_mapped : (t at size : ℕ) → t < 16 → stack_start t ≤ at → at + size ≤ stack_end t → mapped at size ≡ true
stack_mapped t at size thread low high = grind (arith, nat_tests)

-- a write is decided by what its principal holds
pub write_decided : (s : State) (who : Principal) (at size : ℕ) → decide_write s who at size ≡ unless (holds s.history who (Write at size)) (unwritable who at size)
write_decided s Kernel at size = refl
write_decided s (Shared m) at size = refl
write_decided s (Global m) at size = refl
write_decided s (Inst m k) at size = refl
