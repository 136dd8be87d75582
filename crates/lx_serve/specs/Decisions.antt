-- Decisions that are made in parts.
use Rattle.std.specs.Prelude.{ℕ, zero, suc, Option, None}
use Rattle.lx_caps.specs.declared.Principal.{Principal}
use Rattle.lx_caps.specs.declared.Principal.TheVariants.{Kernel}
use Rattle.lx_model.specs.declared.request.Outcome.{Outcome}
use Rattle.lx_model.specs.declared.request.Outcome.TheVariants.{Refused}
use Rattle.lx_model.specs.declared.request.Refusal.TheVariants as refusal
use Rattle.lx_model.specs.Act.{or_else, unmapped}
use Rattle.lx_model.specs.Decide.{decide_write, unless_mapped}
use Rattle.lx_model.specs.State.{State}

-- the outcome of a write that may not be: the kernel's is not mapped, and a module does not hold the range
abbrev pub unwritable : Principal → ℕ → ℕ → Outcome
unwritable Kernel at size = unmapped at
unwritable who at size = Refused (refusal.Write who at size)

-- the outcome of a copy: what is written is looked at first, and a copy of nothing comes to none
abbrev pub copy_outcome : State → Principal → ℕ → ℕ → ℕ → Option Outcome
copy_outcome s who to from zero = None
copy_outcome s who to from (suc n) = or_else (decide_write s who to (suc n)) (unless_mapped from (suc n))
