-- What texts without a fault are.
use Rattle.std.specs.Prelude.{◌≡◌, All, None, ◌<◌, ◌^◌, length}
use Rattle.lx_ir.specs.Lawful.{IsPlain}
use Rattle.lx_ir.specs.Verified.{IsVerified}
use Rattle.lx_model.specs.declared.program.ProgramModule.{ProgramModule}
use Rattle.lx_link_texts.specs.declared.sources.Sources.{Sources}
use Rattle.lx_annot.specs.Lawful.{IsLawfulInterface}
use Rattle.lx_link_texts.specs.Faults.{text_fault, limit_fault}
use Rattle.lx_link_texts.specs.Placing.{program_of, HasLimits}
use Rattle.lx_link_texts.specs.WellFormed.{IsWellFormed}

-- a verified module in which nothing stands that images alone have
abbrev pub IsSound : ProgramModule → Type 0
IsSound m = IsVerified m.«module» × IsPlain m.«module»

pub record AreSound (s : Sources) : Type 0 where
  pub kernel : IsVerified s.kernel
  pub kernel_plain : IsPlain s.kernel
  pub interface : IsLawfulInterface s.interface
  pub modules : All IsSound s.modules

-- sound texts without a fault make a well-formed program
abbrev pub AreWellFormed : Type 0
AreWellFormed = (s : Sources) → AreSound s → text_fault s ≡ None → limit_fault s ≡ None → IsWellFormed (program_of s)

-- verified texts are within what is numbered
abbrev pub VerifiedHaveLimits : Type 0
VerifiedHaveLimits =
    (s : Sources) → IsVerified s.kernel → All (λ (m : ProgramModule). IsVerified m.«module») s.modules → length s.modules < 2 ^ 32 → HasLimits s
