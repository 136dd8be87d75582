-- What is told of a run that is certified.
use Rattle.std.specs.Prelude.{◌≡◌, ℕ, true, List, reverse}
use Rattle.lx_annot.specs.Canonical.{Text}
use Rattle.lx_model.specs.declared.program.Program.{Program}
use Rattle.lx_model.specs.declared.program.ScriptCall.{ScriptCall}
use Rattle.lx_model.specs.Account.{account}
use Rattle.lx_model.specs.World.{World, is_whole, opening, run}
use Rattle.lx_why_text.specs.declared.Certified.{Certified}
use Rattle.lx_why_text.specs.Text.{why_text}
use Rattle.lx_why.specs.Certified.{AreCertified, acts_so_far}

-- the monitor's world behind the events of a schedule
abbrev pub behind : Program → List (List ScriptCall) → List ℕ → World
behind p script schedule = run p schedule (opening p script)

-- the text of a world's acts, and of certificates
abbrev pub certified_text : Program → World → List Certified → Text
certified_text p w certs = why_text p (account p w).names (reverse (acts_so_far w)) certs

-- The text is of the acts and of the certificates of the monitor's run of the program as it is written, under a whole schedule
pub record IsWhy (p : Program) (script : List (List ScriptCall)) (schedule : List ℕ) (text : Text) : Type 0 where
  pub whole : is_whole p schedule (opening p script) ≡ true
  pub certs : List Certified
  pub certified : AreCertified p 0 schedule (opening p script) certs
  pub written : text ≡ certified_text p (behind p script schedule) certs
