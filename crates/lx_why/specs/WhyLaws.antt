-- What is certified of a run is determined, and acts are never taken back.
use Rattle.std.specs.Prelude.{◌≡◌, ℕ, List, ◌++◌}
use Rattle.lx_caps.specs.History.{History}
use Rattle.lx_model.specs.declared.program.Program.{Program}
use Rattle.lx_model.specs.World.{World, event}
use Rattle.lx_why_text.specs.declared.Certified.{Certified}
use Rattle.lx_annot.specs.Canonical.{Text}
use Rattle.lx_model.specs.declared.program.ScriptCall.{ScriptCall}
use Rattle.lx_why.specs.Certified.{AreCertified, acts_so_far}
use Rattle.lx_why.specs.Why.{IsWhy}

-- the history has more acts on top
abbrev pub Grows : History → History → Type 0
Grows old new = (more : History) × (new ≡ more ++ old)

pub record WhyLaws : Type 0 where
  -- the events of a schedule have one list of certificates
  pub one : (p : Program) (n : ℕ) (schedule : List ℕ) (w : World) (xs ys : List Certified) → AreCertified p n schedule w xs → AreCertified p n schedule w ys → xs ≡ ys
  -- so a run that is certified has one text
  pub one_text : (p : Program) (script : List (List ScriptCall)) (schedule : List ℕ) (a b : Text) → IsWhy p script schedule a → IsWhy p script schedule b → a ≡ b
  -- no event takes back an act, so an act keeps its number
  pub grows : (p : Program) (t : ℕ) (w : World) → Grows w.state.history (event p t w).state.history
  pub numbers : (p : Program) (t : ℕ) (w : World) → Grows (acts_so_far w) (acts_so_far (event p t w))
