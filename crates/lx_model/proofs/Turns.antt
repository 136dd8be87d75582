-- One turn more.
use Rattle.std.proofs.Common.{List, [], refl, ℕ, ◌++◌, ◌∷◌, ◌≡◌}
use Rattle.lx_model.specs.World.{World, event, run}
use Rattle.lx_model.specs.declared.program.Program.{Program}

pub run_more : (p : Program) (s : List ℕ) (t : ℕ) (w : World) → run p (s ++ t ∷ []) w ≡ event p t (run p s w)
run_more p [] t w = refl
run_more p (u ∷ s) t w = run_more p s t (event p u w)
