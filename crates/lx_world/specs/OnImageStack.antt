-- Functions of images that keep to their thread's stack.
use Rattle.std.specs.Prelude.{ℕ, IsTrue, List, [], ◌∷◌, ⊤}
use Rattle.lx_run_laws.specs.Servable.{is_on_stack}
use Rattle.lx_images.specs.Image.{ImageFrame, Runs, Wraps}

-- the part of the stack of a function that runs lies in the thread's; a wrapper has none
abbrev pub IsOnImageStack : ℕ → ImageFrame → Type 0
IsOnImageStack t (Runs a) = IsTrue (is_on_stack t a.low a.high)
IsOnImageStack t (Wraps n args lines x) = ⊤

abbrev pub AreOnImageStack : ℕ → List ImageFrame → Type 0
AreOnImageStack t [] = ⊤
AreOnImageStack t (f ∷ fs) = IsOnImageStack t f × AreOnImageStack t fs
