-- Functions that keep to their thread's stack.
use Rattle.std.specs.Prelude.{ℕ, IsTrue, List, [], ◌∷◌, ⊤}
use Rattle.lx_model.specs.Thread.{Frame}
use Rattle.lx_run_laws.specs.Servable.{is_on_stack}

-- the part of the stack of a function that runs lies in the thread's
abbrev pub IsOnStack : ℕ → Frame → Type 0
IsOnStack t f = IsTrue (is_on_stack t f.run.low f.run.high)

abbrev pub AreOnStack : ℕ → List Frame → Type 0
AreOnStack t [] = ⊤
AreOnStack t (f ∷ fs) = IsOnStack t f × AreOnStack t fs
