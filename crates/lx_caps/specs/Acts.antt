-- A list of acts as a program keeps it.
use Rattle.std.specs.Prelude.{ℕ, List}
use Rattle.lx_caps.specs.declared.Act.{Act}

-- the acts, the oldest first, and how many more there is room for
pub record Kept : Type 0 where
  pub list : List Act
  pub room : ℕ
