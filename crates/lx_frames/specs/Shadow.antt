-- What contracts see of a shadow stack.
use Rattle.std.specs.Prelude.{ℕ, Option, Some, None, List, [], ◌∷◌}
use Rattle.lx_caps.specs.declared.Principal.{Principal}

-- the principals, the innermost first, and for how many more there is room
pub record Stack : Type 0 where
  pub principals : List Principal
  pub room : ℕ

-- the first one, if there is one
abbrev pub innermost : List Principal → Option Principal
innermost [] = None
innermost (q ∷ qs) = Some q
