-- What an account says of what principals own.
use Rattle.std.specs.Prelude.{ℕ, List, map}
use Rattle.lx_caps.specs.declared.Principal.{Principal}
use Rattle.lx_caps.specs.declared.Cap.{Cap}
use Rattle.lx_caps.specs.History.{History}
use Rattle.lx_model.specs.declared.account.Owned.{Owned}
use Rattle.lx_model.specs.Owned.{owned_caps}

-- what a principal owns, in its name
abbrev pub owned_as : Principal → Cap → Owned
owned_as who c = record { who = who; cap = c }

unfoldable pub owned_in : ℕ → History → Principal → List Owned
owned_in types h q = map (owned_as q) (owned_caps types h q)
