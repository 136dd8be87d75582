-- A loan leaves what was lent and owned before.
use Rattle.std.proofs.Common.{◌≡◌, ℕ, true, List, [], ◌∷◌}
use Rattle.lx_caps.specs.declared.Principal.{Principal}
use Rattle.lx_caps.specs.declared.Cap.{Cap}
use Rattle.lx_caps.specs.declared.Atom.{Atom}
use Rattle.lx_caps.specs.History.{History, owns, with_lend}
use Rattle.lx_model.specs.Act.{with_lends}
use Rattle.lx_caps.proofs.Lending.{lend_owns}

pub lends_own : (t : ℕ) (dest : Principal) (caps : List Cap) (h : History) (q : Principal) (x : Atom) → owns h q x ≡ true → owns (with_lends t dest caps h) q x ≡ true
lends_own t dest [] h q x is = is
lends_own t dest (c ∷ cs) h q x is = lends_own t dest cs (with_lend t dest c h) q x (lend_owns t dest c h q x is)
