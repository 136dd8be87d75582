-- A loan leaves what was lent and owned before.
use Rattle.std.proofs.Common.{◌≡◌, ℕ, true, ◌&&◌}
use Rattle.lx_caps.specs.declared.Principal.{Principal}
use Rattle.lx_caps.specs.declared.Principal.TheVariants.{Kernel, Shared, Global, Inst}
use Rattle.lx_caps.specs.declared.Cap.{Cap}
use Rattle.lx_caps.specs.History.{History, with_lend, has, owns, same_principal}
use Rattle.lx_caps.specs.Loans.{lends}
use Rattle.std.proofs.lemmas.Bool.{or_right}
use Rattle.lx_caps.specs.declared.Atom.{Atom}

pub still_lends : (t : ℕ) (dest : Principal) (c : Cap) (h : History) → lends h t ≡ true → lends (with_lend t dest c h) t ≡ true
still_lends t Kernel c h is = is
still_lends t (Shared m) c h is = is
still_lends t (Global m) c h is = is
still_lends t (Inst m k) c h is = is

pub lend_owns : (t : ℕ) (dest : Principal) (c : Cap) (h : History) (q : Principal) (x : Atom) → owns h q x ≡ true → owns (with_lend t dest c h) q x ≡ true
lend_owns t Kernel c h q x is = is
lend_owns t (Shared m) c h q x is = or_right (lends h t && (same_principal q (Shared m) && has c x)) (owns h q x) is
lend_owns t (Global m) c h q x is = or_right (lends h t && (same_principal q (Global m) && has c x)) (owns h q x) is
lend_owns t (Inst m k) c h q x is = or_right (lends h t && (same_principal q (Inst m k) && has c x)) (owns h q x) is
