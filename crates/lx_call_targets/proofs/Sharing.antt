-- What a module's shared principal holds, its instances hold.
use Rattle.std.proofs.Common.{◌≡◌, ℕ, true, nat_eq, refl, subst, eqb-true}
use Rattle.std.proofs.lemmas.Bool.{eq-eqb}
use Rattle.lx_caps.specs.declared.Atom.TheVariants as atom
use Rattle.lx_caps.specs.declared.Cap.TheVariants.{Call}
use Rattle.lx_caps.specs.declared.Principal.{Principal}
use Rattle.lx_caps.specs.declared.Principal.TheVariants.{Shared, Inst}
use Rattle.lx_caps.specs.History.{History, holds, reaches}
use Rattle.lx_caps.proofs.Histories.{owned_by_owner}

inst_holds : (h : History) (m k a : ℕ) → holds h (Shared m) (Call a) ≡ true → holds h (Inst m k) (Call a) ≡ true
inst_holds h m k a is = owned_by_owner (reaches (Inst m k)) h (atom.Call a) (Shared m) (eq-eqb m m refl) is

pub instance_holds : (of home k : ℕ) → nat_eq of home ≡ true → (h : History) (a : ℕ) → holds h (Shared home) (Call a) ≡ true → holds h (Inst of k) (Call a) ≡ true
instance_holds of home k same = subst (λ (m : ℕ). (h : History) (a : ℕ) → holds h (Shared m) (Call a) ≡ true → holds h (Inst of k) (Call a) ≡ true) (eqb-true of home same) (λ h a is. inst_holds h of k a is)

pub shared_itself : (of home : ℕ) → nat_eq of home ≡ true → (h : History) (a : ℕ) → holds h (Shared home) (Call a) ≡ true → holds h (Shared of) (Call a) ≡ true
shared_itself of home same = subst (λ (m : ℕ). (h : History) (a : ℕ) → holds h (Shared m) (Call a) ≡ true → holds h (Shared of) (Call a) ≡ true) (eqb-true of home same) (λ h a is. is)
