-- Holders: who has an atom, and on what ground.
use Rattle.std.specs.Prelude.{ℕ, ◌-◌, Bool, false, not, nat_eq, nat_le, ◌&&◌, ◌||◌, [], ◌∷◌, length}
use Rattle.lx_caps.specs.declared.Principal.{Principal}
use Rattle.lx_caps.specs.declared.Atom.{Atom}
use Rattle.lx_caps.specs.declared.Act.TheVariants.{Grant, Strip, Zero, Loan, Lend, Shut, ShutAll}
use Rattle.lx_caps.specs.Loans.{lends}
use Rattle.lx_caps.specs.LoanLaws.{open_loans}
use Rattle.lx_caps.specs.History.{History, has, reaches, same_principal}
use Rattle.lx_cap_lists.specs.declared.holder.Holder.{Holder}
use Rattle.lx_cap_lists.specs.declared.holder.Holder.TheVariants.{Keeper, Borrower}
use Rattle.lx_cap_lists.specs.declared.holder.InReach.{InReach}
use Rattle.lx_cap_lists.specs.declared.holder.InReach.TheVariants.{Owned, Kept, Own}

abbrev pub principal_of : Holder → Principal
principal_of (Keeper q) = q
principal_of (Borrower t d q) = q

abbrev pub same_holder : Holder → Holder → Bool
same_holder (Keeper p) (Keeper q) = same_principal p q
same_holder (Borrower t d p) (Borrower u e q) = nat_eq t u && (nat_eq d e && same_principal p q)
same_holder _ _ = false

-- whoever of these principals has something, kept or on loan
abbrev pub by_all : (Principal → Bool) → Holder → Bool
by_all among s = among (principal_of s)

-- the principal has it, kept or on loan
abbrev pub held_by : Principal → Holder → Bool
held_by q s = by_all (same_principal q) s

-- whoever of these principals keeps something
abbrev pub by_keepers : (Principal → Bool) → Holder → Bool
by_keepers among (Keeper q) = among q
by_keepers among (Borrower t d q) = false

-- what the holder has is in the principal's reach, and kept there where that is asked; or it is the principal's own
abbrev pub counts : InReach → Holder → Bool
counts (Owned who) s = by_all (reaches who) s
counts (Kept who) s = by_keepers (reaches who) s
counts (Own who) s = held_by who s

-- how many loans of the thread have not ended
abbrev pub open_count : History → ℕ → ℕ
open_count h t = length (open_loans h t)

-- these holders, but for those on a loan of the thread that has so many older ones
abbrev pub left_by : ℕ → ℕ → (Holder → Bool) → Holder → Bool
left_by t older among (Keeper q) = among (Keeper q)
left_by t older among (Borrower u d q) = not (nat_eq t u && nat_le older d) && among (Borrower u d q)

-- some of these holders has the atom: it was granted it, or was lent it on the newest loan of a thread, which has not ended, and
-- no later act stripped it
abbrev pub had : (Holder → Bool) → History → Atom → Bool
had among [] x = false
had among (Grant q c ∷ h) x = (among (Keeper q) && has c x) || had among h x
had among (Strip c ∷ h) x = not (has c x) && had among h x
had among (Zero at size ∷ h) x = had among h x
had among (Loan t ∷ h) x = had among h x
had among (Lend t q c ∷ h) x = (lends h t && (among (Borrower t (open_count h t - 1) q) && has c x)) || had among h x
had among (Shut t n ∷ h) x = had (left_by t (open_count h t - n) among) h x
had among (ShutAll t ∷ h) x = had (left_by t 0 among) h x
