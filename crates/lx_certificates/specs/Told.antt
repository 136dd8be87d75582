-- The acts that are told: those that give or take something, and those of loans.
use Rattle.std.specs.Prelude.{◌≡◌, ℕ, Bool, true, false, nat_lt, List, reverse}
use Rattle.std.specs.List.{filter}
use Rattle.lx_caps.specs.declared.Principal.{Principal}
use Rattle.lx_caps.specs.declared.Cap.{Cap}
use Rattle.lx_caps.specs.declared.Atom.{Atom}
use Rattle.lx_caps.specs.declared.Act.{Act}
use Rattle.lx_caps.specs.declared.Act.TheVariants.{Grant, Strip, Zero, Loan, Lend, Shut, ShutAll}
use Rattle.lx_caps.specs.Loans.{lends}
use Rattle.lx_caps.specs.History.{History, owns, holds, keeps_all, without_zeros}
use Rattle.lx_certificates.specs.Givers.{count_of}

-- the capability has an atom: it is no empty range
abbrev pub has_atoms : Cap → Bool
has_atoms c = nat_lt 0 (count_of c)

-- the act gives or takes an atom, or is of a loan
abbrev pub is_told : Act → Bool
is_told (Grant q c) = has_atoms c
is_told (Strip c) = has_atoms c
is_told (Zero at size) = false
is_told (Loan t) = true
is_told (Lend t q c) = has_atoms c
is_told (Shut t n) = true
is_told (ShutAll t) = true

-- what is told of a history
abbrev pub told : History → History
told h = filter is_told h

pub record ToldLaws : Type 0 where
  -- what is not told changes no owner and no loan
  pub owners : (h : History) (q : Principal) (x : Atom) → owns (told h) q x ≡ owns h q x
  pub holders : (h : History) (who : Principal) (c : Cap) → holds (told h) who c ≡ holds h who c
  pub keepers : (h : History) (who : Principal) (c : Cap) → keeps_all (told h) who c ≡ keeps_all h who c
  pub lenders : (h : History) (t : ℕ) → lends (told h) t ≡ lends h t
  -- nor is it told of a history without zeros
  pub zeros_aside : (h : History) → told (without_zeros h) ≡ told h
  -- told from the oldest on, they are the same
  pub turned : (acts : List Act) → told (reverse acts) ≡ reverse (told acts)
