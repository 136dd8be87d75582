-- Worked rows of certificates.
use Rattle.std.specs.Prelude.{◌≡◌, true, false, Some, None, [], ◌∷◌}
use Rattle.lx_caps.specs.declared.Principal.TheVariants.{Kernel, Shared, Inst}
use Rattle.lx_caps.specs.declared.Cap.{Cap}
use Rattle.lx_caps.specs.declared.Cap.TheVariants as cap
use Rattle.lx_caps.specs.declared.Atom.TheVariants as atom
use Rattle.lx_caps.specs.declared.Act.TheVariants.{Grant, Strip, Zero, Loan, Lend, Shut, ShutAll}
use Rattle.lx_caps.specs.History.{History}
use Rattle.lx_certificates.specs.declared.Cert.TheVariants.{Allow, Deny, Borrowed}
use Rattle.lx_certificates.specs.Certificates.{is_cert}
use Rattle.lx_certificates.specs.Told.{told}

-- a global of seven bytes and a function are granted when the run opens
abbrev pub opened : History
opened = Grant (Shared 0) (cap.Call 0x10060) ∷ Grant (Shared 0) (cap.Write 0x1000000 7) ∷ []

-- half of a word is the shared principal's, and half the instance's
abbrev pub span : History
span = Grant (Inst 0 0) (cap.Write 8 8) ∷ Strip (cap.Write 8 8) ∷ Grant (Shared 0) (cap.Write 0 16) ∷ []

-- and is lent on
abbrev pub lent : History
lent = Lend 0 (Shared 1) (cap.Write 12 4) ∷ Loan 0 ∷ span

abbrev pub empty : Cap
empty = cap.Write 0x3000000 0

pub record WorkedCertificates : Type 0 where
  -- eight bytes from the global on are one too many
  pub past_the_end : is_cert opened (Deny (Shared 0) (cap.Write 0x1000000 8) (atom.Byte 0x1000007) None) ≡ true
  pub not_before_the_end : is_cert opened (Deny (Shared 0) (cap.Write 0x1000000 8) (atom.Byte 0x1000006) None) ≡ false
  pub all_of_it : is_cert opened (Allow (Shared 0) (cap.Write 0x1000000 7) true (record { low = 0x1000000; size = 7; act = 0 } ∷ [])) ≡ true
  pub instance : is_cert opened (Allow (Inst 0 3) (cap.Call 0x10060) false (record { low = 0x10060; size = 1; act = 1 } ∷ [])) ≡ true
  pub reference : is_cert (Grant (Shared 0) (cap.Ref 2 0x1000000) ∷ []) (Allow (Shared 0) (cap.Ref 2 0x1000000) true (record { low = 0x1000000; size = 1; act = 0 } ∷ [])) ≡ true
  -- the kernel has none
  pub of_kernel : is_cert opened (Allow Kernel (cap.Write 0x1000000 0) false []) ≡ false
  -- two parts, with the act of each
  pub across : is_cert span (Allow (Inst 0 0) (cap.Write 4 8) true (record { low = 4; size = 4; act = 0 } ∷ record { low = 8; size = 4; act = 2 } ∷ [])) ≡ true
  pub not_in_three : is_cert span (Allow (Inst 0 0) (cap.Write 4 8) true (record { low = 4; size = 2; act = 0 } ∷ record { low = 6; size = 2; act = 0 } ∷ record { low = 8; size = 4; act = 2 } ∷ [])) ≡ false
  -- the strip behind the grant counts
  pub stripped : is_cert span (Deny (Shared 0) (cap.Write 4 8) (atom.Byte 8) (Some 1)) ≡ true
  pub not_without_strip : is_cert span (Allow (Shared 0) (cap.Write 4 8) true (record { low = 4; size = 8; act = 0 } ∷ [])) ≡ false
  pub nothing : is_cert span (Allow (Shared 1) (cap.Write 4 0) true []) ≡ true
  -- a loan gives, and gives nothing to keep
  pub on_loan : is_cert lent (Allow (Shared 1) (cap.Write 12 4) false (record { low = 12; size = 4; act = 4 } ∷ [])) ≡ true
  pub borrowed : is_cert lent (Borrowed (Shared 1) (cap.Write 12 4) (atom.Byte 12) 4) ≡ true
  pub ended : is_cert (Shut 0 1 ∷ lent) (Deny (Shared 1) (cap.Write 12 4) (atom.Byte 12) (Some 1)) ≡ true
  -- acts without atoms are not told, nor are zeros
  pub told_acts : told (Strip empty ∷ Grant (Shared 0) empty ∷ Lend 0 (Shared 1) empty ∷ Zero 0 8 ∷ ShutAll 0 ∷ opened) ≡ ShutAll 0 ∷ opened
