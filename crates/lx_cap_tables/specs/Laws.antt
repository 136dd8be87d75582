-- What holders have, in the words of those who keep and own; and worked rows of the bounds.
use Rattle.std.specs.Prelude.{◌≡◌, [], ◌∷◌}
use Rattle.lx_caps.specs.declared.Principal.{Principal}
use Rattle.lx_caps.specs.declared.Principal.TheVariants.{Shared}
use Rattle.lx_caps.specs.declared.Cap.TheVariants.{Write, Call}
use Rattle.lx_caps.specs.declared.Atom.{Atom}
use Rattle.lx_caps.specs.declared.Act.TheVariants.{Grant, Strip, Loan, Lend, Shut}
use Rattle.lx_caps.specs.History.{History, keeps, owns}
use Rattle.lx_cap_lists.specs.declared.holder.Holder.TheVariants.{Keeper}
use Rattle.lx_cap_lists.specs.Holders.{had, held_by, same_holder}
use Rattle.lx_cap_tables.specs.Work.{shut_bound, strip_bound}

pub record HolderLaws : Type 0 where
  -- a keeper has what it keeps
  pub kept : (h : History) (q : Principal) (x : Atom) → had (same_holder (Keeper q)) h x ≡ keeps h q x
  -- a principal owns what it has on whatever ground
  pub owned : (h : History) (q : Principal) (x : Atom) → had (held_by q) h x ≡ owns h q x

-- three principals keep the same part
abbrev pub three : History
three = Grant (Shared 2) (Write 0x2000000 64) ∷ Grant (Shared 1) (Write 0x2000000 64) ∷ Grant (Shared 0) (Write 0x2000000 64) ∷ []

-- one of them lends eight bytes of it to another one, and sixteen over the edge of the part on a second loan
abbrev pub lent : History
lent = Lend 0 (Shared 1) (Write 0x2000038 16) ∷ Loan 0 ∷ Lend 0 (Shared 1) (Write 0x2000000 8) ∷ Loan 0 ∷ Grant (Shared 0) (Write 0x2000000 128) ∷ []

pub record WorkedBounds : Type 0 where
  pub one_part : strip_bound three (Write 0x2000010 16) ≡ 4
  pub two_parts : strip_bound three (Write 0x2000030 32) ≡ 5
  pub no_bytes : strip_bound three (Write 0x2000010 0) ≡ 0
  pub no_call : strip_bound three (Call 0x10000) ≡ 1
  pub of_loans : strip_bound lent (Write 0x2000000 64) ≡ 4
  pub newest_ends : shut_bound lent 0 1 ≡ 3
  pub both_end : shut_bound lent 0 2 ≡ 5
  pub no_more_than_there_are : shut_bound lent 0 9 ≡ 5
  pub none_ends : shut_bound lent 0 0 ≡ 0
  pub of_another_thread : shut_bound lent 1 1 ≡ 0
  pub stripped : shut_bound (Strip (Write 0x2000000 64) ∷ lent) 0 2 ≡ 3
  pub ended : shut_bound (Shut 0 1 ∷ lent) 0 1 ≡ 2
