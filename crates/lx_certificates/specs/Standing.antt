-- What it means that an act gave an atom and still stands, in the words of acts.
use Rattle.std.specs.Prelude.{◌≡◌, ℕ, ◌≤◌, IsTrue, Some, None, ◌∷◌, ◌++◌, length}
use Rattle.lx_caps.specs.declared.Principal.{Principal}
use Rattle.lx_caps.specs.declared.Cap.{Cap}
use Rattle.lx_caps.specs.declared.Atom.{Atom}
use Rattle.lx_caps.specs.declared.Act.{Act}
use Rattle.lx_caps.specs.declared.Act.TheVariants.{Grant, Strip, Lend}
use Rattle.lx_caps.specs.History.{History, has, reaches}
use Rattle.lx_caps.specs.LoanLaws.{newest_loan, open_loans, stands_in}
use Rattle.lx_caps.specs.OwnerLaws.{NoStrip}
use Rattle.lx_certificates.specs.declared.givers.Gifts.{Gifts}
use Rattle.lx_certificates.specs.Givers.{by_grant, by_lend, giver, newest_strip}

-- an act behind these earlier ones, in a history, gives the atom to someone in reach: a grant does, and a lend does while its
-- loan, which is the newest one of its thread before it, has not ended
abbrev pub Gives : Gifts → History → Principal → Atom → Act → History → Type 0
Gives gifts h who x (Grant q c) earlier = IsTrue (by_grant gifts) × IsTrue (reaches who q) × IsTrue (has c x)
Gives gifts h who x (Lend t q c) earlier =
    IsTrue (by_lend gifts) × IsTrue (reaches who q) × IsTrue (has c x) × ((loan : ℕ) × (newest_loan earlier t ≡ Some loan) × IsTrue (stands_in loan (open_loans h t)))
Gives gifts h who x _ earlier = ⊥

-- the act with this number gives the atom, and no strip behind it has the atom
pub record Stands (gifts : Gifts) (h : History) (who : Principal) (x : Atom) (number : ℕ) : Type 0 where
  pub later : History
  pub act : Act
  pub earlier : History
  pub place : h ≡ later ++ act ∷ earlier
  pub is_numbered : length earlier ≡ number
  pub kept : NoStrip x later
  pub gives : Gives gifts h who x act earlier

-- the act with this number is a strip that has the atom, and no strip behind it has the atom
pub record IsStripped (h : History) (x : Atom) (number : ℕ) : Type 0 where
  pub later : History
  pub cap : Cap
  pub earlier : History
  pub place : h ≡ later ++ Strip cap ∷ earlier
  pub is_numbered : length earlier ≡ number
  pub taken : IsTrue (has cap x)
  pub kept : NoStrip x later

pub record StandingLaws : Type 0 where
  -- the giver stands
  pub giver_stands : (gifts : Gifts) (h : History) (who : Principal) (x : Atom) (n : ℕ) → giver gifts h who x ≡ Some n → Stands gifts h who x n
  -- and it is the newest act that does
  pub giver_newest : (gifts : Gifts) (h : History) (who : Principal) (x : Atom) (m : ℕ) → Stands gifts h who x m → (n : ℕ) × (giver gifts h who x ≡ Some n) × (m ≤ n)
  -- the newest strip of an atom has it, with none behind it that does; and where there is none, no strip has the atom
  pub strip_newest : (h : History) (x : Atom) (n : ℕ) → newest_strip h x ≡ Some n → IsStripped h x n
  pub strip_none : (h : History) (x : Atom) → newest_strip h x ≡ None → NoStrip x h
