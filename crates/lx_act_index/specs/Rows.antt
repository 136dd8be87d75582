-- Worked rows of lines and loans.
use Rattle.std.specs.Prelude.{◌≡◌, ℕ, Bool, true, false, Some, None, List, [], ◌∷◌}
use Rattle.lx_caps.specs.declared.Principal.TheVariants.{Shared, Inst}
use Rattle.lx_caps.specs.History.{reaches}
use Rattle.lx_caps.specs.Loans.{none_end, before_shut}
use Rattle.lx_certificates.specs.declared.givers.Gifts.TheVariants.{Grants, Both}
use Rattle.lx_act_index.specs.declared.lines.Said.{Said}
use Rattle.lx_act_index.specs.declared.lines.Said.TheVariants.{Grant, Lend, Strip}
use Rattle.lx_act_index.specs.declared.lines.Entry.{Entry}
use Rattle.lx_act_index.specs.declared.threads.Loan as loan
use Rattle.lx_act_index.specs.declared.threads.Thread.{Thread}
use Rattle.lx_act_index.specs.Lines.{line_giver, line_strip, line_with}
use Rattle.lx_act_index.specs.Threads.{is_open, newest_of, opened, shut}

abbrev pub entry : Said → ℕ → ℕ → Entry
entry said act mask = record { said = said; act = act; mask = mask }

-- the thread's second loan, which the act 5 opened
abbrev pub second : loan.Loan
second = record { thread = 0; older = 1; opened = 5 }

-- sixteen bytes are granted, and half of them are lent
abbrev pub lent : List Entry
lent = entry (Lend second (Shared 1)) 6 0xff00 ∷ entry (Grant (Shared 0)) 0 0xffff ∷ []

-- no loan stands, or each does
abbrev pub none_stands : loan.Loan → Bool
none_stands l = false

abbrev pub all_stand : loan.Loan → Bool
all_stand l = true

-- the loans that the acts 2 and 5 opened
abbrev pub loans : Thread
loans = record { loans = 2 ∷ 5 ∷ []; lends = true }

pub record WorkedLines : Type 0 where
  -- a strip takes its bytes from all, and what is left keeps its act
  pub stripped : line_with all_stand (entry Strip 7 0xfff0) lent ≡ entry Strip 7 0xfff0 ∷ entry (Grant (Shared 0)) 0 0xf ∷ []
  -- a grant takes its bytes from those to the same principal alone
  pub granted : line_with all_stand (entry (Grant (Shared 0)) 7 0xffff) lent ≡ entry (Grant (Shared 0)) 7 0xffff ∷ entry (Lend second (Shared 1)) 6 0xff00 ∷ []
  pub to_another : line_with all_stand (entry (Grant (Inst 0 0)) 7 0xffff) lent ≡ entry (Grant (Inst 0 0)) 7 0xffff ∷ lent
  -- what was lent on a loan that has ended goes
  pub spent : line_with none_stands (entry (Grant (Inst 0 0)) 7 1) lent ≡ entry (Grant (Inst 0 0)) 7 1 ∷ entry (Grant (Shared 0)) 0 0xffff ∷ []
  -- the newest act that gives a byte to someone in reach
  pub giver : line_giver Both (reaches (Inst 0 3)) all_stand 8 lent ≡ Some 0
  pub lender : line_giver Both (reaches (Shared 1)) all_stand 8 lent ≡ Some 6
  pub not_there : line_giver Both (reaches (Shared 1)) all_stand 7 lent ≡ None
  pub not_to_keep : line_giver Grants (reaches (Shared 1)) all_stand 8 lent ≡ None
  pub after_loan : line_giver Both (reaches (Shared 1)) none_stands 8 lent ≡ None
  pub strip : line_strip 4 (entry Strip 7 0xfff0 ∷ lent) ≡ Some 7
  pub no_strip : line_strip 3 (entry Strip 7 0xfff0 ∷ lent) ≡ None
  -- a loan is its place and its act
  pub newest : newest_of 0 loans ≡ Some second
  pub stands : is_open none_end (loans ∷ []) second ≡ true
  pub ended : is_open none_end (shut 1 loans ∷ []) second ≡ false
  pub ends_later : is_open (before_shut 0 1 none_end) (loans ∷ []) second ≡ false
  pub another : is_open none_end (opened 9 (shut 1 loans) ∷ []) second ≡ false
  pub lends_no_more : newest_of 0 (shut 1 loans) ≡ None
