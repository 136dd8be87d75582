-- The loans of threads that have not ended.
use Rattle.std.specs.Prelude.{◌≡◌, ℕ, ◌+◌, ◌-◌, ◌<◌, Bool, true, false, ◌&&◌, nat_eq, nat_lt, Option, Some, None, List, [], ◌∷◌, ◌++◌, length, take, if◌then◌else◌, slice_index_or}
use Rattle.lx_caps.specs.Loans.{Ends, Newest, Every, Endings, lends}
use Rattle.lx_caps.specs.History.{History}
use Rattle.lx_act_index.specs.declared.threads.Loan.{Loan}
use Rattle.lx_act_index.specs.declared.threads.Thread.{Thread}

-- a thread without loans
abbrev pub idle : Thread
idle = record { loans = []; lends = false }

-- a thread by its number
abbrev pub thread_at : List Thread → ℕ → Thread
thread_at threads t = slice_index_or threads t idle

-- later acts leave the loan with so many older ones, of so many in all
abbrev pub spared : Ends → ℕ → ℕ → Bool
spared (Newest k) older count = nat_lt (older + k) count
spared Every older count = false

-- the loan at that place is the one that this act opened
abbrev pub is_opened : List ℕ → ℕ → ℕ → Bool
is_opened loans older act = nat_eq (slice_index_or loans older 0) act

-- the loan of this thread has not ended, and later acts leave it
abbrev pub is_open_in : Ends → Thread → Loan → Bool
is_open_in ends thread l = spared ends l.older (length thread.loans) && is_opened thread.loans l.older l.opened

-- the loan has not ended, and later acts leave it
abbrev pub is_open : Endings → List Thread → Loan → Bool
is_open ends threads l = is_open_in (ends l.thread) (thread_at threads l.thread) l

-- the loan that a thread lends on
abbrev pub newest_of : ℕ → Thread → Option Loan
newest_of t thread =
    if thread.lends && nat_lt 0 (length thread.loans)
    then Some (record { thread = t; older = length thread.loans - 1; opened = slice_index_or thread.loans (length thread.loans - 1) 0 })
    else None

-- the thread with a loan more
abbrev pub opened : ℕ → Thread → Thread
opened act thread = record { loans = thread.loans ++ act ∷ []; lends = true }

-- the thread without so many of its newest loans
abbrev pub shut : ℕ → Thread → Thread
shut n thread = record { loans = take (length thread.loans - n) thread.loans; lends = thread.lends && nat_eq n 0 }

-- one thread has changed so, and the others have not
abbrev pub HasTurned : ℕ → (Thread → Thread) → List Thread → List Thread → Type 0
HasTurned t f old new = (u : ℕ) → thread_at new u ≡ (if nat_eq t u then f (thread_at old u) else thread_at old u)

-- a thread lends where its newest loan has not ended, and then has one; its loans were opened by acts of the history
pub record IsThread (h : History) (t : ℕ) (thread : Thread) : Type 0 where
  pub lending : thread.lends ≡ lends h t
  pub has_loan : lends h t ≡ true → 0 < length thread.loans
  pub before : (k : ℕ) → k < length thread.loans → slice_index_or thread.loans k 0 < length h

-- so it is with all threads
abbrev pub AreThreads : History → List Thread → Type 0
AreThreads h threads = (t : ℕ) → IsThread h t (thread_at threads t)
