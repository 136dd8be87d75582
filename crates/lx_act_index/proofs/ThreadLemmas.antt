-- Threads and their loans, act by act.
use Rattle.std.proofs.Common.{◌≡◌, ◌∙◌, refl, sym, ap, subst, inl, inr, ℕ, zero, suc, ◌+◌, ◌-◌, ◌<◌, ◌≤◌, Bool, true, false, not, ◌&&◌, ◌||◌, nat_eq, nat_lt, Some, None, List, [], ◌∷◌, ◌++◌, length, take, arith, if◌then◌else◌, slice_index_or, eqb-true, ltb-true}
use Rattle.std.proofs.lemmas.Bool.{cases_lt, and_right, and_left}
use Rattle.std.proofs.lemmas.Bool.Decides.{nat_tests}
use Rattle.std.proofs.lemmas.List.{length_push, get_or_push, get_or_append_left, get_or-take, length-take-le}
use Rattle.lx_words.proofs.Tests.{first_of}
use Rattle.lx_caps.specs.declared.Act.TheVariants.{Loan, Shut, ShutAll}
use Rattle.lx_caps.specs.Loans.{Ends, Newest, Every, Endings, none_end, opened_by, before_loan, before_shut, before_shut_all, and_more, goes_on, lends}
use Rattle.lx_caps.specs.History.{History}
use Rattle.lx_act_index.specs.declared.threads.Loan as loan
use Rattle.lx_act_index.specs.declared.threads.Thread.{Thread}
use Rattle.lx_act_index.specs.Threads.{idle, thread_at, is_opened, is_open_in, is_open, newest_of, opened, shut, HasTurned, IsThread, AreThreads}

and_alike : (a b c d : Bool) → a ≡ c → (c ≡ true → b ≡ d) → (a && b) ≡ (c && d)
and_alike true b true d is same = same refl
and_alike true b false d is same = absurd cc
and_alike false b true d is same = absurd cc
and_alike false b false d is same = refl

-- a loan more
module _ (loans : List ℕ) (n older o : ℕ) (before : o < n) where
  earlier_same : older < length loans → is_opened (loans ++ n ∷ []) older o ≡ is_opened loans older o
  earlier_same lt = ap (λ m. nat_eq m o) (get_or_append_left loans (n ∷ []) 0 older lt)

  last_other : length loans ≡ older → is_opened (loans ++ n ∷ []) older o ≡ false
  last_other is = ap (λ m. nat_eq m o) (get_or_push loans n 0 older is) ∙ (let no : nat_eq n o ≡ false = grind (arith, nat_tests, before) in no)

  newest_by : (k : ℕ) → (nat_lt (older + 0) (length (loans ++ n ∷ [])) && is_opened (loans ++ n ∷ []) older o) ≡ (nat_lt (older + 0) (length loans) && is_opened loans older o)
  newest_by k = elim (cases_lt older (length loans)) [
    | inl lt ↦ and_alike (nat_lt (older + 0) (length (loans ++ n ∷ []))) (is_opened (loans ++ n ∷ []) older o) (nat_lt (older + 0) (length loans)) (is_opened loans older o)
        (let l = length_push loans n in grind (arith, nat_tests, l, lt)) (λ is. earlier_same lt)
    | inr ge ↦
        (elim (cases_lt (length loans) older) [
          | inl gt ↦ and_left (nat_lt (older + 0) (length (loans ++ n ∷ []))) (is_opened (loans ++ n ∷ []) older o) (let l = length_push loans n in grind (arith, nat_tests, l, gt))
          | inr le ↦ and_right (nat_lt (older + 0) (length (loans ++ n ∷ []))) (is_opened (loans ++ n ∷ []) older o) (last_other (omega (arith, ge, le)))
        ])
        ∙ sym (and_left (nat_lt (older + 0) (length loans)) (is_opened loans older o) (grind (arith, nat_tests, ge)))
  ]

  more_by : (k : ℕ) → (nat_lt (older + suc k) (length (loans ++ n ∷ [])) && is_opened (loans ++ n ∷ []) older o) ≡ (nat_lt (older + k) (length loans) && is_opened loans older o)
  more_by k = and_alike (nat_lt (older + suc k) (length (loans ++ n ∷ []))) (is_opened (loans ++ n ∷ []) older o) (nat_lt (older + k) (length loans)) (is_opened loans older o)
      (let l = length_push loans n in grind (arith, nat_tests, l))
      (λ is. earlier_same (let lt = ltb-true (older + k) (length loans) is in omega (arith, lt)))

-- the endings before a loan of the thread
opened_other : (e : Ends) (t u : ℕ) (ends : Endings) → nat_eq t u ≡ false → opened_by e t ends u ≡ ends u
opened_other (Newest zero) t u ends is = refl
opened_other (Newest (suc k)) t u ends is = ap (λ b. if b then Newest k else ends u) is
opened_other Every t u ends is = refl

opened_in : (e : Ends) (t u : ℕ) (ends : Endings) (thread : Thread) (n : ℕ) (l : loan.Loan) → nat_eq t u ≡ true → ends u ≡ e → l.opened < n
    → is_open_in e (opened n thread) l ≡ is_open_in (opened_by e t ends u) thread l
opened_in (Newest zero) t u ends thread n l is same before =
    newest_by thread.loans n l.older l.opened before 0 ∙ ap (λ e. is_open_in e thread l) (sym same)
opened_in (Newest (suc k)) t u ends thread n l is same before =
    more_by thread.loans n l.older l.opened before k ∙ ap (λ b. is_open_in (if b then Newest k else ends u) thread l) (sym is)
opened_in Every t u ends thread n l is same before = ap (λ e. is_open_in e thread l) (sym same)

pub loan_opens : (t n : ℕ) (old new : List Thread) → HasTurned t (opened n) old new → (ends : Endings) (l : loan.Loan) → l.opened < n → is_open ends new l ≡ is_open (before_loan t ends) old l
loan_opens t n old new turned ends l before =
    let u = l.thread in
    (elim (nat_eq t u) as (λ b. nat_eq t u ≡ b → is_open_in (ends u) (thread_at new u) l ≡ is_open_in (before_loan t ends u) (thread_at old u) l) [
      | true ↦ λ is.
          ap (λ r. is_open_in (ends u) r l) (turned u ∙ ap (λ (b : Bool). if b then opened n (thread_at old u) else thread_at old u) is)
          ∙ (opened_in (ends u) t u ends (thread_at old u) n l is refl before
          ∙ ap (λ m. is_open_in (opened_by (ends m) t ends u) (thread_at old u) l) (sym (eqb-true t u is)))
      | false ↦ λ is.
          ap (λ r. is_open_in (ends u) r l) (turned u ∙ ap (λ (b : Bool). if b then opened n (thread_at old u) else thread_at old u) is)
          ∙ ap (λ e. is_open_in e (thread_at old u) l) (sym (opened_other (ends t) t u ends is))
    ]) refl

-- fewer loans
shut_in : (e : Ends) (thread : Thread) (n : ℕ) (l : loan.Loan) → is_open_in e (shut n thread) l ≡ is_open_in (and_more n e) thread l
shut_in (Newest k) thread n l =
    let len = length-take-le (length thread.loans - n) thread.loans (omega arith) in
    and_alike (nat_lt (l.older + k) (length (take (length thread.loans - n) thread.loans))) (is_opened (take (length thread.loans - n) thread.loans) l.older l.opened)
    (nat_lt (l.older + (n + k)) (length thread.loans)) (is_opened thread.loans l.older l.opened)
    (grind (arith, nat_tests, len))
    (λ is. ap (λ m. nat_eq m l.opened) (get_or-take (length thread.loans - n) thread.loans l.older 0 (let lt = ltb-true (l.older + (n + k)) (length thread.loans) is in omega (arith, lt))))
shut_in Every thread n l = refl

pub shut_opens : (t n : ℕ) (old new : List Thread) → HasTurned t (shut n) old new → (ends : Endings) (l : loan.Loan) → is_open ends new l ≡ is_open (before_shut t n ends) old l
shut_opens t n old new turned ends l =
    let u = l.thread in
    (elim (nat_eq t u) as (λ b. nat_eq t u ≡ b → is_open_in (ends u) (thread_at new u) l ≡ is_open_in (if b then and_more n (ends t) else ends u) (thread_at old u) l) [
      | true ↦ λ is.
          ap (λ r. is_open_in (ends u) r l) (turned u ∙ ap (λ (b : Bool). if b then shut n (thread_at old u) else thread_at old u) is)
          ∙ (shut_in (ends u) (thread_at old u) n l ∙ ap (λ m. is_open_in (and_more n (ends m)) (thread_at old u) l) (sym (eqb-true t u is)))
      | false ↦ λ is. ap (λ r. is_open_in (ends u) r l) (turned u ∙ ap (λ (b : Bool). if b then shut n (thread_at old u) else thread_at old u) is)
    ]) refl

idle_in : (e : Ends) (l : loan.Loan) → is_open_in e idle l ≡ false
idle_in (Newest k) l = and_left (nat_lt (l.older + k) 0) (is_opened [] l.older l.opened) (grind (arith, nat_tests))
idle_in Every l = refl

pub shut_all_opens : (t : ℕ) (old new : List Thread) → HasTurned t (λ r. idle) old new → (ends : Endings) (l : loan.Loan) → is_open ends new l ≡ is_open (before_shut_all t ends) old l
shut_all_opens t old new turned ends l =
    let u = l.thread in
    (elim (nat_eq t u) as (λ b. nat_eq t u ≡ b → is_open_in (ends u) (thread_at new u) l ≡ is_open_in (if b then Every else ends u) (thread_at old u) l) [
      | true ↦ λ is. ap (λ r. is_open_in (ends u) r l) (turned u ∙ ap (λ (b : Bool). if b then idle else thread_at old u) is) ∙ idle_in (ends u) l
      | false ↦ λ is. ap (λ r. is_open_in (ends u) r l) (turned u ∙ ap (λ (b : Bool). if b then idle else thread_at old u) is)
    ]) refl

-- what has ended stays so
ended_in : (e : Ends) (thread : Thread) (l : loan.Loan) → is_open_in (Newest 0) thread l ≡ false → is_open_in e thread l ≡ false
ended_in Every thread l is = refl
ended_in (Newest k) thread l is =
    (elim (nat_lt (l.older + k) (length thread.loans)) as (λ b. nat_lt (l.older + k) (length thread.loans) ≡ b → (b && is_opened thread.loans l.older l.opened) ≡ false) [
      | true ↦ λ lt.
          let still : nat_lt (l.older + 0) (length thread.loans) ≡ true = grind (arith, nat_tests, lt) in
          sym (ap (λ (b : Bool). b && is_opened thread.loans l.older l.opened) still) ∙ is
      | false ↦ λ lt. refl
    ]) refl

pub still_ended : (threads : List Thread) (ends : Endings) (l : loan.Loan) → is_open none_end threads l ≡ false → is_open ends threads l ≡ false
still_ended threads ends l is = ended_in (ends l.thread) (thread_at threads l.thread) l is

-- the loan that a thread lends on
newest_in : (e : Ends) (t : ℕ) (thread : Thread) → 0 < length thread.loans
    → is_open_in e thread (record { thread = t; older = length thread.loans - 1; opened = slice_index_or thread.loans (length thread.loans - 1) 0 }) ≡ goes_on e
newest_in (Newest zero) t thread some =
    let lt : nat_lt (length thread.loans - 1 + 0) (length thread.loans) ≡ true = grind (arith, nat_tests, some) in
    let own : is_opened thread.loans (length thread.loans - 1) (slice_index_or thread.loans (length thread.loans - 1) 0) ≡ true = grind (arith, nat_tests) in
    ap (λ (b : Bool). b && is_opened thread.loans (length thread.loans - 1) (slice_index_or thread.loans (length thread.loans - 1) 0)) lt ∙ own
newest_in (Newest (suc k)) t thread some =
    and_left (nat_lt (length thread.loans - 1 + suc k) (length thread.loans)) (is_opened thread.loans (length thread.loans - 1) (slice_index_or thread.loans (length thread.loans - 1) 0))
    (grind (arith, nat_tests, some))
newest_in Every t thread some = refl

pub record IsLender (h : History) (threads : List Thread) (t : ℕ) (l : loan.Loan) : Type 0 where
  pub stands : (ends : Endings) → is_open ends threads l ≡ (lends h t && goes_on (ends t))
  pub before : l.opened < length h

none_by : (b c : Bool) (l : loan.Loan) → (if b && c then Some l else None) ≡ None → c ≡ true → b ≡ false
none_by true true l none is = absurd cc
none_by true false l none is = absurd cc
none_by false c l none is = refl

pub newest_none : (h : History) (t : ℕ) (thread : Thread) → IsThread h t thread → newest_of t thread ≡ None → lends h t ≡ false
newest_none h t thread is none =
    (elim (lends h t) as (λ b. lends h t ≡ b → b ≡ false) [
      | true ↦ λ lent. sym (is.lending ∙ lent) ∙ none_by thread.lends (nat_lt 0 (length thread.loans)) _ none (let l = is.has_loan lent in grind (arith, nat_tests, l))
      | false ↦ λ lent. refl
    ]) refl

newest_by_test : (h : History) (threads : List Thread) (t : ℕ) (l : loan.Loan) (b c : Bool) → IsThread h t (thread_at threads t) → (thread_at threads t).lends ≡ b → nat_lt 0 (length (thread_at threads t).loans) ≡ c
    → (if b && c then Some (record { thread = t; older = length (thread_at threads t).loans - 1; opened = slice_index_or (thread_at threads t).loans (length (thread_at threads t).loans - 1) 0 }) else None) ≡ Some l → IsLender h threads t l
newest_by_test h threads t l true true is lent some found =
    let thread = thread_at threads t in
    let own : record { thread = t; older = length thread.loans - 1; opened = slice_index_or thread.loans (length thread.loans - 1) 0 } ≡ l = cc in
    let many = ltb-true 0 (length thread.loans) some in
    subst (IsLender h threads t) own (record {
      stands = λ ends. newest_in (ends t) t thread many ∙ ap (λ (b : Bool). b && goes_on (ends t)) (sym lent ∙ is.lending);
      before = is.before (length thread.loans - 1) (omega (arith, many));
    })
newest_by_test h threads t l true false is lent some found = absurd cc
newest_by_test h threads t l false c is lent some found = absurd cc

pub newest_some : (h : History) (threads : List Thread) (t : ℕ) (l : loan.Loan) → AreThreads h threads → newest_of t (thread_at threads t) ≡ Some l → IsLender h threads t l
newest_some h threads t l are found = newest_by_test h threads t l (thread_at threads t).lends (nat_lt 0 (length (thread_at threads t).loans)) (are t) refl refl found

-- threads behind an act
pub threads_alike : (h : History) (old new : List Thread) → ((t : ℕ) → thread_at new t ≡ thread_at old t) → AreThreads h old → AreThreads h new
threads_alike h old new same are t = subst (IsThread h t) (sym (same t)) (are t)

pub threads_stay : (h now : History) (threads : List Thread) → ((t : ℕ) → lends now t ≡ lends h t) → length h ≤ length now → AreThreads h threads → AreThreads now threads
threads_stay h now threads same le are t = record {
  lending = (are t).lending ∙ sym (same t);
  has_loan = λ lent. (are t).has_loan (sym (same t) ∙ lent);
  before = λ k lt. let b = (are t).before k lt in omega (arith, b, le);
}

turned_by : (h : History) (t u : ℕ) (f : Thread → Thread) (old new : List Thread) (b : Bool) → HasTurned t f old new → nat_eq t u ≡ b → IsThread h u (if b then f (thread_at old u) else thread_at old u) → IsThread h u (thread_at new u)
turned_by h t u f old new b turned is thread = subst (IsThread h u) (sym (turned u ∙ ap (λ (c : Bool). if c then f (thread_at old u) else thread_at old u) is)) thread

loan_before : (loans : List ℕ) (n k : ℕ) → ((j : ℕ) → j < length loans → slice_index_or loans j 0 < n) → k < length (loans ++ n ∷ []) → slice_index_or (loans ++ n ∷ []) k 0 < suc n
loan_before loans n k before lt =
    elim (cases_lt k (length loans)) [
      | inl less ↦ let same = get_or_append_left loans (n ∷ []) 0 k less in let b = before k less in omega (arith, same, b)
      | inr ge ↦ let l = length_push loans n in let same = get_or_push loans n 0 k (omega (arith, ge, l, lt)) in omega (arith, same)
    ]

pub loan_threads : (h : History) (t : ℕ) (old new : List Thread) → HasTurned t (opened (length h)) old new → AreThreads h old → AreThreads (Loan t ∷ h) new
loan_threads h t old new turned are u = turned_by (Loan t ∷ h) t u (opened (length h)) old new (nat_eq t u) turned refl
    ((elim (nat_eq t u) as (λ b. nat_eq t u ≡ b → IsThread (Loan t ∷ h) u (if b then opened (length h) (thread_at old u) else thread_at old u)) [
      | true ↦ λ is. record {
        lending = ap (λ (b : Bool). b || lends h u) (sym is);
        has_loan = λ lent. let l = length_push (thread_at old u).loans (length h) in omega (arith, l);
        before = λ k lt. loan_before (thread_at old u).loans (length h) k (are u).before lt;
      }
      | false ↦ λ is. record {
        lending = (are u).lending ∙ ap (λ (b : Bool). b || lends h u) (sym is);
        has_loan = λ lent. (are u).has_loan (ap (λ (b : Bool). b || lends h u) (sym is) ∙ lent);
        before = λ k lt. let b = (are u).before k lt in omega (arith, b);
      }
    ]) refl)

shut_lends : (a b c : Bool) → b ≡ not c → (a && b) ≡ (not c && a)
shut_lends true b c is = is ∙ (sym (yes_and (not c)))
  where
    yes_and : (x : Bool) → (x && true) ≡ x
    yes_and true = refl
    yes_and false = refl
shut_lends false b c is = sym (no_and (not c))
  where
    no_and : (x : Bool) → (x && false) ≡ false
    no_and true = refl
    no_and false = refl

not_shut : (a : Bool) (e : Bool) (m : Bool) → e ≡ false → (not (e && m) && a) ≡ a
not_shut a true m is = absurd cc
not_shut a false m is = refl

yes_shut : (a : Bool) (e : Bool) (m : Bool) → e ≡ true → (not (e && m) && a) ≡ (not m && a)
yes_shut a true m is = refl
yes_shut a false m is = absurd cc

pub shut_threads : (h : History) (t n : ℕ) (old new : List Thread) → HasTurned t (shut n) old new → AreThreads h old → AreThreads (Shut t n ∷ h) new
shut_threads h t n old new turned are u = turned_by (Shut t n ∷ h) t u (shut n) old new (nat_eq t u) turned refl
    ((elim (nat_eq t u) as (λ b. nat_eq t u ≡ b → IsThread (Shut t n ∷ h) u (if b then shut n (thread_at old u) else thread_at old u)) [
      | true ↦ λ is.
          let thread = thread_at old u in
          let len = length-take-le (length thread.loans - n) thread.loans (omega arith) in
          let now : (thread.lends && nat_eq n 0) ≡ lends (Shut t n ∷ h) u =
          ap (λ (b : Bool). b && nat_eq n 0) (are u).lending
          ∙ (shut_lends (lends h u) (nat_eq n 0) (nat_lt 0 n) (zero_or n) ∙ sym (yes_shut (lends h u) (nat_eq t u) (nat_lt 0 n) is)) in
          record {
            lending = now;
            has_loan = λ lent.
                let both = now ∙ lent in
                let none : nat_eq n 0 ≡ true = and_second thread.lends (nat_eq n 0) both in
                let many = (are u).has_loan (sym (are u).lending ∙ first_of thread.lends (nat_eq n 0) both) in
                let zero_n = eqb-true n 0 none in
                omega (arith, len, many, zero_n);
            before = λ k lt.
                let less : k < length thread.loans - n = omega (arith, len, lt) in
                let same = get_or-take (length thread.loans - n) thread.loans k 0 less in
                let b = (are u).before k (omega (arith, less)) in
                omega (arith, same, b);
          }
      | false ↦ λ is. record {
        lending = (are u).lending ∙ sym (not_shut (lends h u) (nat_eq t u) (nat_lt 0 n) is);
        has_loan = λ lent. (are u).has_loan (sym (not_shut (lends h u) (nat_eq t u) (nat_lt 0 n) is) ∙ lent);
        before = λ k lt. let b = (are u).before k lt in omega (arith, b);
      }
    ]) refl)
  where
    zero_or : (m : ℕ) → nat_eq m 0 ≡ not (nat_lt 0 m)
    zero_or zero = refl
    zero_or (suc m) = grind (arith, nat_tests)

    and_second : (a b : Bool) → (a && b) ≡ true → b ≡ true
    and_second true b is = is
    and_second false b is = absurd cc

all_shut : (a e : Bool) → e ≡ true → (not e && a) ≡ false
all_shut a true is = refl
all_shut a false is = absurd cc

none_shut : (a e : Bool) → e ≡ false → (not e && a) ≡ a
none_shut a true is = absurd cc
none_shut a false is = refl

pub shut_all_threads : (h : History) (t : ℕ) (old new : List Thread) → HasTurned t (λ r. idle) old new → AreThreads h old → AreThreads (ShutAll t ∷ h) new
shut_all_threads h t old new turned are u = turned_by (ShutAll t ∷ h) t u (λ r. idle) old new (nat_eq t u) turned refl
    ((elim (nat_eq t u) as (λ b. nat_eq t u ≡ b → IsThread (ShutAll t ∷ h) u (if b then idle else thread_at old u)) [
      | true ↦ λ is. record {
        lending = sym (all_shut (lends h u) (nat_eq t u) is);
        has_loan = λ lent. absurd (let no = all_shut (lends h u) (nat_eq t u) is in cc);
        before = λ k lt. absurd (omega (arith, lt));
      }
      | false ↦ λ is. record {
        lending = (are u).lending ∙ sym (none_shut (lends h u) (nat_eq t u) is);
        has_loan = λ lent. (are u).has_loan (sym (none_shut (lends h u) (nat_eq t u) is) ∙ lent);
        before = λ k lt. let b = (are u).before k lt in omega (arith, b);
      }
    ]) refl)

pub no_threads : AreThreads [] []
no_threads t = record {
  lending = ap (λ (r : Thread). r.lends) (none_there t);
  has_loan = λ lent. absurd cc;
  before = λ k lt. absurd (let l = ap (λ (r : Thread). length r.loans) (none_there t) in omega (arith, l, lt));
}
  where
    none_there : (t : ℕ) → thread_at [] t ≡ idle
    none_there zero = refl
    none_there (suc t) = refl
