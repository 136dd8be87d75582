-- What an index shows, act by act.
use Rattle.std.proofs.Common.{◌≡◌, ◌∙◌, inl, inr, refl, sym, ap, subst, ℕ, ◌<◌, Bool, true, false, ◌&&◌, Option, Some, None, List, [], ◌∷◌, length, arith, if◌then◌else◌}
use Rattle.std.specs.Result.{OnErr}
use Rattle.std.proofs.Common.{Result, Ok, Err}
use Rattle.lx_caps.specs.declared.Principal.{Principal}
use Rattle.lx_caps.specs.declared.Cap.{Cap}
use Rattle.lx_caps.specs.declared.Atom.{Atom}
use Rattle.lx_caps.specs.declared.Atom.TheVariants as atom
use Rattle.lx_caps.specs.declared.Act.{Act}
use Rattle.lx_caps.specs.declared.Act.TheVariants.{Grant, Strip, Zero, Loan, Lend, Shut, ShutAll}
use Rattle.lx_caps.specs.Loans.{Endings, none_end, before_loan, before_shut, before_shut_all, goes_on, lends}
use Rattle.lx_caps.specs.History.{History, has}
use Rattle.lx_certificates.specs.declared.givers.Gifts.{Gifts}
use Rattle.lx_certificates.specs.Givers.{by_grant, by_lend, found, giver_among, newest_strip}
use Rattle.lx_cap_nodes.specs.Bits.{is_set}
use Rattle.lx_cap_lists.specs.Tables.{bit_of}
use Rattle.lx_act_index.specs.declared.lines.Said.{Said}
use Rattle.lx_act_index.specs.declared.lines.Said.TheVariants as what
use Rattle.lx_act_index.specs.declared.lines.Entry.{Entry}
use Rattle.lx_act_index.specs.declared.table.Saying.{Saying}
use Rattle.lx_act_index.specs.declared.table.Table.{Table}
use Rattle.lx_act_index.specs.declared.threads.Loan as loan
use Rattle.lx_act_index.specs.declared.threads.Thread.{Thread}
use Rattle.lx_act_index.specs.Lines.{is_strip, says, says_of, line_giver, line_strip, IsLentBefore, AreLentBefore}
use Rattle.lx_act_index.specs.Threads.{idle, thread_at, is_open, is_open_in, newest_of, opened, shut, HasTurned, AreThreads}
use Rattle.lx_act_index.specs.Table.{IsTable, IsNoted, entry_of, line_of}
use Rattle.lx_act_index.specs.Index.{IsLine, Shows}
use Rattle.lx_act_index.proofs.LineLemmas.{giver_with, strip_with, before_with, before_later}
use Rattle.lx_act_index.proofs.ThreadLemmas.{loan_opens, shut_opens, shut_all_opens, still_ended, newest_none, newest_some, threads_alike, threads_stay, loan_threads, shut_threads, shut_all_threads, no_threads}

bit_below : (x : Atom) → bit_of x < 64
bit_below (atom.Byte b) = omega arith
bit_below (atom.Call a) = omega arith
bit_below (atom.Ref t a) = omega arith

-- loans that stand alike say the same
says_alike : (gifts : Gifts) (among : Principal → Bool) (s t : loan.Loan → Bool) (n : ℕ) → ((l : loan.Loan) → l.opened < n → s l ≡ t l) → (w : Said) → IsLentBefore n w → says gifts among s w ≡ says gifts among t w
says_alike gifts among s t n alike (what.Grant q) before = refl
says_alike gifts among s t n alike (what.Lend l q) before = ap (λ (b : Bool). if by_lend gifts && among q && b then Some true else None) (alike l before)
says_alike gifts among s t n alike what.Strip before = refl

line_alike : (gifts : Gifts) (among : Principal → Bool) (s t : loan.Loan → Bool) (n k : ℕ) → ((l : loan.Loan) → l.opened < n → s l ≡ t l) → (line : List Entry) → AreLentBefore n line → line_giver gifts among s k line ≡ line_giver gifts among t k line
line_alike gifts among s t n k alike [] before = refl
line_alike gifts among s t n k alike (e ∷ es) before =
    ap (λ o. found (if is_set e.mask k then o else None) e.act (line_giver gifts among s k es)) (says_alike gifts among s t n alike e.said before.0)
    ∙ ap (found (says_of gifts among t k e) e.act) (line_alike gifts among s t n k alike es before.1)

-- a line under an act that says nothing of any atom
silent : (h : History) (act : Act) (threads now : List Thread) (later : Endings → Endings) (x : Atom) (line : List Entry)
    → ((ends : Endings) (l : loan.Loan) → l.opened < length h → is_open ends now l ≡ is_open (later ends) threads l)
    → ((gifts : Gifts) (among : Principal → Bool) (ends : Endings) → giver_among gifts among ends (act ∷ h) x ≡ giver_among gifts among (later ends) h x)
    → newest_strip (act ∷ h) x ≡ newest_strip h x → IsLine h threads x line → IsLine (act ∷ h) now x line
silent h act threads now later x line opens gives stripped is = record {
  giver = λ gifts among ends.
      line_alike gifts among (is_open ends now) (is_open (later ends) threads) (length h) (bit_of x) (opens ends) line is.before
      ∙ (is.giver gifts among (later ends) ∙ sym (gives gifts among ends));
  strip = is.strip ∙ sym stripped;
  before = before_later (length h) (length (act ∷ h)) (omega arith) line is.before;
}

-- an act of loans
loans_shown : (h : History) (act : Act) (t : Table) (threads now : List Thread) (later : Endings → Endings)
    → ((ends : Endings) (l : loan.Loan) → l.opened < length h → is_open ends now l ≡ is_open (later ends) threads l)
    → ((x : Atom) (gifts : Gifts) (among : Principal → Bool) (ends : Endings) → giver_among gifts among ends (act ∷ h) x ≡ giver_among gifts among (later ends) h x)
    → ((x : Atom) → newest_strip (act ∷ h) x ≡ newest_strip h x) → AreThreads (act ∷ h) now → Shows t threads h → Shows t now (act ∷ h)
loans_shown h act t threads now later opens gives stripped are shows = record {
  table = shows.table;
  threads = are;
  lines = λ x. silent h act threads now later x (line_of t x) opens (gives x) (stripped x) (shows.lines x);
}

pub loan_shown : (h : History) (u number : ℕ) (t : Table) (threads now : List Thread) → number ≡ length h → HasTurned u (opened number) threads now → Shows t threads h → Shows t now (Loan u ∷ h)
loan_shown h u number t threads now is turned shows =
    let same = subst (λ n. HasTurned u (opened n) threads now) is turned in
    loans_shown h (Loan u) t threads now (before_loan u) (loan_opens u (length h) threads now same) (λ x gifts among ends. refl) (λ x. refl)
    (loan_threads h u threads now same shows.threads) shows

pub shut_shown : (h : History) (u n : ℕ) (t : Table) (threads now : List Thread) → HasTurned u (shut n) threads now → Shows t threads h → Shows t now (Shut u n ∷ h)
shut_shown h u n t threads now turned shows =
    loans_shown h (Shut u n) t threads now (before_shut u n) (λ ends l lt. shut_opens u n threads now turned ends l) (λ x gifts among ends. refl) (λ x. refl)
    (shut_threads h u n threads now turned shows.threads) shows

pub shut_all_shown : (h : History) (u : ℕ) (t : Table) (threads now : List Thread) → HasTurned u (λ r. idle) threads now → Shows t threads h → Shows t now (ShutAll u ∷ h)
shut_all_shown h u t threads now turned shows =
    loans_shown h (ShutAll u) t threads now (before_shut_all u) (λ ends l lt. shut_all_opens u threads now turned ends l) (λ x gifts among ends. refl) (λ x. refl)
    (shut_all_threads h u threads now turned shows.threads) shows

pub zero_shown : (h : History) (at size : ℕ) (t : Table) (threads : List Thread) → Shows t threads h → Shows t threads (Zero at size ∷ h)
zero_shown h at size t threads shows =
    loans_shown h (Zero at size) t threads threads (λ ends. ends) (λ ends l lt. refl) (λ x gifts among ends. refl) (λ x. refl)
    (threads_stay h (Zero at size ∷ h) threads (λ u. refl) (omega arith) shows.threads) shows

-- a lend without a loan
no_lend : (g u w v : Bool) → w ≡ false → (if g && (u && (w && v)) then Some true else None) ≡ None
no_lend true true w v is = ap (λ (b : Bool). if b && v then Some true else None) is
no_lend true false w v is = refl
no_lend false u w v is = refl

pub unlent_shown : (h : History) (u : ℕ) (q : Principal) (c : Cap) (t : Table) (threads : List Thread) → newest_of u (thread_at threads u) ≡ None → Shows t threads h → Shows t threads (Lend u q c ∷ h)
unlent_shown h u q c t threads none shows =
    let out = newest_none h u (thread_at threads u) (shows.threads u) none in
    loans_shown h (Lend u q c) t threads threads (λ ends. ends) (λ ends l lt. refl)
    (λ x gifts among ends. ap (λ o. found o (length h) (giver_among gifts among ends h x)) (no_lend (by_lend gifts) (among q && has c x) (lends h u) (goes_on (ends u)) out))
    (λ x. refl)
    (threads_stay h (Lend u q c ∷ h) threads (λ v. refl) (omega arith) shows.threads) shows

-- what an act that gives or takes says of an atom
module _ (threads : List Thread) (s : Saying) (touched : Bool) (k : ℕ) (below : k < 64) (line new : List Entry) (noted : IsNoted threads s touched k line new) where
  giver_noted : (gifts : Gifts) (among : Principal → Bool) (ends : Endings)
      → line_giver gifts among (is_open ends threads) k new ≡ found (if touched then says gifts among (is_open ends threads) s.said else None) s.act (line_giver gifts among (is_open ends threads) k line)
  giver_noted gifts among ends = elim noted [
    | inl out ↦
        ap (line_giver gifts among (is_open ends threads) k) out.1
        ∙ sym (ap (λ (b : Bool). found (if b then says gifts among (is_open ends threads) s.said else None) s.act (line_giver gifts among (is_open ends threads) k line)) out.0)
    | inr is ↦
        ap (line_giver gifts among (is_open ends threads) k) is.3
        ∙ (giver_with gifts among (is_open ends threads) (is_open none_end threads) (still_ended threads ends) (entry_of s is.0) k is.1 below line
        ∙ ap (λ (b : Bool). found (if b then says gifts among (is_open ends threads) s.said else None) s.act (line_giver gifts among (is_open ends threads) k line)) is.2)
  ]

  strip_noted : line_strip k new ≡ (if touched && is_strip s.said then Some s.act else line_strip k line)
  strip_noted = elim noted [
    | inl out ↦ ap (line_strip k) out.1 ∙ sym (ap (λ (b : Bool). if b && is_strip s.said then Some s.act else line_strip k line) out.0)
    | inr is ↦
        ap (line_strip k) is.3
        ∙ (strip_with (is_open none_end threads) (entry_of s is.0) k is.1 below line
        ∙ ap (λ (b : Bool). if b && is_strip s.said then Some s.act else line_strip k line) is.2)
  ]

  before_noted : (n : ℕ) → IsLentBefore n s.said → AreLentBefore n line → AreLentBefore n new
  before_noted n first all = elim noted [
    | inl out ↦ subst (AreLentBefore n) (sym out.1) all
    | inr is ↦ subst (AreLentBefore n) (sym is.3) (before_with (is_open none_end threads) n (entry_of s is.0) line first all)
  ]

-- an act that is noted
said_shown : (h : History) (act : Act) (w : Said) (c : Cap) (t now : Table) (threads : List Thread)
    → ((x : Atom) → IsNoted threads (record { said = w; act = length h }) (has c x) (bit_of x) (line_of t x) (line_of now x))
    → ((x : Atom) (gifts : Gifts) (among : Principal → Bool) (ends : Endings)
    → found (if has c x then says gifts among (is_open ends threads) w else None) (length h) (giver_among gifts among ends h x) ≡ giver_among gifts among ends (act ∷ h) x)
    → ((x : Atom) → (if has c x && is_strip w then Some (length h) else newest_strip h x) ≡ newest_strip (act ∷ h) x)
    → IsLentBefore (length h) w → AreThreads (act ∷ h) threads → IsTable now → Shows t threads h → Shows now threads (act ∷ h)
said_shown h act w c t now threads noted gives stripped lent are table shows = record {
  table = table;
  threads = are;
  lines = λ x.
      let s : Saying = record { said = w; act = length h } in
      let is = shows.lines x in
      let k = bit_of x in
      record {
        giver = λ gifts among ends.
            giver_noted threads s (has c x) k (bit_below x) (line_of t x) (line_of now x) (noted x) gifts among ends
            ∙ (ap (found (if has c x then says gifts among (is_open ends threads) w else None) (length h)) (is.giver gifts among ends) ∙ gives x gifts among ends);
        strip = strip_noted threads s (has c x) k (bit_below x) (line_of t x) (line_of now x) (noted x)
            ∙ (ap (λ o. if has c x && is_strip w then Some (length h) else o) is.strip ∙ stripped x);
        before = before_later (length h) (length (act ∷ h)) (omega arith) (line_of now x)
            (before_noted threads s (has c x) k (bit_below x) (line_of t x) (line_of now x) (noted x) (length h) lent is.before);
      };
}

granted : (t g a : Bool) → (if t then (if g && a then Some true else None) else None) ≡ (if g && (a && t) then Some true else None)
granted true true true = refl
granted true true false = refl
granted true false a = refl
granted false true true = refl
granted false true false = refl
granted false false a = refl

lent_on : (t g a s w : Bool) → s ≡ w → (if t then (if g && a && s then Some true else None) else None) ≡ (if g && ((a && t) && w) then Some true else None)
lent_on t g a s w is = ap (λ (b : Bool). if t then (if g && a && b then Some true else None) else None) is ∙ by t g a w
  where
    by : (t g a w : Bool) → (if t then (if g && a && w then Some true else None) else None) ≡ (if g && ((a && t) && w) then Some true else None)
    by true true true w = refl
    by true true false w = refl
    by true false a w = refl
    by false true true w = refl
    by false true false w = refl
    by false false a w = refl

not_strip : (b : Bool) (o rest : Option ℕ) → (if b && false then o else rest) ≡ rest
not_strip true o rest = refl
not_strip false o rest = refl

yes_strip : (b : Bool) (o rest : Option ℕ) → (if b && true then o else rest) ≡ (if b then o else rest)
yes_strip true o rest = refl
yes_strip false o rest = refl

renumbered : (threads : List Thread) (w : Said) (number n : ℕ) (c : Cap) (t now : Table) → number ≡ n → ((x : Atom) → IsNoted threads (record { said = w; act = number }) (has c x) (bit_of x) (line_of t x) (line_of now x))
    → (x : Atom) → IsNoted threads (record { said = w; act = n }) (has c x) (bit_of x) (line_of t x) (line_of now x)
renumbered threads w number n c t now is noted x = subst (λ m. IsNoted threads (record { said = w; act = m }) (has c x) (bit_of x) (line_of t x) (line_of now x)) is (noted x)

pub grant_shown : (h : History) (q : Principal) (c : Cap) (number : ℕ) (t now : Table) (threads : List Thread) → number ≡ length h
    → ((x : Atom) → IsNoted threads (record { said = what.Grant q; act = number }) (has c x) (bit_of x) (line_of t x) (line_of now x)) → IsTable now → Shows t threads h → Shows now threads (Grant q c ∷ h)
grant_shown h q c number t now threads is noted table shows =
    said_shown h (Grant q c) (what.Grant q) c t now threads (renumbered threads (what.Grant q) number (length h) c t now is noted)
    (λ x gifts among ends. ap (λ o. found o (length h) (giver_among gifts among ends h x)) (granted (has c x) (by_grant gifts) (among q)))
    (λ x. not_strip (has c x) (Some (length h)) (newest_strip h x)) tt
    (threads_stay h (Grant q c ∷ h) threads (λ u. refl) (omega arith) shows.threads) table shows

pub strip_shown : (h : History) (c : Cap) (number : ℕ) (t now : Table) (threads : List Thread) → number ≡ length h
    → ((x : Atom) → IsNoted threads (record { said = what.Strip; act = number }) (has c x) (bit_of x) (line_of t x) (line_of now x)) → IsTable now → Shows t threads h → Shows now threads (Strip c ∷ h)
strip_shown h c number t now threads is noted table shows =
    said_shown h (Strip c) what.Strip c t now threads (renumbered threads what.Strip number (length h) c t now is noted)
    (λ x gifts among ends. refl)
    (λ x. yes_strip (has c x) (Some (length h)) (newest_strip h x)) tt
    (threads_stay h (Strip c ∷ h) threads (λ u. refl) (omega arith) shows.threads) table shows

pub lend_shown : (h : History) (u : ℕ) (q : Principal) (c : Cap) (l : loan.Loan) (number : ℕ) (t now : Table) (threads : List Thread) → number ≡ length h → newest_of u (thread_at threads u) ≡ Some l
    → ((x : Atom) → IsNoted threads (record { said = what.Lend l q; act = number }) (has c x) (bit_of x) (line_of t x) (line_of now x)) → IsTable now → Shows t threads h → Shows now threads (Lend u q c ∷ h)
lend_shown h u q c l number t now threads is newest noted table shows =
    let lender = newest_some h threads u l shows.threads newest in
    said_shown h (Lend u q c) (what.Lend l q) c t now threads (renumbered threads (what.Lend l q) number (length h) c t now is noted)
    (λ x gifts among ends. ap (λ o. found o (length h) (giver_among gifts among ends h x))
    (lent_on (has c x) (by_lend gifts) (among q) (is_open ends threads l) (lends h u && goes_on (ends u)) (lender.stands ends)))
    (λ x. not_strip (has c x) (Some (length h)) (newest_strip h x)) lender.before
    (threads_stay h (Lend u q c ∷ h) threads (λ v. refl) (omega arith) shows.threads) table shows

-- lines and threads that are as they were
open_alike : (threads now : List Thread) → ((u : ℕ) → thread_at now u ≡ thread_at threads u) → (ends : Endings) (l : loan.Loan) → is_open ends now l ≡ is_open ends threads l
open_alike threads now same ends l = ap (λ r. open_of r) (same l.thread)
  where
    open_of : Thread → Bool
    open_of r = is_open_in (ends l.thread) r l

pub still_shown : (h : History) (t new : Table) (threads now : List Thread) → IsTable new → ((x : Atom) → line_of new x ≡ line_of t x) → ((u : ℕ) → thread_at now u ≡ thread_at threads u) → Shows t threads h → Shows new now h
still_shown h t new threads now table same turned shows = record {
  table = table;
  threads = threads_alike h threads now turned shows.threads;
  lines = λ x. subst (IsLine h now x) (sym (same x)) (record {
    giver = λ gifts among ends.
        line_alike gifts among (is_open ends now) (is_open ends threads) (length h) (bit_of x) (λ l lt. open_alike threads now turned ends l) (line_of t x) (shows.lines x).before
        ∙ (shows.lines x).giver gifts among ends;
    strip = (shows.lines x).strip;
    before = (shows.lines x).before;
  });
}

-- an index of no acts
pub none_shown : (t : Table) (threads : List Thread) → IsTable t → threads ≡ [] → ((x : Atom) → line_of t x ≡ []) → Shows t threads []
none_shown t threads table is none = record {
  table = table;
  threads = subst (AreThreads []) (sym is) no_threads;
  lines = λ x. subst (IsLine [] threads x) (sym (none x)) (record { giver = λ gifts among ends. refl; strip = refl; before = tt });
}

-- what holds in any case holds where there is an error
pub on_err : {T E : Type 0} (r : Result T E) (P : Type 0) → P → OnErr r P
on_err (Ok x) P p = tt
on_err (Err e) P p = p

-- of the same threads
pub on_slice : {threads now : List Thread} {s : Saying} (c : Cap) (t new : Table) → threads ≡ now → ((x : Atom) → IsNoted threads s (has c x) (bit_of x) (line_of t x) (line_of new x))
    → (x : Atom) → IsNoted now s (has c x) (bit_of x) (line_of t x) (line_of new x)
on_slice {threads} {now} {s} c t new same noted x = subst (λ ts. IsNoted ts s (has c x) (bit_of x) (line_of t x) (line_of new x)) same (noted x)
