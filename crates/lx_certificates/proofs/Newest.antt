-- The giver stands, and it is the newest act that does.
use Rattle.std.proofs.Common.{◌≡◌, ◌∙◌, ◌⊎◌, inl, inr, refl, ap, subst, ℕ, ◌<◌, ◌≤◌, Bool, true, false, ◌&&◌, Option, Some, None, [], ◌∷◌, ◌++◌, length, arith, IsTrue, if◌then◌else◌}
use Rattle.std.proofs.lemmas.Bool.{and_parts, and_from}
use Rattle.lx_caps.specs.declared.Principal.{Principal}
use Rattle.lx_caps.specs.declared.Atom.{Atom}
use Rattle.lx_caps.specs.declared.Act.{Act}
use Rattle.lx_caps.specs.declared.Act.TheVariants.{Grant, Strip, Zero, Loan, Lend, Shut, ShutAll}
use Rattle.lx_caps.specs.Loans.{Endings, none_end, before_loan, before_shut, before_shut_all, goes_on, lends}
use Rattle.lx_caps.specs.History.{History, has, reaches}
use Rattle.lx_caps.specs.LoanLaws.{newest_loan}
use Rattle.lx_caps.specs.OwnerLaws.{NoStrip}
use Rattle.lx_caps.proofs.LoanLemmas.{Left, loan_left, left_loan, shut_left, left_shut_by, all_left, left_all, goes_on_left, left_goes_on}
use Rattle.lx_certificates.specs.declared.givers.Gifts.{Gifts}
use Rattle.lx_certificates.specs.Givers.{by_grant, by_lend, found, giver_among, giver}
use Rattle.lx_certificates.specs.Standing.{Gives, Stands}
use Rattle.lx_caps.proofs.OwnerLemmas.{loan_before}

-- the same, where the acts behind the history end loans and do nothing else
abbrev pub GivesBy : Gifts → (Principal → Bool) → Endings → History → Atom → Act → History → Type 0
GivesBy gifts among ends h x (Grant q c) earlier = IsTrue (by_grant gifts) × IsTrue (among q) × IsTrue (has c x)
GivesBy gifts among ends h x (Lend t q c) earlier =
    IsTrue (by_lend gifts) × IsTrue (among q) × IsTrue (has c x) × ((loan : ℕ) × (newest_loan earlier t ≡ Some loan) × Left ends h t loan)
GivesBy gifts among ends h x _ earlier = ⊥

pub record StandsBy (gifts : Gifts) (among : Principal → Bool) (ends : Endings) (h : History) (x : Atom) (number : ℕ) : Type 0 where
  pub later : History
  pub act : Act
  pub earlier : History
  pub place : h ≡ later ++ act ∷ earlier
  pub is_numbered : length earlier ≡ number
  pub kept : NoStrip x later
  pub gives : GivesBy gifts among ends h x act earlier

-- one act more behind it
gives_behind : (gifts : Gifts) (among : Principal → Bool) (ends more : Endings) (h : History) (new : Act) (x : Atom) (act : Act) (earlier : History) → ((t k : ℕ) → Left ends h t k → Left more (new ∷ h) t k) →
    GivesBy gifts among ends h x act earlier → GivesBy gifts among more (new ∷ h) x act earlier
gives_behind gifts among ends more h new x (Grant q c) earlier left g = g
gives_behind gifts among ends more h new x (Lend t q c) earlier left g = (g.0, g.1, g.2, (g.3.0, g.3.1, left t g.3.0 g.3.2))
gives_behind gifts among ends more h new x (Strip c) earlier left g = g
gives_behind gifts among ends more h new x (Zero at size) earlier left g = g
gives_behind gifts among ends more h new x (Loan t) earlier left g = g
gives_behind gifts among ends more h new x (Shut t n) earlier left g = g
gives_behind gifts among ends more h new x (ShutAll t) earlier left g = g

behind : (gifts : Gifts) (among : Principal → Bool) (ends more : Endings) (h : History) (new : Act) (x : Atom) (n : ℕ) → ((later : History) → NoStrip x later → NoStrip x (new ∷ later)) →
    ((t k : ℕ) → Left ends h t k → Left more (new ∷ h) t k) → StandsBy gifts among ends h x n → StandsBy gifts among more (new ∷ h) x n
behind gifts among ends more h new x n none left s =
    record {
      later = new ∷ s.later;
      act = s.act;
      earlier = s.earlier;
      place = ap (λ (l : History). new ∷ l) s.place;
      is_numbered = s.is_numbered;
      kept = none s.later s.kept;
      gives = gives_behind gifts among ends more h new x s.act s.earlier left s.gives;
    }

-- who is said to be the giver
by_giving : (b : Bool) (m n : ℕ) (rest : Option ℕ) → found (if b then Some true else None) m rest ≡ Some n → ((b ≡ true) × (m ≡ n)) ⊎ (rest ≡ Some n)
by_giving true m n rest is = inl (refl, cc)
by_giving false m n rest is = inr is

by_taking : (b : Bool) (m n : ℕ) (rest : Option ℕ) → found (if b then Some false else None) m rest ≡ Some n → (b ≡ false) × (rest ≡ Some n)
by_taking true m n rest is = absurd cc
by_taking false m n rest is = (refl, is)

pub stands_by : (gifts : Gifts) (among : Principal → Bool) (ends : Endings) (h : History) (x : Atom) (n : ℕ) → giver_among gifts among ends h x ≡ Some n → StandsBy gifts among ends h x n
stands_by gifts among ends [] x n is = absurd cc
stands_by gifts among ends (Grant q c ∷ h) x n is =
    elim (by_giving (by_grant gifts && (among q && has c x)) (length h) n (giver_among gifts among ends h x) is) [
      | inl now ↦
          (let i = and_parts (by_grant gifts) (among q && has c x) now.0 in
          let j = and_parts (among q) (has c x) i.1 in
          record { later = []; act = Grant q c; earlier = h; place = refl; is_numbered = now.1; kept = tt; gives = (i.0, j.0, j.1) })
      | inr was ↦ behind gifts among ends ends h (Grant q c) x n (λ l none. none) (λ t k left. left) (stands_by gifts among ends h x n was)
    ]
stands_by gifts among ends (Strip c ∷ h) x n is =
    let i = by_taking (has c x) (length h) n (giver_among gifts among ends h x) is in
    behind gifts among ends ends h (Strip c) x n (λ l none. (i.0, none)) (λ t k left. left) (stands_by gifts among ends h x n i.1)
stands_by gifts among ends (Zero at size ∷ h) x n is =
    behind gifts among ends ends h (Zero at size) x n (λ l none. none) (λ t k left. left) (stands_by gifts among ends h x n is)
stands_by gifts among ends (Loan t ∷ h) x n is =
    behind gifts among (before_loan t ends) ends h (Loan t) x n (λ l none. none) (loan_left t ends h) (stands_by gifts among (before_loan t ends) h x n is)
stands_by gifts among ends (Lend t q c ∷ h) x n is =
    elim (by_giving (by_lend gifts && ((among q && has c x) && (lends h t && goes_on (ends t)))) (length h) n (giver_among gifts among ends h x) is) [
      | inl now ↦
          (let i = and_parts (by_lend gifts) ((among q && has c x) && (lends h t && goes_on (ends t))) now.0 in
          let j = and_parts (among q && has c x) (lends h t && goes_on (ends t)) i.1 in
          let k = and_parts (among q) (has c x) j.0 in
          let l = and_parts (lends h t) (goes_on (ends t)) j.1 in
          record { later = []; act = Lend t q c; earlier = h; place = refl; is_numbered = now.1; kept = tt; gives = (i.0, k.0, k.1, goes_on_left ends h t l.1 l.0) })
      | inr was ↦ behind gifts among ends ends h (Lend t q c) x n (λ l none. none) (λ u k left. left) (stands_by gifts among ends h x n was)
    ]
stands_by gifts among ends (Shut t m ∷ h) x n is =
    behind gifts among (before_shut t m ends) ends h (Shut t m) x n (λ l none. none) (shut_left t m ends h) (stands_by gifts among (before_shut t m ends) h x n is)
stands_by gifts among ends (ShutAll t ∷ h) x n is =
    behind gifts among (before_shut_all t ends) ends h (ShutAll t) x n (λ l none. none) (all_left t ends h) (stands_by gifts among (before_shut_all t ends) h x n is)

gives_now : (gifts : Gifts) (h : History) (who : Principal) (x : Atom) (act : Act) (earlier : History) → GivesBy gifts (reaches who) none_end h x act earlier → Gives gifts h who x act earlier
gives_now gifts h who x (Grant q c) earlier g = g
gives_now gifts h who x (Lend t q c) earlier g = g
gives_now gifts h who x (Strip c) earlier g = g
gives_now gifts h who x (Zero at size) earlier g = g
gives_now gifts h who x (Loan t) earlier g = g
gives_now gifts h who x (Shut t n) earlier g = g
gives_now gifts h who x (ShutAll t) earlier g = g

pub giver_stands : (gifts : Gifts) (h : History) (who : Principal) (x : Atom) (n : ℕ) → giver gifts h who x ≡ Some n → Stands gifts h who x n
giver_stands gifts h who x n is =
    let s = stands_by gifts (reaches who) none_end h x n is in
    record { later = s.later; act = s.act; earlier = s.earlier; place = s.place; is_numbered = s.is_numbered; kept = s.kept; gives = gives_now gifts h who x s.act s.earlier s.gives }

-- an act that stands is no newer than the giver

Newer : ℕ → Option ℕ → Type 0
Newer m o = (n : ℕ) × (o ≡ Some n) × (m ≤ n)

newer_giving : (b : Bool) (m k : ℕ) (rest : Option ℕ) → m ≤ k → Newer m rest → Newer m (found (if b then Some true else None) k rest)
unfolding Newer
newer_giving true m k rest le was = (k, refl, le)
newer_giving false m k rest le was = was

newer_taking : (b : Bool) (m k : ℕ) (rest : Option ℕ) → b ≡ false → Newer m rest → Newer m (found (if b then Some false else None) k rest)
newer_taking true m k rest out was = absurd cc
newer_taking false m k rest out was = was

gave_now : (b : Bool) (m : ℕ) (rest : Option ℕ) → b ≡ true → Newer m (found (if b then Some true else None) m rest)
unfolding Newer
gave_now true m rest is = (m, refl, omega arith)
gave_now false m rest is = absurd cc

below_all : (later earlier : History) (act : Act) → length earlier ≤ length (later ++ act ∷ earlier)
below_all [] earlier act = omega arith
below_all (a ∷ later) earlier act = let le = below_all later earlier act in omega (arith, le)

-- one act fewer behind it
fewer_behind : (gifts : Gifts) (among : Principal → Bool) (ends less : Endings) (new : Act) (later : History) (x : Atom) (act : Act) (earlier : History) →
    ((t k : ℕ) → k < length (later ++ act ∷ earlier) → Left ends (new ∷ (later ++ act ∷ earlier)) t k → Left less (later ++ act ∷ earlier) t k) →
    GivesBy gifts among ends (new ∷ (later ++ act ∷ earlier)) x act earlier → GivesBy gifts among less (later ++ act ∷ earlier) x act earlier
fewer_behind gifts among ends less new later x (Grant q c) earlier left g = g
fewer_behind gifts among ends less new later x (Lend t q c) earlier left g = (g.0, g.1, g.2, (g.3.0, g.3.1, left t g.3.0 (loan_before later earlier (Lend t q c) t g.3.0 g.3.1) g.3.2))
fewer_behind gifts among ends less new later x (Strip c) earlier left g = g
fewer_behind gifts among ends less new later x (Zero at size) earlier left g = g
fewer_behind gifts among ends less new later x (Loan t) earlier left g = g
fewer_behind gifts among ends less new later x (Shut t n) earlier left g = g
fewer_behind gifts among ends less new later x (ShutAll t) earlier left g = g

newest_by : (gifts : Gifts) (among : Principal → Bool) (ends : Endings) (later earlier : History) (act : Act) (x : Atom) → NoStrip x later → GivesBy gifts among ends (later ++ act ∷ earlier) x act earlier →
    Newer (length earlier) (giver_among gifts among ends (later ++ act ∷ earlier) x)
newest_by gifts among ends [] earlier (Grant q c) x none g =
    gave_now (by_grant gifts && (among q && has c x)) (length earlier) (giver_among gifts among ends earlier x) (and_from (by_grant gifts) _ g.0 (and_from (among q) (has c x) g.1 g.2))
newest_by gifts among ends [] earlier (Lend t q c) x none g =
    let i = and_parts (goes_on (ends t)) (lends earlier t) (left_goes_on (ends t) earlier t g.3.0 g.3.1 g.3.2) in
    gave_now (by_lend gifts && ((among q && has c x) && (lends earlier t && goes_on (ends t)))) (length earlier) (giver_among gifts among ends earlier x)
    (and_from (by_lend gifts) _ g.0 (and_from (among q && has c x) _ (and_from (among q) (has c x) g.1 g.2) (and_from (lends earlier t) (goes_on (ends t)) i.1 i.0)))
newest_by gifts among ends [] earlier (Strip c) x none g = absurd g
newest_by gifts among ends [] earlier (Zero at size) x none g = absurd g
newest_by gifts among ends [] earlier (Loan t) x none g = absurd g
newest_by gifts among ends [] earlier (Shut t n) x none g = absurd g
newest_by gifts among ends [] earlier (ShutAll t) x none g = absurd g
newest_by gifts among ends (Grant q c ∷ later) earlier act x none g =
    newer_giving (by_grant gifts && (among q && has c x)) (length earlier) (length (later ++ act ∷ earlier)) _ (below_all later earlier act)
    (newest_by gifts among ends later earlier act x none (fewer_behind gifts among ends ends (Grant q c) later x act earlier (λ t k below left. left) g))
newest_by gifts among ends (Strip c ∷ later) earlier act x none g =
    newer_taking (has c x) (length earlier) (length (later ++ act ∷ earlier)) _ none.0
    (newest_by gifts among ends later earlier act x none.1 (fewer_behind gifts among ends ends (Strip c) later x act earlier (λ t k below left. left) g))
newest_by gifts among ends (Zero at size ∷ later) earlier act x none g =
    newest_by gifts among ends later earlier act x none (fewer_behind gifts among ends ends (Zero at size) later x act earlier (λ t k below left. left) g)
newest_by gifts among ends (Loan u ∷ later) earlier act x none g =
    newest_by gifts among (before_loan u ends) later earlier act x none
    (fewer_behind gifts among ends (before_loan u ends) (Loan u) later x act earlier (λ t k below left. left_loan u ends (later ++ act ∷ earlier) t k below left) g)
newest_by gifts among ends (Lend u q c ∷ later) earlier act x none g =
    newer_giving (by_lend gifts && ((among q && has c x) && (lends (later ++ act ∷ earlier) u && goes_on (ends u)))) (length earlier) (length (later ++ act ∷ earlier)) _ (below_all later earlier act)
    (newest_by gifts among ends later earlier act x none (fewer_behind gifts among ends ends (Lend u q c) later x act earlier (λ t k below left. left) g))
newest_by gifts among ends (Shut u n ∷ later) earlier act x none g =
    newest_by gifts among (before_shut u n ends) later earlier act x none
    (fewer_behind gifts among ends (before_shut u n ends) (Shut u n) later x act earlier (λ t k below left. left_shut_by u n ends (later ++ act ∷ earlier) t k left) g)
newest_by gifts among ends (ShutAll u ∷ later) earlier act x none g =
    newest_by gifts among (before_shut_all u ends) later earlier act x none
    (fewer_behind gifts among ends (before_shut_all u ends) (ShutAll u) later x act earlier (λ t k below left. left_all u ends (later ++ act ∷ earlier) t k left) g)

gives_then : (gifts : Gifts) (h : History) (who : Principal) (x : Atom) (act : Act) (earlier : History) → Gives gifts h who x act earlier → GivesBy gifts (reaches who) none_end h x act earlier
gives_then gifts h who x (Grant q c) earlier g = g
gives_then gifts h who x (Lend t q c) earlier g = g
gives_then gifts h who x (Strip c) earlier g = g
gives_then gifts h who x (Zero at size) earlier g = g
gives_then gifts h who x (Loan t) earlier g = g
gives_then gifts h who x (Shut t n) earlier g = g
gives_then gifts h who x (ShutAll t) earlier g = g

pub giver_newest : (gifts : Gifts) (h : History) (who : Principal) (x : Atom) (m : ℕ) → Stands gifts h who x m → (n : ℕ) × (giver gifts h who x ≡ Some n) × (m ≤ n)
unfolding Newer
giver_newest gifts h who x m s =
    let newer = newest_by gifts (reaches who) none_end s.later s.earlier s.act x s.kept
    (subst (λ (l : History). GivesBy gifts (reaches who) none_end l x s.act s.earlier) s.place (gives_then gifts h who x s.act s.earlier s.gives)) in
    let e : giver gifts h who x ≡ giver gifts (s.later ++ s.act ∷ s.earlier) who x = ap (λ l. giver gifts l who x) s.place in
    (newer.0, e ∙ newer.1, subst (λ k. k ≤ newer.0) s.is_numbered newer.2)
