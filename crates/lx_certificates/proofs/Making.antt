-- Parts are made one behind the other.
use Rattle.std.proofs.Common.{◌≡◌, ◌≢◌, ◌∙◌, inl, inr, refl, sym, ap, ℕ, ◌+◌, ◌-◌, ◌<◌, ◌≤◌, Bool, true, false, not, ◌&&◌, nat_eq, nat_lt, nat_le, Option, Some, None, List, [], ◌∷◌, ◌++◌, append_assoc, arith, length, if◌then◌else◌, eq-eqb, lt-ltb, le-leb}
use mathlib.Core.List.{append-nil}
use Rattle.std.proofs.lemmas.Bool.{true≢false, and_from, cases_lt}
use Rattle.lx_words.proofs.Tests.{apart_turned}
use Rattle.lx_caps.specs.declared.Principal.{Principal}
use Rattle.lx_caps.specs.declared.Cap.{Cap}
use Rattle.lx_caps.specs.declared.Cap.TheVariants as cap
use Rattle.lx_caps.specs.declared.Atom.{Atom}
use Rattle.lx_caps.specs.History.{History, has, reaches, reached, kept_in_reach, holds_by_reach, each_byte}
use Rattle.lx_caps.proofs.Bytes.{each_byte-at, each_byte-from}
use Rattle.lx_certificates.specs.declared.givers.Gifts.TheVariants.{Grants, Lends, Both}
use Rattle.lx_certificates.specs.declared.Part.{Part}
use Rattle.lx_certificates.specs.declared.givers.Sought.{Sought}
use Rattle.lx_caps.specs.declared.Act.TheVariants.{Grant, Strip, Zero, Loan, Lend, Shut, ShutAll}
use Rattle.lx_caps.specs.Loans.{Endings, none_end, before_loan, before_shut, before_shut_all, goes_on, lends}
use Rattle.lx_certificates.specs.Givers.{found, giver_among, giver, given, nth_atom, count_of, first_of}
use Rattle.lx_certificates.specs.Certificates.{is_wanted, is_act, is_cut, are_cut, are_parts, is_first_lacking, seek, address_of}
use Rattle.lx_certificates.specs.Making.{IsRun}
use Rattle.lx_certificates.proofs.Reaching.{owned, owning, keeping, by_places}
use Rattle.lx_certificates.proofs.Meanings.{all_given}

wanted_itself : (n : ℕ) (o : Option ℕ) → o ≡ Some n → is_wanted (Some n) o ≡ true
wanted_itself n o is = ap (is_wanted (Some n)) is ∙ eq-eqb n n refl

pub is_cut_by : (f : ℕ → Option ℕ) (first : ℕ) (last : Option ℕ) (k left : ℕ) (p : Part) → p.low ≡ first + k → 0 < p.size → p.size ≤ left → is_act last p.act ≡ false →
    ((i : ℕ) → k ≤ i → i < k + p.size → f i ≡ Some p.act) → is_cut f first last k left p ≡ true
is_cut_by f first last k left p low some within other each =
    and_from (nat_eq p.low (first + k)) _ (eq-eqb p.low (first + k) low)
    (and_from (nat_lt 0 p.size) _ (lt-ltb 0 p.size some)
    (and_from (nat_le p.size left) _ (le-leb p.size left within)
    (and_from (not (is_act last p.act)) _ (ap not other)
    (each_byte-from (λ i. is_wanted (Some p.act) (f i)) k p.size (λ i low high. wanted_itself p.act (f i) (each i low high))))))

-- with the parts that are left the list is whole
pub record Cuts (f : ℕ → Option ℕ) (first count : ℕ) (parts : List Part) (at : ℕ) : Type 0 where
  pub within : at ≤ count
  pub all : (k : ℕ) → k < at → is_wanted None (f k) ≡ true
  pub last : Option ℕ
  pub other : at < count → (n : ℕ) → f at ≡ Some n → is_act last n ≡ false
  pub goes_on : (rest : List Part) → are_cut f first last at (count - at) rest ≡ true → are_cut f first None 0 count (parts ++ rest) ≡ true

pub none_cut : (f : ℕ → Option ℕ) (first count : ℕ) (parts : List Part) → parts ≡ [] → Cuts f first count parts 0
none_cut f first count parts is = record {
  within = omega arith;
  all = λ k low. absurd (omega (arith, low));
  last = None;
  other = λ lt n found. refl;
  goes_on = λ rest cut. ap (λ ps. are_cut f first None 0 count (ps ++ rest)) is ∙ ap (λ n. are_cut f first None 0 n rest) (omega arith) ∙ cut;
}

pub one_cut_more : (h : History) (s : Sought) (old new : List Part) (at end act : ℕ) → Cuts (given h s) (first_of s.cap) (count_of s.cap) old at → IsRun h s at end act →
    new ≡ old ++ record { low = first_of s.cap + at; size = end - at; act = act } ∷ [] → Cuts (given h s) (first_of s.cap) (count_of s.cap) new end
one_cut_more h s old new at end act cuts run is =
    let p : Part = record { low = first_of s.cap + at; size = end - at; act = act } in
    let back : at + (end - at) ≡ end = omega (arith, run.more) in
    record {
      within = run.bound;
      all = λ k below. elim (cases_lt k at) [ inl here ↦ cuts.all k here | inr there ↦ ap (is_wanted None) (run.by_act k there below) ];
      last = Some act;
      other = λ lt n found. apart_turned n act (ap (λ o. is_act o act) (sym found) ∙ run.other lt);
      goes_on = λ rest cut.
          ap (λ ps. are_cut (given h s) (first_of s.cap) None 0 (count_of s.cap) (ps ++ rest)) is
          ∙ ap (are_cut (given h s) (first_of s.cap) None 0 (count_of s.cap)) (append_assoc old (p ∷ []) rest)
          ∙ cuts.goes_on (p ∷ rest)
          (and_from (is_cut (given h s) (first_of s.cap) cuts.last at (count_of s.cap - at) p) _
          (is_cut_by (given h s) (first_of s.cap) cuts.last at (count_of s.cap - at) p refl (omega (arith, run.more)) (omega (arith, run.more, run.bound))
          (cuts.other (omega (arith, run.more, run.bound)) act (run.by_act at (omega arith) run.more))
          (λ i low high. run.by_act i low (omega (arith, high, back))))
          (ap (λ n. are_cut (given h s) (first_of s.cap) (Some act) n (count_of s.cap - at - (end - at)) rest) back
          ∙ ap (λ n. are_cut (given h s) (first_of s.cap) (Some act) end n rest) (omega (arith, run.more, run.bound)) ∙ cut));
    }

pub all_cut : (f : ℕ → Option ℕ) (first count : ℕ) (parts : List Part) (at : ℕ) → Cuts f first count parts at → count ≤ at → are_cut f first None 0 count parts ≡ true
all_cut f first count parts at cuts le =
    ap (are_cut f first None 0 count) (sym (append-nil parts)) ∙ cuts.goes_on [] (eq-eqb (count - at) 0 (omega (arith, le)))

pub each_before : (f : ℕ → Option ℕ) (first count : ℕ) (parts : List Part) (at : ℕ) → Cuts f first count parts at → each_byte (λ k. is_wanted None (f k)) 0 at ≡ true
each_before f first count parts at cuts = each_byte-from (λ k. is_wanted None (f k)) 0 at (λ k low high. cuts.all k (omega (arith, high)))

-- the atom at a place
nth_has : (c : Cap) (k : ℕ) → k < count_of c → has c (nth_atom c k) ≡ true
nth_has (cap.Write at size) k lt = and_from (nat_le at (at + k)) _ (le-leb at (at + k) (omega arith)) (lt-ltb (at + k) (at + size) (omega (arith, lt)))
nth_has (cap.Call a) k lt = eq-eqb a a refl
nth_has (cap.Ref t a) k lt = and_from (nat_eq t t) _ (eq-eqb t t refl) (eq-eqb a a refl)

nth_place : (c : Cap) (k : ℕ) → k < count_of c → address_of (nth_atom c k) - first_of c ≡ k
nth_place (cap.Write at size) k lt = omega arith
nth_place (cap.Call a) k lt = omega (arith, lt)
nth_place (cap.Ref t a) k lt = omega (arith, lt)

first_lack : (p : Atom → Bool) (c : Cap) (k : ℕ) → k < count_of c → each_byte (λ i. p (nth_atom c i)) 0 k ≡ true → p (nth_atom c k) ≡ false → is_first_lacking p c (nth_atom c k) ≡ true
first_lack p c k lt each out =
    and_from (has c (nth_atom c k)) _ (nth_has c k lt)
    (and_from (each_byte (λ i. p (nth_atom c i)) 0 (address_of (nth_atom c k) - first_of c)) _ (ap (each_byte (λ i. p (nth_atom c i)) 0) (nth_place c k lt) ∙ each) (ap not out))

pub first_unowned : (h : History) (who : Principal) (c : Cap) (k : ℕ) (x : Atom) → x ≡ nth_atom c k → k < count_of c → each_byte (λ i. is_wanted None (given h (seek Both who c) i)) 0 k ≡ true →
    given h (seek Both who c) k ≡ None → is_first_lacking (reached h who) c x ≡ true
first_unowned h who c k x is lt each out =
    ap (λ y. is_first_lacking (reached h who) c y) is
    ∙ first_lack (reached h who) c k lt (sym (ap (λ p. each_byte (λ i. p (nth_atom c i)) 0 k) (owning h who)) ∙ each) (sym (ap (λ p. p (nth_atom c k)) (owning h who)) ∙ ap (is_wanted None) out)

pub first_unkept : (h : History) (who : Principal) (c : Cap) (k : ℕ) (x : Atom) → x ≡ nth_atom c k → k < count_of c → each_byte (λ i. is_wanted None (given h (seek Grants who c) i)) 0 k ≡ true →
    given h (seek Grants who c) k ≡ None → is_first_lacking (kept_in_reach h who) c x ≡ true
first_unkept h who c k x is lt each out =
    ap (λ y. is_first_lacking (kept_in_reach h who) c y) is
    ∙ first_lack (kept_in_reach h who) c k lt (sym (ap (λ p. each_byte (λ i. p (nth_atom c i)) 0 k) (keeping h who)) ∙ each) (sym (ap (λ p. p (nth_atom c k)) (keeping h who)) ∙ ap (is_wanted None) out)

-- whose parts are cut is held
pub parts_held : (h : History) (who : Principal) (c : Cap) (parts : List Part) → are_parts h (seek Both who c) parts ≡ true → holds_by_reach h who c ≡ true
parts_held h who c parts is =
    by_places (reached h who) c
    ∙ each_byte-from (λ i. reached h who (nth_atom c i)) 0 (count_of c)
    (λ i low high. sym (owned h who (nth_atom c i)) ∙ all_given (given h (seek Both who c)) (first_of c) None 0 (count_of c) parts is i low high)

-- what nobody granted was lent, if anyone gave it

by_grants : (b : Bool) (n : ℕ) (g l o : Option ℕ) → (g ≡ None → l ≡ o) → found (if b then Some true else None) n g ≡ None → l ≡ found (if b then Some true else None) n o
by_grants true n g l o same is = absurd cc
by_grants false n g l o same is = same is

by_strips : (b : Bool) (n : ℕ) (g l o : Option ℕ) → (g ≡ None → l ≡ o) → found (if b then Some false else None) n g ≡ None → found (if b then Some false else None) n l ≡ found (if b then Some false else None) n o
by_strips true n g l o same is = refl
by_strips false n g l o same is = same is

lent_among : (among : Principal → Bool) (ends : Endings) (h : History) (x : Atom) → giver_among Grants among ends h x ≡ None → giver_among Lends among ends h x ≡ giver_among Both among ends h x
lent_among among ends [] x is = refl
lent_among among ends (Grant q c ∷ h) x is =
    by_grants (among q && has c x) (length h) (giver_among Grants among ends h x) (giver_among Lends among ends h x) (giver_among Both among ends h x) (lent_among among ends h x) is
lent_among among ends (Strip c ∷ h) x is =
    by_strips (has c x) (length h) (giver_among Grants among ends h x) (giver_among Lends among ends h x) (giver_among Both among ends h x) (lent_among among ends h x) is
lent_among among ends (Zero at size ∷ h) x is = lent_among among ends h x is
lent_among among ends (Loan t ∷ h) x is = lent_among among (before_loan t ends) h x is
lent_among among ends (Lend t q c ∷ h) x is =
    ap (found (if (among q && has c x) && (lends h t && goes_on (ends t)) then Some true else None) (length h)) (lent_among among ends h x is)
lent_among among ends (Shut t n ∷ h) x is = lent_among among (before_shut t n ends) h x is
lent_among among ends (ShutAll t ∷ h) x is = lent_among among (before_shut_all t ends) h x is

pub lent_somewhere : (h : History) (who : Principal) (c : Cap) (k : ℕ) (x : Atom) → x ≡ nth_atom c k → k < count_of c → holds_by_reach h who c ≡ true → giver Grants h who (nth_atom c k) ≡ None → giver Lends h who x ≢ None
lent_somewhere h who c k x is lt held out none =
    let y = nth_atom c k in
    let owner : is_wanted None (giver Both h who y) ≡ true = owned h who y ∙ each_byte-at (λ i. reached h who (nth_atom c i)) 0 (count_of c) (sym (by_places (reached h who) c) ∙ held) k (omega arith) (omega (arith, lt)) in
    let nobody : giver Both h who y ≡ None = sym (lent_among (reaches who) none_end h y out) ∙ sym (ap (giver Lends h who) is) ∙ none in
    true≢false (sym owner ∙ ap (is_wanted None) nobody)
