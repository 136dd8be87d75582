-- What true certificates mean, and that two for one need are the same.
use Rattle.std.proofs.Common.{◌≡◌, ◌∙◌, inl, inr, refl, sym, ap, ℕ, ◌+◌, ◌-◌, ◌<◌, ◌≤◌, Bool, true, false, not, nat_eq, nat_lt, nat_le, IsTrue, Option, Some, None, List, [], ◌∷◌, arith, eqb-true}
use Rattle.std.proofs.lemmas.Bool.{true≢false, false_from_ne_true, and_parts, cases_lt}
use Rattle.std.proofs.lemmas.Bool.Decides.{nat_tests}
use Rattle.lx_words.proofs.Tests.{eq_self, clash}
use Rattle.lx_words.proofs.Options.{some_is}
use Rattle.lx_caps.specs.declared.Principal.{Principal}
use Rattle.lx_caps.specs.declared.Principal.TheVariants.{Kernel, Shared, Global, Inst}
use Rattle.lx_caps.specs.declared.Cap.{Cap}
use Rattle.lx_caps.specs.declared.Atom.{Atom}
use Rattle.lx_caps.specs.History.{History, has, holds, holds_by_reach, keeps_all, keeps_by_reach, reached, kept_in_reach, each_byte, each_atom}
use Rattle.lx_caps.proofs.Bytes.{each_byte-at, each_byte-from}
use Rattle.lx_caps.proofs.OwnerLemmas.{kept_held}
use Rattle.lx_certificates.specs.declared.Cert.{Cert}
use Rattle.lx_certificates.specs.declared.Cert.TheVariants.{Allow, Deny, Borrowed}
use Rattle.lx_certificates.specs.declared.givers.Gifts.TheVariants.{Grants, Lends, Both}
use Rattle.lx_certificates.specs.declared.Part.{Part}
use Rattle.lx_certificates.specs.Givers.{giver, given, nth_atom, count_of, first_of, newest_strip}
use Rattle.lx_certificates.specs.Certificates.{is_wanted, is_act, same_number, is_cut, are_cut, is_first_lacking, is_kernel, is_cert, gifts_for, seek, address_of}
use Rattle.lx_certificates.specs.Laws.{IsCertFor}
use Rattle.lx_certificates.proofs.Reaching.{owned, kept, by_places, at_place, in_place}

not_both : (b : Bool) → b ≡ true → not b ≡ true → ⊥
not_both b is out = true≢false (sym out ∙ ap not is)

wanted_is : (n : ℕ) (o : Option ℕ) → is_wanted (Some n) o ≡ true → o ≡ Some n
wanted_is n None is = absurd cc
wanted_is n (Some m) is = ap Some (eqb-true m n is)

-- what it says of a part that it is cut
pub record Cut (f : ℕ → Option ℕ) (first : ℕ) (last : Option ℕ) (k left : ℕ) (p : Part) : Type 0 where
  pub low : p.low ≡ first + k
  pub some : 0 < p.size
  pub within : p.size ≤ left
  pub other : not (is_act last p.act) ≡ true
  pub each : (i : ℕ) → k ≤ i → i < k + p.size → f i ≡ Some p.act

pub cut_of : (f : ℕ → Option ℕ) (first : ℕ) (last : Option ℕ) (k left : ℕ) (p : Part) → is_cut f first last k left p ≡ true → Cut f first last k left p
cut_of f first last k left p is =
    let a = and_parts (nat_eq p.low (first + k)) _ is in
    let b = and_parts (nat_lt 0 p.size) _ a.1 in
    let c = and_parts (nat_le p.size left) _ b.1 in
    let d = and_parts (not (is_act last p.act)) _ c.1 in
    record {
      low = eqb-true p.low (first + k) a.0;
      some = grind (arith, nat_tests, b.0);
      within = grind (arith, nat_tests, c.0);
      other = d.0;
      each = λ i low high. wanted_is p.act (f i) (each_byte-at (λ n. is_wanted (Some p.act) (f n)) k p.size d.1 i low high);
    }

-- all atoms that the parts cut were given
pub all_given : (f : ℕ → Option ℕ) (first : ℕ) (last : Option ℕ) (k left : ℕ) (ps : List Part) → are_cut f first last k left ps ≡ true →
    (i : ℕ) → k ≤ i → i < k + left → is_wanted None (f i) ≡ true
all_given f first last k left [] is i low high = (let e : left ≡ 0 = eqb-true left 0 is in absurd (omega (arith, low, high, e)))
all_given f first last k left (p ∷ ps) is i low high =
    let a = and_parts (is_cut f first last k left p) _ is in
    let c = cut_of f first last k left p a.0 in
    elim (cases_lt i (k + p.size)) [
      | inl here ↦ ap (is_wanted None) (c.each i low here)
      | inr there ↦ all_given f first (Some p.act) (k + p.size) (left - p.size) ps a.1 i there (omega (arith, high, c.within, there))
    ]

pub module_holds : (h : History) (who : Principal) (c : Cap) → not (is_kernel who) ≡ true → holds h who c ≡ holds_by_reach h who c
module_holds h Kernel c is = absurd cc
module_holds h (Shared m) c is = refl
module_holds h (Global m) c is = refl
module_holds h (Inst m k) c is = refl

pub module_keeps : (h : History) (who : Principal) (c : Cap) → not (is_kernel who) ≡ true → keeps_all h who c ≡ keeps_by_reach h who c
module_keeps h Kernel c is = absurd cc
module_keeps h (Shared m) c is = refl
module_keeps h (Global m) c is = refl
module_keeps h (Inst m k) c is = refl

each_reached : (p : Atom → Bool) (c : Cap) → ((i : ℕ) → 0 ≤ i → i < 0 + count_of c → p (nth_atom c i) ≡ true) → each_atom p c ≡ true
each_reached p c each = by_places p c ∙ each_byte-from (λ i. p (nth_atom c i)) 0 (count_of c) each

pub allowed_kept : (h : History) (who : Principal) (c : Cap) (parts : List Part) → IsTrue (is_cert h (Allow who c true parts)) → IsTrue (keeps_all h who c)
allowed_kept h who c parts is =
    let a = and_parts (not (is_kernel who)) _ is in
    module_keeps h who c a.0
    ∙ each_reached (kept_in_reach h who) c
    (λ i low high. sym (kept h who (nth_atom c i)) ∙ all_given (given h (seek Grants who c)) (first_of c) None 0 (count_of c) parts a.1 i low high)

allowed_held : (h : History) (who : Principal) (c : Cap) (parts : List Part) → IsTrue (is_cert h (Allow who c false parts)) → IsTrue (holds h who c)
allowed_held h who c parts is =
    let a = and_parts (not (is_kernel who)) _ is in
    module_holds h who c a.0
    ∙ each_reached (reached h who) c
    (λ i low high. sym (owned h who (nth_atom c i)) ∙ all_given (given h (seek Both who c)) (first_of c) None 0 (count_of c) parts a.1 i low high)

pub allowed : (h : History) (who : Principal) (c : Cap) (kept : Bool) (parts : List Part) → IsTrue (is_cert h (Allow who c kept parts)) → IsTrue (holds h who c)
allowed h who c true parts is = kept_held h who c (allowed_kept h who c parts is)
allowed h who c false parts is = allowed_held h who c parts is

-- what it says of an atom that it is the first that is lacking
pub record Lack (p : Atom → Bool) (c : Cap) (x : Atom) : Type 0 where
  pub in_cap : has c x ≡ true
  pub before : (i : ℕ) → i < address_of x - first_of c → p (nth_atom c i) ≡ true
  pub out : not (p x) ≡ true

pub lack_of : (p : Atom → Bool) (c : Cap) (x : Atom) → is_first_lacking p c x ≡ true → Lack p c x
lack_of p c x is =
    let a = and_parts (has c x) _ is in
    let b = and_parts (each_byte (λ i. p (nth_atom c i)) 0 (address_of x - first_of c)) _ a.1 in
    record { in_cap = a.0; before = λ i high. each_byte-at (λ n. p (nth_atom c n)) 0 (address_of x - first_of c) b.0 i (omega arith) (omega (arith, high)); out = b.1 }

lacks : (p : Atom → Bool) (c : Cap) (x : Atom) → is_first_lacking p c x ≡ true → each_atom p c ≡ false
lacks p c x is =
    let l = lack_of p c x is in
    false_from_ne_true (each_atom p c)
    (λ all. not_both (p x) (sym (ap p (at_place c x l.in_cap))
    ∙ each_byte-at (λ i. p (nth_atom c i)) 0 (count_of c) (sym (by_places p c) ∙ all) (address_of x - first_of c) (omega arith) (omega (arith, (in_place c x l.in_cap).1)))
    l.out)

pub denied : (h : History) (who : Principal) (c : Cap) (x : Atom) (strip : Option ℕ) → IsTrue (is_cert h (Deny who c x strip)) → holds h who c ≡ false
denied h who c x strip is =
    let a = and_parts (not (is_kernel who)) _ is in
    module_holds h who c a.0 ∙ lacks (reached h who) c x (and_parts (is_first_lacking (reached h who) c x) _ a.1).0

pub borrowed : (h : History) (who : Principal) (c : Cap) (x : Atom) (act : ℕ) → IsTrue (is_cert h (Borrowed who c x act)) → IsTrue (holds h who c) × (keeps_all h who c ≡ false)
borrowed h who c x act is =
    let a = and_parts (not (is_kernel who)) _ is in
    let b = and_parts (holds_by_reach h who c) _ a.1 in
    (module_holds h who c a.0 ∙ b.0, module_keeps h who c a.0 ∙ lacks (kept_in_reach h who) c x (and_parts (is_first_lacking (kept_in_reach h who) c x) _ b.1).0)

-- one list of parts

-- a part ends where the next one begins, which has another act
longer : (f : ℕ → Option ℕ) (first : ℕ) (last : Option ℕ) (k left : ℕ) (p q : Part) (ps : List Part) → Cut f first last k left p → Cut f first last k left q →
    are_cut f first (Some p.act) (k + p.size) (left - p.size) ps ≡ true → p.act ≡ q.act → p.size < q.size → ⊥
longer f first last k left p q [] a b is same lt = (let e : left - p.size ≡ 0 = eqb-true (left - p.size) 0 is in omega (arith, e, b.within, lt))
longer f first last k left p q (r ∷ rs) a b is same lt =
    let c = cut_of f first (Some p.act) (k + p.size) (left - p.size) r (and_parts (is_cut f first (Some p.act) (k + p.size) (left - p.size) r) _ is).0 in
    let e : r.act ≡ q.act = some_is r.act q.act (sym (c.each (k + p.size) (omega arith) (omega (arith, c.some))) ∙ b.each (k + p.size) (omega arith) (omega (arith, lt))) in
    not_both (nat_eq p.act r.act) (ap (nat_eq p.act) (e ∙ sym same) ∙ eq_self p.act) c.other

same_size : (f : ℕ → Option ℕ) (first : ℕ) (last : Option ℕ) (k left : ℕ) (p q : Part) (ps qs : List Part) → Cut f first last k left p → Cut f first last k left q →
    are_cut f first (Some p.act) (k + p.size) (left - p.size) ps ≡ true → are_cut f first (Some q.act) (k + q.size) (left - q.size) qs ≡ true → p.act ≡ q.act → p.size ≡ q.size
same_size f first last k left p q ps qs a b is js same =
    elim (cases_lt p.size q.size) [
      | inl lt ↦ absurd (longer f first last k left p q ps a b is same lt)
      | inr le ↦ elim (cases_lt q.size p.size) [
        | inl lt ↦ absurd (longer f first last k left q p qs b a js (sym same) lt)
        | inr other ↦ omega (arith, le, other)
      ]
    ]

pub one_cut : (f : ℕ → Option ℕ) (first : ℕ) (last : Option ℕ) (k left : ℕ) (ps qs : List Part) → are_cut f first last k left ps ≡ true → are_cut f first last k left qs ≡ true → ps ≡ qs
one_cut f first last k left [] [] is js = refl
one_cut f first last k left [] (q ∷ qs) is js =
    let c = cut_of f first last k left q (and_parts (is_cut f first last k left q) _ js).0 in
    let e : left ≡ 0 = eqb-true left 0 is in
    absurd (omega (arith, e, c.some, c.within))
one_cut f first last k left (p ∷ ps) [] is js =
    let c = cut_of f first last k left p (and_parts (is_cut f first last k left p) _ is).0 in
    let e : left ≡ 0 = eqb-true left 0 js in
    absurd (omega (arith, e, c.some, c.within))
one_cut f first last k left (p ∷ ps) (q ∷ qs) is js =
    let i = and_parts (is_cut f first last k left p) _ is in
    let j = and_parts (is_cut f first last k left q) _ js in
    let a = cut_of f first last k left p i.0 in
    let b = cut_of f first last k left q j.0 in
    let act : p.act ≡ q.act = some_is p.act q.act (sym (a.each k (omega arith) (omega (arith, a.some))) ∙ b.each k (omega arith) (omega (arith, b.some))) in
    let size : p.size ≡ q.size = same_size f first last k left p q ps qs a b i.1 j.1 act in
    let low : p.low ≡ q.low = a.low ∙ sym b.low in
    let rest = one_cut f first (Some p.act) (k + p.size) (left - p.size) ps qs i.1 (ap (λ n. are_cut f first (Some n) (k + p.size) (left - p.size) qs) act ∙ ap (λ n. are_cut f first (Some q.act) (k + n) (left - n) qs) size ∙ j.1) in
    λ m. record { low = low m; size = size m; act = act m } ∷ rest m

-- one lacking atom

place_first : (p : Atom → Bool) (c : Cap) (x y : Atom) → Lack p c x → Lack p c y → address_of x - first_of c < address_of y - first_of c → ⊥
place_first p c x y a b lt = not_both (p x) (sym (ap p (at_place c x a.in_cap)) ∙ b.before (address_of x - first_of c) lt) a.out

pub one_lack : (p : Atom → Bool) (c : Cap) (x y : Atom) → is_first_lacking p c x ≡ true → is_first_lacking p c y ≡ true → x ≡ y
one_lack p c x y is js =
    let a = lack_of p c x is in
    let b = lack_of p c y js in
    elim (cases_lt (address_of x - first_of c) (address_of y - first_of c)) [
      | inl lt ↦ absurd (place_first p c x y a b lt)
      | inr le ↦ elim (cases_lt (address_of y - first_of c) (address_of x - first_of c)) [
        | inl lt ↦ absurd (place_first p c y x b a lt)
        | inr other ↦ (let e : address_of x - first_of c ≡ address_of y - first_of c = omega (arith, le, other) in sym (at_place c x a.in_cap) ∙ ap (nth_atom c) e ∙ at_place c y b.in_cap)
      ]
    ]

one_number : (a b n : Option ℕ) → same_number a n ≡ true → same_number b n ≡ true → a ≡ b
one_number None None n is js = refl
one_number None (Some b) None is js = absurd cc
one_number None (Some b) (Some n) is js = absurd cc
one_number (Some a) None None is js = absurd cc
one_number (Some a) None (Some n) is js = absurd cc
one_number (Some a) (Some b) None is js = absurd cc
one_number (Some a) (Some b) (Some n) is js = ap Some (eqb-true a n is ∙ sym (eqb-true b n js))

one_act : (o : Option ℕ) (a b : ℕ) → is_act o a ≡ true → is_act o b ≡ true → a ≡ b
one_act None a b is js = absurd cc
one_act (Some n) a b is js = sym (eqb-true n a is) ∙ eqb-true n b js

-- two certificates of one need

two_allow : (h : History) (who : Principal) (c : Cap) (kept : Bool) (ps qs : List Part) → IsTrue (is_cert h (Allow who c kept ps)) → IsTrue (is_cert h (Allow who c kept qs)) → ps ≡ qs
two_allow h who c kept ps qs is js =
    one_cut (given h (seek (gifts_for kept) who c)) (first_of c) None 0 (count_of c) ps qs (and_parts (not (is_kernel who)) _ is).1 (and_parts (not (is_kernel who)) _ js).1

two_deny : (h : History) (who : Principal) (c : Cap) (x y : Atom) (s t : Option ℕ) → IsTrue (is_cert h (Deny who c x s)) → IsTrue (is_cert h (Deny who c y t)) → (x ≡ y) × (s ≡ t)
two_deny h who c x y s t is js =
    let a = and_parts (is_first_lacking (reached h who) c x) _ (and_parts (not (is_kernel who)) _ is).1 in
    let b = and_parts (is_first_lacking (reached h who) c y) _ (and_parts (not (is_kernel who)) _ js).1 in
    let e = one_lack (reached h who) c x y a.0 b.0 in
    (e, one_number s t (newest_strip h y) (ap (λ z. same_number s (newest_strip h z)) (sym e) ∙ a.1) b.1)

two_borrowed : (h : History) (who : Principal) (c : Cap) (x y : Atom) (m n : ℕ) → IsTrue (is_cert h (Borrowed who c x m)) → IsTrue (is_cert h (Borrowed who c y n)) → (x ≡ y) × (m ≡ n)
two_borrowed h who c x y m n is js =
    let a = and_parts (is_first_lacking (kept_in_reach h who) c x) _ (and_parts (holds_by_reach h who c) _ (and_parts (not (is_kernel who)) _ is).1).1 in
    let b = and_parts (is_first_lacking (kept_in_reach h who) c y) _ (and_parts (holds_by_reach h who c) _ (and_parts (not (is_kernel who)) _ js).1).1 in
    let e = one_lack (kept_in_reach h who) c x y a.0 b.0 in
    (e, one_act (giver Lends h who y) m n (ap (λ z. is_act (giver Lends h who z) m) (sym e) ∙ a.1) b.1)

-- a certificate, with the need's own names
pub own_allow : (h : History) (who w : Principal) (cap c : Cap) (kept k : Bool) (ps : List Part) → w ≡ who → c ≡ cap → k ≡ kept → IsTrue (is_cert h (Allow w c k ps)) → IsTrue (is_cert h (Allow who cap kept ps))
own_allow h who w cap c kept k ps e f g is = (λ j. is_cert h (Allow (sym e j) (sym f j) (sym g j) ps)) ∙ is

pub own_deny : (h : History) (who w : Principal) (cap c : Cap) (x : Atom) (s : Option ℕ) → w ≡ who → c ≡ cap → IsTrue (is_cert h (Deny w c x s)) → IsTrue (is_cert h (Deny who cap x s))
own_deny h who w cap c x s e f is = (λ j. is_cert h (Deny (sym e j) (sym f j) x s)) ∙ is

pub own_borrowed : (h : History) (who w : Principal) (cap c : Cap) (x : Atom) (n : ℕ) → w ≡ who → c ≡ cap → IsTrue (is_cert h (Borrowed w c x n)) → IsTrue (is_cert h (Borrowed who cap x n))
own_borrowed h who w cap c x n e f is = (λ j. is_cert h (Borrowed (sym e j) (sym f j) x n)) ∙ is

allow_borrowed : (h : History) (who : Principal) (cap : Cap) (kept : Bool) (ps : List Part) (x : Atom) (n : ℕ) → kept ≡ true → IsTrue (is_cert h (Allow who cap kept ps)) → IsTrue (is_cert h (Borrowed who cap x n)) → ⊥
allow_borrowed h who cap true ps x n e is js = clash (keeps_all h who cap) (allowed_kept h who cap ps is) (borrowed h who cap x n js).1
allow_borrowed h who cap false ps x n e is js = true≢false (sym e)

pub one : (h : History) (who : Principal) (cap : Cap) (kept : Bool) (c d : Cert) → IsCertFor h who cap kept c → IsCertFor h who cap kept d → c ≡ d
one h who cap kept (Allow w c k ps) (Allow v d l qs) (e, is) (f, js) =
    let same = two_allow h who cap kept ps qs (own_allow h who w cap c kept k ps e.0 e.1 e.2 is) (own_allow h who v cap d kept l qs f.0 f.1 f.2 js) in
    λ j. Allow ((e.0 ∙ sym f.0) j) ((e.1 ∙ sym f.1) j) ((e.2 ∙ sym f.2) j) (same j)
one h who cap kept (Deny w c x s) (Deny v d y t) (e, is) (f, js) =
    let same = two_deny h who cap x y s t (own_deny h who w cap c x s e.0 e.1 is) (own_deny h who v cap d y t f.0 f.1 js) in
    λ j. Deny ((e.0 ∙ sym f.0) j) ((e.1 ∙ sym f.1) j) (same.0 j) (same.1 j)
one h who cap kept (Borrowed w c x m) (Borrowed v d y n) (e, is) (f, js) =
    let same = two_borrowed h who cap x y m n (own_borrowed h who w cap c x m e.0 e.1 is) (own_borrowed h who v cap d y n f.0 f.1 js) in
    λ j. Borrowed ((e.0 ∙ sym f.0) j) ((e.1 ∙ sym f.1) j) (same.0 j) (same.1 j)
one h who cap kept (Allow w c k ps) (Deny v d y t) (e, is) (f, js) =
    absurd (clash (holds h who cap) (allowed h who cap kept ps (own_allow h who w cap c kept k ps e.0 e.1 e.2 is)) (denied h who cap y t (own_deny h who v cap d y t f.0 f.1 js)))
one h who cap kept (Deny w c x s) (Allow v d l qs) (e, is) (f, js) =
    absurd (clash (holds h who cap) (allowed h who cap kept qs (own_allow h who v cap d kept l qs f.0 f.1 f.2 js)) (denied h who cap x s (own_deny h who w cap c x s e.0 e.1 is)))
one h who cap kept (Allow w c k ps) (Borrowed v d y n) (e, is) (f, js) =
    absurd (allow_borrowed h who cap kept ps y n f.2 (own_allow h who w cap c kept k ps e.0 e.1 e.2 is) (own_borrowed h who v cap d y n f.0 f.1 js))
one h who cap kept (Borrowed w c x m) (Allow v d l qs) (e, is) (f, js) =
    absurd (allow_borrowed h who cap kept qs x m e.2 (own_allow h who v cap d kept l qs f.0 f.1 f.2 js) (own_borrowed h who w cap c x m e.0 e.1 is))
one h who cap kept (Deny w c x s) (Borrowed v d y n) (e, is) (f, js) =
    absurd (clash (holds h who cap) (borrowed h who cap y n (own_borrowed h who v cap d y n f.0 f.1 js)).0 (denied h who cap x s (own_deny h who w cap c x s e.0 e.1 is)))
one h who cap kept (Borrowed w c x m) (Deny v d y t) (e, is) (f, js) =
    absurd (clash (holds h who cap) (borrowed h who cap x m (own_borrowed h who w cap c x m e.0 e.1 is)).0 (denied h who cap y t (own_deny h who v cap d y t f.0 f.1 js)))
