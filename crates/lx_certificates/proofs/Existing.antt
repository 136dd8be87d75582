-- Each need of a module has a certificate.
use Rattle.std.proofs.Common.{◌≡◌, ◌≢◌, ◌∙◌, ◌⊎◌, inl, inr, refl, sym, ap, ℕ, zero, suc, ◌+◌, ◌-◌, ◌<◌, ◌≤◌, Bool, true, false, not, nat_eq, Option, Some, None, List, [], ◌∷◌, arith, eqb-true, eq-eqb}
use Rattle.std.proofs.lemmas.Bool.{cases_Bool, and_parts, and_from}
use Rattle.std.proofs.lemmas.Bool.Decides.{nat_tests}
use Rattle.lx_caps.specs.declared.Principal.{Principal}
use Rattle.lx_caps.specs.declared.Principal.TheVariants.{Kernel, Shared, Global, Inst}
use Rattle.lx_caps.specs.declared.Cap.{Cap}
use Rattle.lx_caps.specs.History.{History, holds_by_reach, reached, kept_in_reach}
use Rattle.lx_caps.proofs.Bytes.{each_byte-from}
use Rattle.lx_certificates.specs.declared.Cert.{Cert}
use Rattle.lx_certificates.specs.declared.Cert.TheVariants.{Allow, Deny, Borrowed}
use Rattle.lx_certificates.specs.declared.givers.Gifts.TheVariants.{Grants, Lends, Both}
use Rattle.lx_certificates.specs.declared.Part.{Part}
use Rattle.lx_certificates.specs.Givers.{giver, given, nth_atom, count_of, first_of, newest_strip}
use Rattle.lx_certificates.specs.Certificates.{is_wanted, is_act, is_cut, are_cut, is_first_lacking, is_kernel, same_number, gifts_for, seek}
use Rattle.lx_certificates.specs.Laws.{IsCertFor}
use Rattle.lx_certificates.proofs.Meanings.{cut_of}
use Rattle.lx_certificates.proofs.Making.{is_cut_by, first_unowned, first_unkept, lent_somewhere, parts_held}

-- all are given from a place on, or a first one is not
AllGiven : (ℕ → Option ℕ) → ℕ → ℕ → Type 0
AllGiven f k left = (i : ℕ) → k ≤ i → i < k + left → is_wanted None (f i) ≡ true

record FirstOut (f : ℕ → Option ℕ) (k left : ℕ) : Type 0 where
  pub place : ℕ
  pub low : k ≤ place
  pub high : place < k + left
  pub before : (i : ℕ) → k ≤ i → i < place → is_wanted None (f i) ≡ true
  pub out : f place ≡ None

later_given : (f : ℕ → Option ℕ) (k left n : ℕ) → f k ≡ Some n → AllGiven f (suc k) left → AllGiven f k (suc left)
unfolding AllGiven
later_given f k left n is all i low high =
    elim (cases_Bool (nat_eq i k)) [
      | inl here ↦ ap (λ (j : ℕ). is_wanted None (f j)) (eqb-true i k here) ∙ ap (is_wanted None) is
      | inr out ↦ all i (behind i k low out) (omega (arith, high))
    ]
  where
    behind : (i k : ℕ) → k ≤ i → nat_eq i k ≡ false → suc k ≤ i
    behind i k low out = grind (arith, nat_tests, low, out)

later_out : (f : ℕ → Option ℕ) (k left n : ℕ) → f k ≡ Some n → FirstOut f (suc k) left → FirstOut f k (suc left)
later_out f k left n is o = record {
  place = o.place;
  low = omega (arith, o.low);
  high = omega (arith, o.high);
  before = λ i low high. elim (cases_Bool (nat_eq i k)) [
    | inl here ↦ ap (λ (j : ℕ). is_wanted None (f j)) (eqb-true i k here) ∙ ap (is_wanted None) is
    | inr other ↦ o.before i (behind i k low other) high
  ];
  out = o.out;
}
  where
    behind : (i k : ℕ) → k ≤ i → nat_eq i k ≡ false → suc k ≤ i
    behind i k low other = grind (arith, nat_tests, low, other)

scan : (f : ℕ → Option ℕ) (k left : ℕ) → AllGiven f k left ⊎ FirstOut f k left
unfolding AllGiven
scan f k zero = inl (λ i low high. absurd (omega (arith, low, high)))
scan f k (suc left) = by (f k) refl (scan f (suc k) left)
  where
    by : (o : Option ℕ) → f k ≡ o → AllGiven f (suc k) left ⊎ FirstOut f (suc k) left → AllGiven f k (suc left) ⊎ FirstOut f k (suc left)
    by None is rest = inr (record { place = k; low = omega arith; high = omega arith; before = λ i low high. absurd (omega (arith, low, high)); out = is })
    by (Some n) is (inl all) = inl (later_given f k left n is all)
    by (Some n) is (inr o) = inr (later_out f k left n is o)

-- what is given can be cut into parts
Cutting : (ℕ → Option ℕ) → ℕ → ℕ → ℕ → Type 0
Cutting f first k left = (ps : List Part) × (are_cut f first None k left ps ≡ true)

only_here : (f : ℕ → Option ℕ) (k n i : ℕ) → f k ≡ Some n → k ≤ i → i < k + 1 → f i ≡ Some n
only_here f k n i is low high = (let e : i ≡ k = omega (arith, low, high) in ap f e ∙ is)

part_at : ℕ → ℕ → ℕ → ℕ → Part
part_at first k size n = record { low = first + k; size = size; act = n }

-- one atom more before the parts
cut_before : (f : ℕ → Option ℕ) (first k left n : ℕ) → f k ≡ Some n → Cutting f first (suc k) left → Cutting f first k (suc left)
unfolding Cutting part_at
cut_before f first k left n is ([], all) =
    let none : left ≡ 0 = eqb-true left 0 all in (
      part_at first k 1 n ∷ [],
      and_from (is_cut f first None k (suc left) (part_at first k 1 n)) _
          (is_cut_by f first None k (suc left) (part_at first k 1 n) refl (omega arith) (omega arith) refl (λ i low high. only_here f k n i is low high))
          (eq-eqb (suc left - 1) 0 (omega (arith, none))),
    )
cut_before f first k left n is (p ∷ ps, all) =
    let a = and_parts (is_cut f first None (suc k) left p) _ all in
    let c = cut_of f first None (suc k) left p a.0 in
    elim (cases_Bool (nat_eq n p.act)) [
      | inl same ↦
          (let e : n ≡ p.act = eqb-true n p.act same in
          let q = part_at first k (suc p.size) n in (
            q ∷ ps,
            and_from (is_cut f first None k (suc left) q) _
                (is_cut_by f first None k (suc left) q refl (omega arith) (omega (arith, c.within)) refl
                (λ i low high. elim (cases_Bool (nat_eq i k)) [
                  | inl here ↦ ap f (eqb-true i k here) ∙ is
                  | inr out ↦ c.each i (behind i k low out) (omega (arith, high)) ∙ ap Some (sym e)
                ]))
                (ap (λ (m : ℕ). are_cut f first (Some m) (k + suc p.size) (suc left - suc p.size) ps) e
                ∙ ap (λ (m : ℕ). are_cut f first (Some p.act) m (suc left - suc p.size) ps) (omega arith)
                ∙ ap (λ (m : ℕ). are_cut f first (Some p.act) (suc k + p.size) m ps) (omega arith) ∙ a.1),
          ))
      | inr other ↦
          (let q = part_at first k 1 n in (
            q ∷ p ∷ ps,
            and_from (is_cut f first None k (suc left) q) _
                (is_cut_by f first None k (suc left) q refl (omega arith) (omega arith) refl (λ i low high. only_here f k n i is low high))
                (ap (λ (m : ℕ). are_cut f first (Some n) m (suc left - 1) (p ∷ ps)) (omega arith)
                ∙ ap (λ (m : ℕ). are_cut f first (Some n) (suc k) m (p ∷ ps)) (omega arith)
                ∙ and_from (is_cut f first (Some n) (suc k) left p) _ (is_cut_by f first (Some n) (suc k) left p c.low c.some c.within other (λ i low high. c.each i low high)) a.1),
          ))
    ]
  where
    behind : (i k : ℕ) → k ≤ i → nat_eq i k ≡ false → suc k ≤ i
    behind i k low out = grind (arith, nat_tests, low, out)

cut_all : (f : ℕ → Option ℕ) (first k left : ℕ) → AllGiven f k left → Cutting f first k left
unfolding AllGiven Cutting
cut_all f first k zero all = ([], refl)
cut_all f first k (suc left) all = by (f k) refl (all k (omega arith) (omega arith)) (cut_all f first (suc k) left (λ i low high. all i (omega (arith, low)) (omega (arith, high))))
  where
    by : (o : Option ℕ) → f k ≡ o → is_wanted None (f k) ≡ true → Cutting f first (suc k) left → Cutting f first k (suc left)
    by None is given rest = absurd (none_given (f k) is given)
      where
        none_given : (o : Option ℕ) → o ≡ None → is_wanted None o ≡ true → ⊥
        none_given None is given = cc
        none_given (Some n) is given = cc
    by (Some n) is given rest = cut_before f first k left n is rest

same_itself : (o : Option ℕ) → same_number o o ≡ true
same_itself None = refl
same_itself (Some n) = eq-eqb n n refl

not_kernel : (who : Principal) → who ≢ Kernel → not (is_kernel who) ≡ true
not_kernel Kernel is = absurd (is refl)
not_kernel (Shared m) is = refl
not_kernel (Global m) is = refl
not_kernel (Inst m k) is = refl

the_deny : (h : History) (who : Principal) (c : Cap) (kept : Bool) → not (is_kernel who) ≡ true → FirstOut (given h (seek Both who c)) 0 (count_of c) → (cert : Cert) × IsCertFor h who c kept cert
the_deny h who c kept of_module o =
    let x = nth_atom c o.place in
    let each = each_byte-from (λ i. is_wanted None (given h (seek Both who c) i)) 0 o.place (λ i low high. o.before i low (omega (arith, high))) in (
      Deny who c x (newest_strip h x),
      (
        (refl, refl),
        and_from (not (is_kernel who)) _ of_module
            (and_from (is_first_lacking (reached h who) c x) _ (first_unowned h who c o.place x refl (omega (arith, o.high)) each o.out) (same_itself (newest_strip h x))),
      ),
    )

the_allow : (h : History) (who : Principal) (c : Cap) (kept : Bool) → not (is_kernel who) ≡ true → AllGiven (given h (seek (gifts_for kept) who c)) 0 (count_of c) → (cert : Cert) × IsCertFor h who c kept cert
unfolding Cutting
the_allow h who c kept of_module all =
    let (parts, cut) = cut_all (given h (seek (gifts_for kept) who c)) (first_of c) 0 (count_of c) all in
    (Allow who c kept parts, ((refl, refl, refl), and_from (not (is_kernel who)) _ of_module cut))

the_borrowed : (h : History) (who : Principal) (c : Cap) → not (is_kernel who) ≡ true → AllGiven (given h (seek Both who c)) 0 (count_of c) → FirstOut (given h (seek Grants who c)) 0 (count_of c) → (cert : Cert) × IsCertFor h who c true cert
unfolding Cutting
the_borrowed h who c of_module all o =
    let (parts, cut) = cut_all (given h (seek Both who c)) (first_of c) 0 (count_of c) all in
    by (giver Lends h who (nth_atom c o.place)) refl (parts_held h who c parts cut)
  where
    by : (l : Option ℕ) → giver Lends h who (nth_atom c o.place) ≡ l → holds_by_reach h who c ≡ true → (cert : Cert) × IsCertFor h who c true cert
    by None is held = absurd (lent_somewhere h who c o.place (nth_atom c o.place) refl (omega (arith, o.high)) held o.out is)
    by (Some n) is held =
        let x = nth_atom c o.place in
        let each = each_byte-from (λ i. is_wanted None (given h (seek Grants who c) i)) 0 o.place (λ i low high. o.before i low (omega (arith, high))) in (
          Borrowed who c x n,
          (
            (refl, refl, refl),
            and_from (not (is_kernel who)) _ of_module
                (and_from (holds_by_reach h who c) _ held
                (and_from (is_first_lacking (kept_in_reach h who) c x) _ (first_unkept h who c o.place x refl (omega (arith, o.high)) each o.out)
                (ap (λ l. is_act l n) is ∙ eq-eqb n n refl))),
          ),
        )

pub has_one : (h : History) (who : Principal) (c : Cap) (kept : Bool) → who ≢ Kernel → (cert : Cert) × IsCertFor h who c kept cert
has_one h who c kept is = by kept (scan (given h (seek Both who c)) 0 (count_of c)) (scan (given h (seek Grants who c)) 0 (count_of c))
  where
    by : (kept : Bool) → AllGiven (given h (seek Both who c)) 0 (count_of c) ⊎ FirstOut (given h (seek Both who c)) 0 (count_of c)
        → AllGiven (given h (seek Grants who c)) 0 (count_of c) ⊎ FirstOut (given h (seek Grants who c)) 0 (count_of c) → (cert : Cert) × IsCertFor h who c kept cert
    by kept (inr o) grants = the_deny h who c kept (not_kernel who is) o
    by false (inl all) grants = the_allow h who c false (not_kernel who is) all
    by true (inl all) (inl grants) = the_allow h who c true (not_kernel who is) grants
    by true (inl all) (inr o) = the_borrowed h who c (not_kernel who is) all o
