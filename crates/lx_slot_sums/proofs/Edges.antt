-- The last edge that isn't past an offset, in a list that grows and by how many edges are not past it.
use Rattle.std.proofs.Common.{◌≡◌, ◌∙◌, refl, sym, ap, subst, ℕ, zero, suc, ◌-◌, ◌<◌, ◌≤◌, Bool, true, false, Option, Some, None, List, [], ◌∷◌, ◌++◌, length, get_or, nat_le, arith, if◌then◌else◌}
use Rattle.std.specs.Option.{option_or}
use Rattle.std.specs.List.Sorted.{IsPartitionPoint, IsPartitionedBy}
use Rattle.std.proofs.lemmas.Bool.Decides.{nat_tests}
use Rattle.lx_words.proofs.Tests.{true_le, le_true, not_at_most}
use Rattle.lx_slot_sums.specs.declared.rows.Edge.{Edge}
use Rattle.lx_slot_sums.specs.Rows.{AreRising, Counts, RiseFrom, edge_at, offset_at}

-- an edge more

pub edge_last : (es : List Edge) (e : Edge) (o : ℕ) → edge_at (es ++ e ∷ []) o ≡ (if nat_le e.offset o then Some e else edge_at es o)
edge_last [] e o = refl
edge_last (x ∷ xs) e o = ap (λ r. option_or r (if nat_le x.offset o then Some x else None)) (edge_last xs e o) ∙ by (nat_le e.offset o)
  where
    by : (b : Bool) → option_or (if b then Some e else edge_at xs o) (if nat_le x.offset o then Some x else None) ≡ (if b then Some e else option_or (edge_at xs o) (if nat_le x.offset o then Some x else None))
    by true = refl
    by false = refl

rise_more : (n : ℕ) (es : List Edge) (e x : Edge) → RiseFrom n (es ++ e ∷ []) → e.offset ≤ x.offset → RiseFrom n ((es ++ e ∷ []) ++ x ∷ [])
rise_more n [] e x h l = (h.0, (l, tt))
rise_more n (y ∷ ys) e x h l = (h.0, rise_more y.offset ys e x h.1 l)

rise_same : (n : ℕ) (es : List Edge) (e x : Edge) → RiseFrom n (es ++ e ∷ []) → e.offset ≡ x.offset → RiseFrom n (es ++ x ∷ [])
rise_same n [] e x h q = (subst (λ k. n ≤ k) q h.0, tt)
rise_same n (y ∷ ys) e x h q = (h.0, rise_same y.offset ys e x h.1 q)

pub rising_more : (es : List Edge) (e x : Edge) → AreRising (es ++ e ∷ []) → e.offset ≤ x.offset → AreRising ((es ++ e ∷ []) ++ x ∷ [])
unfolding AreRising
rising_more es e x h l = rise_more 0 es e x h l

pub rising_same : (es : List Edge) (e x : Edge) → AreRising (es ++ e ∷ []) → e.offset ≡ x.offset → AreRising (es ++ x ∷ [])
unfolding AreRising
rising_same es e x h q = rise_same 0 es e x h q

pub rising_one : (e : Edge) → AreRising (e ∷ [])
unfolding AreRising
rising_one e = (omega arith, tt)

-- by how many are not past the offset

is_past : (a o : ℕ) → nat_le a o ≡ false → o < a
is_past a o e = grind (arith, nat_tests, e)

rises : (n : ℕ) (es : List Edge) (i j : ℕ) (d : Edge) → RiseFrom n es → i ≤ j → j < length es → (n ≤ offset_at es i d) × (offset_at es i d ≤ offset_at es j d)
rises n [] i j d r up h = absurd (omega (arith, h))
rises n (e ∷ es) zero zero d r up h = (r.0, omega arith)
rises n (e ∷ es) zero (suc j) d r up h =
    let k = rises e.offset es j j d r.1 (omega arith) (omega (arith, h)) in
    (r.0, k.0)
rises n (e ∷ es) (suc i) zero d r up h = absurd (omega (arith, up))
rises n (e ∷ es) (suc i) (suc j) d r up h =
    let k = rises e.offset es i j d r.1 (omega (arith, up)) (omega (arith, h)) in
    let l : n ≤ e.offset = r.0 in
    let m : e.offset ≤ offset_at es i d = k.0 in
    (omega (arith, l, m), k.1)

upto_too : (a b o : ℕ) → a ≤ b → nat_le b o ≡ true → nat_le a o ≡ true
upto_too a b o h e = grind (arith, nat_tests, h, e)

pub parted : (es : List Edge) (o : ℕ) → AreRising es → IsPartitionedBy (λ (e : Edge). nat_le e.offset o) es
unfolding AreRising
parted es o r i j d up h e = upto_too (offset_at es i d) (offset_at es j d) o (rises 0 es i j d r up h).1 e

pub counts : (es : List Edge) (o n : ℕ) → n ≤ length es → IsPartitionPoint (λ (e : Edge). nat_le e.offset o ≡ true) (λ (e : Edge). nat_le e.offset o ≡ false) es n → Counts o es n
counts es o n l p = record {
  within = l;
  before = λ k d less. true_le (offset_at es k d) o (p.0 k d (omega arith) less);
  behind = λ k d from less. is_past (offset_at es k d) o (p.1 k d from less);
}

none_at : (es : List Edge) (o : ℕ) → ((k : ℕ) (d : Edge) → k < length es → o < offset_at es k d) → edge_at es o ≡ None
none_at [] o h = refl
none_at (e ∷ es) o h =
    let b : nat_le e.offset o ≡ false = not_at_most e.offset o (h 0 e (omega arith)) in
    let r : edge_at es o ≡ None = none_at es o (λ k d l. h (suc k) d (omega (arith, l))) in
    λ j. option_or (r j) (if b j then Some e else None)

some_at : (es : List Edge) (n o : ℕ) (d : Edge) → suc n ≤ length es → ((k : ℕ) (x : Edge) → k < suc n → offset_at es k x ≤ o) → ((k : ℕ) (x : Edge) → suc n ≤ k → k < length es → o < offset_at es k x) → edge_at es o ≡ Some (get_or es n d)
some_at [] n o d l h g = absurd (omega (arith, l))
some_at (e ∷ es) zero o d l h g =
    let b : nat_le e.offset o ≡ true = le_true e.offset o (h 0 e (omega arith)) in
    let r : edge_at es o ≡ None = none_at es o (λ k x m. g (suc k) x (omega arith) (omega (arith, m))) in
    λ j. option_or (r j) (if b j then Some e else None)
some_at (e ∷ es) (suc n) o d l h g =
    let r : edge_at es o ≡ Some (get_or es n d) = some_at es n o d (omega (arith, l)) (λ k x m. h (suc k) x (omega (arith, m))) (λ k x m i. g (suc k) x (omega (arith, m)) (omega (arith, i))) in
    ap (λ q. option_or q (if nat_le e.offset o then Some e else None)) r

pub none_counted : (es : List Edge) (o n : ℕ) → Counts o es n → n ≡ 0 → None ≡ edge_at es o
none_counted es o n h z = sym (none_at es o (λ k d l. h.behind k d (omega (arith, z)) l))

pub some_counted : (es : List Edge) (o n : ℕ) (d : Edge) → Counts o es n → 0 < n → Some (get_or es (n - 1) d) ≡ edge_at es o
some_counted es o n d h p =
    let z : suc (n - 1) ≡ n = omega (arith, p) in
    sym (some_at es (n - 1) o d (subst (λ k. k ≤ length es) (sym z) h.within) (λ k x l. h.before k x (omega (arith, l, p))) (λ k x l m. h.behind k x (omega (arith, l, p)) m))

-- an edge that is found is not past the offset

found_by : (x e : Edge) (o : ℕ) (r : Option Edge) (b : Bool) → nat_le x.offset o ≡ b → (r ≡ Some e → e.offset ≤ o) → option_or r (if b then Some x else None) ≡ Some e → e.offset ≤ o
found_by x e o (Some y) b q h k = h k
found_by x e o None true q h k = let s : x ≡ e = cc in subst (λ (z : Edge). z.offset ≤ o) s (true_le x.offset o q)
found_by x e o None false q h k = absurd (cc)

pub found_upto : (es : List Edge) (o : ℕ) (e : Edge) → edge_at es o ≡ Some e → e.offset ≤ o
found_upto [] o e h = absurd (cc)
found_upto (x ∷ xs) o e h = found_by x e o (edge_at xs o) (nat_le x.offset o) refl (found_upto xs o e) h
