-- Nodes of different owners, each with a bit.
use Rattle.std.proofs.Common.{◌≡◌, ◌≢◌, ℕ, zero, suc, ◌-◌, ◌<◌, ◌≤◌, ◌^◌, min, max, inl, inr, true, false, ◌||◌, nat_eq, nat_lt, bit_or, cond, List, [], ◌∷◌, ◌++◌, length, map, set, refl, sym, ap, ◌∙◌, subst, arith, eqb-true}
use Rattle.std.specs.Int.{bit_at}
use Rattle.std.proofs.lemmas.Bool.Decides.{nat_tests}
use Rattle.std.proofs.lemmas.Bool.{cases_lt, or_from, or_left as or_true}
use Rattle.std.proofs.lemmas.List.{get_or-set_same, get_or-set_other}
use Rattle.std.proofs.lemmas.Nat.Bits.{same_from_bits, bit_at_above, bit_at_and, bit_at_or, bit_at-lt, bit_at-zero}
use Rattle.lx_words.proofs.Tests.{none_left, none_right}
use Rattle.lx_cap_lists.specs.declared.holder.Holder.{Holder}
use Rattle.lx_cap_lists.specs.Holders.{same_holder}
use Rattle.std.proofs.Math.ListN as listn
use Rattle.lx_cap_nodes.specs.Words.{nodes_at, without}
use Rattle.lx_cap_lists.specs.declared.entry.Entry.{Entry}
use Rattle.lx_cap_nodes.specs.Bits.{is_set}
use Rattle.lx_cap_lists.specs.Entries.{is_holder, with_mask, left_of, cut_all}
use Rattle.lx_cap_lists.specs.Kept.{width_of, IsMask, AreNodes, AllNodes}
use Rattle.lx_cap_lists.proofs.HeldLemmas.{lacks}
use Rattle.lx_cap_nodes.proofs.Masks.{none_set, set_in_either}

-- a number that is not 0 has a bit
pub some_bit : (w m : ℕ) → ((k : ℕ) → w ≤ k → bit_at m k ≡ 0) → nat_eq m 0 ≡ false → IsMask w m
some_bit w m high e = elim (lacks 0 m w) [
  | inl found ↦ record { bit = found.0; within = found.1; set = found.2; none = high }
  | inr all ↦ absurd (
      let none : m ≡ 0 = same_from_bits m 0 (λ i. elim (cases_lt i w) [
        | inl lt ↦ zero_bit (bit_at m i) (bit_at-lt m i) (λ is. none_set_there i (all i lt is)) ∙ sym (bit_at-zero i)
        | inr ge ↦ high i ge ∙ sym (bit_at-zero i)
      ]) in
      grind (arith, nat_tests, e, none))
]
  where
    none_set_there : (i : ℕ) → is_set 0 i ≡ true → ⊥
    none_set_there i is = let out = none_set i in absurd (cc)

    zero_bit : (a : ℕ) → a < 2 → (nat_eq a 1 ≡ true → ⊥) → a ≡ 0
    zero_bit zero h f = refl
    zero_bit (suc zero) h f = absurd (f refl)
    zero_bit (suc (suc a)) h f = absurd (omega (arith, h))

left_high : (mask bits k : ℕ) → bit_at mask k ≡ 0 → bit_at (left_of mask bits) k ≡ 0
left_high mask bits k out =
    bit_at_and mask (18446744073709551615 - bits) k ∙ (ap (λ b. min b (bit_at (18446744073709551615 - bits) k)) out ∙ (let z : min 0 (bit_at (18446744073709551615 - bits) k) ≡ 0 = omega arith in z))

holder_cut : (q : Holder) (bits : ℕ) (es : List (ℕ × Entry)) → is_holder q es ≡ false → is_holder q (cut_all bits es) ≡ false
holder_cut q bits [] h = refl
holder_cut q bits (e ∷ es) h =
    let rest = holder_cut q bits es (none_right (same_holder q e.1.holder) (is_holder q es) h) in
    elim (nat_eq (left_of e.1.mask bits) 0) as (λ t. is_holder q (cond t (cut_all bits es) ((e.0, with_mask e.1 (left_of e.1.mask bits)) ∷ cut_all bits es)) ≡ false) [
      | true ↦ rest
      | false ↦ or_from (same_holder q e.1.holder) (is_holder q (cut_all bits es)) (none_left (same_holder q e.1.holder) (is_holder q es) h) rest
    ]

pub nodes_cut : (w bits : ℕ) (es : List (ℕ × Entry)) → AreNodes w es → AreNodes w (cut_all bits es)
nodes_cut w bits [] h = tt
nodes_cut w bits (e ∷ es) h =
    let rest = nodes_cut w bits es h.2 in
    (elim (nat_eq (left_of e.1.mask bits) 0) as (λ t. nat_eq (left_of e.1.mask bits) 0 ≡ t → AreNodes w (cond t (cut_all bits es) ((e.0, with_mask e.1 (left_of e.1.mask bits)) ∷ cut_all bits es))) [
      | true ↦ λ f. rest
      | false ↦ λ f. (holder_cut e.1.holder bits es h.0, some_bit w (left_of e.1.mask bits) (λ k high. left_high e.1.mask bits k (h.1.none k high)) f, rest)
    ]) refl

holder_widened : (q : Holder) (xs ys : List (ℕ × Entry)) (n : ℕ) (v : Entry) (m : ℕ) → is_holder q (xs ++ (n, v) ∷ ys) ≡ false → is_holder q (xs ++ (n, with_mask v m) ∷ ys) ≡ false
holder_widened q [] ys n v m h = h
holder_widened q (x ∷ xs) ys n v m h =
    or_from (same_holder q x.1.holder) (is_holder q (xs ++ (n, with_mask v m) ∷ ys)) (none_left (same_holder q x.1.holder) (is_holder q (xs ++ (n, v) ∷ ys)) h)
    (holder_widened q xs ys n v m (none_right (same_holder q x.1.holder) (is_holder q (xs ++ (n, v) ∷ ys)) h))

-- a bit of either number
high_either : (m v more k : ℕ) → m ≡ bit_or v more → bit_at v k ≡ 0 → bit_at more k ≡ 0 → bit_at m k ≡ 0
high_either m v more k is a b = ap (λ n. bit_at n k) is ∙ (bit_at_or v more k ∙ (ap (λ c. max c (bit_at more k)) a ∙ ap (max 0) b))

mask_widened : (w v m more : ℕ) → m ≡ bit_or v more → ((k : ℕ) → w ≤ k → bit_at more k ≡ 0) → IsMask w v → IsMask w m
mask_widened w v m more is high mask = record {
  bit = mask.bit;
  within = mask.within;
  set = ap (λ n. is_set n mask.bit) is ∙ (set_in_either v more mask.bit ∙ or_true (is_set v mask.bit) (is_set more mask.bit) mask.set);
  none = λ k h. high_either m v more k is (mask.none k h) (high k h);
}

pub nodes_widened : (w : ℕ) (xs ys : List (ℕ × Entry)) (n : ℕ) (v : Entry) (m more : ℕ) → m ≡ bit_or v.mask more → ((k : ℕ) → w ≤ k → bit_at more k ≡ 0) → AreNodes w (xs ++ (n, v) ∷ ys) → AreNodes w (xs ++ (n, with_mask v m) ∷ ys)
nodes_widened w [] ys n v m more is high h = (h.0, mask_widened w v.mask m more is high h.1, h.2)
nodes_widened w (x ∷ xs) ys n v m more is high h = (holder_widened x.1.holder xs ys n v m h.0, h.1, nodes_widened w xs ys n v m more is high h.2)

-- nodes without one of them
holder_without : (q : Holder) (n : ℕ) (es : List (ℕ × Entry)) → is_holder q es ≡ false → is_holder q (without n es) ≡ false
holder_without q n [] h = refl
holder_without q n (e ∷ es) h =
    let rest = holder_without q n es (none_right (same_holder q e.1.holder) (is_holder q es) h) in
    elim (nat_eq n e.0) as (λ t. is_holder q (cond t (without n es) (e ∷ without n es)) ≡ false) [
      | true ↦ rest
      | false ↦ or_from (same_holder q e.1.holder) (is_holder q (without n es)) (none_left (same_holder q e.1.holder) (is_holder q es) h) rest
    ]

pub nodes_without : (w n : ℕ) (es : List (ℕ × Entry)) → AreNodes w es → AreNodes w (without n es)
nodes_without w n [] h = tt
nodes_without w n (e ∷ es) h =
    let rest = nodes_without w n es h.2 in
    elim (nat_eq n e.0) as (λ t. AreNodes w (cond t (without n es) (e ∷ without n es))) [ true ↦ rest | false ↦ (holder_without e.1.holder n es h.0, h.1, rest) ]

pub all_without : (old new : List (List (ℕ × Entry))) (n : ℕ) → new ≡ map (without n) old → AllNodes old → AllNodes new
unfolding AllNodes
all_without old new n is all l = subst (AreNodes (width_of l)) (sym (ap (λ ls. nodes_at ls l) is ∙ listn.get_or-map (without n) old l [])) (nodes_without (width_of l) n (nodes_at old l) (all l))

-- one list changes
pub nodes_at_one : (old new : List (List (ℕ × Entry))) (place : ℕ) → (AreNodes (width_of place) (nodes_at old place) → AreNodes (width_of place) (nodes_at new place)) → ((l : ℕ) → l ≢ place → nodes_at new l ≡ nodes_at old l) → AllNodes old → AllNodes new
unfolding AllNodes
nodes_at_one old new place here others all l =
    (elim (nat_eq l place) as (λ t. nat_eq l place ≡ t → AreNodes (width_of l) (nodes_at new l)) [
      | true ↦ λ e. let same = eqb-true l place e in subst (λ k. AreNodes (width_of k) (nodes_at new k)) (sym same) (here (all place))
      | false ↦ λ e. subst (AreNodes (width_of l)) (sym (others l (λ same. grind (arith, nat_tests, e, same)))) (all l)
    ]) refl

pub nodes_linked : (old new : List (List (ℕ × Entry))) (place n : ℕ) (e : Entry) → place < length old → new ≡ set old place ((n, e) ∷ nodes_at old place) → is_holder e.holder (nodes_at old place) ≡ false → IsMask (width_of place) e.mask → AllNodes old → AllNodes new
nodes_linked old new place n e h is free bit =
    nodes_at_one old new place
    (λ all. subst (AreNodes (width_of place)) (sym (ap (λ ls. nodes_at ls place) is ∙ get_or-set_same old place ((n, e) ∷ nodes_at old place) [] h)) (free, bit, all))
    (λ l ne. ap (λ ls. nodes_at ls l) is ∙ get_or-set_other old place l ((n, e) ∷ nodes_at old place) [] ne)

-- masks of the width
pub width_part : (l : ℕ) → l < 0xc000 → width_of l ≡ 64
width_part l h = let is : nat_lt l 0xc000 ≡ true = grind (arith, nat_tests, h) in ap (λ t. cond t 64 1) is

pub width_behind : (l : ℕ) → 0xc000 ≤ l → width_of l ≡ 1
width_behind l h = let is : nat_lt l 0xc000 ≡ false = grind (arith, nat_tests, h) in ap (λ t. cond t 64 1) is

pub one_mask : IsMask 1 1
one_mask = record { bit = 0; within = omega arith; set = refl; none = λ k h. bit_at_above 1 1 k (omega arith) h }

pub high_none : (m k : ℕ) → m < 2 ^ 64 → 64 ≤ k → bit_at m k ≡ 0
high_none m k small h = bit_at_above m 64 k small h
