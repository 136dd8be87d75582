-- Nodes of different writers, each with a byte, and the bits of the lists that have nodes.
use Rattle.std.proofs.Common.{◌≡◌, ◌≢◌, ℕ, zero, suc, ◌/◌, ◌%◌, ◌<◌, ◌≤◌, ◌^◌, Bool, true, false, not, ◌&&◌, ◌||◌, nat_eq, ◌⊎◌, inl, inr, List, [], ◌∷◌, ◌++◌, length, set, refl, sym, ap, ◌∙◌, subst, arith, eqb-true}
use Rattle.std.specs.Prelude.{slice_index_or}
use Rattle.std.specs.Int.{bit_at}
use Rattle.std.proofs.lemmas.Bool.{cases_lt, or_from, or_left as or_first}
use Rattle.std.proofs.lemmas.Bool.Decides.{nat_tests}
use Rattle.std.proofs.lemmas.List.{get_or-set_same, get_or-set_other}
use Rattle.std.proofs.lemmas.Nat.Bits.{same_from_bits, bit_at_above, bit_at-lt, bit_at-zero}
use Rattle.lx_words.proofs.Tests.{none_left, none_right}
use Rattle.lx_caps.specs.declared.Principal.{Principal}
use Rattle.lx_caps.specs.History.{same_principal}
use Rattle.lx_cap_nodes.specs.Words.{nodes_at}
use Rattle.lx_writer_sets.specs.declared.entry.Entry.{Entry}
use Rattle.lx_writer_sets.specs.Bits.{is_marked}
use Rattle.lx_cap_nodes.specs.Bits.{is_set}
use Rattle.lx_writer_sets.specs.Nodes.{has_writer, with_mask, HasBit, AreNodes, AllNodes, has_nodes, AreMarked}
use Rattle.lx_writer_sets.specs.Sets.{is_given}
use Rattle.lx_cap_nodes.proofs.Masks.{none_set}
use Rattle.lx_caps.proofs.Tests.{and_yes}
use Rattle.lx_writer_sets.proofs.SlotMasks.{bit_is_none}

-- a bit among the lowest, or none there
bit_or_none : (m n : ℕ) → ((k : ℕ) × (k < n) × (is_set m k ≡ true)) ⊎ ((k : ℕ) → k < n → is_set m k ≡ false)
bit_or_none m zero = inr (λ k h. absurd (omega (arith, h)))
bit_or_none m (suc n) = elim (bit_or_none m n) [
  | inl found ↦ inl (found.0, (let h = found.1 in omega (arith, h)), found.2)
  | inr none ↦ (elim (is_set m n) as (λ t. is_set m n ≡ t → ((k : ℕ) × (k < suc n) × (is_set m k ≡ true)) ⊎ ((k : ℕ) → k < suc n → is_set m k ≡ false)) [
    | true ↦ λ e. inl (n, omega arith, e)
    | false ↦ λ e. inr (λ k h. elim (cases_lt k n) [ inl lt ↦ none k lt | inr ge ↦ let at : k ≡ n = omega (arith, h, ge) in ap (is_set m) at ∙ e ])
  ]) refl
]

-- a number that is not 0 has a bit
pub some_bit : (m : ℕ) → m < 2 ^ 64 → m ≢ 0 → HasBit m
some_bit m fits some = elim (bit_or_none m 64) [
  | inl found ↦ record { bit = found.0; within = found.1; set = found.2 }
  | inr none ↦ absurd (some (same_from_bits m 0 (λ i. elim (cases_lt i 64) [
    | inl lt ↦ bit_is_none (bit_at m i) (bit_at-lt m i) (none i lt) ∙ sym (bit_at-zero i)
    | inr ge ↦ bit_at_above m 64 i fits ge ∙ sym (bit_at-zero i)
  ])))
]

writer_put : (q : Principal) (xs ys : List (ℕ × Entry)) (n : ℕ) (v : Entry) (m : ℕ) → has_writer q (xs ++ (n, v) ∷ ys) ≡ false → has_writer q (xs ++ (n, with_mask v m) ∷ ys) ≡ false
writer_put q [] ys n v m h = h
writer_put q (x ∷ xs) ys n v m h =
    or_from (same_principal q x.1.writer) (has_writer q (xs ++ (n, with_mask v m) ∷ ys)) (none_left (same_principal q x.1.writer) (has_writer q (xs ++ (n, v) ∷ ys)) h)
    (writer_put q xs ys n v m (none_right (same_principal q x.1.writer) (has_writer q (xs ++ (n, v) ∷ ys)) h))

-- a node with another mask
pub nodes_put : (xs ys : List (ℕ × Entry)) (n : ℕ) (v : Entry) (m : ℕ) → (HasBit v.mask → HasBit m) → AreNodes (xs ++ (n, v) ∷ ys) → AreNodes (xs ++ (n, with_mask v m) ∷ ys)
nodes_put [] ys n v m bit h = (h.0, bit h.1, h.2)
nodes_put (x ∷ xs) ys n v m bit h = (writer_put x.1.writer xs ys n v m h.0, h.1, nodes_put xs ys n v m bit h.2)

writer_gone : (q : Principal) (xs ys : List (ℕ × Entry)) (e : ℕ × Entry) → has_writer q (xs ++ e ∷ ys) ≡ false → has_writer q (xs ++ ys) ≡ false
writer_gone q [] ys e h = none_right (same_principal q e.1.writer) (has_writer q ys) h
writer_gone q (x ∷ xs) ys e h =
    or_from (same_principal q x.1.writer) (has_writer q (xs ++ ys)) (none_left (same_principal q x.1.writer) (has_writer q (xs ++ e ∷ ys)) h)
    (writer_gone q xs ys e (none_right (same_principal q x.1.writer) (has_writer q (xs ++ e ∷ ys)) h))

-- nodes without one of them
pub nodes_gone : (xs ys : List (ℕ × Entry)) (e : ℕ × Entry) → AreNodes (xs ++ e ∷ ys) → AreNodes (xs ++ ys)
nodes_gone [] ys e h = h.2
nodes_gone (x ∷ xs) ys e h = (writer_gone x.1.writer xs ys e h.0, h.1, nodes_gone xs ys e h.2)

-- one list changes
pub nodes_one : (old new : List (List (ℕ × Entry))) (list : ℕ) → (AreNodes (nodes_at old list) → AreNodes (nodes_at new list)) → ((l : ℕ) → l ≢ list → nodes_at new l ≡ nodes_at old l) → AllNodes old → AllNodes new
unfolding AllNodes
nodes_one old new list here others all l =
    (elim (nat_eq l list) as (λ t. nat_eq l list ≡ t → AreNodes (nodes_at new l)) [
      | true ↦ λ e. let same = eqb-true l list e in subst (λ k. AreNodes (nodes_at new k)) (sym same) (here (all list))
      | false ↦ λ e. subst AreNodes (sym (others l (λ same. grind (arith, nat_tests, e, same)))) (all l)
    ]) refl

pub nodes_linked : (old new : List (List (ℕ × Entry))) (list n : ℕ) (e : Entry) → list < length old → new ≡ set old list ((n, e) ∷ nodes_at old list) → has_writer e.writer (nodes_at old list) ≡ false → HasBit e.mask → AllNodes old → AllNodes new
nodes_linked old new list n e h is free bit =
    nodes_one old new list
    (λ all. subst AreNodes (sym (ap (λ ls. nodes_at ls list) is ∙ get_or-set_same old list ((n, e) ∷ nodes_at old list) [] h)) (free, bit, all))
    (λ l ne. ap (λ ls. nodes_at ls l) is ∙ get_or-set_other old list l ((n, e) ∷ nodes_at old list) [] ne)

pub nodes_same : (old new : List (List (ℕ × Entry))) → ((l : ℕ) → nodes_at new l ≡ nodes_at old l) → AllNodes old → AllNodes new
unfolding AllNodes
nodes_same old new same all l = subst AreNodes (sym (same l)) (all l)

pub nodes_none : (lists : List (List (ℕ × Entry))) → lists ≡ [] → AllNodes lists
unfolding AllNodes
nodes_none lists is l = subst (λ ls. AreNodes (nodes_at ls l)) (sym is) tt

pub still_some : (xs ys : List (ℕ × Entry)) (e : ℕ × Entry) → has_nodes (xs ++ e ∷ ys) ≡ true
still_some [] ys e = refl
still_some (x ∷ xs) ys e = refl

-- the bits
pub marked_same : (old_words words : List ℕ) (old new : List (List (ℕ × Entry))) → ((n : ℕ) → is_marked words n ≡ is_marked old_words n) → ((l : ℕ) → nodes_at new l ≡ nodes_at old l) → AreMarked old_words old → AreMarked words new
unfolding AreMarked
marked_same old_words words old new bits same marked l = bits l ∙ (marked l ∙ ap has_nodes (sym (same l)))

pub marked_none : (words : List ℕ) (lists : List (List (ℕ × Entry))) → words ≡ [] → lists ≡ [] → AreMarked words lists
unfolding AreMarked
marked_none words lists w is l = ap (λ ws. is_marked ws l) w ∙ (none_set (l % 64) ∙ ap (λ ls. has_nodes (nodes_at ls l)) (sym is))

pub marked_more : (old_words words : List ℕ) (old new : List (List (ℕ × Entry))) (list : ℕ) → ((n : ℕ) → is_marked words n ≡ (nat_eq n list || is_marked old_words n)) → has_nodes (nodes_at new list) ≡ true
    → ((l : ℕ) → l ≢ list → nodes_at new l ≡ nodes_at old l) → AreMarked old_words old → AreMarked words new
unfolding AreMarked
marked_more old_words words old new list bits some others marked l =
    (elim (nat_eq l list) as (λ t. nat_eq l list ≡ t → is_marked words l ≡ has_nodes (nodes_at new l)) [
      | true ↦ λ e.
          let same = eqb-true l list e in
          bits l ∙ (or_first (nat_eq l list) (is_marked old_words l) e ∙ sym (ap (λ k. has_nodes (nodes_at new k)) same ∙ some))
      | false ↦ λ e. bits l ∙ (ap (λ (t : Bool). t || is_marked old_words l) e ∙ (marked l ∙ ap has_nodes (sym (others l (λ same. grind (arith, nat_tests, e, same))))))
    ]) refl

pub marked_left : (old_words words : List ℕ) (old new : List (List (ℕ × Entry))) (list : ℕ) → ((n : ℕ) → is_marked words n ≡ (is_marked old_words n && (not (nat_eq n list) || has_nodes (nodes_at new list)))) → has_nodes (nodes_at old list) ≡ true
    → ((l : ℕ) → l ≢ list → nodes_at new l ≡ nodes_at old l) → AreMarked old_words old → AreMarked words new
unfolding AreMarked
marked_left old_words words old new list bits some others marked l =
    (elim (nat_eq l list) as (λ t. nat_eq l list ≡ t → is_marked words l ≡ has_nodes (nodes_at new l)) [
      | true ↦ λ e.
          let same = eqb-true l list e in
          let was : is_marked old_words l ≡ true = marked l ∙ (ap (λ k. has_nodes (nodes_at old k)) same ∙ some) in
          bits l ∙ (ap (λ (t : Bool). t && (not (nat_eq l list) || has_nodes (nodes_at new list))) was ∙ (ap (λ (t : Bool). not t || has_nodes (nodes_at new list)) e ∙ ap (λ k. has_nodes (nodes_at new k)) (sym same)))
      | false ↦ λ e.
          bits l ∙ (ap (λ (t : Bool). is_marked old_words l && (not t || has_nodes (nodes_at new list))) e ∙ (and_yes (is_marked old_words l) ∙ (marked l ∙ ap has_nodes (sym (others l (λ same. grind (arith, nat_tests, e, same)))))))
    ]) refl

-- where a list has a node, the list is in use and has a bit
pub in_use : (lists : List (List (ℕ × Entry))) (l : ℕ) → has_nodes (nodes_at lists l) ≡ true → l < length lists
in_use [] zero is = absurd (cc)
in_use [] (suc l) is = absurd (cc)
in_use (x ∷ xs) zero is = omega arith
in_use (x ∷ xs) (suc l) is = let h = in_use xs l is in omega (arith, h)

past : (ws : List ℕ) (i : ℕ) → length ws ≤ i → slice_index_or ws i 0 ≡ 0
past [] zero h = refl
past [] (suc i) h = refl
past (w ∷ ws) zero h = absurd (omega (arith, h))
past (w ∷ ws) (suc i) h = past ws i (omega (arith, h))

pub word_within : (words : List ℕ) (l : ℕ) → is_marked words l ≡ true → l / 64 < length words
word_within words l is = elim (cases_lt (l / 64) (length words)) [
  | inl lt ↦ lt
  | inr ge ↦ absurd (let out : is_marked words l ≡ false = ap (λ w. is_set w (l % 64)) (past words (l / 64) ge) ∙ none_set (l % 64) in cc)
]

-- a word more without bits
word_more : (ws : List ℕ) (i : ℕ) → slice_index_or (ws ++ 0 ∷ []) i 0 ≡ slice_index_or ws i 0
word_more [] zero = refl
word_more [] (suc zero) = refl
word_more [] (suc (suc i)) = refl
word_more (w ∷ ws) zero = refl
word_more (w ∷ ws) (suc i) = word_more ws i

pub marks_more : (ws : List ℕ) (n : ℕ) → is_marked (ws ++ 0 ∷ []) n ≡ is_marked ws n
marks_more ws n = ap (λ w. is_set w (n % 64)) (word_more ws (n / 64))

pub none_given : (es : List (ℕ × Entry)) → has_nodes es ≡ false → (k : ℕ) (q : Principal) → is_given es k q ≡ false
none_given [] is k q = refl
none_given (e ∷ es) is k q = absurd (cc)

pub marked_is : (words : List ℕ) (lists : List (List (ℕ × Entry))) → AreMarked words lists → (l : ℕ) → is_marked words l ≡ has_nodes (nodes_at lists l)
unfolding AreMarked
marked_is words lists marked = marked
