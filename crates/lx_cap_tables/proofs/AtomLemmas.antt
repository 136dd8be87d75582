-- Calls and references as they are taken and given.
use Rattle.std.proofs.Common.{◌≡◌, ◌≢◌, ℕ, ◌+◌, ◌/◌, ◌%◌, ◌<◌, ◌≤◌, Bool, true, false, not, ◌&&◌, ◌||◌, nat_eq, List, length, Option, Some, None, refl, sym, ap, ◌∙◌, subst, arith}
use Rattle.std.proofs.lemmas.Bool.Decides.{nat_tests}
use Rattle.std.proofs.Common.{inl, inr}
use Rattle.std.proofs.lemmas.Bool.{cases_lt}
use Rattle.std.proofs.lemmas.List.{length_push}
use Rattle.lx_cap_lists.specs.declared.holder.Holder.{Holder}
use Rattle.lx_caps.specs.declared.Atom.{Atom}
use Rattle.lx_caps.specs.declared.Atom.TheVariants as atom
use Rattle.lx_caps.specs.declared.Cap.TheVariants as cap
use Rattle.lx_caps.specs.History.{has}
use Rattle.lx_cap_nodes.specs.Words.{nodes_at}
use Rattle.lx_cap_lists.specs.declared.entry.Entry.{Entry}
use Rattle.lx_cap_nodes.specs.Bits.{is_set}
use Rattle.lx_cap_lists.specs.Entries.{HasBits, bit_among, cut_all}
use Rattle.lx_cap_lists.specs.Tables.{Key, same_key, call_key, ref_key, place_in, with_key, or_with, behind_parts, place_of, bit_of, shown_at, AreEmpty}
use Rattle.lx_cap_nodes.specs.Pieces.{part_list}
use Rattle.lx_cap_lists.proofs.BitLemmas.{bit_cut}
use Rattle.lx_cap_lists.proofs.KeyLemmas.{same_self, found_last, found_before, not_last, one_key}
use Rattle.lx_cap_lists.proofs.NodeLemmas.{one_mask}
use Rattle.lx_cap_nodes.proofs.PartLists.{list_below}
use Rattle.lx_cap_lists.proofs.KeyPlaces.{behind_far, same_parts}
use Rattle.lx_cap_lists.proofs.PlacesWithin.{behind_within}

-- a call or a reference has the lowest bit alone
lowest_alone : (k : ℕ) → is_set 1 k ≡ true → k ≡ 0
lowest_alone k is = elim (cases_lt k 1) [
  | inl lt ↦ omega (arith, lt)
  | inr ge ↦ absurd (let no : is_set 1 k ≡ false = ap (λ n. nat_eq n 1) (one_mask.none k ge) in cc)
]

pub first_bit : (among : Holder → Bool) (es : List (ℕ × Entry)) (b : Bool) → HasBits among es 1 b → b ≡ bit_among among es 0
first_bit among es true all = sym (all 0 (omega arith) refl)
first_bit among es false lack = sym lack.3 ∙ ap (bit_among among es) (lowest_alone lack.0 lack.2)

turned : (x y : Key) → same_key x y ≡ false → same_key y x ≡ false
turned x y e = grind (arith, nat_tests, e)

not_same : (x y : Key) → same_key x y ≡ false → x ≢ y
not_same x y e = λ same. absurd (let no : same_key x x ≡ false = subst (λ z. same_key x z ≡ false) (sym same) e in let is = same_self x in cc)

no_bit : (r : Bool) → false ≡ (r && not (is_set 1 0))
no_bit true = refl
no_bit false = refl

taken_bits : (among : Holder → Bool) (es : List (ℕ × Entry)) → bit_among among (cut_all 1 es) 0 ≡ false
taken_bits among es = bit_cut among 1 0 es (omega arith) (omega arith) ∙ sym (no_bit (bit_among among es 0))

module _ (old new : List (List (ℕ × Entry))) (atoms : List Key) (k : Key)
    (others : (l : ℕ) → behind_parts (place_in atoms k) ≢ Some l → nodes_at new l ≡ nodes_at old l) where
  pub byte_stays : (among : Holder → Bool) (b : ℕ) → shown_at new (part_list (b / 64)) among (b % 64) ≡ shown_at old (part_list (b / 64)) among (b % 64)
  byte_stays among b =
      (elim (part_list (b / 64)) as (λ o. part_list (b / 64) ≡ o → shown_at new o among (b % 64) ≡ shown_at old o among (b % 64)) [
        | None ↦ λ e. refl
        | Some l ↦ λ e. ap (λ es. bit_among among es (b % 64))
            (others l (λ is. absurd (let far = behind_far (place_in atoms k) l is in let low = list_below (b / 64) l e in omega (arith, far, low))))
      ]) refl

  -- another key's list stays
  other_stays : (x : Key) (j : ℕ) → place_in atoms x ≡ Some j → x ≢ k → nodes_at new (0xc000 + j) ≡ nodes_at old (0xc000 + j)
  other_stays x j at ne = others (0xc000 + j) (λ is. ne (one_key 0 atoms x k j at (by (place_in atoms k) refl is)))
    where
      by : (o : Option ℕ) → place_in atoms k ≡ o → behind_parts o ≡ Some (0xc000 + j) → place_in atoms k ≡ Some j
      by None p f = absurd (cc)
      by (Some i) p f = p ∙ ap Some (let is : 0xc000 + i ≡ 0xc000 + j = cc in omega (arith, is))

  module _ (here : (l : ℕ) → behind_parts (place_in atoms k) ≡ Some l → nodes_at new l ≡ cut_all 1 (nodes_at old l)) where
    pub key_taken : (among : Holder → Bool) (x : Key) → shown_at new (behind_parts (place_in atoms x)) among 0 ≡ (not (same_key k x) && shown_at old (behind_parts (place_in atoms x)) among 0)
    key_taken among x =
        (elim (place_in atoms x) as (λ o. place_in atoms x ≡ o → shown_at new (behind_parts o) among 0 ≡ (not (same_key k x) && shown_at old (behind_parts o) among 0)) [
          | None ↦ λ e. no_more (not (same_key k x))
          | Some j ↦ λ e. (elim (same_key k x) as (λ t. same_key k x ≡ t → bit_among among (nodes_at new (0xc000 + j)) 0 ≡ (not t && bit_among among (nodes_at old (0xc000 + j)) 0)) [
            | true ↦ λ same.
                let at : place_in atoms k ≡ Some j = ap (place_in atoms) (same_parts k x same) ∙ e in
                ap (λ es. bit_among among es 0) (here (0xc000 + j) (ap behind_parts at)) ∙ taken_bits among (nodes_at old (0xc000 + j))
            | false ↦ λ same. ap (λ es. bit_among among es 0) (other_stays x j e (λ is. not_same k x same (sym is)))
          ]) refl
        ]) refl
      where
        no_more : (b : Bool) → false ≡ (b && false)
        no_more true = refl
        no_more false = refl

apart_keys : (a t b : ℕ) → same_key (call_key a) (ref_key t b) ≡ false
apart_keys a t b = grind (arith, nat_tests)

apart_refs : (t a b : ℕ) → same_key (ref_key t a) (call_key b) ≡ false
apart_refs t a b = grind (arith, nat_tests)

same_refs : (t a u b : ℕ) → same_key (ref_key t a) (ref_key u b) ≡ (nat_eq t u && nat_eq a b)
same_refs t a u b = grind (arith, nat_tests)

same_calls : (a b : ℕ) → same_key (call_key a) (call_key b) ≡ nat_eq a b
same_calls a b = grind (arith, nat_tests)

module _ (old new : List (List (ℕ × Entry))) (atoms : List Key) where
  pub call_taken : (a : ℕ) → ((l : ℕ) → behind_parts (place_in atoms (call_key a)) ≡ Some l → nodes_at new l ≡ cut_all 1 (nodes_at old l))
      → ((l : ℕ) → behind_parts (place_in atoms (call_key a)) ≢ Some l → nodes_at new l ≡ nodes_at old l)
      → (among : Holder → Bool) (x : Atom) → shown_at new (place_of atoms x) among (bit_of x) ≡ (not (has (cap.Call a) x) && shown_at old (place_of atoms x) among (bit_of x))
  call_taken a here others among (atom.Byte b) = byte_stays old new atoms (call_key a) others among b
  call_taken a here others among (atom.Call b) =
      key_taken old new atoms (call_key a) others here among (call_key b) ∙ ap (λ t. not t && shown_at old (behind_parts (place_in atoms (call_key b))) among 0) (same_calls a b)
  call_taken a here others among (atom.Ref u b) =
      key_taken old new atoms (call_key a) others here among (ref_key u b) ∙ ap (λ t. not t && shown_at old (behind_parts (place_in atoms (ref_key u b))) among 0) (apart_keys a u b)

  pub ref_taken : (t a : ℕ) → ((l : ℕ) → behind_parts (place_in atoms (ref_key t a)) ≡ Some l → nodes_at new l ≡ cut_all 1 (nodes_at old l))
      → ((l : ℕ) → behind_parts (place_in atoms (ref_key t a)) ≢ Some l → nodes_at new l ≡ nodes_at old l)
      → (among : Holder → Bool) (x : Atom) → shown_at new (place_of atoms x) among (bit_of x) ≡ (not (has (cap.Ref t a) x) && shown_at old (place_of atoms x) among (bit_of x))
  ref_taken t a here others among (atom.Byte b) = byte_stays old new atoms (ref_key t a) others among b
  ref_taken t a here others among (atom.Call b) =
      key_taken old new atoms (ref_key t a) others here among (call_key b) ∙ ap (λ s. not s && shown_at old (behind_parts (place_in atoms (call_key b))) among 0) (apart_refs t a b)
  ref_taken t a here others among (atom.Ref u b) =
      key_taken old new atoms (ref_key t a) others here among (ref_key u b) ∙ ap (λ s. not s && shown_at old (behind_parts (place_in atoms (ref_key u b))) among 0) (same_refs t a u b)

-- keys with one more
module _ (atoms : List Key) (k : Key) where
  pub still_found : (x : Key) (j : ℕ) → place_in atoms x ≡ Some j → place_in (with_key atoms k) x ≡ Some j
  still_found x j at = elim (place_in atoms k) as (λ o. place_in (or_with o atoms k) x ≡ Some j) [ None ↦ found_before (same_key x) 0 atoms k j at | Some i ↦ at ]

  still_none : (x : Key) → place_in atoms x ≡ None → same_key x k ≡ false → place_in (with_key atoms k) x ≡ None
  still_none x none ne = elim (place_in atoms k) as (λ o. place_in (or_with o atoms k) x ≡ None) [ None ↦ not_last (same_key x) 0 atoms k none ne | Some i ↦ none ]

  now_found : place_in atoms k ≡ None → place_in (with_key atoms k) k ≡ Some (length atoms)
  now_found none = ap (λ o. place_in (or_with o atoms k) k) none ∙ (found_last (same_key k) 0 atoms k none (same_self k) ∙ ap Some (omega arith))

  pub longer : length atoms ≤ length (with_key atoms k)
  longer = elim (place_in atoms k) as (λ o. length atoms ≤ length (or_with o atoms k)) [ None ↦ let h = length_push atoms k in omega (arith, h) | Some i ↦ omega arith ]

  pub one_longer : length (with_key atoms k) ≤ length atoms + 1
  one_longer = elim (place_in atoms k) as (λ o. length (or_with o atoms k) ≤ length atoms + 1) [ None ↦ let h = length_push atoms k in omega (arith, h) | Some i ↦ omega arith ]

module _ (old new : List (List (ℕ × Entry))) (atoms : List Key) (k : Key) (to : Holder) (empty : AreEmpty old atoms)
    (here : (l : ℕ) → behind_parts (place_in (with_key atoms k) k) ≡ Some l → (among : Holder → Bool) → bit_among among (nodes_at new l) 0 ≡ (among to || bit_among among (nodes_at old l) 0))
    (others : (l : ℕ) → behind_parts (place_in (with_key atoms k) k) ≢ Some l → nodes_at new l ≡ nodes_at old l) where
  and_yes : (a r : Bool) → (a || r) ≡ ((a && true) || r)
  and_yes true r = refl
  and_yes false r = refl

  and_not : (a r : Bool) → r ≡ ((a && false) || r)
  and_not true r = refl
  and_not false r = refl

  key_given : (among : Holder → Bool) (x : Key)
      → shown_at new (behind_parts (place_in (with_key atoms k) x)) among 0 ≡ ((among to && same_key k x) || shown_at old (behind_parts (place_in atoms x)) among 0)
  key_given among x =
      (elim (place_in atoms x) as (λ o. place_in atoms x ≡ o → shown_at new (behind_parts (place_in (with_key atoms k) x)) among 0 ≡ ((among to && same_key k x) || shown_at old (behind_parts o) among 0)) [
        | None ↦ λ none. (elim (same_key k x) as (λ t. same_key k x ≡ t → shown_at new (behind_parts (place_in (with_key atoms k) x)) among 0 ≡ ((among to && t) || false)) [
          | true ↦ λ same.
              let is = same_parts k x same in
              let at : place_in (with_key atoms k) k ≡ Some (length atoms) = now_found atoms k (ap (place_in atoms) is ∙ none) in
              let le : 0xc000 + length atoms ≤ 0xc000 + length atoms = omega arith in
              ap (λ y. shown_at new (behind_parts (place_in (with_key atoms k) y)) among 0) (sym is)
              ∙ (ap (λ o. shown_at new (behind_parts o) among 0) at
              ∙ (here (0xc000 + length atoms) (ap behind_parts at) among
              ∙ (ap (λ es. among to || bit_among among es 0) (empty (0xc000 + length atoms) le) ∙ and_yes (among to) false)))
          | false ↦ λ same. ap (λ o. shown_at new (behind_parts o) among 0) (still_none atoms k x none (turned k x same)) ∙ and_not (among to) false
        ]) refl
        | Some j ↦ λ at. ap (λ o. shown_at new (behind_parts o) among 0) (still_found atoms k x j at)
            ∙ (elim (same_key k x) as (λ t. same_key k x ≡ t → bit_among among (nodes_at new (0xc000 + j)) 0 ≡ ((among to && t) || bit_among among (nodes_at old (0xc000 + j)) 0)) [
              | true ↦ λ same.
                  let own : place_in (with_key atoms k) k ≡ Some j = ap (place_in (with_key atoms k)) (same_parts k x same) ∙ still_found atoms k x j at in
                  here (0xc000 + j) (ap behind_parts own) among ∙ and_yes (among to) (bit_among among (nodes_at old (0xc000 + j)) 0)
              | false ↦ λ same.
                  ap (λ es. bit_among among es 0) (other_stays old new (with_key atoms k) k others x j (still_found atoms k x j at) (λ is. not_same k x same (sym is)))
                  ∙ and_not (among to) (bit_among among (nodes_at old (0xc000 + j)) 0)
            ]) refl
      ]) refl

  pub empty_given : AreEmpty new (with_key atoms k)
  empty_given l le =
      others l (λ is. absurd (let h = behind_within (with_key atoms k) k l is in omega (arith, h, le))) ∙ empty l (let h = longer atoms k in omega (arith, h, le))

  given_byte : (among : Holder → Bool) (b : ℕ) → shown_at new (part_list (b / 64)) among (b % 64) ≡ ((among to && false) || shown_at old (part_list (b / 64)) among (b % 64))
  given_byte among b = byte_stays old new (with_key atoms k) k others among b ∙ and_not (among to) (shown_at old (part_list (b / 64)) among (b % 64))

  pub call_given : (a : ℕ) → k ≡ call_key a → (among : Holder → Bool) (x : Atom)
      → shown_at new (place_of (with_key atoms k) x) among (bit_of x) ≡ ((among to && has (cap.Call a) x) || shown_at old (place_of atoms x) among (bit_of x))
  call_given a is among (atom.Byte b) = given_byte among b
  call_given a is among (atom.Call b) =
      key_given among (call_key b) ∙ ap (λ t. (among to && t) || shown_at old (behind_parts (place_in atoms (call_key b))) among 0) (ap (λ y. same_key y (call_key b)) is ∙ same_calls a b)
  call_given a is among (atom.Ref u b) =
      key_given among (ref_key u b) ∙ ap (λ t. (among to && t) || shown_at old (behind_parts (place_in atoms (ref_key u b))) among 0) (ap (λ y. same_key y (ref_key u b)) is ∙ apart_keys a u b)

  pub ref_given : (t a : ℕ) → k ≡ ref_key t a → (among : Holder → Bool) (x : Atom)
      → shown_at new (place_of (with_key atoms k) x) among (bit_of x) ≡ ((among to && has (cap.Ref t a) x) || shown_at old (place_of atoms x) among (bit_of x))
  ref_given t a is among (atom.Byte b) = given_byte among b
  ref_given t a is among (atom.Call b) =
      key_given among (call_key b) ∙ ap (λ s. (among to && s) || shown_at old (behind_parts (place_in atoms (call_key b))) among 0) (ap (λ y. same_key y (call_key b)) is ∙ apart_refs t a b)
  ref_given t a is among (atom.Ref u b) =
      key_given among (ref_key u b) ∙ ap (λ s. (among to && s) || shown_at old (behind_parts (place_in atoms (ref_key u b))) among 0) (ap (λ y. same_key y (ref_key u b)) is ∙ same_refs t a u b)
