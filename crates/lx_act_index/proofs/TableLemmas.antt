-- Lines and their places.
use Rattle.std.proofs.Common.{zero, suc, ◌≡◌, ◌≢◌, ◌∙◌, inl, inr, refl, sym, ap, subst, ℕ, ◌+◌, ◌-◌, ◌/◌, ◌%◌, ◌^◌, ◌<◌, ◌≤◌, Bool, true, false, ◌&&◌, nat_eq, nat_le, nat_lt, Option, Some, None, List, [], ◌∷◌, ◌++◌, length, take, set, cond, arith}
use Rattle.std.proofs.lemmas.Bool.{cases_lt}
use Rattle.std.proofs.lemmas.Bool.Decides.{nat_tests}
use Rattle.std.proofs.lemmas.List.{length_push, get_or_push, get_or_append_left, get_or-take, get_or-set_same, get_or-set_other, length-take-le, length-set}
use Rattle.lx_words.proofs.Tests.{eq_self}
use Rattle.lx_caps.specs.declared.Atom.{Atom}
use Rattle.lx_caps.specs.declared.Atom.TheVariants as atom
use Rattle.lx_caps.specs.declared.Cap.TheVariants as cap
use Rattle.lx_caps.specs.History.{has}
use Rattle.lx_caps.specs.Loans.{none_end}
use Rattle.lx_caps.specs.Regions.{covers, mapped}
use Rattle.lx_cap_nodes.specs.Bits.{is_set}
use Rattle.lx_cap_lists.specs.Tables.{Key, same_key, call_key, ref_key, behind_parts, bit_of, place_in, place_of, with_key, or_with}
use Rattle.lx_cap_nodes.specs.Pieces.{part_list}
use Rattle.lx_cap_lists.proofs.KeyLemmas.{same_self, found_last, found_before, not_last, one_key}
use Rattle.lx_cap_nodes.proofs.PartLists.{one_part, list_below}
use Rattle.lx_act_index.specs.declared.lines.Entry.{Entry}
use Rattle.lx_act_index.specs.declared.table.Saying.{Saying}
use Rattle.lx_act_index.specs.declared.table.Range.{Range}
use Rattle.lx_act_index.specs.declared.table.Table.{Table}
use Rattle.lx_act_index.specs.declared.threads.Thread.{Thread}
use Rattle.lx_act_index.specs.Lines.{line_with}
use Rattle.lx_act_index.specs.Threads.{is_open}
use Rattle.lx_act_index.specs.Table.{line_at, shown, line_of, key_line, IsTable, entry_of, IsNoted, IsFresh, AreFresh, ArePut, HasGrown, NotedFrom}
use Rattle.lx_cap_lists.proofs.KeyPlaces.{behind_far, same_parts}
use Rattle.lx_cap_lists.proofs.PlacesWithin.{list_within, behind_within}

-- fresh lines, one more
pub fresh_none : (threads : List Thread) (s : Saying) (r : Range) (lines fresh : List (List Entry)) → fresh ≡ [] → AreFresh threads s r lines fresh (r.at / 64)
fresh_none threads s r lines fresh is = record {
  count = let l = ap length is in omega (arith, l);
  each = λ j lt. absurd (let l = ap length is in omega (arith, l, lt));
}

pub fresh_more : (threads : List Thread) (s : Saying) (r : Range) (lines old new : List (List Entry)) (part : ℕ) (line : List Entry) → new ≡ old ++ line ∷ [] → IsFresh threads s r lines part line → AreFresh threads s r lines old part → AreFresh threads s r lines new (part + 1)
fresh_more threads s r lines old new part line is here are =
    subst (λ ls. AreFresh threads s r lines ls (part + 1)) (sym is) (record {
      count = let c = are.count in let l = length_push old line in omega (arith, c, l);
      each = λ j lt. elim (cases_lt j (length old)) [
        | inl less ↦ subst (IsFresh threads s r lines (r.at / 64 + j)) (sym (get_or_append_left old (line ∷ []) [] j less)) (are.each j less)
        | inr ge ↦
            let l = length_push old line in
            let c = are.count in
            let last : length old ≡ j = omega (arith, ge, lt, l) in
            let same : part ≡ r.at / 64 + j = omega (arith, c, last) in
            subst (IsFresh threads s r lines (r.at / 64 + j)) (sym (get_or_push old line [] j last)) (subst (λ p. IsFresh threads s r lines p line) same here)
      ];
    })

-- fresh lines are put in their places, the last one first
pub put_none : (first : ℕ) (fresh old : List (List Entry)) → ArePut first (length fresh) fresh old old
put_none first fresh old = record {
  put = λ j l ge lt is. absurd (omega (arith, ge, lt));
  others = λ l none. refl;
  count = refl;
}

pub put_more : (first k : ℕ) (fresh left old now new : List (List Entry)) (line : List Entry) → left ++ line ∷ [] ≡ take (k + 1) fresh → length left ≡ k → k < length fresh
    → ((l : ℕ) → part_list (first + k) ≡ Some l → line_at new l ≡ line) → ((l : ℕ) → part_list (first + k) ≢ Some l → line_at new l ≡ line_at now l) → length new ≡ length now
    → ArePut first (k + 1) fresh old now → ArePut first k fresh old new
put_more first k fresh left old now new line parts count lt here others same are = record {
  put = λ j l ge less is. elim (cases_lt k j) [
    | inl gt ↦ others l (λ at. absurd (let two = one_part (first + k) (first + j) l at is in omega (arith, two, gt))) ∙ are.put j l (omega (arith, gt)) less is
    | inr le ↦
        let own : j ≡ k = omega (arith, ge, le) in
        here l (ap (λ i. part_list (first + i)) (sym own) ∙ is)
        ∙ (sym (get_or_push left line [] k count) ∙ (ap (λ ls. line_at ls k) parts ∙ (get_or-take (k + 1) fresh k [] (omega arith) ∙ ap (line_at fresh) (sym own))))
  ];
  others = λ l none. others l (none k (omega arith) lt) ∙ are.others l (λ j ge less. none j (omega (arith, ge)) less);
  count = same ∙ are.count;
}

-- a pop leaves the first ones
pub popped : (k : ℕ) (fresh old left : List (List Entry)) (line : List Entry) → old ≡ take k fresh → k ≤ length fresh → old ≡ left ++ line ∷ [] → (length left + 1 ≡ k) × (left ++ line ∷ [] ≡ take k fresh) × (left ≡ take (length left) fresh)
popped k fresh old left line is le split =
    let l = length_push left line in
    let len = ap length is ∙ length-take-le k fresh le in
    let both = ap length split in
    (omega (arith, l, len, both), sym split ∙ is, first_part left line k fresh (sym split ∙ is))
  where
    first_part : (xs : List (List Entry)) (y : List Entry) (n : ℕ) (zs : List (List Entry)) → xs ++ y ∷ [] ≡ take n zs → xs ≡ take (length xs) zs
    first_part xs y n zs is = sym (take_front xs (y ∷ []) n zs is)
      where
        take_front : (xs ys : List (List Entry)) (n : ℕ) (zs : List (List Entry)) → xs ++ ys ≡ take n zs → take (length xs) zs ≡ xs
        take_front [] ys n zs is = refl
        take_front (x ∷ xs) ys zero zs is = absurd cc
        take_front (x ∷ xs) ys (suc n) [] is = absurd cc
        take_front (x ∷ xs) ys (suc n) (z ∷ zs) is =
            let head : x ≡ z = cc in
            let rest : xs ++ ys ≡ take n zs = cc in
            ap (λ w. w ∷ take (length xs) zs) (sym head) ∙ ap (λ ws. x ∷ ws) (take_front xs ys n zs rest)

-- the lines of a range
not_covered_before : (at size b : ℕ) → b / 64 < at / 64 → covers at size b ≡ false
not_covered_before at size b lt = grind (arith, nat_tests, lt)

not_covered_behind : (at size b : ℕ) → (at + size + 63) / 64 ≤ b / 64 → covers at size b ≡ false
not_covered_behind at size b le = grind (arith, nat_tests, le)

-- a line that was made fresh stands
noted_by : (threads : List Thread) (s : Saying) (touched : Bool) (k mask : ℕ) (old fresh new : List Entry) → mask < 2 ^ 64 → is_set mask k ≡ touched → fresh ≡ line_with (is_open none_end threads) (entry_of s mask) old → new ≡ fresh
    → IsNoted threads s touched k old new
noted_by threads s touched k mask old fresh new fits bit made same = inr (mask, fits, bit, same ∙ made)

pub range_noted : (threads : List Thread) (s : Saying) (r : Range) (old new fresh : List (List Entry)) → AreFresh threads s r old fresh ((r.at + r.size + 63) / 64) → ArePut (r.at / 64) 0 fresh old new
    → (b l : ℕ) → part_list (b / 64) ≡ Some l → IsNoted threads s (covers r.at r.size b) (b % 64) (line_at old l) (line_at new l)
range_noted threads s r old new fresh are put b l is =
    let c = are.count in
    elim (cases_lt (b / 64) (r.at / 64)) [
      | inl low ↦ inl (not_covered_before r.at r.size b low, put.others l (λ j ge lt at. absurd (let same = one_part (r.at / 64 + j) (b / 64) l at is in omega (arith, same, low))))
      | inr ge ↦ elim (cases_lt (b / 64) ((r.at + r.size + 63) / 64)) [
        | inl less ↦
            let j : ℕ = b / 64 - r.at / 64 in
            let at : r.at / 64 + j ≡ b / 64 = omega (arith, ge) in
            let within : j < length fresh = omega (arith, c, less, ge) in
            let place : part_list (r.at / 64 + j) ≡ Some l = ap part_list at ∙ is in
            let made = are.each j within l place in
            noted_by threads s (covers r.at r.size b) (b % 64) made.0 (line_at old l) (line_at fresh j) (line_at new l) made.1 (made.2 b (ap (λ p. nat_eq p (b / 64)) at ∙ eq_self (b / 64))) made.3
            (put.put j l (omega arith) within place)
        | inr far ↦ inl (not_covered_behind r.at r.size b far, put.others l (λ j low lt at. absurd (let same = one_part (r.at / 64 + j) (b / 64) l at is in omega (arith, same, far, c, lt))))
      ]
    ]

pub range_others : (first : ℕ) (fresh old new : List (List Entry)) → ArePut first 0 fresh old new → (l : ℕ) → 0xc000 ≤ l → line_at new l ≡ line_at old l
range_others first fresh old new put l far = put.others l (λ j low lt at. absurd (let h = list_below (first + j) l at in omega (arith, h, far)))

-- the part of a byte that a placed range has
pub part_there : (at size b : ℕ) → mapped at size ≡ true → covers at size b ≡ true → (l : ℕ) × (part_list (b / 64) ≡ Some l)
part_there at size b is has = there (nat_le 0x40000 (b / 64) && nat_lt (b / 64) 0x44000) (nat_le 0x80000 (b / 64) && nat_lt (b / 64) 0x84000) (nat_le 0xc0000 (b / 64) && nat_lt (b / 64) 0xc4000) refl refl refl
  where
    there : (x y z : Bool) → x ≡ (nat_le 0x40000 (b / 64) && nat_lt (b / 64) 0x44000) → y ≡ (nat_le 0x80000 (b / 64) && nat_lt (b / 64) 0x84000) → z ≡ (nat_le 0xc0000 (b / 64) && nat_lt (b / 64) 0xc4000)
        → (l : ℕ) × (cond x (Some (b / 64 - 0x40000)) (cond y (Some (b / 64 - 0x80000 + 0x4000)) (cond z (Some (b / 64 - 0xc0000 + 0x8000)) None)) ≡ Some l)
    there true y z ex ey ez = (b / 64 - 0x40000, refl)
    there false true z ex ey ez = (b / 64 - 0x80000 + 0x4000, refl)
    there false false true ex ey ez = (b / 64 - 0xc0000 + 0x8000, refl)
    there false false false ex ey ez = absurd (grind (arith, nat_tests, is, has, ex, ey, ez))

pub with_fresh : (keys : List Key) (k : Key) → place_in keys k ≡ None → with_key keys k ≡ keys ++ k ∷ []
with_fresh keys k fresh = ap (λ o. or_with o keys k) fresh

-- a table with an empty line more, for a key that had none
module _ (old new : Table) (k : Key) (table : IsTable old) (fresh : place_in old.atoms.keys k ≡ None) (keys : new.atoms.keys ≡ with_key old.atoms.keys k) (lines : new.lines.items ≡ old.lines.items ++ [] ∷ []) where
  one_key_more : new.atoms.keys ≡ old.atoms.keys ++ k ∷ []
  one_key_more = keys ∙ with_fresh old.atoms.keys k fresh

  grown_table : IsTable new
  grown_table =
      let a = ap length lines in
      let b = length_push old.lines.items [] in
      let c = ap length one_key_more in
      let d = length_push old.atoms.keys k in
      omega (arith, a, b, c, d, table)

  grown_at : (l : ℕ) → l < length old.lines.items → line_at new.lines.items l ≡ line_at old.lines.items l
  grown_at l lt = ap (λ ls. line_at ls l) lines ∙ get_or_append_left old.lines.items ([] ∷ []) [] l lt

  grown_bytes : (p : ℕ) → shown new.lines.items (part_list p) ≡ shown old.lines.items (part_list p)
  grown_bytes p = by (part_list p) refl
    where
      by : (o : Option ℕ) → part_list p ≡ o → shown new.lines.items o ≡ shown old.lines.items o
      by None is = refl
      by (Some l) is = grown_at l (let h = list_below p l is in omega (arith, h, table))

  grown_key : (j : Key) → key_line new j ≡ key_line old j
  grown_key j = ap (λ ks. shown new.lines.items (behind_parts (place_in ks j))) one_key_more ∙ by (place_in old.atoms.keys j) refl
    where
      last : (t : Bool) → same_key j k ≡ t → place_in old.atoms.keys j ≡ None → shown new.lines.items (behind_parts (place_in (old.atoms.keys ++ k ∷ []) j)) ≡ []
      last true is none =
          ap (λ o. shown new.lines.items (behind_parts o)) (found_last (same_key j) 0 old.atoms.keys k none is)
          ∙ (ap (λ ls. line_at ls (0xc000 + (0 + length old.atoms.keys))) lines ∙ get_or_push old.lines.items [] [] (0xc000 + (0 + length old.atoms.keys)) (omega (arith, table)))
      last false is none = ap (λ o. shown new.lines.items (behind_parts o)) (not_last (same_key j) 0 old.atoms.keys k none is)

      by : (o : Option ℕ) → place_in old.atoms.keys j ≡ o → shown new.lines.items (behind_parts (place_in (old.atoms.keys ++ k ∷ []) j)) ≡ shown old.lines.items (behind_parts o)
      by None is = last (same_key j k) refl is
      by (Some i) is =
          ap (λ o. shown new.lines.items (behind_parts o)) (found_before (same_key j) 0 old.atoms.keys k i is)
          ∙ grown_at (0xc000 + i) (let h = list_within old.atoms.keys j i is in omega (arith, h, table))

  pub key_grown : HasGrown old new
  key_grown = record { table = grown_table; bytes = grown_bytes; keys = grown_key }

pub same_grown : (old new : Table) → IsTable old → new.lines.items ≡ old.lines.items → new.atoms.keys ≡ old.atoms.keys → HasGrown old new
same_grown old new table lines keys = record {
  table = let a = ap length lines in let b = ap length keys in omega (arith, a, b, table);
  bytes = λ p. ap (λ ls. shown ls (part_list p)) lines;
  keys = λ k. ap (λ ls. shown ls (behind_parts (place_in new.atoms.keys k))) lines ∙ ap (λ ks. shown old.lines.items (behind_parts (place_in ks k))) keys;
}

-- so is each atom's line
pub grown_lines : (old new : Table) → HasGrown old new → (x : Atom) → line_of new x ≡ line_of old x
grown_lines old new grown (atom.Byte b) = grown.bytes (b / 64)
grown_lines old new grown (atom.Call a) = grown.keys (call_key a)
grown_lines old new grown (atom.Ref t a) = grown.keys (ref_key t a)

pub grown_again : (old mid new : Table) → HasGrown old mid → HasGrown mid new → HasGrown old new
grown_again old mid new first later = record { table = later.table; bytes = λ p. later.bytes p ∙ first.bytes p; keys = λ k. later.keys k ∙ first.keys k }

-- the line of a key with an entry more
module _ (threads : List Thread) (s : Saying) (old mid new : Table) (k : Key) (l : ℕ) (grown : HasGrown old mid) (place : behind_parts (place_in mid.atoms.keys k) ≡ Some l) (keys : new.atoms.keys ≡ mid.atoms.keys)
    (lines : new.lines.items ≡ set mid.lines.items l (line_with (is_open none_end threads) (entry_of s 1) (line_at mid.lines.items l))) where
  other_line : (m : ℕ) → m ≢ l → line_at new.lines.items m ≡ line_at mid.lines.items m
  other_line m ne = ap (λ ls. line_at ls m) lines ∙ get_or-set_other mid.lines.items l m (line_with (is_open none_end threads) (entry_of s 1) (line_at mid.lines.items l)) [] ne

  noted_bytes : (p : ℕ) → shown new.lines.items (part_list p) ≡ shown old.lines.items (part_list p)
  noted_bytes p = by (part_list p) refl ∙ grown.bytes p
    where
      by : (o : Option ℕ) → part_list p ≡ o → shown new.lines.items o ≡ shown mid.lines.items o
      by None is = refl
      by (Some m) is = other_line m (λ same. absurd (let h = list_below p m is in let far = behind_far (place_in mid.atoms.keys k) l place in omega (arith, h, far, same)))

  noted_here : key_line new k ≡ line_with (is_open none_end threads) (entry_of s 1) (key_line old k)
  noted_here =
      ap (λ ks. shown new.lines.items (behind_parts (place_in ks k))) keys
      ∙ (ap (shown new.lines.items) place
      ∙ (ap (λ ls. line_at ls l) lines
      ∙ (get_or-set_same mid.lines.items l (line_with (is_open none_end threads) (entry_of s 1) (line_at mid.lines.items l)) [] (let h = behind_within mid.atoms.keys k l place in let t = grown.table in omega (arith, h, t))
      ∙ ap (line_with (is_open none_end threads) (entry_of s 1)) (sym (ap (shown mid.lines.items) place) ∙ grown.keys k))))

  noted_others : (j : Key) → same_key k j ≡ false → key_line new j ≡ key_line old j
  noted_others j ne = ap (λ ks. shown new.lines.items (behind_parts (place_in ks j))) keys ∙ (by (place_in mid.atoms.keys j) refl ∙ grown.keys j)
    where
      own : (o : Option ℕ) (i : ℕ) → behind_parts o ≡ Some (0xc000 + i) → o ≡ Some i
      own None i is = absurd cc
      own (Some m) i is = ap Some (let same : 0xc000 + m ≡ 0xc000 + i = cc in omega (arith, same))

      not_same : (i : ℕ) → place_in mid.atoms.keys j ≡ Some i → 0xc000 + i ≢ l
      not_same i at same =
          let two : k ≡ j = one_key 0 mid.atoms.keys k j i (own (place_in mid.atoms.keys k) i (place ∙ ap Some (sym same))) at in
          absurd (let yes = same_self j in let no : same_key j j ≡ false = ap (λ x. same_key x j) (sym two) ∙ ne in cc)

      by : (o : Option ℕ) → place_in mid.atoms.keys j ≡ o → shown new.lines.items (behind_parts o) ≡ shown mid.lines.items (behind_parts o)
      by None is = refl
      by (Some i) is = other_line (0xc000 + i) (not_same i is)

  pub key_noted : NotedFrom threads s k old new
  key_noted = record { bytes = noted_bytes; here = noted_here; others = noted_others }

  pub noted_table : IsTable new
  noted_table =
      let a = ap length lines in
      let b = length-set mid.lines.items l (line_with (is_open none_end threads) (entry_of s 1) (line_at mid.lines.items l)) in
      let c = ap length keys in
      let t = grown.table in
      omega (arith, a, b, c, t)

-- what an act says of an atom, by what it is noted at
module _ (threads : List Thread) (s : Saying) (old new : Table) where
  stays : (touched : Bool) (k : ℕ) (was is : List Entry) → touched ≡ false → is ≡ was → IsNoted threads s touched k was is
  stays touched k was is out same = inl (out, same)

  by_key : (k j : Key) (touched : Bool) → NotedFrom threads s k old new → same_key k j ≡ touched → IsNoted threads s touched 0 (key_line old j) (key_line new j)
  by_key k j true noted same =
      let is = same_parts k j same in
      inr (1, omega arith, refl, ap (key_line new) (sym is) ∙ (noted.here ∙ ap (λ i. line_with (is_open none_end threads) (entry_of s 1) (key_line old i)) is))
  by_key k j false noted same = inl (refl, noted.others j same)

  apart_keys : (a t b : ℕ) → same_key (call_key a) (ref_key t b) ≡ false
  apart_keys a t b = grind (arith, nat_tests)

  apart_refs : (t a b : ℕ) → same_key (ref_key t a) (call_key b) ≡ false
  apart_refs t a b = grind (arith, nat_tests)

  same_refs : (t a u b : ℕ) → same_key (ref_key t a) (ref_key u b) ≡ (nat_eq t u && nat_eq a b)
  same_refs t a u b = grind (arith, nat_tests)

  same_calls : (a b : ℕ) → same_key (call_key a) (call_key b) ≡ nat_eq a b
  same_calls a b = grind (arith, nat_tests)

  pub call_noted : (a : ℕ) → NotedFrom threads s (call_key a) old new → (x : Atom) → IsNoted threads s (has (cap.Call a) x) (bit_of x) (line_of old x) (line_of new x)
  call_noted a noted (atom.Byte b) = inl (refl, noted.bytes (b / 64))
  call_noted a noted (atom.Call b) = by_key (call_key a) (call_key b) (nat_eq a b) noted (same_calls a b)
  call_noted a noted (atom.Ref u b) = by_key (call_key a) (ref_key u b) false noted (apart_keys a u b)

  pub ref_noted : (t a : ℕ) → NotedFrom threads s (ref_key t a) old new → (x : Atom) → IsNoted threads s (has (cap.Ref t a) x) (bit_of x) (line_of old x) (line_of new x)
  ref_noted t a noted (atom.Byte b) = inl (refl, noted.bytes (b / 64))
  ref_noted t a noted (atom.Call b) = by_key (ref_key t a) (call_key b) false noted (apart_refs t a b)
  ref_noted t a noted (atom.Ref u b) = by_key (ref_key t a) (ref_key u b) (nat_eq t u && nat_eq a b) noted (same_refs t a u b)

  pub write_noted : (at size : ℕ) → mapped at size ≡ true → new.atoms.keys ≡ old.atoms.keys
      → ((b l : ℕ) → part_list (b / 64) ≡ Some l → IsNoted threads s (covers at size b) (b % 64) (line_at old.lines.items l) (line_at new.lines.items l))
      → ((l : ℕ) → 0xc000 ≤ l → line_at new.lines.items l ≡ line_at old.lines.items l)
      → (x : Atom) → IsNoted threads s (has (cap.Write at size) x) (bit_of x) (line_of old x) (line_of new x)
  write_noted at size placed keys bytes others (atom.Byte b) = by (part_list (b / 64)) refl
    where
      nowhere : (t : Bool) → covers at size b ≡ t → part_list (b / 64) ≡ None → covers at size b ≡ false
      nowhere true is none = absurd (let found = part_there at size b placed is in let e = found.1 in cc)
      nowhere false is none = is

      by : (o : Option ℕ) → part_list (b / 64) ≡ o → IsNoted threads s (covers at size b) (b % 64) (shown old.lines.items o) (shown new.lines.items o)
      by None is = inl (nowhere (covers at size b) refl is, refl)
      by (Some l) is = bytes b l is
  write_noted at size placed keys bytes others (atom.Call a) = inl (refl, far_same (call_key a))
    where
      far_same : (k : Key) → key_line new k ≡ key_line old k
      far_same k = ap (λ ks. shown new.lines.items (behind_parts (place_in ks k))) keys ∙ by (place_in old.atoms.keys k)
        where
          by : (o : Option ℕ) → shown new.lines.items (behind_parts o) ≡ shown old.lines.items (behind_parts o)
          by None = refl
          by (Some i) = others (0xc000 + i) (omega arith)
  write_noted at size placed keys bytes others (atom.Ref t a) = inl (refl, far_same (ref_key t a))
    where
      far_same : (k : Key) → key_line new k ≡ key_line old k
      far_same k = ap (λ ks. shown new.lines.items (behind_parts (place_in ks k))) keys ∙ by (place_in old.atoms.keys k)
        where
          by : (o : Option ℕ) → shown new.lines.items (behind_parts o) ≡ shown old.lines.items (behind_parts o)
          by None = refl
          by (Some i) = others (0xc000 + i) (omega arith)

-- a table without entries shows no line
pub none_shown_at : (t : Table) → ((l : ℕ) → line_at t.lines.items l ≡ []) → (x : Atom) → line_of t x ≡ []
none_shown_at t none x = by (place_of t.atoms.keys x)
  where
    by : (o : Option ℕ) → shown t.lines.items o ≡ []
    by None = refl
    by (Some l) = none l
