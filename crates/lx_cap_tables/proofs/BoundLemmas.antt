-- The nodes of a place are no more than those who have something there.
use Rattle.std.proofs.Common.{◌≡◌, ℕ, zero, suc, ◌+◌, ◌-◌, ◌*◌, ◌/◌, ◌≤◌, Bool, true, false, not, ◌&&◌, ◌||◌, nat_eq, nat_le, cond, List, [], ◌∷◌, ◌++◌, length, map, Some, None, refl, sym, ap, ◌∙◌, subst, arith, append_assoc}
use Rattle.std.proofs.lemmas.Bool.Decides.{nat_tests}
use Rattle.std.proofs.lemmas.List.{length-map}
use Rattle.std.proofs.lemmas.Bool.{and_parts, and_from, or_right}
use Rattle.lx_words.proofs.Tests.{either}
use Rattle.lx_caps.specs.declared.Cap.{Cap}
use Rattle.lx_caps.specs.declared.Cap.TheVariants as cap
use Rattle.lx_caps.specs.declared.Atom.{Atom}
use Rattle.lx_caps.specs.declared.Atom.TheVariants as atom
use Rattle.lx_caps.specs.declared.Act.TheVariants.{Grant, Strip, Zero, Loan, Lend, Shut, ShutAll}
use Rattle.lx_caps.specs.Loans.{lends}
use Rattle.lx_caps.specs.History.{History, has}
use Rattle.lx_cap_nodes.specs.Words.{nodes_at}
use Rattle.lx_cap_lists.specs.declared.entry.Entry.{Entry}
use Rattle.lx_cap_lists.specs.declared.holder.Holder.{Holder}
use Rattle.lx_cap_lists.specs.declared.holder.Holder.TheVariants.{Keeper, Borrower}
use Rattle.lx_cap_nodes.specs.Bits.{is_set}
use Rattle.lx_cap_lists.specs.Entries.{is_holder, bit_among}
use Rattle.lx_cap_lists.specs.Holders.{had, left_by, open_count, same_holder}
use Rattle.lx_cap_lists.specs.Kept.{AreNodes, AllNodes}
use Rattle.lx_cap_lists.specs.Tables.{Key, Shows, shown_at, behind_parts, place_in, place_of, bit_of, call_key, ref_key, count_in, work_in, cap_work}
use Rattle.lx_cap_nodes.specs.Pieces.{part_list}
use Rattle.lx_cap_tables.specs.Work.{is_among, and_one, count_of, holders, has_now, has_in_part, parts_and_pairs, strip_bound}
use Rattle.lx_cap_tables.proofs.Below.{some_from}
use Rattle.lx_cap_tables.proofs.Few.{added, added_self, few, ArePassing}
use Rattle.lx_cap_lists.proofs.BitLemmas.{same_is}
use Rattle.lx_cap_lists.proofs.NodeLemmas.{width_part, width_behind}
use Rattle.lx_cap_nodes.proofs.PartLists.{list_below}
use Rattle.lx_cap_tables.proofs.TieLemmas.{bit_there}
use Rattle.lx_caps.proofs.Tests.{byte_of}
use Rattle.lx_cap_lists.proofs.KeyPlaces.{behind_far}
use Rattle.lx_cap_lists.proofs.HolderKeys.{holder_itself}

-- one is added, or the others have it
one_more : (q p : Holder) (others : List Holder) (x rest : Bool) → ((same_holder q p && x) || rest) ≡ true → (rest ≡ true → is_among same_holder q others ≡ true) → is_among same_holder q (and_one same_holder p others) ≡ true
one_more q p others x rest is more =
    (elim (same_holder q p) as (λ t. same_holder q p ≡ t → ((t && x) || rest) ≡ true → is_among same_holder q (and_one same_holder p others) ≡ true) [
      | true ↦ λ e f. subst (λ r. is_among same_holder r (and_one same_holder p others) ≡ true) (sym (same_is q p e)) (added_self same_holder same_is holder_itself p others)
      | false ↦ λ e f. added same_holder same_is holder_itself q p others (more f)
    ]) refl is

left_has : (t older : ℕ) (among : Holder → Bool) (s : Holder) → left_by t older among s ≡ true → among s ≡ true
left_has t older among (Keeper q) is = is
left_has t older among (Borrower u d q) is = (and_parts (not (nat_eq t u && nat_le older d)) (among (Borrower u d q)) is).1

-- the more holders are asked for, the more is had
had_more : (a b : Holder → Bool) (h : History) (x : Atom) → ((s : Holder) → a s ≡ true → b s ≡ true) → had a h x ≡ true → had b h x ≡ true
had_more a b [] x more is = is
had_more a b (Grant q c ∷ h) x more is =
    either (a (Keeper q) && has c x) (had a h x) (b (Keeper q) && has c x) (had b h x) is
    (λ e. let both = and_parts (a (Keeper q)) (has c x) e in and_from (b (Keeper q)) (has c x) (more (Keeper q) both.0) both.1) (had_more a b h x more)
had_more a b (Strip c ∷ h) x more is = let both = and_parts (not (has c x)) (had a h x) is in and_from (not (has c x)) (had b h x) both.0 (had_more a b h x more both.1)
had_more a b (Zero at size ∷ h) x more is = had_more a b h x more is
had_more a b (Loan t ∷ h) x more is = had_more a b h x more is
had_more a b (Lend t q c ∷ h) x more is =
    let s : Holder = Borrower t (open_count h t - 1) q in
    either (lends h t && (a s && has c x)) (had a h x) (lends h t && (b s && has c x)) (had b h x) is
    (λ e. let both = and_parts (lends h t) (a s && has c x) e in
    let parts = and_parts (a s) (has c x) both.1 in
    and_from (lends h t) (b s && has c x) both.0 (and_from (b s) (has c x) (more s parts.0) parts.1)) (had_more a b h x more)
had_more a b (Shut t n ∷ h) x more is = had_more (left_by t (open_count h t - n) a) (left_by t (open_count h t - n) b) h x (by (open_count h t - n)) is
  where
    by : (older : ℕ) (s : Holder) → left_by t older a s ≡ true → left_by t older b s ≡ true
    by older (Keeper q) e = more (Keeper q) e
    by older (Borrower u d q) e =
        let both = and_parts (not (nat_eq t u && nat_le older d)) (a (Borrower u d q)) e in
        and_from (not (nat_eq t u && nat_le older d)) (b (Borrower u d q)) both.0 (more (Borrower u d q) both.1)
had_more a b (ShutAll t ∷ h) x more is = had_more (left_by t 0 a) (left_by t 0 b) h x by is
  where
    by : (s : Holder) → left_by t 0 a s ≡ true → left_by t 0 b s ≡ true
    by (Keeper q) e = more (Keeper q) e
    by (Borrower u d q) e =
        let both = and_parts (not (nat_eq t u && nat_le 0 d)) (a (Borrower u d q)) e in
        and_from (not (nat_eq t u && nat_le 0 d)) (b (Borrower u d q)) both.0 (more (Borrower u d q) both.1)

holder_known : (h : History) (q : Holder) (x : Atom) → had (same_holder q) h x ≡ true → is_among same_holder q (holders h) ≡ true
holder_known [] q x is = absurd (cc)
holder_known (Grant p c ∷ h) q x is = one_more q (Keeper p) (holders h) (has c x) (had (same_holder q) h x) is (holder_known h q x)
holder_known (Strip c ∷ h) q x is = holder_known h q x (and_parts (not (has c x)) (had (same_holder q) h x) is).1
holder_known (Zero at size ∷ h) q x is = holder_known h q x is
holder_known (Loan t ∷ h) q x is = holder_known h q x is
holder_known (Lend t p c ∷ h) q x is = one_more q (Borrower t (open_count h t - 1) p) (holders h) (has c x) (had (same_holder q) h x) (lent (lends h t) is) (holder_known h q x)
  where
    lent : (l : Bool) → ((l && (same_holder q (Borrower t (open_count h t - 1) p) && has c x)) || had (same_holder q) h x) ≡ true → ((same_holder q (Borrower t (open_count h t - 1) p) && has c x) || had (same_holder q) h x) ≡ true
    lent true e = e
    lent false e = or_right (same_holder q (Borrower t (open_count h t - 1) p) && has c x) (had (same_holder q) h x) e
holder_known (Shut t n ∷ h) q x is = holder_known h q x (had_more (left_by t (open_count h t - n) (same_holder q)) (same_holder q) h x (left_has t (open_count h t - n) (same_holder q)) is)
holder_known (ShutAll t ∷ h) q x is = holder_known h q x (had_more (left_by t 0 (same_holder q)) (same_holder q) h x (left_has t 0 (same_holder q)) is)

-- the holders of nodes
abbrev pub holder_of : ℕ × Entry → Holder
holder_of e = e.1.holder

pub among_holders : (q : Holder) (es : List (ℕ × Entry)) → is_among same_holder q (map holder_of es) ≡ is_holder q es
among_holders q [] = refl
among_holders q (e ∷ es) = ap (λ b. same_holder q e.1.holder || b) (among_holders q es)

abbrev AreKnown : (Holder → Bool) → List Holder → List Holder → Type 0
AreKnown p rs hs = ArePassing same_holder same_is holder_itself p rs hs

module _ (places : List (List (ℕ × Entry))) (atoms : List Key) (h : History) (shows : Shows places atoms h) where
  count_holders : (p : Holder → Bool) (es : List (ℕ × Entry)) → AreKnown p (holders h) (map holder_of es) → length es ≤ count_of p (holders h)
  count_holders p es all = let n = length-map es holder_of in let f = few same_holder same_is holder_itself p (holders h) (map holder_of es) all in omega (arith, n, f)

  -- a node's holder has the atom of a bit
  pub has_bit : (x : Atom) (l : ℕ) → place_of atoms x ≡ Some l → (front : List (ℕ × Entry)) (e : ℕ × Entry) (es : List (ℕ × Entry)) → nodes_at places l ≡ front ++ e ∷ es → is_set e.1.mask (bit_of x) ≡ true → has_now h x e.1.holder ≡ true
  has_bit x l at front e es is set =
      let q = e.1.holder in
      shows (same_holder q) x
      ∙ (ap (λ o. shown_at places o (same_holder q) (bit_of x)) at
      ∙ (ap (λ r. bit_among (same_holder q) r (bit_of x)) is ∙ bit_there (same_holder q) front e.0 e.1 es (bit_of x) (and_from (same_holder q q) (is_set e.1.mask (bit_of x)) (holder_itself q) set)))

  part_pass : (part l : ℕ) → part_list part ≡ Some l → (front es : List (ℕ × Entry)) → nodes_at places l ≡ front ++ es → AreNodes 64 es → AreKnown (has_in_part h part) (holders h) (map holder_of es)
  unfolding ArePassing
  part_pass part l at front [] is nodes = tt
  part_pass part l at front (e ∷ es) is nodes =
      let k = nodes.1.bit in
      let of = byte_of part k nodes.1.within in
      let has_it : has_now h (atom.Byte (part * 64 + k)) e.1.holder ≡ true =
      has_bit (atom.Byte (part * 64 + k)) l (ap part_list of.0 ∙ at) front e es is (ap (is_set e.1.mask) of.1 ∙ nodes.1.set) in (
        some_from 64 k (λ j. has_now h (atom.Byte (part * 64 + j)) e.1.holder) nodes.1.within has_it,
        holder_known h e.1.holder (atom.Byte (part * 64 + k)) has_it,
        among_holders e.1.holder es ∙ nodes.0,
        part_pass part l at (front ++ e ∷ []) es (is ∙ sym (append_assoc front (e ∷ []) es)) nodes.2,
      )

  count_part : AllNodes places → (part : ℕ) → count_in places (part_list part) ≤ count_of (has_in_part h part) (holders h)
  unfolding AllNodes
  count_part all part =
      (elim (part_list part) as (λ o. part_list part ≡ o → count_in places o ≤ count_of (has_in_part h part) (holders h)) [
        | None ↦ λ e. omega arith
        | Some l ↦ λ e.
            let nodes : AreNodes 64 (nodes_at places l) = subst (λ w. AreNodes w (nodes_at places l)) (width_part l (list_below part l e)) (all l) in
            count_holders (has_in_part h part) (nodes_at places l) (part_pass part l e [] (nodes_at places l) refl nodes)
      ]) refl

  work_bound : AllNodes places → (part n : ℕ) → work_in places part n ≤ parts_and_pairs h part n
  work_bound all part zero = omega arith
  work_bound all part (suc n) = let a = count_part all part in let b = work_bound all (part + 1) n in omega (arith, a, b)

  -- calls and references have one bit
  atom_pass : (x : Atom) (l : ℕ) → place_of atoms x ≡ Some l → bit_of x ≡ 0 → (front es : List (ℕ × Entry)) → nodes_at places l ≡ front ++ es → AreNodes 1 es → AreKnown (has_now h x) (holders h) (map holder_of es)
  unfolding ArePassing
  atom_pass x l at zero_bit front [] is nodes = tt
  atom_pass x l at zero_bit front (e ∷ es) is nodes =
      let within = nodes.1.within in
      let first : nodes.1.bit ≡ bit_of x = omega (arith, within, zero_bit) in
      let has_it : has_now h x e.1.holder ≡ true = has_bit x l at front e es is (ap (is_set e.1.mask) (sym first) ∙ nodes.1.set) in
      (has_it, holder_known h e.1.holder x has_it, among_holders e.1.holder es ∙ nodes.0, atom_pass x l at zero_bit (front ++ e ∷ []) es (is ∙ sym (append_assoc front (e ∷ []) es)) nodes.2)

  count_atom : AllNodes places → (x : Atom) (k : Key) → place_of atoms x ≡ behind_parts (place_in atoms k) → bit_of x ≡ 0 → count_in places (behind_parts (place_in atoms k)) ≤ count_of (has_now h x) (holders h)
  unfolding AllNodes
  count_atom all x k same zero_bit =
      (elim (behind_parts (place_in atoms k)) as (λ o. behind_parts (place_in atoms k) ≡ o → count_in places o ≤ count_of (has_now h x) (holders h)) [
        | None ↦ λ e. omega arith
        | Some l ↦ λ e.
            let nodes : AreNodes 1 (nodes_at places l) = subst (λ w. AreNodes w (nodes_at places l)) (width_behind l (behind_far (place_in atoms k) l e)) (all l) in
            count_holders (has_now h x) (nodes_at places l) (atom_pass x l (same ∙ e) zero_bit [] (nodes_at places l) refl nodes)
      ]) refl

  pub work_within : AllNodes places → (c : Cap) → cap_work places atoms c ≤ strip_bound h c
  unfolding strip_bound
  work_within all (cap.Write at zero) = omega arith
  work_within all (cap.Write at (suc n)) =
      let test : nat_eq (suc n) 0 ≡ false = grind (arith, nat_tests) in
      let count : (at + suc n + 63) / 64 - at / 64 ≡ (at + n) / 64 + 1 - at / 64 = omega arith in
      subst (λ t. cond t 0 (work_in places (at / 64) ((at + suc n + 63) / 64 - at / 64)) ≤ parts_and_pairs h (at / 64) ((at + n) / 64 + 1 - at / 64)) (sym test)
      (subst (λ k. work_in places (at / 64) k ≤ parts_and_pairs h (at / 64) ((at + n) / 64 + 1 - at / 64)) (sym count) (work_bound all (at / 64) ((at + n) / 64 + 1 - at / 64)))
  work_within all (cap.Call a) = let n = count_atom all (atom.Call a) (call_key a) refl refl in omega (arith, n)
  work_within all (cap.Ref t a) = let n = count_atom all (atom.Ref t a) (ref_key t a) refl refl in omega (arith, n)
