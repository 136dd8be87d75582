-- The nodes of a part are no more than its writers.
use Rattle.std.proofs.Common.{◌≡◌, ℕ, zero, suc, ◌+◌, ◌-◌, ◌*◌, ◌/◌, ◌%◌, ◌<◌, ◌≤◌, Bool, true, false, ◌&&◌, ◌||◌, nat_eq, cond, List, [], ◌∷◌, ◌++◌, map, Some, None, refl, sym, ap, ◌∙◌, subst, arith, append_assoc}
use Rattle.std.specs.List.{list_any}
use Rattle.std.proofs.lemmas.Bool.Decides.{nat_tests}
use Rattle.std.proofs.lemmas.List.{length-map}
use Rattle.std.proofs.lemmas.List.Folds.{list_any-append}
use Rattle.std.proofs.lemmas.Bool.{or_right, or_left}
use Rattle.lx_caps.specs.declared.Principal.{Principal}
use Rattle.lx_caps.specs.declared.Act.TheVariants.{Grant, Strip, Zero, Loan, Lend, Shut, ShutAll}
use Rattle.lx_caps.specs.declared.Atom.TheVariants.{Byte}
use Rattle.lx_caps.specs.Laws.{HistoryLaws}
use Rattle.lx_caps.specs.Loans.{lends}
use Rattle.lx_caps.specs.Regions.{covers}
use Rattle.lx_caps.specs.History.{History, has, same_principal}
use Rattle.lx_caps.specs.Writers.{is_writer}
use Rattle.lx_cap_nodes.specs.Words.{nodes_at}
use Rattle.lx_writer_sets.specs.declared.entry.Entry.{Entry}
use Rattle.lx_cap_nodes.specs.Bits.{is_set}
use Rattle.lx_writer_sets.specs.Nodes.{has_writer, AreNodes, AllNodes}
use Rattle.lx_writer_sets.specs.Sets.{is_given, is_given_at, is_recorded, Records, count_in}
use Rattle.lx_cap_nodes.specs.Pieces.{part_list}
use Rattle.lx_writer_sets.specs.Work.{some_below, is_among, and_one, count_of, receivers, writes_part_of, pairs, look_bound, note_bound}
use Rattle.lx_writer_sets.proofs.Few.{added, added_self, few, ArePassing}
use Rattle.lx_writer_sets.proofs.GivenLemmas.{by_writer}
use Rattle.lx_caps.proofs.Tests.{byte_of}
use Rattle.lx_caps.proofs.Principals.{same_principal_itself, same_principal_is}

some_from : (n k : ℕ) (p : ℕ → Bool) → k < n → p k ≡ true → some_below n p ≡ true
unfolding some_below
some_from zero k p h is = absurd (omega (arith, h))
some_from (suc n) k p h is =
    (elim (nat_eq k n) as (λ t. nat_eq k n ≡ t → (p n || some_below n p) ≡ true) [
      | true ↦ λ e. let at : k ≡ n = grind (arith, nat_tests, e) in or_left (p n) (some_below n p) (ap p (sym at) ∙ is)
      | false ↦ λ e. or_right (p n) (some_below n p) (some_from n k p (let lt : k < n = grind (arith, nat_tests, e, h) in lt) is)
    ]) refl

-- one is added, or the others have it
one_more : (q p : Principal) (others : List Principal) (x rest : Bool) → ((same_principal q p && x) || rest) ≡ true → (rest ≡ true → is_among q others ≡ true) → is_among q (and_one p others) ≡ true
one_more q p others x rest is more =
    (elim (same_principal q p) as (λ t. same_principal q p ≡ t → ((t && x) || rest) ≡ true → is_among q (and_one p others) ≡ true) [
      | true ↦ λ e f. subst (λ r. is_among r (and_one p others) ≡ true) (sym (same_principal_is q p e)) (added_self p others)
      | false ↦ λ e f. added q p others (more f)
    ]) refl is

without_loan : (l a r : Bool) → ((l && a) || r) ≡ true → (a || r) ≡ true
without_loan true a r is = is
without_loan false a r is = or_right a r is

-- a writer was granted or lent something
writer_known : HistoryLaws → (h : History) (b : ℕ) (q : Principal) → is_writer h b q ≡ true → is_among q (receivers h) ≡ true
writer_known laws [] b q is = absurd (cc)
writer_known laws (Grant p c ∷ h) b q is = one_more q p (receivers h) (has c (Byte b)) (is_writer h b q) (sym (laws.granted h p c b q) ∙ is) (writer_known laws h b q)
writer_known laws (Strip c ∷ h) b q is = writer_known laws h b q (sym (laws.stripped h c b q) ∙ is)
writer_known laws (Zero at size ∷ h) b q is =
    (elim (covers at size b) as (λ t. covers at size b ≡ t → is_among q (receivers h) ≡ true) [
      | true ↦ λ e. writer_known laws h b q (laws.owner_writes h b q (sym (laws.zeroed h at size b q e) ∙ is))
      | false ↦ λ e. writer_known laws h b q (sym (laws.not_zeroed h at size b q e) ∙ is)
    ]) refl
writer_known laws (Loan t ∷ h) b q is = writer_known laws h b q (sym (laws.opened h t b q) ∙ is)
writer_known laws (Lend t p c ∷ h) b q is =
    one_more q p (receivers h) (has c (Byte b)) (is_writer h b q) (without_loan (lends h t) (same_principal q p && has c (Byte b)) (is_writer h b q) (sym (laws.lent h t p c b q) ∙ is)) (writer_known laws h b q)
writer_known laws (Shut t n ∷ h) b q is = writer_known laws h b q (sym (laws.shut h t n b q) ∙ is)
writer_known laws (ShutAll t ∷ h) b q is = writer_known laws h b q (sym (laws.shut_all h t b q) ∙ is)

-- the writers of nodes
abbrev writer_of : ℕ × Entry → Principal
writer_of e = e.1.writer

among_writers : (q : Principal) (es : List (ℕ × Entry)) → is_among q (map writer_of es) ≡ has_writer q es
among_writers q [] = refl
among_writers q (e ∷ es) = ap (λ (b : Bool). same_principal q e.1.writer || b) (among_writers q es)

module _ (laws : HistoryLaws) (lists : List (List (ℕ × Entry))) (h : History) (stands : Records lists h) where
  -- a node's writer is one of the byte of a bit
  has_bit : (part l k : ℕ) → part_list part ≡ Some l → k < 64 → (front : List (ℕ × Entry)) (e : ℕ × Entry) (es : List (ℕ × Entry)) → nodes_at lists l ≡ front ++ e ∷ es → is_set e.1.mask k ≡ true → is_writer h (part * 64 + k) e.1.writer ≡ true
  unfolding Records is_recorded
  has_bit part l k at below front e es is set =
      let q = e.1.writer in
      let of = byte_of part k below in
      let p : ℕ × Entry → Bool = λ x. same_principal q x.1.writer && is_set x.1.mask k in
      sym (stands (part * 64 + k) q)
      ∙ (ap (λ n. is_given_at lists (part_list n) ((part * 64 + k) % 64) q) of.0
      ∙ (ap (λ n. is_given_at lists (part_list part) n q) of.1
      ∙ (ap (λ o. is_given_at lists o k q) at
      ∙ (ap (λ r. is_given r k q) is
      ∙ (list_any-append p front (e ∷ es) ∙ or_right (list_any p front) (list_any p (e ∷ es)) (by_writer (same_principal q q) (is_set e.1.mask k) (list_any p es) (same_principal_itself q) set))))))

  part_pass : (part l : ℕ) → part_list part ≡ Some l → (front es : List (ℕ × Entry)) → nodes_at lists l ≡ front ++ es → AreNodes es → ArePassing (writes_part_of h part) (receivers h) (map writer_of es)
  unfolding ArePassing
  part_pass part l at front [] is nodes = tt
  part_pass part l at front (e ∷ es) is nodes =
      let k = nodes.1.bit in
      let writes : is_writer h (part * 64 + k) e.1.writer ≡ true = has_bit part l k at nodes.1.within front e es is nodes.1.set in (
        some_from 64 k (λ j. is_writer h (part * 64 + j) e.1.writer) nodes.1.within writes,
        writer_known laws h (part * 64 + k) e.1.writer writes,
        among_writers e.1.writer es ∙ nodes.0,
        part_pass part l at (front ++ e ∷ []) es (is ∙ sym (append_assoc front (e ∷ []) es)) nodes.2,
      )

  count_part : AllNodes lists → (part : ℕ) → count_in lists (part_list part) ≤ count_of (writes_part_of h part) (receivers h)
  unfolding AllNodes
  count_part all part =
      (elim (part_list part) as (λ o. part_list part ≡ o → count_in lists o ≤ count_of (writes_part_of h part) (receivers h)) [
        | None ↦ λ e. omega arith
        | Some l ↦ λ e.
            let n = length-map (nodes_at lists l) writer_of in
            let f = few (writes_part_of h part) (receivers h) (map writer_of (nodes_at lists l)) (part_pass part l e [] (nodes_at lists l) refl (all l)) in
            omega (arith, n, f)
      ]) refl

  -- one part alone
  pub first_within : AllNodes lists → (slot : ℕ) → 1 + count_in lists (part_list (slot / 64)) ≤ look_bound h slot
  unfolding look_bound
  first_within all slot =
      let a = count_part all (slot / 64) in
      elim (nat_eq (slot / 64) ((slot + 7) / 64)) as (λ t. 1 + count_in lists (part_list (slot / 64)) ≤ 2 + pairs h (cond t (slot / 64 ∷ []) (slot / 64 ∷ (slot + 7) / 64 ∷ []))) [
        | true ↦ omega (arith, a)
        | false ↦ omega (arith, a)
      ]

  -- two parts
  pub both_within : AllNodes lists → (slot : ℕ) → nat_eq (slot / 64) ((slot + 7) / 64) ≡ false → (1 + count_in lists (part_list (slot / 64))) + (1 + count_in lists (part_list ((slot + 7) / 64))) ≤ look_bound h slot
  unfolding look_bound
  both_within all slot ne =
      let a = count_part all (slot / 64) in
      let b = count_part all ((slot + 7) / 64) in
      subst (λ t. (1 + count_in lists (part_list (slot / 64))) + (1 + count_in lists (part_list ((slot + 7) / 64))) ≤ 2 + pairs h (cond t (slot / 64 ∷ []) (slot / 64 ∷ (slot + 7) / 64 ∷ []))) (sym ne) (omega (arith, a, b))

count_none : (p : Principal → Bool) (qs : List Principal) → ((q : Principal) → p q ≡ false) → count_of p qs ≡ 0
count_none p [] none = refl
count_none p (q ∷ qs) none = ap (λ t. cond t (suc (count_of p qs)) (count_of p qs)) (none q) ∙ count_none p qs none

-- where no byte of the parts has a writer
pub two_where_clean : (h : History) (slot : ℕ) → ((q : Principal) → writes_part_of h (slot / 64) q ≡ false) → ((q : Principal) → writes_part_of h ((slot + 7) / 64) q ≡ false) → look_bound h slot ≡ 2
unfolding look_bound
two_where_clean h slot first last =
    let a = count_none (writes_part_of h (slot / 64)) (receivers h) first in
    let b = count_none (writes_part_of h ((slot + 7) / 64)) (receivers h) last in
    elim (nat_eq (slot / 64) ((slot + 7) / 64)) as (λ t. 2 + pairs h (cond t (slot / 64 ∷ []) (slot / 64 ∷ (slot + 7) / 64 ∷ [])) ≡ 2) [
      | true ↦ omega (arith, a)
      | false ↦ omega (arith, a, b)
    ]

-- a note looks into each part once
pub parts_within : (old new at size : ℕ) → 0 < size → new ≤ old + ((at + size + 63) / 64 - at / 64) → new ≤ old + note_bound at size
unfolding note_bound
parts_within old new at zero some is = absurd (omega (arith, some))
parts_within old new at (suc n) some is =
    let ne : nat_eq (suc n) 0 ≡ false = grind (arith, nat_tests) in
    subst (λ t. new ≤ old + cond t 0 ((at + suc n + 63) / 64 - at / 64)) (sym ne) is
