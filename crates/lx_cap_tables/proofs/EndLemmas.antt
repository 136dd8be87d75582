-- Loans that end: their nodes go, and what others have stays.
use Rattle.std.proofs.Common.{◌≡◌, ◌≢◌, ℕ, suc, ◌+◌, ◌-◌, ◌<◌, ◌≤◌, Bool, true, false, not, ◌&&◌, ◌||◌, nat_eq, nat_lt, nat_le, cond, List, [], ◌∷◌, ◌++◌, length, set, Option, Some, None, refl, sym, ap, ◌∙◌, subst, arith, eqb-true}
use Rattle.std.proofs.lemmas.Bool.Decides.{nat_tests}
use Rattle.std.specs.Prelude.{slice_index_or}
use Rattle.std.proofs.lemmas.List.{get_or_default, get_or-set_same, get_or-set_other}
use Rattle.std.proofs.lemmas.Bool.{not-true, not_from_false, and_parts, and_from, or_left, or_right}
use Rattle.lx_cap_nodes.specs.declared.pool.Family.TheVariants as family
use Rattle.lx_cap_nodes.specs.declared.pool.ListName.{ListName}
use Rattle.lx_cap_nodes.specs.declared.pool.ListName.TheVariants as name
use Rattle.lx_cap_nodes.specs.Pool.{Pool}
use Rattle.lx_cap_nodes.specs.Words.{nodes_at, nodes_of, PoolLaws}
use Rattle.lx_cap_lists.specs.declared.entry.Entry.{Entry}
use Rattle.lx_cap_lists.specs.declared.holder.Holder.{Holder}
use Rattle.lx_cap_lists.specs.declared.holder.Holder.TheVariants.{Keeper, Borrower}
use Rattle.lx_cap_nodes.specs.Bits.{is_set}
use Rattle.lx_cap_lists.specs.Entries.{gives_bit, bit_among}
use Rattle.lx_cap_lists.specs.Holders.{left_by}
use Rattle.lx_cap_lists.specs.Kept.{all_nodes, AreAll, AreEnded, StayBut}
use Rattle.lx_cap_lists.specs.Loans.{loans_of, is_open, is_on}
use Rattle.lx_cap_lists.specs.Tables.{Key, loan_key, holder_key, place_in, place_of_spot, is_place, is_in_order, shown_at, count_in, loans_work}
use Rattle.lx_cap_lists.proofs.KeyLemmas.{one_key}
use Rattle.lx_cap_tables.proofs.TieLemmas.{all_by_split, all_there, is_there, value_place}

-- who has something in the list of a loan
pub on_loan : (s : Holder) (t d : ℕ) → t < 16 → holder_key s ≡ loan_key t d → is_on t d (d + 1) s ≡ true
on_loan (Keeper q) t d low same = absurd (let h = ap (λ k. k.0) same in omega (arith, low, h))
on_loan (Borrower u e q) t d low same =
    let a = ap (λ k. k.0) same in
    let b = ap (λ k. k.1) same in
    and_from (nat_eq t u) (nat_le d e && nat_lt e (d + 1)) (grind (arith, nat_tests, a)) (grind (arith, nat_tests, b))

key_on : (s : Holder) (t d : ℕ) → is_on t d (d + 1) s ≡ true → holder_key s ≡ loan_key t d
key_on (Keeper q) t d is = absurd (cc)
key_on (Borrower u e q) t d is =
    let both = and_parts (nat_eq t u) (nat_le d e && nat_lt e (d + 1)) is in
    let parts = and_parts (nat_le d e) (nat_lt e (d + 1)) both.1 in
    let a : t ≡ u = eqb-true t u both.0 in
    let b : e ≡ d = grind (arith, nat_tests, parts) in
    λ j. (sym a j, b j)

module _ (pool : Pool Entry) (laws : PoolLaws pool) (owners atoms : List Key) (loans : List ℕ) (order : AreAll (is_in_order owners atoms loans) pool) where
  in_owner : (l n : ℕ) (e : Entry) (xs ys : List (ℕ × Entry)) → nodes_at pool.owners l ≡ xs ++ (n, e) ∷ ys → place_in owners (holder_key e.holder) ≡ Some l
  unfolding AreAll
  in_owner l n e xs ys is =
      is_there (place_in owners (holder_key e.holder)) l (and_parts (is_open loans e.holder) (is_place (place_in owners (holder_key e.holder)) l)
      (all_there (is_in_order owners atoms loans (name.Owner l)) xs n e ys (ap (all_nodes (is_in_order owners atoms loans (name.Owner l))) (sym is) ∙ order (name.Owner l)))).1

  -- each node of a loan's list is of the loan
  pub list_of_loan : (t d o : ℕ) → t < 16 → place_in owners (loan_key t d) ≡ Some o → (among : Holder → Bool) → ((s : Holder) → is_on t d (d + 1) s ≡ true → among s ≡ false)
      → all_nodes (λ e. not (among e.holder)) (nodes_at pool.owners o) ≡ true
  list_of_loan t d o low at among out =
      all_by_split (λ e. not (among e.holder)) (nodes_at pool.owners o) (λ xs n e ys is.
      let same : holder_key e.holder ≡ loan_key t d = one_key 0 owners (holder_key e.holder) (loan_key t d) o (in_owner o n e xs ys is) at in
      not_from_false (among e.holder) (out e.holder (on_loan e.holder t d low same)))

  -- a loan whose list is empty has no node
  module _ (t d : ℕ) (none : (o : ℕ) → place_in owners (loan_key t d) ≡ Some o → nodes_at pool.owners o ≡ []) where
    no_node : (xs : List (ℕ × Entry)) (n : ℕ) (e : Entry) (ys : List (ℕ × Entry)) → xs ++ (n, e) ∷ ys ≡ [] → ⊥
    no_node [] n e ys is = absurd (cc)
    no_node (x ∷ xs) n e ys is = absurd (cc)

    owner_out : (o n : ℕ) (e : Entry) (xs ys : List (ℕ × Entry)) → nodes_at pool.owners o ≡ xs ++ (n, e) ∷ ys → not (is_on t d (d + 1) e.holder) ≡ true
    owner_out o n e xs ys is =
        (elim (is_on t d (d + 1) e.holder) as (λ b. is_on t d (d + 1) e.holder ≡ b → not b ≡ true) [
          | true ↦ λ on. absurd (
              let key = key_on e.holder t d on in
              let at : place_in owners (loan_key t d) ≡ Some o = ap (place_in owners) (sym key) ∙ in_owner o n e xs ys is in
              no_node xs n e ys (sym is ∙ none o at))
          | false ↦ λ off. refl
        ]) refl

    pub ended : AreEnded t d (d + 1) pool
    unfolding AreEnded AreAll
    ended (name.Owner o) = all_by_split (λ e. not (is_on t d (d + 1) e.holder)) (nodes_at pool.owners o) (λ xs n e ys is. owner_out o n e xs ys is)
    ended (name.Place l) = all_by_split (λ e. not (is_on t d (d + 1) e.holder)) (nodes_at pool.places l) (λ xs n e ys is.
        let value = (laws.at_node family.Place l xs n e ys is).value in
        let p = value_place pool.owners n e (sym (laws.alike n) ∙ value) in
        owner_out p.l n e p.xs p.ys p.is)

-- one loan more
on_none : (t d : ℕ) (s : Holder) → is_on t d d s ≡ false
on_none t d (Keeper q) = refl
on_none t d (Borrower u e q) = grind (arith, nat_tests)

on_parts : (t first d : ℕ) (s : Holder) → first ≤ d → is_on t first (d + 1) s ≡ (is_on t first d s || is_on t d (d + 1) s)
on_parts t first d (Keeper q) low = refl
on_parts t first d (Borrower u e q) low = grind (arith, nat_tests, low)

on_less : (t first end more : ℕ) (s : Holder) → end ≤ more → is_on t first end s ≡ true → is_on t first more s ≡ true
on_less t first end more (Keeper q) le is = absurd (cc)
on_less t first end more (Borrower u e q) le is = grind (arith, nat_tests, le, is)

all_map : (p q : Entry → Bool) (es : List (ℕ × Entry)) → ((e : Entry) → p e ≡ true → q e ≡ true) → all_nodes p es ≡ true → all_nodes q es ≡ true
all_map p q [] h is = refl
all_map p q (e ∷ es) h is = let both = and_parts (p e.1) (all_nodes p es) is in and_from (q e.1) (all_nodes q es) (h e.1 both.0) (all_map p q es h both.1)

all_both : (p q r : Entry → Bool) (es : List (ℕ × Entry)) → ((e : Entry) → p e ≡ true → q e ≡ true → r e ≡ true) → all_nodes p es ≡ true → all_nodes q es ≡ true → all_nodes r es ≡ true
all_both p q r [] h a b = refl
all_both p q r (e ∷ es) h a b =
    let x = and_parts (p e.1) (all_nodes p es) a in
    let y = and_parts (q e.1) (all_nodes q es) b in
    and_from (r e.1) (all_nodes r es) (h e.1 x.0 y.0) (all_both p q r es h x.1 y.1)

neither : (a b : Bool) → not a ≡ true → not b ≡ true → not (a || b) ≡ true
neither true b e f = absurd (cc)
neither false b e f = f

all_none : (p : Entry → Bool) (es : List (ℕ × Entry)) → ((e : Entry) → p e ≡ true) → all_nodes p es ≡ true
all_none p [] h = refl
all_none p (e ∷ es) h = and_from (p e.1) (all_nodes p es) (h e.1) (all_none p es h)

pub ended_none : (t first : ℕ) (pool : Pool Entry) → AreEnded t first first pool
unfolding AreEnded AreAll
ended_none t first pool (name.Place l) = all_none (λ e. not (is_on t first first e.holder)) (nodes_at pool.places l) (λ e. not_from_false (is_on t first first e.holder) (on_none t first e.holder))
ended_none t first pool (name.Owner l) = all_none (λ e. not (is_on t first first e.holder)) (nodes_at pool.owners l) (λ e. not_from_false (is_on t first first e.holder) (on_none t first e.holder))

pub ended_more : (t first d : ℕ) (pool : Pool Entry) → first ≤ d → AreEnded t first d pool → AreEnded t d (d + 1) pool → AreEnded t first (d + 1) pool
unfolding AreEnded AreAll
ended_more t first d pool low a b list =
    all_both (λ e. not (is_on t first d e.holder)) (λ e. not (is_on t d (d + 1) e.holder)) (λ e. not (is_on t first (d + 1) e.holder)) (nodes_of list pool) (λ e x y.
    ap not (on_parts t first d e.holder low) ∙ neither (is_on t first d e.holder) (is_on t d (d + 1) e.holder) x y) (a list) (b list)

out_less : (a b : Bool) → (b ≡ true → a ≡ true) → not a ≡ true → not b ≡ true
out_less a true h e = absurd (let is = h refl in cc)
out_less a false h e = refl

pub ended_less : (t first end more : ℕ) (pool : Pool Entry) → end ≤ more → AreEnded t first more pool → AreEnded t first end pool
unfolding AreEnded AreAll
ended_less t first end more pool le a (name.Place l) =
    all_map (λ e. not (is_on t first more e.holder)) (λ e. not (is_on t first end e.holder)) (nodes_at pool.places l) (λ e x. out_less (is_on t first more e.holder) (is_on t first end e.holder) (on_less t first end more e.holder le) x) (a (name.Place l))
ended_less t first end more pool le a (name.Owner l) =
    all_map (λ e. not (is_on t first more e.holder)) (λ e. not (is_on t first end e.holder)) (nodes_at pool.owners l) (λ e x. out_less (is_on t first more e.holder) (is_on t first end e.holder) (on_less t first end more e.holder le) x) (a (name.Owner l))

pub ended_kept : (t first end : ℕ) (old new : Pool Entry) → ((p : ListName → Entry → Bool) → AreAll p old → AreAll p new) → AreEnded t first end old → AreEnded t first end new
unfolding AreEnded
ended_kept t first end old new kept a = kept (λ list e. not (is_on t first end e.holder)) a

pub stay_none : (t first : ℕ) (lists : List (List (ℕ × Entry))) → StayBut t first first lists lists
unfolding StayBut
stay_none t first lists = λ among out l k. refl

pub stay_more : (t first d : ℕ) (old mid new : List (List (ℕ × Entry))) → first ≤ d → StayBut t first d old mid → StayBut t d (d + 1) mid new → StayBut t first (d + 1) old new
unfolding StayBut
stay_more t first d old mid new low a b = λ among out l k.
    b among (λ s on. out s (on_parts t first d s low ∙ or_right (is_on t first d s) (is_on t d (d + 1) s) on)) l k
    ∙ a among (λ s on. out s (on_parts t first d s low ∙ or_left (is_on t first d s) (is_on t d (d + 1) s) on)) l k

-- at the end of a loop none is left out
on_within : (t first end more : ℕ) (s : Holder) → (first < more → more ≤ end) → is_on t first more s ≡ true → is_on t first end s ≡ true
on_within t first end more (Keeper q) h is = absurd (cc)
on_within t first end more (Borrower u e q) h is =
    let both = and_parts (nat_eq t u) (nat_le first e && nat_lt e more) is in
    let parts = and_parts (nat_le first e) (nat_lt e more) both.1 in
    let some : first < more = grind (arith, nat_tests, parts) in
    let le = h some in
    and_from (nat_eq t u) (nat_le first e && nat_lt e end) both.0 (and_from (nat_le first e) (nat_lt e end) parts.0 (let low = parts.1 in grind (arith, nat_tests, low, le)))

pub stay_all : (t first end more : ℕ) (old new : List (List (ℕ × Entry))) → (first < more → more ≤ end) → StayBut t first more old new → StayBut t first end old new
unfolding StayBut
stay_all t first end more old new le a = λ among out l k. a among (λ s on. out s (on_within t first end more s le on)) l k

-- what is shown once the newest loans have ended
left_out : (t first end : ℕ) (among : Holder → Bool) (s : Holder) → is_on t first end s ≡ true → left_by t first among s ≡ false
left_out t first end among (Keeper q) on = absurd (cc)
left_out t first end among (Borrower u e q) on =
    let both = and_parts (nat_eq t u) (nat_le first e && nat_lt e end) on in
    let parts = and_parts (nat_le first e) (nat_lt e end) both.1 in
    ap (λ b. not b && among (Borrower u e q)) (and_from (nat_eq t u) (nat_le first e) both.0 parts.0)

left_same : (t first : ℕ) (loans : List ℕ) (among : Holder → Bool) (s : Holder) → is_open loans s ≡ true → not (is_on t first (loans_of loans t) s) ≡ true → left_by t first among s ≡ among s
left_same t first loans among (Keeper q) is off = refl
left_same t first loans among (Borrower u e q) is off =
    (elim (nat_eq t u && nat_le first e) as (λ b. (nat_eq t u && nat_le first e) ≡ b → (not b && among (Borrower u e q)) ≡ among (Borrower u e q)) [
      | true ↦ λ on. absurd (
          let both = and_parts (nat_eq t u) (nat_le first e) on in
          let same : t ≡ u = eqb-true t u both.0 in
          let low : nat_lt e (loans_of loans t) ≡ true = ap (λ v. nat_lt e (loans_of loans v)) same ∙ (and_parts (nat_lt u 16) (nat_lt e (loans_of loans u)) is).1 in
          let yes : is_on t first (loans_of loans t) (Borrower u e q) ≡ true = and_from (nat_eq t u) (nat_le first e && nat_lt e (loans_of loans t)) both.0 (and_from (nat_le first e) (nat_lt e (loans_of loans t)) both.1 low) in
          let no = not-true (is_on t first (loans_of loans t) (Borrower u e q)) off in
          cc)
      | false ↦ λ on. refl
    ]) refl

left_bits : (t first : ℕ) (loans : List ℕ) (among : Holder → Bool) (es : List (ℕ × Entry)) (k : ℕ)
    → all_nodes (λ e. is_open loans e.holder) es ≡ true → all_nodes (λ e. not (is_on t first (loans_of loans t) e.holder)) es ≡ true → bit_among (left_by t first among) es k ≡ bit_among among es k
left_bits t first loans among [] k opened off = refl
left_bits t first loans among (e ∷ es) k opened off =
    let a = and_parts (is_open loans e.1.holder) (all_nodes (λ x. is_open loans x.holder) es) opened in
    let b = and_parts (not (is_on t first (loans_of loans t) e.1.holder)) (all_nodes (λ x. not (is_on t first (loans_of loans t) x.holder)) es) off in
    ap (λ r. (r && is_set e.1.mask k) || bit_among (left_by t first among) es k) (left_same t first loans among e.1.holder a.0 b.0)
    ∙ ap (λ r. gives_bit among k e.1 || r) (left_bits t first loans among es k a.1 b.1)

module _ (t first : ℕ) (loans : List ℕ) (owners atoms : List Key) (old new : Pool Entry)
    (order : AreAll (is_in_order owners atoms loans) new) (gone : AreEnded t first (loans_of loans t) new) (stays : StayBut t first (loans_of loans t) old.places new.places) where
  left_at : (among : Holder → Bool) (l k : ℕ) → bit_among (left_by t first among) (nodes_at old.places l) k ≡ bit_among among (nodes_at new.places l) k
  unfolding AreAll AreEnded StayBut
  left_at among l k =
      sym (stays (left_by t first among) (left_out t first (loans_of loans t) among) l k)
      ∙ left_bits t first loans among (nodes_at new.places l) k
      (all_map (is_in_order owners atoms loans (name.Place l)) (λ e. is_open loans e.holder) (nodes_at new.places l) (λ e h. (and_parts (is_open loans e.holder) (is_place (place_of_spot atoms e.spot) l) h).0) (order (name.Place l)))
      (gone (name.Place l))

  pub shown_left : (among : Holder → Bool) (o : Option ℕ) (k : ℕ) → shown_at old.places o (left_by t first among) k ≡ shown_at new.places o among k
  shown_left among None k = refl
  shown_left among (Some l) k = left_at among l k

-- a thread's loans, whatever stands for none
pub loan_at : (loans : List ℕ) (t n : ℕ) → t < length loans → n ≡ slice_index_or loans t n → n ≡ loans_of loans t
loan_at loans t n low is = is ∙ get_or_default loans t n 0 low

-- the loans of a thread are fewer
loans_here : (loans : List ℕ) (t n : ℕ) → t < length loans → loans_of (set loans t n) t ≡ n
loans_here loans t n h = get_or-set_same loans t n 0 h

loans_other : (loans : List ℕ) (t n u : ℕ) → u ≢ t → loans_of (set loans t n) u ≡ loans_of loans u
loans_other loans t n u ne = get_or-set_other loans t u n 0 ne

pub loans_set : (loans : List ℕ) (t n u : ℕ) → t < length loans → loans_of (set loans t n) u ≡ cond (nat_eq t u) n (loans_of loans u)
loans_set loans t n u h =
    (elim (nat_eq t u) as (λ b. nat_eq t u ≡ b → loans_of (set loans t n) u ≡ cond b n (loans_of loans u)) [
      | true ↦ λ e. ap (loans_of (set loans t n)) (sym (eqb-true t u e)) ∙ loans_here loans t n h
      | false ↦ λ e. loans_other loans t n u (λ same. grind (arith, nat_tests, e, same))
    ]) refl

open_left : (loans : List ℕ) (t first : ℕ) (s : Holder) → t < length loans → is_open loans s ≡ true → not (is_on t first (loans_of loans t) s) ≡ true → is_open (set loans t first) s ≡ true
open_left loans t first (Keeper q) h is off = refl
open_left loans t first (Borrower u e q) h is off =
    let both = and_parts (nat_lt u 16) (nat_lt e (loans_of loans u)) is in
    and_from (nat_lt u 16) (nat_lt e (loans_of (set loans t first) u)) both.0 (ap (nat_lt e) (loans_set loans t first u h)
    ∙ (elim (nat_eq t u) as (λ b. nat_eq t u ≡ b → nat_lt e (cond b first (loans_of loans u)) ≡ true) [
      | true ↦ λ on.
          let same : t ≡ u = eqb-true t u on in
          let low : nat_lt e (loans_of loans t) ≡ true = ap (λ v. nat_lt e (loans_of loans v)) same ∙ both.1 in
          let out = not-true (is_on t first (loans_of loans t) (Borrower u e q)) off in
          let less : (nat_le first e && nat_lt e (loans_of loans t)) ≡ false = ap (λ b. b && (nat_le first e && nat_lt e (loans_of loans t))) (sym on) ∙ out in
          grind (arith, nat_tests, less, low)
      | false ↦ λ on. both.1
    ]) refl)

pub order_left : (owners atoms : List Key) (loans : List ℕ) (t first : ℕ) (pool : Pool Entry) → t < length loans → AreAll (is_in_order owners atoms loans) pool → AreEnded t first (loans_of loans t) pool
    → AreAll (is_in_order owners atoms (set loans t first)) pool
unfolding AreAll AreEnded
order_left owners atoms loans t first pool h order gone (name.Place l) =
    all_both (is_in_order owners atoms loans (name.Place l)) (λ e. not (is_on t first (loans_of loans t) e.holder)) (is_in_order owners atoms (set loans t first) (name.Place l)) (nodes_at pool.places l)
    (λ e a b. let both = and_parts (is_open loans e.holder) (is_place (place_of_spot atoms e.spot) l) a in
    and_from (is_open (set loans t first) e.holder) (is_place (place_of_spot atoms e.spot) l) (open_left loans t first e.holder h both.0 b) both.1)
    (order (name.Place l)) (gone (name.Place l))
order_left owners atoms loans t first pool h order gone (name.Owner l) =
    all_both (is_in_order owners atoms loans (name.Owner l)) (λ e. not (is_on t first (loans_of loans t) e.holder)) (is_in_order owners atoms (set loans t first) (name.Owner l)) (nodes_at pool.owners l)
    (λ e a b. let both = and_parts (is_open loans e.holder) (is_place (place_in owners (holder_key e.holder)) l) a in
    and_from (is_open (set loans t first) e.holder) (is_place (place_in owners (holder_key e.holder)) l) (open_left loans t first e.holder h both.0 b) both.1)
    (order (name.Owner l)) (gone (name.Owner l))

-- one loan more
open_more : (loans : List ℕ) (t n : ℕ) (s : Holder) → t < length loans → loans_of loans t ≤ n → is_open loans s ≡ true → is_open (set loans t n) s ≡ true
open_more loans t n (Keeper q) h le is = refl
open_more loans t n (Borrower u e q) h le is =
    let both = and_parts (nat_lt u 16) (nat_lt e (loans_of loans u)) is in
    and_from (nat_lt u 16) (nat_lt e (loans_of (set loans t n) u)) both.0 (ap (nat_lt e) (loans_set loans t n u h)
    ∙ (elim (nat_eq t u) as (λ b. nat_eq t u ≡ b → nat_lt e (cond b n (loans_of loans u)) ≡ true) [
      | true ↦ λ on.
          let low : nat_lt e (loans_of loans t) ≡ true = ap (λ v. nat_lt e (loans_of loans v)) (eqb-true t u on) ∙ both.1 in
          grind (arith, nat_tests, low, le)
      | false ↦ λ on. both.1
    ]) refl)

pub order_opened : (owners atoms : List Key) (loans : List ℕ) (t n : ℕ) (pool : Pool Entry) → t < length loans → loans_of loans t ≤ n → AreAll (is_in_order owners atoms loans) pool → AreAll (is_in_order owners atoms (set loans t n)) pool
unfolding AreAll
order_opened owners atoms loans t n pool h le order (name.Place l) =
    all_map (is_in_order owners atoms loans (name.Place l)) (is_in_order owners atoms (set loans t n) (name.Place l)) (nodes_at pool.places l)
    (λ e a. let both = and_parts (is_open loans e.holder) (is_place (place_of_spot atoms e.spot) l) a in
    and_from (is_open (set loans t n) e.holder) (is_place (place_of_spot atoms e.spot) l) (open_more loans t n e.holder h le both.0) both.1) (order (name.Place l))
order_opened owners atoms loans t n pool h le order (name.Owner l) =
    all_map (is_in_order owners atoms loans (name.Owner l)) (is_in_order owners atoms (set loans t n) (name.Owner l)) (nodes_at pool.owners l)
    (λ e a. let both = and_parts (is_open loans e.holder) (is_place (place_in owners (holder_key e.holder)) l) a in
    and_from (is_open (set loans t n) e.holder) (is_place (place_in owners (holder_key e.holder)) l) (open_more loans t n e.holder h le both.0) both.1) (order (name.Owner l))

-- the most loans of a thread
pub deep_set : (loans : List ℕ) (t n deepest : ℕ) → t < length loans → ((u : ℕ) → loans_of loans u ≤ deepest) → n ≤ deepest → (u : ℕ) → loans_of (set loans t n) u ≤ deepest
deep_set loans t n deepest h deep le u =
    subst (λ k. k ≤ deepest) (sym (loans_set loans t n u h)) (elim (nat_eq t u) as (λ b. cond b n (loans_of loans u) ≤ deepest) [ true ↦ le | false ↦ deep u ])

-- the work of one loan more
pub one_loan_more : (lists : List (List (ℕ × Entry))) (owners : List Key) (t older end : ℕ) → older < end
    → loans_work lists owners t older (end - older) ≡ 1 + count_in lists (place_in owners (loan_key t older)) + loans_work lists owners t (older + 1) (end - (older + 1))
one_loan_more lists owners t older end lt = ap (loans_work lists owners t older) (let e : end - older ≡ suc (end - (older + 1)) = omega arith in e)

pub no_loan_more : (lists : List (List (ℕ × Entry))) (owners : List Key) (t older end : ℕ) → end ≤ older → loans_work lists owners t older (end - older) ≡ 0
no_loan_more lists owners t older end le = ap (loans_work lists owners t older) (let e : end - older ≡ 0 = omega arith in e)

-- two loans have two lists
pub other_loan : (owners : List Key) (t older d k : ℕ) → place_in owners (loan_key t older) ≡ Some k → place_in owners (loan_key t d) ≡ Some k → older < d → ⊥
other_loan owners t older d k a b lt = let same = ap (λ (x : Key). x.1) (one_key 0 owners (loan_key t older) (loan_key t d) k a b) in omega (arith, same, lt)
