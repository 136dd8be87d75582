-- The nodes of a loan are no more than those who have something on it, spot by spot.
use Rattle.std.proofs.Common.{◌≡◌, ℕ, zero, suc, ◌+◌, ◌-◌, ◌*◌, ◌/◌, ◌<◌, ◌≤◌, min, Bool, true, false, not, ◌&&◌, ◌||◌, nat_eq, nat_le, List, [], ◌∷◌, ◌++◌, map, Some, None, refl, sym, ap, ◌∙◌, subst, arith, append_assoc, eqb-true}
use Rattle.std.proofs.lemmas.Bool.Decides.{nat_tests}
use Rattle.std.proofs.lemmas.List.{length-map}
use Rattle.std.proofs.lemmas.Bool.{and_parts, and_from, or_right, or_left}
use Rattle.lx_words.proofs.Tests.{eq_self}
use Rattle.lx_caps.specs.declared.Principal.{Principal}
use Rattle.lx_caps.specs.declared.Cap.{Cap}
use Rattle.lx_caps.specs.declared.Cap.TheVariants as cap
use Rattle.lx_caps.specs.declared.Atom.{Atom}
use Rattle.lx_caps.specs.declared.Atom.TheVariants as atom
use Rattle.lx_caps.specs.declared.Act.TheVariants.{Grant, Strip, Zero, Loan, Lend, Shut, ShutAll}
use Rattle.lx_caps.specs.Loans.{lends}
use Rattle.lx_caps.specs.History.{History, has}
use Rattle.lx_cap_nodes.specs.declared.pool.Family.TheVariants as family
use Rattle.lx_cap_nodes.specs.Names.{has as has_number, Apart}
use Rattle.lx_cap_nodes.specs.Pool.{Pool}
use Rattle.lx_cap_nodes.specs.Words.{names, nodes_at, PoolLaws}
use Rattle.lx_cap_lists.specs.declared.entry.Entry.{Entry}
use Rattle.lx_cap_lists.specs.declared.entry.Spot.{Spot}
use Rattle.lx_cap_lists.specs.declared.entry.Spot.TheVariants as spot
use Rattle.lx_cap_lists.specs.declared.holder.Holder.{Holder}
use Rattle.lx_cap_lists.specs.declared.holder.Holder.TheVariants.{Keeper, Borrower}
use Rattle.lx_cap_nodes.specs.Bits.{is_set}
use Rattle.lx_cap_lists.specs.Entries.{is_holder}
use Rattle.lx_cap_lists.specs.Holders.{had, left_by, open_count, same_holder}
use Rattle.lx_cap_lists.specs.Kept.{AreAll, IsMask, width_of, AreNodes, AllNodes}
use Rattle.lx_cap_lists.specs.Loans.{loans_of, is_on}
use Rattle.lx_cap_lists.specs.Tables.{Key, Shows, loan_key, holder_key, place_in, place_of_spot, call_key, ref_key, is_in_order, count_in, loans_work}
use Rattle.lx_cap_nodes.specs.Pieces.{part_list}
use Rattle.lx_cap_tables.specs.Work.{is_among, and_one, count_of, same_spot, parts_from, spots_of, Pair, same_pair, and_each, lent_pairs, has_now, has_at, is_lent, loans_and_pairs, shut_bound}
use Rattle.lx_cap_tables.proofs.Below.{some_from}
use Rattle.lx_cap_lists.proofs.BitLemmas.{same_is}
use Rattle.lx_cap_tables.proofs.BoundLemmas.{has_bit}
use Rattle.lx_cap_tables.proofs.EndLemmas.{on_loan}
use Rattle.lx_cap_lists.proofs.KeyLemmas.{one_key}
use Rattle.lx_cap_tables.proofs.Few.{added, added_self, few, ArePassing}
use Rattle.lx_cap_lists.proofs.NodeLemmas.{width_part, width_behind}
use Rattle.lx_cap_nodes.proofs.PartLists.{list_below}
use Rattle.lx_cap_tables.proofs.TieLemmas.{in_place, in_owner, value_place}
use Rattle.lx_caps.proofs.Tests.{byte_of}
use Rattle.lx_cap_lists.proofs.KeyPlaces.{behind_far}
use Rattle.lx_cap_lists.proofs.HolderKeys.{holder_itself}

or_parts : (a b : Bool) → (a || b) ≡ true → (a ≡ false → b ≡ true)
or_parts true b e f = absurd (cc)
or_parts false b e f = e

-- the same spot and the same pair
spot_is : (p q : Spot) → same_spot p q ≡ true → p ≡ q
spot_is (spot.Part p) (spot.Part q) e = ap spot.Part (eqb-true p q e)
spot_is (spot.Part p) (spot.Call b) e = absurd (cc)
spot_is (spot.Part p) (spot.Ref u b) e = absurd (cc)
spot_is (spot.Call a) (spot.Part q) e = absurd (cc)
spot_is (spot.Call a) (spot.Call b) e = ap spot.Call (eqb-true a b e)
spot_is (spot.Call a) (spot.Ref u b) e = absurd (cc)
spot_is (spot.Ref t a) (spot.Part q) e = absurd (cc)
spot_is (spot.Ref t a) (spot.Call b) e = absurd (cc)
spot_is (spot.Ref t a) (spot.Ref u b) e =
    let both = and_parts (nat_eq t u) (nat_eq a b) e in ap (λ k. spot.Ref k a) (eqb-true t u both.0) ∙ ap (λ k. spot.Ref u k) (eqb-true a b both.1)

spot_self : (p : Spot) → same_spot p p ≡ true
spot_self (spot.Part p) = eq_self p
spot_self (spot.Call a) = eq_self a
spot_self (spot.Ref t a) = and_from (nat_eq t t) (nat_eq a a) (eq_self t) (eq_self a)

pair_is : (x y : Pair) → same_pair x y ≡ true → x ≡ y
pair_is x y e =
    let both = and_parts (same_spot x.0 y.0) (same_holder x.1 y.1) e in
    let a = spot_is x.0 y.0 both.0 in
    let b = same_is x.1 y.1 both.1 in
    λ j. (a j, b j)

pair_self : (x : Pair) → same_pair x x ≡ true
pair_self x = and_from (same_spot x.0 x.0) (same_holder x.1 x.1) (spot_self x.0) (holder_itself x.1)

-- the spot of an atom
abbrev spot_of : Atom → Spot
spot_of (atom.Byte b) = spot.Part (b / 64)
spot_of (atom.Call a) = spot.Call a
spot_of (atom.Ref t a) = spot.Ref t a

-- one spot among those of a lend
abbrev is_spot : Spot → List Spot → Bool
is_spot s ss = is_among same_spot s ss

parts_have : (k p n : ℕ) → p ≤ k → k < p + n → is_spot (spot.Part k) (parts_from p n) ≡ true
parts_have k p zero low high = absurd (omega (arith, low, high))
parts_have k p (suc n) low high =
    (elim (nat_eq k p) as (λ t. nat_eq k p ≡ t → (t || is_spot (spot.Part k) (parts_from (p + 1) n)) ≡ true) [
      | true ↦ λ e. refl
      | false ↦ λ e. parts_have k (p + 1) n (grind (arith, nat_tests, e, low)) (omega (arith, high))
    ]) refl

cap_has : (c : Cap) (x : Atom) → has c x ≡ true → is_spot (spot_of x) (spots_of c) ≡ true
cap_has (cap.Write at zero) (atom.Byte b) h = absurd (grind (arith, nat_tests, h))
cap_has (cap.Write at (suc n)) (atom.Byte b) h =
    parts_have (b / 64) (at / 64) ((at + n) / 64 + 1 - at / 64) (grind (arith, nat_tests, h)) (grind (arith, nat_tests, h))
cap_has (cap.Write at size) (atom.Call b) h = absurd (cc)
cap_has (cap.Write at size) (atom.Ref u b) h = absurd (cc)
cap_has (cap.Call a) (atom.Byte b) h = absurd (cc)
cap_has (cap.Call a) (atom.Call b) h = or_left (nat_eq b a) false (grind (arith, nat_tests, h))
cap_has (cap.Call a) (atom.Ref u b) h = absurd (cc)
cap_has (cap.Ref t a) (atom.Byte b) h = absurd (cc)
cap_has (cap.Ref t a) (atom.Call b) h = absurd (cc)
cap_has (cap.Ref t a) (atom.Ref u b) h = let both = and_parts (nat_eq t u) (nat_eq a b) h in or_left (nat_eq u t && nat_eq b a) false (grind (arith, nat_tests, both))

abbrev is_pair : Pair → List Pair → Bool
is_pair x xs = is_among same_pair x xs

each_has : (p : Spot) (s : Holder) (ps : List Spot) (others : List Pair) → is_spot p ps ≡ true → is_pair (p, s) (and_each ps s others) ≡ true
each_has p s [] others h = absurd (cc)
each_has p s (q ∷ ps) others h =
    (elim (same_spot p q) as (λ t. same_spot p q ≡ t → is_pair (p, s) (and_one same_pair (q, s) (and_each ps s others)) ≡ true) [
      | true ↦ λ e. subst (λ r. is_pair (r, s) (and_one same_pair (q, s) (and_each ps s others)) ≡ true) (sym (spot_is p q e)) (added_self same_pair pair_is pair_self (q, s) (and_each ps s others))
      | false ↦ λ e. added same_pair pair_is pair_self (p, s) (q, s) (and_each ps s others) (each_has p s ps others (or_parts (same_spot p q) (is_spot p ps) h e))
    ]) refl

each_keeps : (x : Pair) (s : Holder) (ps : List Spot) (others : List Pair) → is_pair x others ≡ true → is_pair x (and_each ps s others) ≡ true
each_keeps x s [] others h = h
each_keeps x s (q ∷ ps) others h = added same_pair pair_is pair_self x (q, s) (and_each ps s others) (each_keeps x s ps others h)

-- what a borrower has was lent
NoKeeper : (Holder → Bool) → Type 0
NoKeeper among = (q : Principal) → among (Keeper q) ≡ false

Only : (Holder → Bool) → Holder → Type 0
Only among s = (r : Holder) → among r ≡ true → r ≡ s

lent_pair : (among : Holder → Bool) (s : Holder) (h : History) (x : Atom) → NoKeeper among → Only among s → had among h x ≡ true → is_pair (spot_of x, s) (lent_pairs h) ≡ true
unfolding NoKeeper Only
lent_pair among s [] x none only is = absurd (cc)
lent_pair among s (Grant q c ∷ h) x none only is =
    lent_pair among s h x none only (or_parts (among (Keeper q) && has c x) (had among h x) is (ap (λ b. b && has c x) (none q)))
lent_pair among s (Strip c ∷ h) x none only is = lent_pair among s h x none only (and_parts (not (has c x)) (had among h x) is).1
lent_pair among s (Zero at size ∷ h) x none only is = lent_pair among s h x none only is
lent_pair among s (Loan t ∷ h) x none only is = lent_pair among s h x none only is
lent_pair among s (Lend t q c ∷ h) x none only is =
    let r : Holder = Borrower t (open_count h t - 1) q in
    (elim (lends h t && (among r && has c x)) as (λ b. (lends h t && (among r && has c x)) ≡ b → (b || had among h x) ≡ true → is_pair (spot_of x, s) (and_each (spots_of c) r (lent_pairs h)) ≡ true) [
      | true ↦ λ e f.
          let both = and_parts (lends h t) (among r && has c x) e in
          let parts = and_parts (among r) (has c x) both.1 in
          subst (λ v. is_pair (spot_of x, v) (and_each (spots_of c) r (lent_pairs h)) ≡ true) (only r parts.0) (each_has (spot_of x) r (spots_of c) (lent_pairs h) (cap_has c x parts.1))
      | false ↦ λ e f. each_keeps (spot_of x, s) r (spots_of c) (lent_pairs h) (lent_pair among s h x none only f)
    ]) refl is
lent_pair among s (Shut t n ∷ h) x none only is = lent_pair (left_by t (open_count h t - n) among) s h x none (less_only t (open_count h t - n) among s only) is
  where
    less_only : (u older : ℕ) (a : Holder → Bool) (v : Holder) → ((r : Holder) → a r ≡ true → r ≡ v) → (r : Holder) → left_by u older a r ≡ true → r ≡ v
    less_only u older a v only (Keeper q) e = only (Keeper q) e
    less_only u older a v only (Borrower w d q) e = only (Borrower w d q) (and_parts (not (nat_eq u w && nat_le older d)) (a (Borrower w d q)) e).1
lent_pair among s (ShutAll t ∷ h) x none only is = lent_pair (left_by t 0 among) s h x none (less_only t 0 among s only) is
  where
    less_only : (u older : ℕ) (a : Holder → Bool) (v : Holder) → ((r : Holder) → a r ≡ true → r ≡ v) → (r : Holder) → left_by u older a r ≡ true → r ≡ v
    less_only u older a v only (Keeper q) e = only (Keeper q) e
    less_only u older a v only (Borrower w d q) e = only (Borrower w d q) (and_parts (not (nat_eq u w && nat_le older d)) (a (Borrower w d q)) e).1

borrowed : (t d : ℕ) (q : Principal) (h : History) (x : Atom) → had (same_holder (Borrower t d q)) h x ≡ true → is_pair (spot_of x, Borrower t d q) (lent_pairs h) ≡ true
unfolding NoKeeper Only
borrowed t d q h x is = lent_pair (same_holder (Borrower t d q)) (Borrower t d q) h x (λ p. refl) (λ r e. sym (same_is (Borrower t d q) r e)) is

-- nodes of one list of places with the same holder are one
holder_there : (q : Holder) (xs ys : List (ℕ × Entry)) (n : ℕ) (e : Entry) → same_holder q e.holder ≡ true → is_holder q (xs ++ (n, e) ∷ ys) ≡ true
holder_there q [] ys n e is = or_left (same_holder q e.holder) (is_holder q ys) is
holder_there q (x ∷ xs) ys n e is = or_right (same_holder q x.1.holder) (is_holder q (xs ++ (n, e) ∷ ys)) (holder_there q xs ys n e is)

one_holder : (w : ℕ) (es : List (ℕ × Entry)) → AreNodes w es → (xs ys us vs : List (ℕ × Entry)) (n m : ℕ) (e f : Entry) → es ≡ xs ++ (n, e) ∷ ys → es ≡ us ++ (m, f) ∷ vs
    → same_holder e.holder f.holder ≡ true → same_holder f.holder e.holder ≡ true → n ≡ m
one_holder w [] nodes [] ys us vs n m e f a b c d = absurd (cc)
one_holder w [] nodes (x ∷ xs) ys us vs n m e f a b c d = absurd (cc)
one_holder w (z ∷ es) nodes [] ys [] vs n m e f a b c d = let p : z ≡ (n, e) = cc in let q : z ≡ (m, f) = cc in ap (λ k. k.0) (sym p ∙ q)
one_holder w (z ∷ es) nodes [] ys (u ∷ us) vs n m e f a b c d = absurd (
    let at : z ≡ (n, e) = cc in
    let rest : es ≡ us ++ (m, f) ∷ vs = cc in
    let is : is_holder z.1.holder es ≡ true = ap (is_holder z.1.holder) rest ∙ holder_there z.1.holder us vs m f (ap (λ k. same_holder k.1.holder f.holder) at ∙ c) in
    let no = nodes.0 in
    cc)
one_holder w (z ∷ es) nodes (x ∷ xs) ys [] vs n m e f a b c d = absurd (
    let at : z ≡ (m, f) = cc in
    let rest : es ≡ xs ++ (n, e) ∷ ys = cc in
    let is : is_holder z.1.holder es ≡ true = ap (is_holder z.1.holder) rest ∙ holder_there z.1.holder xs ys n e (ap (λ k. same_holder k.1.holder e.holder) at ∙ d) in
    let no = nodes.0 in
    cc)
one_holder w (z ∷ es) nodes (x ∷ xs) ys (u ∷ us) vs n m e f a b c d =
    let p : es ≡ xs ++ (n, e) ∷ ys = cc in
    let q : es ≡ us ++ (m, f) ∷ vs = cc in
    one_holder w es nodes.2 xs ys us vs n m e f p q c d

-- a number that stands behind another one differs from it
number_there : (xs ys : List (ℕ × Entry)) (n : ℕ) (e : Entry) → has_number n (names (xs ++ (n, e) ∷ ys)) ≡ true
number_there [] ys n e = or_left (nat_eq n n) (has_number n (names ys)) (eq_self n)
number_there (x ∷ xs) ys n e = or_right (nat_eq n x.0) (has_number n (names (xs ++ (n, e) ∷ ys))) (number_there xs ys n e)

abbrev pair_of : ℕ × Entry → Pair
pair_of e = (e.1.spot, e.1.holder)

-- a list that has such a pair is split at a node that has it
pair_split : (x : Pair) (es : List (ℕ × Entry)) → is_pair x (map pair_of es) ≡ true → (xs : List (ℕ × Entry)) × (m : ℕ) × (f : Entry) × (ys : List (ℕ × Entry)) × (es ≡ xs ++ (m, f) ∷ ys) × (x ≡ (f.spot, f.holder))
pair_split x [] h = absurd (cc)
pair_split x (e ∷ es) h =
    (elim (same_pair x (pair_of e)) as (λ t. same_pair x (pair_of e) ≡ t → (t || is_pair x (map pair_of es)) ≡ true
    → (xs : List (ℕ × Entry)) × (m : ℕ) × (f : Entry) × (ys : List (ℕ × Entry)) × (e ∷ es ≡ xs ++ (m, f) ∷ ys) × (x ≡ (f.spot, f.holder))) [
      | true ↦ λ is g. ([], e.0, e.1, es, refl, pair_is x (pair_of e) is)
      | false ↦ λ is g. let r = pair_split x es g in (e ∷ r.0, r.1, r.2, r.3, ap (λ rest. e ∷ rest) r.4, r.5)
    ]) refl h

mask_there : (w : ℕ) (xs ys : List (ℕ × Entry)) (n : ℕ) (e : Entry) → AreNodes w (xs ++ (n, e) ∷ ys) → IsMask w e.mask
mask_there w [] ys n e nodes = nodes.1
mask_there w (x ∷ xs) ys n e nodes = mask_there w xs ys n e nodes.2

apart_there : (xs ys : List (ℕ × Entry)) (n : ℕ) (e : Entry) → Apart (names (xs ++ (n, e) ∷ ys)) → has_number n (names ys) ≡ false
apart_there [] ys n e apart = apart.0
apart_there (x ∷ xs) ys n e apart = apart_there xs ys n e apart.1

-- who has something in a loan's list is its borrower
holder_is : (s : Holder) (t d : ℕ) → t < 16 → holder_key s ≡ loan_key t d → (q : Principal) × (s ≡ Borrower t d q)
holder_is (Keeper q) t d low same = absurd (let h = ap (λ k. k.0) same in omega (arith, low, h))
holder_is (Borrower u e q) t d low same =
    let a : u ≡ t = ap (λ k. k.0) same in
    let b : e ≡ d = ap (λ k. k.1) same in
    (q, ap (λ k. Borrower k e q) a ∙ ap (λ k. Borrower t k q) b)

module _ (pool : Pool Entry) (laws : PoolLaws pool) (owners atoms : List Key) (loans : List ℕ) (order : AreAll (is_in_order owners atoms loans) pool)
    (nodes : AllNodes pool.places) (h : History) (shows : Shows pool.places atoms h) where
  -- where a node of a list of owners stands among the places
  abbrev Stands : ℕ → Entry → Type 0
  Stands n e = (l : ℕ) × (xs : List (ℕ × Entry)) × (ys : List (ℕ × Entry)) × (nodes_at pool.places l ≡ xs ++ (n, e) ∷ ys) × (place_of_spot atoms e.spot ≡ Some l)

  stands : (o n : ℕ) (e : Entry) (xs ys : List (ℕ × Entry)) → nodes_at pool.owners o ≡ xs ++ (n, e) ∷ ys → Stands n e
  stands o n e xs ys is =
      let p = value_place pool.places n e (laws.at_node family.Owner o xs n e ys is).value in
      (p.l, p.xs, p.ys, p.is, in_place pool laws owners atoms loans order p.l n e p.xs p.ys p.is)

  -- someone has something at a node's spot
  abbrev HasSome : Spot → Holder → Type 0
  HasSome s q = (has_at h s q ≡ true) × ((x : Atom) × (spot_of x ≡ s) × (has_now h x q ≡ true))

  spot_has : (s : Spot) (q : Holder) (m n l : ℕ) (xs ys : List (ℕ × Entry)) → place_of_spot atoms s ≡ Some l → IsMask (width_of l) m → nodes_at pool.places l ≡ xs ++ (n, record { holder = q; spot = s; mask = m }) ∷ ys → HasSome s q
  spot_has (spot.Part p) q m n l xs ys at mask is =
      let within : mask.bit < 64 = subst (λ w. mask.bit < w) (width_part l (list_below p l at)) mask.within in
      let of = byte_of p mask.bit within in
      let x : Atom = atom.Byte (p * 64 + mask.bit) in
      let it : has_now h x q ≡ true = has_bit pool.places atoms h shows x l (ap part_list of.0 ∙ at) xs (n, record { holder = q; spot = spot.Part p; mask = m }) ys is (ap (is_set m) of.1 ∙ mask.set) in
      (some_from 64 mask.bit (λ k. has_now h (atom.Byte (p * 64 + k)) q) within it, (x, ap spot.Part of.0, it))
  spot_has (spot.Call a) q m n l xs ys at mask is =
      let within : mask.bit < 1 = subst (λ w. mask.bit < w) (width_behind l (behind_far (place_in atoms (call_key a)) l at)) mask.within in
      let first : mask.bit ≡ 0 = omega (arith, within) in
      let it : has_now h (atom.Call a) q ≡ true = has_bit pool.places atoms h shows (atom.Call a) l at xs (n, record { holder = q; spot = spot.Call a; mask = m }) ys is (ap (is_set m) (sym first) ∙ mask.set) in
      (it, (atom.Call a, refl, it))
  spot_has (spot.Ref t a) q m n l xs ys at mask is =
      let within : mask.bit < 1 = subst (λ w. mask.bit < w) (width_behind l (behind_far (place_in atoms (ref_key t a)) l at)) mask.within in
      let first : mask.bit ≡ 0 = omega (arith, within) in
      let it : has_now h (atom.Ref t a) q ≡ true = has_bit pool.places atoms h shows (atom.Ref t a) l at xs (n, record { holder = q; spot = spot.Ref t a; mask = m }) ys is (ap (is_set m) (sym first) ∙ mask.set) in
      (it, (atom.Ref t a, refl, it))

  node_has : (o n : ℕ) (e : Entry) (xs ys : List (ℕ × Entry)) → nodes_at pool.owners o ≡ xs ++ (n, e) ∷ ys → HasSome e.spot e.holder
  unfolding AllNodes
  node_has o n e xs ys is =
      let s = stands o n e xs ys is in
      spot_has e.spot e.holder e.mask n s.0 s.1 s.2 s.4 (mask_there (width_of s.0) s.1 s.2 n e (subst (AreNodes (width_of s.0)) s.3 (nodes s.0))) s.3

  module _ (t d o : ℕ) (low : t < 16) (at : place_in owners (loan_key t d) ≡ Some o) where
    node_key : (n : ℕ) (e : Entry) (xs ys : List (ℕ × Entry)) → nodes_at pool.owners o ≡ xs ++ (n, e) ∷ ys → holder_key e.holder ≡ loan_key t d
    node_key n e xs ys is = one_key 0 owners (holder_key e.holder) (loan_key t d) o (in_owner pool laws owners atoms loans order o n e xs ys is).1 at

    -- the same pair does not come again
    no_other : (n : ℕ) (e : Entry) (xs ys : List (ℕ × Entry)) → nodes_at pool.owners o ≡ xs ++ (n, e) ∷ ys → is_pair (e.spot, e.holder) (map pair_of ys) ≡ false
    unfolding AllNodes
    no_other n e xs ys is =
        (elim (is_pair (e.spot, e.holder) (map pair_of ys)) as (λ b. is_pair (e.spot, e.holder) (map pair_of ys) ≡ b → b ≡ false) [
          | true ↦ λ again. absurd (
              let r = pair_split (e.spot, e.holder) ys again in
              let m = r.1 in
              let f = r.2 in
              let other : nodes_at pool.owners o ≡ (xs ++ (n, e) ∷ r.0) ++ (m, f) ∷ r.3 = is ∙ (ap (λ v. xs ++ (n, e) ∷ v) r.4 ∙ sym (append_assoc xs ((n, e) ∷ r.0) ((m, f) ∷ r.3))) in
              let s = stands o n e xs ys is in
              let u = stands o m f (xs ++ (n, e) ∷ r.0) r.3 other in
              let same_spot_is : e.spot ≡ f.spot = ap (λ k. k.0) r.5 in
              let same_holder_is : e.holder ≡ f.holder = ap (λ k. k.1) r.5 in
              let two : Some s.0 ≡ Some u.0 = sym s.4 ∙ (ap (place_of_spot atoms) same_spot_is ∙ u.4) in
              let list : s.0 ≡ u.0 = cc in
              let same : n ≡ m =
              one_holder (width_of s.0) (nodes_at pool.places s.0) (nodes s.0) s.1 s.2 u.1 u.2 n m e f s.3 (ap (nodes_at pool.places) list ∙ u.3)
              (ap (same_holder e.holder) (sym same_holder_is) ∙ holder_itself e.holder) (ap (same_holder f.holder) same_holder_is ∙ holder_itself f.holder) in
              let out = apart_there xs ys n e (subst (λ v. Apart (names v)) is (laws.apart family.Owner o)) in
              let there : has_number n (names ys) ≡ true = ap (λ k. has_number k (names ys)) same ∙ (ap (λ v. has_number m (names v)) r.4 ∙ number_there r.0 r.3 m f) in
              cc)
          | false ↦ λ none. refl
        ]) refl

    loan_pass : (front es : List (ℕ × Entry)) → nodes_at pool.owners o ≡ front ++ es → ArePassing same_pair pair_is pair_self (is_lent h t d) (lent_pairs h) (map pair_of es)
    unfolding ArePassing
    loan_pass front [] is = tt
    loan_pass front (e ∷ es) is =
        let key = node_key e.0 e.1 front es is in
        let who = holder_is e.1.holder t d low key in
        let has_it = node_has o e.0 e.1 front es is in
        let x = has_it.1.0 in
        let now : had (same_holder (Borrower t d who.0)) h x ≡ true = ap (λ s. had (same_holder s) h x) (sym who.1) ∙ has_it.1.2 in (
          and_from (is_on t d (d + 1) e.1.holder) (has_at h e.1.spot e.1.holder) (on_loan e.1.holder t d low key) has_it.0,
          ap (λ s. is_pair (e.1.spot, s) (lent_pairs h)) who.1 ∙ (ap (λ p. is_pair (p, Borrower t d who.0) (lent_pairs h)) (sym has_it.1.1) ∙ borrowed t d who.0 h x now),
          no_other e.0 e.1 front es is,
          loan_pass (front ++ e ∷ []) es (is ∙ sym (append_assoc front (e ∷ []) es)),
        )

  count_loan : (t d : ℕ) → t < 16 → count_in pool.owners (place_in owners (loan_key t d)) ≤ count_of (is_lent h t d) (lent_pairs h)
  count_loan t d low =
      (elim (place_in owners (loan_key t d)) as (λ o. place_in owners (loan_key t d) ≡ o → count_in pool.owners o ≤ count_of (is_lent h t d) (lent_pairs h)) [
        | None ↦ λ e. omega arith
        | Some o ↦ λ e.
            let n = length-map (nodes_at pool.owners o) pair_of in
            let f = few same_pair pair_is pair_self (is_lent h t d) (lent_pairs h) (map pair_of (nodes_at pool.owners o)) (loan_pass t d o low e [] (nodes_at pool.owners o) refl) in
            omega (arith, n, f)
      ]) refl

  loans_bound : (t d n : ℕ) → t < 16 → loans_work pool.owners owners t d n ≤ loans_and_pairs h t d n
  loans_bound t d zero low = omega arith
  loans_bound t d (suc n) low = let a = count_loan t d low in let b = loans_bound t (d + 1) n low in omega (arith, a, b)

  -- what is looked at where so many loans end
  pub shut_within : (t n first : ℕ) → t < 16 → loans_of loans t ≡ open_count h t → first ≡ open_count h t - n → loans_work pool.owners owners t first (loans_of loans t - first) ≤ shut_bound h t n
  unfolding shut_bound
  shut_within t n first low count is =
      let many : loans_of loans t - first ≡ min n (open_count h t) = omega (arith, count, is) in
      subst (λ k. loans_work pool.owners owners t first k ≤ loans_and_pairs h t (open_count h t - n) (min n (open_count h t))) (sym many)
      (subst (λ k. loans_work pool.owners owners t k (min n (open_count h t)) ≤ loans_and_pairs h t (open_count h t - n) (min n (open_count h t))) (sym is) (loans_bound t (open_count h t - n) (min n (open_count h t)) low))
