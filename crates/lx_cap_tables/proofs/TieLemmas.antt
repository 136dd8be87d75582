-- What the lists of owners and loans say of atoms, and what the lists of places say.
use Rattle.std.proofs.Common.{◌≡◌, ℕ, suc, ◌+◌, ◌/◌, ◌%◌, ◌<◌, Bool, true, false, ◌&&◌, ◌||◌, nat_eq, nat_lt, cond, List, [], ◌∷◌, ◌++◌, Option, Some, None, refl, sym, ap, ◌∙◌, subst, arith, eqb-true}
use Rattle.std.proofs.lemmas.Bool.Decides.{nat_tests}
use Rattle.std.proofs.lemmas.Bool.{and_parts, and_from, or_right, or_left}
use Rattle.lx_words.proofs.Tests.{eq_self, same_tests, and_or}
use Rattle.lx_caps.specs.declared.Principal.{Principal}
use Rattle.lx_caps.specs.declared.Atom.{Atom}
use Rattle.lx_caps.specs.declared.Atom.TheVariants as atom
use Rattle.lx_caps.specs.Order.{is_behind, IsFirst}
use Rattle.lx_cap_nodes.specs.declared.pool.Family.TheVariants as family
use Rattle.lx_cap_nodes.specs.declared.pool.ListName.TheVariants as name
use Rattle.lx_cap_nodes.specs.Names.{has}
use Rattle.lx_cap_nodes.specs.Pool.{Pool}
use Rattle.lx_cap_nodes.specs.Words.{names, nodes_at, value_at, value_in, PoolLaws}
use Rattle.lx_cap_lists.specs.declared.entry.Entry.{Entry}
use Rattle.lx_cap_lists.specs.declared.entry.Spot.{Spot}
use Rattle.lx_cap_lists.specs.declared.entry.Spot.TheVariants as spot
use Rattle.lx_cap_nodes.specs.Bits.{is_set}
use Rattle.lx_cap_lists.specs.Entries.{gives_bit, bit_among}
use Rattle.lx_cap_lists.specs.declared.holder.Holder.{Holder}
use Rattle.lx_cap_lists.specs.declared.holder.Holder.TheVariants.{Keeper, Borrower}
use Rattle.lx_cap_lists.specs.Atoms.{spot_atom, entry_atom, gives_atom, atom_among, spot_fits}
use Rattle.lx_cap_lists.specs.Holders.{held_by}
use Rattle.lx_cap_lists.specs.Lists.{some_below}
use Rattle.lx_cap_lists.specs.Loans.{is_open, loans_of}
use Rattle.lx_cap_lists.specs.Owned.{AllFit, given_in, lent_atom, listed_atom}
use Rattle.lx_cap_lists.specs.Kept.{all_nodes, AreAll}
use Rattle.lx_cap_lists.specs.Tables.{Key, owner_key, loan_key, holder_key, call_key, ref_key, place_in, behind_parts, place_of, place_of_spot, bit_of, shown_at, is_place, is_in_order}
use Rattle.lx_cap_nodes.specs.Pieces.{part_list}
use Rattle.lx_cap_tables.proofs.Below.{some_from, some_inside}
use Rattle.lx_cap_lists.proofs.KeyLemmas.{one_key}
use Rattle.lx_cap_nodes.proofs.PartLists.{one_part, list_below, part_small}
use Rattle.lx_cap_lists.specs.declared.holder.Holder.{Holder}
use Rattle.lx_caps.proofs.Principals.{same_principal_is}
use Rattle.lx_cap_lists.proofs.KeyPlaces.{behind_far}

-- a list split at a node with such an entry
record Split (es : List (ℕ × Entry)) (p : Entry → Type 0) : Type 0 where
  xs : List (ℕ × Entry)
  n : ℕ
  e : Entry
  ys : List (ℕ × Entry)
  is : es ≡ xs ++ (n, e) ∷ ys
  such : p e

split_more : (x : ℕ × Entry) (es : List (ℕ × Entry)) (p : Entry → Type 0) → Split es p → Split (x ∷ es) p
split_more x es p s = record { xs = x ∷ s.xs; n = s.n; e = s.e; ys = s.ys; is = ap (λ r. x ∷ r) s.is; such = s.such }

atom_split : (who : Principal) (es : List (ℕ × Entry)) (x : Atom) → atom_among who es x ≡ true → Split es (λ e. gives_atom who x e ≡ true)
atom_split who [] x h = absurd (cc)
atom_split who (e ∷ es) x h =
    (elim (gives_atom who x e.1) as (λ t. gives_atom who x e.1 ≡ t → (t || atom_among who es x) ≡ true → Split (e ∷ es) (λ y. gives_atom who x y ≡ true)) [
      | true ↦ λ is g. record { xs = []; n = e.0; e = e.1; ys = es; is = refl; such = is }
      | false ↦ λ is g. split_more e es (λ y. gives_atom who x y ≡ true) (atom_split who es x g)
    ]) refl h

bit_split : (among : Holder → Bool) (es : List (ℕ × Entry)) (k : ℕ) → bit_among among es k ≡ true → Split es (λ e. gives_bit among k e ≡ true)
bit_split among [] k h = absurd (cc)
bit_split among (e ∷ es) k h =
    (elim (gives_bit among k e.1) as (λ t. gives_bit among k e.1 ≡ t → (t || bit_among among es k) ≡ true → Split (e ∷ es) (λ y. gives_bit among k y ≡ true)) [
      | true ↦ λ is g. record { xs = []; n = e.0; e = e.1; ys = es; is = refl; such = is }
      | false ↦ λ is g. split_more e es (λ y. gives_bit among k y ≡ true) (bit_split among es k g)
    ]) refl h

atom_there : (who : Principal) (xs : List (ℕ × Entry)) (n : ℕ) (e : Entry) (ys : List (ℕ × Entry)) (x : Atom) → gives_atom who x e ≡ true → atom_among who (xs ++ (n, e) ∷ ys) x ≡ true
atom_there who [] n e ys x is = or_left (gives_atom who x e) (atom_among who ys x) is
atom_there who (y ∷ xs) n e ys x is = or_right (gives_atom who x y.1) (atom_among who (xs ++ (n, e) ∷ ys) x) (atom_there who xs n e ys x is)

pub bit_there : (among : Holder → Bool) (xs : List (ℕ × Entry)) (n : ℕ) (e : Entry) (ys : List (ℕ × Entry)) (k : ℕ) → gives_bit among k e ≡ true → bit_among among (xs ++ (n, e) ∷ ys) k ≡ true
bit_there among [] n e ys k is = or_left (gives_bit among k e) (bit_among among ys k) is
bit_there among (y ∷ xs) n e ys k is = or_right (gives_bit among k y.1) (bit_among among (xs ++ (n, e) ∷ ys) k) (bit_there among xs n e ys k is)

pub all_there : (p : Entry → Bool) (xs : List (ℕ × Entry)) (n : ℕ) (e : Entry) (ys : List (ℕ × Entry)) → all_nodes p (xs ++ (n, e) ∷ ys) ≡ true → p e ≡ true
all_there p [] n e ys h = (and_parts (p e) (all_nodes p ys) h).0
all_there p (y ∷ xs) n e ys h = all_there p xs n e ys (and_parts (p y.1) (all_nodes p (xs ++ (n, e) ∷ ys)) h).1

-- where a node's value comes from
pub record Place (lists : List (List (ℕ × Entry))) (n : ℕ) (v : Entry) : Type 0 where
  pub l : ℕ
  pub xs : List (ℕ × Entry)
  pub ys : List (ℕ × Entry)
  pub is : nodes_at lists l ≡ xs ++ (n, v) ∷ ys

value_split : (es : List (ℕ × Entry)) (n : ℕ) (v : Entry) → value_at n es ≡ Some v → (xs : List (ℕ × Entry)) × (ys : List (ℕ × Entry)) × (es ≡ xs ++ (n, v) ∷ ys)
value_split [] n v h = absurd (cc)
value_split (e ∷ es) n v h =
    (elim (nat_eq n e.0) as (λ t. nat_eq n e.0 ≡ t → cond t (Some e.1) (value_at n es) ≡ Some v → (xs : List (ℕ × Entry)) × (ys : List (ℕ × Entry)) × (e ∷ es ≡ xs ++ (n, v) ∷ ys)) [
      | true ↦ λ at g. let own : e.1 ≡ v = cc in ([], es, ap (λ k. (k, e.1) ∷ es) (sym (eqb-true n e.0 at)) ∙ ap (λ u. (n, u) ∷ es) own)
      | false ↦ λ at g. let rest = value_split es n v g in (e ∷ rest.0, rest.1, ap (λ r. e ∷ r) rest.2)
    ]) refl h

pub value_place : (lists : List (List (ℕ × Entry))) (n : ℕ) (v : Entry) → value_in n lists ≡ Some v → Place lists n v
value_place [] n v h = absurd (cc)
value_place (es ∷ lists) n v h =
    (elim (has n (names es)) as (λ t. cond t (value_at n es) (value_in n lists) ≡ Some v → Place (es ∷ lists) n v) [
      | true ↦ λ g. let s = value_split es n v g in record { l = 0; xs = s.0; ys = s.1; is = s.2 }
      | false ↦ λ g. let p = value_place lists n v g in record { l = suc p.l; xs = p.xs; ys = p.ys; is = p.is }
    ]) h

pub is_there : (o : Option ℕ) (l : ℕ) → is_place o l ≡ true → o ≡ Some l
is_there None l h = absurd (cc)
is_there (Some k) l h = ap Some (eqb-true k l h)

-- an entry's atom is at the entry's place
atom_place : (atoms : List Key) (s : Spot) (mask : ℕ) (x : Atom) → spot_atom s mask x ≡ true → (place_of atoms x ≡ place_of_spot atoms s) × (is_set mask (bit_of x) ≡ true)
atom_place atoms (spot.Part p) mask (atom.Byte b) h = let both = and_parts (nat_eq p (b / 64)) (is_set mask (b % 64)) h in (ap part_list (sym (eqb-true p (b / 64) both.0)), both.1)
atom_place atoms (spot.Part p) mask (atom.Call b) h = absurd (cc)
atom_place atoms (spot.Part p) mask (atom.Ref u b) h = absurd (cc)
atom_place atoms (spot.Call a) mask (atom.Byte b) h = absurd (let both = and_parts (is_set mask 0) false h in let f = both.1 in cc)
atom_place atoms (spot.Call a) mask (atom.Call b) h = let both = and_parts (is_set mask 0) (nat_eq a b) h in (ap (λ k. behind_parts (place_in atoms (call_key k))) (sym (eqb-true a b both.1)), both.0)
atom_place atoms (spot.Call a) mask (atom.Ref u b) h = absurd (let both = and_parts (is_set mask 0) false h in let f = both.1 in cc)
atom_place atoms (spot.Ref t a) mask (atom.Byte b) h = absurd (let both = and_parts (is_set mask 0) false h in let f = both.1 in cc)
atom_place atoms (spot.Ref t a) mask (atom.Call b) h = absurd (let both = and_parts (is_set mask 0) false h in let f = both.1 in cc)
atom_place atoms (spot.Ref t a) mask (atom.Ref u b) h =
    let both = and_parts (is_set mask 0) (nat_eq t u && nat_eq a b) h in
    let parts = and_parts (nat_eq t u) (nat_eq a b) both.1 in
    (ap (λ k. behind_parts (place_in atoms (ref_key k b))) (sym (eqb-true t u parts.0)) ∙ ap (λ k. behind_parts (place_in atoms (ref_key t k))) (sym (eqb-true a b parts.1)), both.0)

-- the key at a place behind the parts
key_at : (atoms : List Key) (x y : Key) (l : ℕ) → behind_parts (place_in atoms x) ≡ Some l → behind_parts (place_in atoms y) ≡ Some l → x ≡ y
key_at atoms x y l e f =
    (elim (place_in atoms x) as (λ o. place_in atoms x ≡ o → behind_parts o ≡ Some l → x ≡ y) [
      | None ↦ λ p g. absurd (cc)
      | Some i ↦ λ p g. (elim (place_in atoms y) as (λ o. place_in atoms y ≡ o → behind_parts o ≡ Some l → x ≡ y) [
        | None ↦ λ q k. absurd (cc)
        | Some j ↦ λ q k.
            let a : 0xc000 + i ≡ l = cc in
            let b : 0xc000 + j ≡ l = cc in
            let same : j ≡ i = omega (arith, a, b) in
            one_key 0 atoms x y i p (q ∙ ap Some same)
      ]) refl f
    ]) refl e

far_or_near : (atoms : List Key) (k : Key) (p l : ℕ) → part_list p ≡ Some l → behind_parts (place_in atoms k) ≡ Some l → ⊥
far_or_near atoms k p l e f = let low = list_below p l e in let far = behind_far (place_in atoms k) l f in omega (arith, low, far)

atom_from_place : (atoms : List Key) (s : Spot) (mask : ℕ) (x : Atom) (l : ℕ) → place_of_spot atoms s ≡ Some l → place_of atoms x ≡ Some l → is_set mask (bit_of x) ≡ true → spot_atom s mask x ≡ true
atom_from_place atoms (spot.Part p) mask (atom.Byte b) l e f h = and_from (nat_eq p (b / 64)) (is_set mask (b % 64)) (ap (nat_eq p) (sym (one_part p (b / 64) l e f)) ∙ eq_self p) h
atom_from_place atoms (spot.Part p) mask (atom.Call b) l e f h = absurd (far_or_near atoms (call_key b) p l e f)
atom_from_place atoms (spot.Part p) mask (atom.Ref u b) l e f h = absurd (far_or_near atoms (ref_key u b) p l e f)
atom_from_place atoms (spot.Call a) mask (atom.Byte b) l e f h = absurd (far_or_near atoms (call_key a) (b / 64) l f e)
atom_from_place atoms (spot.Call a) mask (atom.Call b) l e f h =
    let same = ap (λ k. k.1) (key_at atoms (call_key a) (call_key b) l e f) in and_from (is_set mask 0) (nat_eq a b) h (ap (nat_eq a) (sym same) ∙ eq_self a)
atom_from_place atoms (spot.Call a) mask (atom.Ref u b) l e f h = absurd (let same = ap (λ k. k.0) (key_at atoms (call_key a) (ref_key u b) l e f) in omega (arith, same))
atom_from_place atoms (spot.Ref t a) mask (atom.Byte b) l e f h = absurd (far_or_near atoms (ref_key t a) (b / 64) l f e)
atom_from_place atoms (spot.Ref t a) mask (atom.Call b) l e f h = absurd (let same = ap (λ k. k.0) (key_at atoms (ref_key t a) (call_key b) l e f) in omega (arith, same))
atom_from_place atoms (spot.Ref t a) mask (atom.Ref u b) l e f h =
    let same = key_at atoms (ref_key t a) (ref_key u b) l e f in
    let ts = ap (λ k. k.0) same in
    let tu : t ≡ u = omega (arith, ts) in
    let ab = ap (λ k. k.1) same in
    and_from (is_set mask 0) (nat_eq t u && nat_eq a b) h (and_from (nat_eq t u) (nat_eq a b) (ap (nat_eq t) (sym tu) ∙ eq_self t) (ap (nat_eq a) (sym ab) ∙ eq_self a))

pub all_by_split : (p : Entry → Bool) (es : List (ℕ × Entry)) → ((xs : List (ℕ × Entry)) (n : ℕ) (e : Entry) (ys : List (ℕ × Entry)) → es ≡ xs ++ (n, e) ∷ ys → p e ≡ true) → all_nodes p es ≡ true
all_by_split p [] h = refl
all_by_split p (e ∷ es) h = and_from (p e.1) (all_nodes p es) (h [] e.0 e.1 es refl) (all_by_split p es (λ xs n f ys is. h (e ∷ xs) n f ys (ap (λ r. e ∷ r) is)))

module _ (pool : Pool Entry) (laws : PoolLaws pool) (owners atoms : List Key) (loans : List ℕ) (order : AreAll (is_in_order owners atoms loans) pool) where
  pub in_place : (l n : ℕ) (e : Entry) (xs ys : List (ℕ × Entry)) → nodes_at pool.places l ≡ xs ++ (n, e) ∷ ys → place_of_spot atoms e.spot ≡ Some l
  unfolding AreAll
  in_place l n e xs ys is =
      is_there (place_of_spot atoms e.spot) l (and_parts (is_open loans e.holder) (is_place (place_of_spot atoms e.spot) l)
      (all_there (is_in_order owners atoms loans (name.Place l)) xs n e ys (ap (all_nodes (is_in_order owners atoms loans (name.Place l))) (sym is) ∙ order (name.Place l)))).1

  pub in_owner : (l n : ℕ) (e : Entry) (xs ys : List (ℕ × Entry)) → nodes_at pool.owners l ≡ xs ++ (n, e) ∷ ys → (is_open loans e.holder ≡ true) × (place_in owners (holder_key e.holder) ≡ Some l)
  unfolding AreAll
  in_owner l n e xs ys is =
      let both = and_parts (is_open loans e.holder) (is_place (place_in owners (holder_key e.holder)) l)
      (all_there (is_in_order owners atoms loans (name.Owner l)) xs n e ys (ap (all_nodes (is_in_order owners atoms loans (name.Owner l))) (sym is) ∙ order (name.Owner l))) in
      (both.0, is_there (place_in owners (holder_key e.holder)) l both.1)

  module _ (who : Principal) where
    -- the lists of owners and loans that give an atom
    abbrev pub listed : Atom → Bool
    listed x = listed_atom pool.owners owners who x (owner_key who) || some_below 16 (λ t. lent_atom pool.owners owners who x t (loans_of loans t))

    in_list : (s : Holder) (x : Atom) (o : ℕ) → held_by who s ≡ true → is_open loans s ≡ true → place_in owners (holder_key s) ≡ Some o → atom_among who (nodes_at pool.owners o) x ≡ true → listed x ≡ true
    in_list (Keeper q) x o held is at has =
        let own : place_in owners (owner_key who) ≡ Some o = ap (λ p. place_in owners (owner_key p)) (same_principal_is who q held) ∙ at in
        or_left (listed_atom pool.owners owners who x (owner_key who)) (some_below 16 (λ t. lent_atom pool.owners owners who x t (loans_of loans t))) (ap (given_in pool.owners who x) own ∙ has)
    in_list (Borrower t d q) x o held is at has =
        let both = and_parts (nat_lt t 16) (nat_lt d (loans_of loans t)) is in
        let low : t < 16 = grind (arith, nat_tests, both) in
        let deep : d < loans_of loans t = grind (arith, nat_tests, both) in
        or_right (listed_atom pool.owners owners who x (owner_key who)) (some_below 16 (λ u. lent_atom pool.owners owners who x u (loans_of loans u)))
        (some_from 16 t (λ u. lent_atom pool.owners owners who x u (loans_of loans u)) low
        (some_from (loans_of loans t) d (λ e. listed_atom pool.owners owners who x (loan_key t e)) deep (ap (given_in pool.owners who x) at ∙ has)))

    -- an owned atom stands in the list of its owner or of a loan
    shown_in_list : (x : Atom) → shown_at pool.places (place_of atoms x) (held_by who) (bit_of x) ≡ true → listed x ≡ true
    shown_in_list x h =
        (elim (place_of atoms x) as (λ q. place_of atoms x ≡ q → shown_at pool.places q (held_by who) (bit_of x) ≡ true → listed x ≡ true) [
          | None ↦ λ at g. absurd (cc)
          | Some l ↦ λ at g.
              let s = bit_split (held_by who) (nodes_at pool.places l) (bit_of x) g in
              let both = and_parts (held_by who s.e.holder) (is_set s.e.mask (bit_of x)) s.such in
              let value = (laws.at_node family.Place l s.xs s.n s.e s.ys s.is).value in
              let p = value_place pool.owners s.n s.e (sym (laws.alike s.n) ∙ value) in
              let own = in_owner p.l s.n s.e p.xs p.ys p.is in
              let is : gives_atom who x s.e ≡ true =
              and_from (held_by who s.e.holder) (entry_atom s.e x) both.0 (atom_from_place atoms s.e.spot s.e.mask x l (in_place l s.n s.e s.xs s.ys s.is) at both.1) in
              in_list s.e.holder x p.l both.0 own.0 own.1 (ap (λ es. atom_among who es x) p.is ∙ atom_there who p.xs s.n s.e p.ys x is)
        ]) refl h

    list_shows : (o : ℕ) (x : Atom) → atom_among who (nodes_at pool.owners o) x ≡ true → shown_at pool.places (place_of atoms x) (held_by who) (bit_of x) ≡ true
    list_shows o x h =
        let s = atom_split who (nodes_at pool.owners o) x h in
        let value = (laws.at_node family.Owner o s.xs s.n s.e s.ys s.is).value in
        let p = value_place pool.places s.n s.e value in
        let both = and_parts (held_by who s.e.holder) (entry_atom s.e x) s.such in
        let place = atom_place atoms s.e.spot s.e.mask x both.1 in
        let gives : gives_bit (held_by who) (bit_of x) s.e ≡ true = and_from (held_by who s.e.holder) (is_set s.e.mask (bit_of x)) both.0 place.1 in
        ap (λ q. shown_at pool.places q (held_by who) (bit_of x)) (place.0 ∙ in_place p.l s.n s.e p.xs p.ys p.is)
        ∙ (ap (λ es. bit_among (held_by who) es (bit_of x)) p.is ∙ bit_there (held_by who) p.xs s.n s.e p.ys (bit_of x) gives)

    key_shows : (key : Key) (x : Atom) → listed_atom pool.owners owners who x key ≡ true → shown_at pool.places (place_of atoms x) (held_by who) (bit_of x) ≡ true
    key_shows key x h = by (place_in owners key) h
      where
        by : (o : Option ℕ) → given_in pool.owners who x o ≡ true → shown_at pool.places (place_of atoms x) (held_by who) (bit_of x) ≡ true
        by None g = absurd (cc)
        by (Some o) g = list_shows o x g

    listed_shows : (x : Atom) → listed x ≡ true → shown_at pool.places (place_of atoms x) (held_by who) (bit_of x) ≡ true
    listed_shows x h =
        (elim (listed_atom pool.owners owners who x (owner_key who)) as (λ b. listed_atom pool.owners owners who x (owner_key who) ≡ b
        → (b || some_below 16 (λ t. lent_atom pool.owners owners who x t (loans_of loans t))) ≡ true → shown_at pool.places (place_of atoms x) (held_by who) (bit_of x) ≡ true) [
          | true ↦ λ is g. key_shows (owner_key who) x is
          | false ↦ λ is g.
              let t = some_inside 16 (λ u. lent_atom pool.owners owners who x u (loans_of loans u)) g in
              let d = some_inside (loans_of loans t.0) (λ e. listed_atom pool.owners owners who x (loan_key t.0 e)) t.1 in
              key_shows (loan_key t.0 d.0) x d.1
        ]) refl h

    pub listed_is : (x : Atom) → listed x ≡ shown_at pool.places (place_of atoms x) (held_by who) (bit_of x)
    listed_is x = same_tests (listed x) (shown_at pool.places (place_of atoms x) (held_by who) (bit_of x)) (listed_shows x) (shown_in_list x)

    pub first_is : (after found : Option Atom)
        → IsFirst (λ x. (is_behind after x && listed_atom pool.owners owners who x (owner_key who)) || (is_behind after x && some_below 16 (λ t. lent_atom pool.owners owners who x t (loans_of loans t)))) found
        → IsFirst (λ x. is_behind after x && shown_at pool.places (place_of atoms x) (held_by who) (bit_of x)) found
    first_is after found is =
        subst (λ (f : Atom → Bool). IsFirst f found)
        (λ j x. (sym (and_or (is_behind after x) (listed_atom pool.owners owners who x (owner_key who)) (some_below 16 (λ t. lent_atom pool.owners owners who x t (loans_of loans t)))) ∙ ap (λ b. is_behind after x && b) (listed_is x)) j)
        is

  -- each node of a list of owners has a spot with addresses
  spot_small : (s : Spot) (l : ℕ) → place_of_spot atoms s ≡ Some l → spot_fits s ≡ true
  spot_small (spot.Part p) l e = part_small p l e
  spot_small (spot.Call a) l e = refl
  spot_small (spot.Ref t a) l e = refl

  pub all_fit : AllFit pool.owners
  unfolding AllFit
  all_fit o = all_by_split (λ e. spot_fits e.spot) (nodes_at pool.owners o) (λ xs n e ys is.
      let value = (laws.at_node family.Owner o xs n e ys is).value in
      let p = value_place pool.places n e value in
      spot_small e.spot p.l (in_place p.l n e p.xs p.ys p.is))
