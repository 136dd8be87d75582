-- How the tables stay sound.
use Rattle.std.proofs.Common.{◌≡◌, ◌&&◌, ℕ, zero, suc, ◌+◌, ◌≤◌, Bool, true, false, replicate, List, [], ◌∷◌, length, Option, Some, None, refl, sym, ap, ◌∙◌, subst, arith}
use Rattle.std.proofs.lemmas.Bool.{and_parts, and_from}
use Rattle.lx_words.proofs.Tests.{eq_self}
use Rattle.lx_cap_nodes.specs.declared.pool.ListName.{ListName}
use Rattle.lx_cap_nodes.specs.declared.pool.ListName.TheVariants as name
use Rattle.lx_cap_nodes.specs.Pool.{Pool}
use Rattle.lx_cap_nodes.specs.Words.{nodes_at}
use Rattle.lx_cap_lists.specs.declared.entry.Entry.{Entry}
use Rattle.lx_caps.specs.declared.Principal.{Principal}
use Rattle.lx_caps.specs.declared.Cap.{Cap}
use Rattle.lx_caps.specs.declared.Cap.TheVariants as cap
use Rattle.lx_caps.specs.declared.Atom.{Atom}
use Rattle.lx_caps.specs.declared.Atom.TheVariants as atom
use Rattle.lx_caps.specs.Cells.{cells}
use Rattle.lx_caps.specs.History.{History, holds_by_reach, keeps_by_reach, reaches, each_atom, each_byte, same_principal}
use Rattle.lx_caps.specs.Order.{is_behind, IsFirst, IsNextOwned}
use Rattle.lx_caps.specs.Precedence.{follows, IsFirstPrincipal, IsNextOwner}
use Rattle.lx_cap_lists.specs.declared.entry.Spot.{Spot}
use Rattle.lx_cap_lists.specs.declared.entry.Spot.TheVariants as spot
use Rattle.lx_cap_lists.specs.Tables.{Key, is_in_order, is_place, behind_parts, place_in, place_of_spot, call_key, ref_key, holder_key, Shows, shown_at, shown_cap, place_of, bit_of}
use Rattle.lx_cap_lists.specs.Entries.{bit_among}
use Rattle.lx_cap_lists.specs.Kept.{AreAll, Respects, FitsSpots, all_nodes, AllNodes, AreNodes, width_of}
use Rattle.lx_cap_lists.specs.declared.holder.Holder.{Holder}
use Rattle.lx_cap_lists.specs.declared.holder.InReach.TheVariants.{Owned, Kept}
use Rattle.lx_cap_lists.specs.Holders.{counts, held_by, had}
use Rattle.lx_cap_lists.specs.Loans.{is_open, loans_of}
use Rattle.lx_cap_tables.specs.Sound.{IsSound}
use Rattle.lx_cap_tables.proofs.HadLemmas.{owned_is, kept_is}

pub order_respects : (owners atoms : List Key) (loans : List ℕ) → Respects (is_in_order owners atoms loans)
unfolding Respects
order_respects owners atoms loans (name.Place l) e m = refl
order_respects owners atoms loans (name.Owner l) e m = refl

-- lists of which each has the same nodes hold what they held
pub all_same : (p : ListName → Entry → Bool) (old new : Pool Entry) → ((l : ℕ) → nodes_at new.places l ≡ nodes_at old.places l) → ((l : ℕ) → nodes_at new.owners l ≡ nodes_at old.owners l) → AreAll p old → AreAll p new
unfolding AreAll
all_same p old new places owners all (name.Place l) = ap (all_nodes (p (name.Place l))) (places l) ∙ all (name.Place l)
all_same p old new places owners all (name.Owner l) = ap (all_nodes (p (name.Owner l))) (owners l) ∙ all (name.Owner l)

nodes_same : (old new : List (List (ℕ × Entry))) → ((l : ℕ) → nodes_at new l ≡ nodes_at old l) → AllNodes old → AllNodes new
unfolding AllNodes
nodes_same old new same all l = subst (AreNodes (width_of l)) (sym (same l)) (all l)

nodes_none : (lists : List (List (ℕ × Entry))) → ((l : ℕ) → nodes_at lists l ≡ []) → AllNodes lists
unfolding AllNodes
nodes_none lists none l = subst (AreNodes (width_of l)) (sym (none l)) tt

-- more lists and more room
pub sound_more : (old new : Pool Entry) (owners atoms : List Key) (owner_keys atom_keys owner_lists place_lists more_owners more_atoms owner_count place_count : ℕ) (loans : List ℕ) (deepest promised : ℕ)
    → IsSound old owners atoms owner_keys atom_keys owner_lists place_lists loans deepest promised
    → ((l : ℕ) → nodes_at new.places l ≡ nodes_at old.places l) → ((l : ℕ) → nodes_at new.owners l ≡ nodes_at old.owners l)
    → length new.owners ≡ owner_count → length new.places ≡ place_count → owner_lists ≤ owner_count → place_lists ≤ place_count
    → owner_count ≤ length owners + more_owners → place_count ≤ 0xc000 + length atoms + more_atoms → old.spare ≤ new.spare
    → IsSound new owners atoms more_owners more_atoms owner_count place_count loans deepest promised
sound_more old new owners atoms owner_keys atom_keys owner_lists place_lists more_owners more_atoms owner_count place_count loans deepest promised is places own oc pc ol pl ob pb sp = record {
  owner_count = oc;
  place_count = pc;
  owner_has_room = ob;
  atom_has_room = pb;
  node_fit = let h = is.node_fit in omega (arith, h, sp);
  owner_fit = let h = is.owner_fit in omega (arith, h, ol);
  atom_fit = let h = is.atom_fit in omega (arith, h, pl);
  loan_fit = is.loan_fit;
  threads = is.threads;
  deep = is.deep;
  empty = λ l h. places l ∙ is.empty l h;
  in_order = all_same (is_in_order owners atoms loans) old new places own is.in_order;
  nodes = nodes_same old.places new.places places is.nodes;
}

-- entries stay in order as keys are added
is_place_more : (o n : Option ℕ) (l : ℕ) → ((j : ℕ) → o ≡ Some j → n ≡ Some j) → is_place o l ≡ true → is_place n l ≡ true
is_place_more None n l h is = absurd (cc)
is_place_more (Some j) n l h is = ap (λ k. is_place k l) (h j refl) ∙ is

behind_more : (o n : Option ℕ) → ((j : ℕ) → o ≡ Some j → n ≡ Some j) → (j : ℕ) → behind_parts o ≡ Some j → behind_parts n ≡ Some j
behind_more None n h j is = absurd (cc)
behind_more (Some i) n h j is = ap behind_parts (h i refl) ∙ is

spot_more : (atoms more : List Key) → ((x : Key) (j : ℕ) → place_in atoms x ≡ Some j → place_in more x ≡ Some j) → (s : Spot) (j : ℕ) → place_of_spot atoms s ≡ Some j → place_of_spot more s ≡ Some j
spot_more atoms more h (spot.Part p) j is = is
spot_more atoms more h (spot.Call a) j is = behind_more (place_in atoms (call_key a)) (place_in more (call_key a)) (h (call_key a)) j is
spot_more atoms more h (spot.Ref t a) j is = behind_more (place_in atoms (ref_key t a)) (place_in more (ref_key t a)) (h (ref_key t a)) j is

all_more : (p q : Entry → Bool) → ((e : Entry) → p e ≡ true → q e ≡ true) → (es : List (ℕ × Entry)) → all_nodes p es ≡ true → all_nodes q es ≡ true
all_more p q h [] is = refl
all_more p q h (e ∷ es) is = let both = and_parts (p e.1) (all_nodes p es) is in and_from (q e.1) (all_nodes q es) (h e.1 both.0) (all_more p q h es both.1)

pub order_more : (pool : Pool Entry) (owners atoms more_owners more_atoms : List Key) (loans : List ℕ)
    → ((x : Key) (j : ℕ) → place_in owners x ≡ Some j → place_in more_owners x ≡ Some j) → ((x : Key) (j : ℕ) → place_in atoms x ≡ Some j → place_in more_atoms x ≡ Some j)
    → AreAll (is_in_order owners atoms loans) pool → AreAll (is_in_order more_owners more_atoms loans) pool
unfolding AreAll
order_more pool owners atoms more_owners more_atoms loans h k all (name.Place l) =
    all_more (is_in_order owners atoms loans (name.Place l)) (is_in_order more_owners more_atoms loans (name.Place l))
    (λ e is. let both = and_parts (is_open loans e.holder) (is_place (place_of_spot atoms e.spot) l) is in
    and_from (is_open loans e.holder) (is_place (place_of_spot more_atoms e.spot) l) both.0 (is_place_more (place_of_spot atoms e.spot) (place_of_spot more_atoms e.spot) l (spot_more atoms more_atoms k e.spot) both.1))
    (nodes_at pool.places l) (all (name.Place l))
order_more pool owners atoms more_owners more_atoms loans h k all (name.Owner l) =
    all_more (is_in_order owners atoms loans (name.Owner l)) (is_in_order more_owners more_atoms loans (name.Owner l))
    (λ e is. let both = and_parts (is_open loans e.holder) (is_place (place_in owners (holder_key e.holder)) l) is in
    and_from (is_open loans e.holder) (is_place (place_in more_owners (holder_key e.holder)) l) both.0 (is_place_more (place_in owners (holder_key e.holder)) (place_in more_owners (holder_key e.holder)) l (h (holder_key e.holder)) both.1))
    (nodes_at pool.owners l) (all (name.Owner l))

-- what a holder is given is in order
pub given_in_order : (owners atoms : List Key) (loans : List ℕ) (to : Holder) (o : ℕ) → place_in owners (holder_key to) ≡ Some o → is_open loans to ≡ true → FitsSpots (is_in_order owners atoms loans) atoms to o
unfolding FitsSpots
given_in_order owners atoms loans to o own opened = λ s l m is. (
  and_from (is_open loans to) (is_place (place_of_spot atoms s) l) opened (ap (λ q. is_place q l) is ∙ eq_self l),
  and_from (is_open loans to) (is_place (place_in owners (holder_key to)) o) opened (ap (λ q. is_place q o) own ∙ eq_self o),
)

pub some_cells : (c : Cap) → 1 ≤ cells c
some_cells (cap.Write at size) = omega arith
some_cells (cap.Call a) = omega arith
some_cells (cap.Ref t a) = omega arith

shown_is : (places : List (List (ℕ × Entry))) (atoms : List Key) (h : History) (among : Holder → Bool) (c : Cap) → Shows places atoms h → shown_cap places atoms among c ≡ each_atom (had among h) c
shown_is places atoms h among (cap.Write at size) shows = λ j. each_byte (λ b. sym (shows among (atom.Byte b)) j) at size
shown_is places atoms h among (cap.Call a) shows = sym (shows among (atom.Call a))
shown_is places atoms h among (cap.Ref t a) shows = sym (shows among (atom.Ref t a))

pub held_is : (places : List (List (ℕ × Entry))) (atoms : List Key) (h : History) (who : Principal) (c : Cap) → Shows places atoms h → shown_cap places atoms (counts (Owned who)) c ≡ holds_by_reach h who c
held_is places atoms h who c shows = shown_is places atoms h (counts (Owned who)) c shows ∙ (λ j. each_atom (λ x. sym (owned_is (reaches who) h x) j) c)

pub kept_is_held : (places : List (List (ℕ × Entry))) (atoms : List Key) (h : History) (who : Principal) (c : Cap) → Shows places atoms h → shown_cap places atoms (counts (Kept who)) c ≡ keeps_by_reach h who c
kept_is_held places atoms h who c shows = shown_is places atoms h (counts (Kept who)) c shows ∙ (λ j. each_atom (λ x. sym (kept_is (reaches who) h x) j) c)

pub next_owner_is : (places : List (List (ℕ × Entry))) (atoms : List Key) (h : History) (x : Atom) (after found : Option Principal) → Shows places atoms h
    → IsFirstPrincipal (λ q. follows after q && shown_at places (place_of atoms x) (held_by q) (bit_of x)) found → IsNextOwner h x after found
next_owner_is places atoms h x after found shows is =
    subst (λ (p : Principal → Bool). IsFirstPrincipal p found) (λ j q. follows after q && (sym (shows (held_by q) x) ∙ sym (owned_is (same_principal q) h x)) j) is

pub next_owned_is : (places : List (List (ℕ × Entry))) (atoms : List Key) (h : History) (who : Principal) (after found : Option Atom) → Shows places atoms h
    → IsFirst (λ x. is_behind after x && shown_at places (place_of atoms x) (held_by who) (bit_of x)) found → IsNextOwned h who after found
next_owned_is places atoms h who after found shows is =
    subst (λ (p : Atom → Bool). IsFirst p found) (λ j x. is_behind after x && (sym (shows (held_by who) x) ∙ sym (owned_is (same_principal who) h x)) j) is

all_empty : (pool : Pool Entry) (loans : List ℕ) → pool.owners ≡ [] → ((l : ℕ) → nodes_at pool.places l ≡ []) → AreAll (is_in_order [] [] loans) pool
unfolding AreAll
all_empty pool loans owners places (name.Place l) = ap (all_nodes (is_in_order [] [] loans (name.Place l))) (places l)
all_empty pool loans owners places (name.Owner l) = ap (λ ls. all_nodes (is_in_order [] [] loans (name.Owner l)) (nodes_at ls l)) owners

-- no loans
pub no_loans : (n u : ℕ) → loans_of (replicate n 0) u ≡ 0
no_loans zero u = refl
no_loans (suc n) zero = refl
no_loans (suc n) (suc u) = no_loans n u

-- tables without nodes
pub sound_new : (pool : Pool Entry) (owner_keys atom_keys place_lists : ℕ) (loans : List ℕ) → pool.owners ≡ [] → ((l : ℕ) → nodes_at pool.places l ≡ []) → length pool.places ≡ place_lists → place_lists ≡ 0xc000
    → length loans ≡ 16 → ((u : ℕ) → loans_of loans u ≡ 0)
    → IsSound pool [] [] owner_keys atom_keys 0 place_lists loans 0 0
sound_new pool owner_keys atom_keys place_lists loans owners places count exact threads none = record {
  owner_count = ap length owners;
  place_count = count;
  owner_has_room = omega arith;
  atom_has_room = omega (arith, exact);
  node_fit = omega arith;
  owner_fit = omega arith;
  atom_fit = omega (arith, exact);
  loan_fit = omega arith;
  threads = threads;
  deep = λ u. let e = none u in omega (arith, e);
  empty = λ l h. places l;
  in_order = all_empty pool loans owners places;
  nodes = nodes_none pool.places places;
}

-- nothing is had before any act
pub shows_none : (places : List (List (ℕ × Entry))) (atoms : List Key) → ((l : ℕ) → nodes_at places l ≡ []) → Shows places atoms []
shows_none places atoms none among x = sym (by (place_of atoms x))
  where
    by : (o : Option ℕ) → shown_at places o among (bit_of x) ≡ false
    by None = refl
    by (Some l) = ap (λ es. bit_among among es (bit_of x)) (none l)
